-- Texts that are written in pieces.
use Rattle.std.proofs.Common.{◌≡◌, ℕ, ◌+◌, ◌<◌, List, [], ◌∷◌, ◌++◌, length, take, drop, sym, ap}
use Rattle.std.proofs.Common.{◌∙◌, subst, add-one, Ok, Err, OnOk}
use Rattle.std.specs.Prelude.{Option, slice_index_or}
use Rattle.std.specs.List.{flat_map}
use Rattle.std.specs.Io.KnownBytes.{Appends}
use Rattle.std.specs.declared.result.Result.{Result}
use Rattle.std.proofs.KnownBytes.{Appends-trans}
use Rattle.std.proofs.Math.Seq.{take-suc}
use Rattle.std.proofs.lemmas.List.{append-nil, take-append-drop}
use Rattle.std.proofs.lemmas.Grind.{flat_map-append}
use Rattle.dp_io.specs.Streams.{GrowsByPrefix}
use Rattle.dp_io.proofs.Prefixes.{grows_after, grows_within}

-- ---- the texts of items, one after the other

module _ {X : Type 0} (f : X → List ℕ) where
  -- those of the items before the next one, and then the next one's
  text_more : (xs : List X) (i : ℕ) (x : X) → i < length xs → x ≡ slice_index_or xs i x
      → flat_map f (take (i + 1) xs) ≡ flat_map f (take i xs) ++ f x
  text_more xs i x within is =
      ap (λ n. flat_map f (take n xs)) (add-one i)
      ∙ ap (flat_map f) (take-suc xs i x within)
      ∙ ap (λ y. flat_map f (take i xs ++ y ∷ [])) (sym is)
      ∙ flat_map-append f (take i xs) (x ∷ [])
      ∙ ap (λ t. flat_map f (take i xs) ++ t) (append-nil (f x))

  -- an item more is written
  pub written_more : (a b c : Option (List ℕ)) (xs : List X) (i : ℕ) (x : X)
      → i < length xs → x ≡ slice_index_or xs i x
      → Appends a b (flat_map f (take i xs)) → Appends b c (f x)
      → Appends a c (flat_map f (take (i + 1) xs))
  written_more a b c xs i x within is before now =
      subst (Appends a c) (sym (text_more xs i x within is))
      (Appends-trans a b c (flat_map f (take i xs)) (f x) before now)

  -- a part of the next item is written
  pub written_part : (a b c : Option (List ℕ)) (xs : List X) (i : ℕ) (x : X)
      → i < length xs → x ≡ slice_index_or xs i x
      → Appends a b (flat_map f (take i xs)) → GrowsByPrefix b c (f x)
      → GrowsByPrefix a c (flat_map f xs)
  written_part a b c xs i x within is before now =
      let whole : flat_map f xs ≡ flat_map f (take (i + 1) xs) ++ flat_map f (drop (i + 1) xs) =
      ap (flat_map f) (sym (take-append-drop (i + 1) xs))
      ∙ flat_map-append f (take (i + 1) xs) (drop (i + 1) xs) in
      subst (GrowsByPrefix a c) (sym whole)
      (grows_within a c (flat_map f (take (i + 1) xs)) (flat_map f (drop (i + 1) xs))
      (subst (GrowsByPrefix a c) (sym (text_more xs i x within is))
      (grows_after a b c (flat_map f (take i xs)) (f x) before now)))

-- ---- two pieces

-- the first piece was written, and the second one if the call says so
pub written_both : {E : Type 0} (r : Result Unit E) (a b c : Option (List ℕ)) (xs ys : List ℕ)
    → Appends a b xs → OnOk r (Appends b c ys) → OnOk r (Appends a c (xs ++ ys))
written_both (Err e) a b c xs ys first second = tt
written_both (Ok done) a b c xs ys first second = Appends-trans a b c xs ys first second

-- what is written is what is due
pub written_is : {E : Type 0} (r : Result Unit E) (a b : Option (List ℕ)) (xs ys : List ℕ)
    → xs ≡ ys → OnOk r (Appends a b xs) → OnOk r (Appends a b ys)
written_is r a b xs ys same written =
    subst (λ (t : List ℕ). OnOk r (Appends a b t)) same written

pub prefix_is : (a b : Option (List ℕ)) (xs ys : List ℕ) → xs ≡ ys → GrowsByPrefix a b xs
    → GrowsByPrefix a b ys
prefix_is a b xs ys same written = subst (GrowsByPrefix a b) same written

pub appends_is : (a b : Option (List ℕ)) (xs ys : List ℕ) → xs ≡ ys → Appends a b xs
    → Appends a b ys
appends_is a b xs ys same written = subst (Appends a b) same written
