-- Headers of bytes, and of these bytes with more after them.
use Rattle.std.proofs.Common.{◌≡◌, ◌<◌, ◌≤◌, ◌⊎◌, ℕ, ◌+◌, ◌*◌, ◌-◌, List, ◌++◌, length, take, drop}
use Rattle.std.proofs.Common.{min, inl, inr, ap, ap₂, arith, refl, slice_index, subst, sym, ◌∙◌}
use Rattle.std.proofs.lemmas.List.{get_or-drop, get_or_append_left, length-append, take-append-le}
use Rattle.std.proofs.lemmas.List.{take_min}
use Rattle.std.proofs.lemmas.Bool.{cases_lt}
use Rattle.std.proofs.Math.Seq.{take-append-add, take-append_seam, take-length}
use Rattle.std.specs.Prelude.{Option, None, Some}
use Rattle.dp_recording.specs.declared.header.Profile.{Profile}
use Rattle.dp_recording.specs.declared.header.Profile.TheVariants.{First, Second}
use Rattle.dp_recording.specs.Headers.{HasNoHeader, IsHeader, IsShort, TellsProfile, announced}
use Rattle.dp_recording.specs.Headers.{magic, name_of}

pub take-past : {X : Type 0} (xs : List X) (n : ℕ) → length xs ≤ n → take n xs ≡ xs
take-past xs n long =
    let all : min n (length xs) ≡ length xs = omega (arith, long) in
    sym (take_min n xs) ∙ ap (λ k. take k xs) all ∙ take-length xs

not-below : (m n : ℕ) → (m < n → ⊥) → n ≤ m
not-below m n never = elim (cases_lt m n) as (λ _. n ≤ m) [
  | inl lt ↦ absurd (never lt)
  | inr le ↦ le
]

-- ---- what is announced

byte : (bytes more : List ℕ) (k : ℕ) → 6 + k < length bytes
    → slice_index (drop 6 (bytes ++ more)) k ≡ slice_index (drop 6 bytes) k
byte bytes more k lt =
    get_or-drop 6 (bytes ++ more) k 0 ∙ get_or_append_left bytes more 0 (6 + k) lt
    ∙ sym (get_or-drop 6 bytes k 0)

announced-same : (bytes more : List ℕ) → 8 ≤ length bytes
    → announced (bytes ++ more) ≡ announced bytes
announced-same bytes more long =
    ap₂ (λ a b. 8 + (a * 256 + (b * 1 + 0))) (byte bytes more 0 (omega arith))
    (byte bytes more 1 (omega arith))

-- ---- the first six bytes

six : (bytes more : List ℕ) → 6 ≤ length bytes → take 6 (bytes ++ more) ≡ take 6 bytes
six bytes more long = take-append-le 6 bytes more long

-- bytes that agree with the first six after more came agree as far as they go
agree : (bytes more : List ℕ) → take 6 (bytes ++ more) ≡ magic
    → take 6 bytes ≡ take (length bytes) magic
agree bytes more begins = by (cases_lt (length bytes) 6)
  where
    by : (length bytes < 6) ⊎ (6 ≤ length bytes) → take 6 bytes ≡ take (length bytes) magic
    by (inr long) = sym (six bytes more long) ∙ begins ∙ sym (take-past magic (length bytes) long)
    by (inl few) =
        let rest = 6 - length bytes in
        let whole : length bytes + rest ≡ 6 = omega (arith, few) in
        let joined : magic ≡ bytes ++ take rest more =
        sym begins ∙ ap (λ n. take n (bytes ++ more)) (sym whole)
        ∙ take-append-add bytes more rest in
        take-past bytes 6 (omega (arith, few)) ∙ sym (take-append_seam bytes (take rest more))
        ∙ ap (take (length bytes)) (sym joined)

-- ---- headers

pub header-long : {bytes : List ℕ} {profile : Profile} {len : ℕ} → IsHeader bytes profile len
    → 8 ≤ length bytes
header-long h = omega (arith, h.long, h.whole)

pub goes-on : (bytes more : List ℕ) (profile : Profile) (len : ℕ) → IsHeader bytes profile len
    → IsHeader (bytes ++ more) profile len
goes-on bytes more profile len h = record {
  begins = six bytes more (omega (arith, header-long h)) ∙ h.begins;
  long = h.long ∙ sym (announced-same bytes more (header-long h));
  whole = omega (arith, h.whole, length-append bytes more);
  tells = subst (λ t. TellsProfile (drop 8 t) (name_of profile))
      (sym (take-append-le len bytes more h.whole)) h.tells;
}

-- the last letter of a name of eight
abbrev last-letter : Option (List ℕ) → ℕ
last-letter None = 0
last-letter (Some name) = slice_index name 7

-- profiles of one name are one
one-name : (p q : Profile) → Some (name_of p) ≡ Some (name_of q) → p ≡ q
one-name First First e = refl
one-name First Second e = let wrong : 49 ≡ 50 = ap last-letter e in absurd (omega (arith, wrong))
one-name Second First e = let wrong : 50 ≡ 49 = ap last-letter e in absurd (omega (arith, wrong))
one-name Second Second e = refl

-- a header tells one profile, and has one length
pub one-header : (bytes : List ℕ) (profile other : Profile) (len more : ℕ)
    → IsHeader bytes profile len → IsHeader bytes other more → (profile ≡ other) × (len ≡ more)
one-header bytes profile other len more h k =
    let same : len ≡ more = h.long ∙ sym k.long in
    let tells : TellsProfile (drop 8 (take more bytes)) (name_of profile) =
    subst (λ n. TellsProfile (drop 8 (take n bytes)) (name_of profile)) same h.tells in
    (one-name profile other (sym tells.1 ∙ k.tells.1), same)

pub short-none : (bytes : List ℕ) → IsShort bytes → HasNoHeader bytes
short-none bytes short profile len h = by short.few
  where
    by : (length bytes < 8) ⊎ (length bytes < announced bytes) → ⊥
    by (inl few) = omega (arith, few, header-long h)
    by (inr few) = omega (arith, few, h.long, h.whole)

pub none-stays : (bytes more : List ℕ) → HasNoHeader bytes → (IsShort bytes → ⊥)
    → HasNoHeader (bytes ++ more)
none-stays bytes more none enough profile len h =
    let begins = agree bytes more h.begins in
    let long : 8 ≤ length bytes =
    not-below _ _ (λ few. enough (record { begins = begins; few = inl few })) in
    let whole : announced bytes ≤ length bytes =
    not-below _ _ (λ few. enough (record { begins = begins; few = inr few })) in
    let same = announced-same bytes more long in
    let fits : len ≤ length bytes = omega (arith, h.long, same, whole) in
    none profile len (record {
      begins = sym (six bytes more (omega (arith, long))) ∙ h.begins;
      long = h.long ∙ same;
      whole = fits;
      tells = subst (λ t. TellsProfile (drop 8 t) (name_of profile))
          (take-append-le len bytes more fits) h.tells;
    })

-- a header is longer than bytes that are too few for one
pub header-goes-past : (short more : List ℕ) (profile : Profile) (len : ℕ) → IsShort short
    → IsHeader (short ++ more) profile len
    → length short < len
header-goes-past short more profile len few h = elim (cases_lt (length short) len) as (λ _.
    length short < len) [
      | inl lt ↦ lt
      | inr le ↦ absurd (short-none short few profile len (cut short more len le h))
    ]
  where
    cut : (bytes more : List ℕ) (len : ℕ) → len ≤ length bytes
        → IsHeader (bytes ++ more) profile len → IsHeader bytes profile len
    cut bytes more len fits h =
        let long : 8 ≤ length bytes = omega (arith, h.long, fits) in
        record {
          begins = sym (six bytes more (omega (arith, long))) ∙ h.begins;
          long = h.long ∙ announced-same bytes more long;
          whole = fits;
          tells = subst (λ t. TellsProfile (drop 8 t) (name_of profile))
              (take-append-le len bytes more fits) h.tells;
        }
