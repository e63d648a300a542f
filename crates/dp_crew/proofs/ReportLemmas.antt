-- A place in lists that stand one after another.
use Rattle.std.proofs.Common.{◌≡◌, ℕ, zero, suc, ◌+◌, ◌-◌, ◌<◌, ◌≤◌, List, [], ◌∷◌, ◌++◌, length}
use Rattle.std.proofs.Common.{get_or, take, drop, Some, slice_get, flat_map, sym, ap, ◌∙◌, Vec}
use Rattle.std.proofs.Common.{append-nil, arith}
use Rattle.std.proofs.lemmas.Grind.{flat_map-append}
use Rattle.std.proofs.lemmas.List.{at_drop_more}
use Rattle.std.proofs.lemmas.List.Folds.{length-flat_map-take}
use Rattle.dp_crew.specs.Gathering.{all_reports}

module _ {X : Type 0} where
  get_left : (xs ys : List X) (k : ℕ) (x : X) → slice_get xs k ≡ Some x
      → slice_get (xs ++ ys) k ≡ Some x
  get_left [] ys k x is = cc
  get_left (z ∷ xs) ys zero x is = is
  get_left (z ∷ xs) ys (suc k) x is = get_left xs ys k x is

  get_right : (xs ys : List X) (k : ℕ) → length xs ≤ k
      → slice_get (xs ++ ys) k ≡ slice_get ys (k - length xs)
  get_right [] ys k past = ap (slice_get ys) (omega arith)
  get_right (z ∷ xs) ys zero past = absurd (omega arith)
  get_right (z ∷ xs) ys (suc k) past =
      let e : k - length xs ≡ suc k - length (z ∷ xs) = omega arith in
      get_right xs ys k (omega arith) ∙ ap (slice_get ys) e

module _ {A X : Type 0} (f : A → List X) (lists : List A) (i : ℕ) (list : A)
    (inside : i < length lists) (is : list ≡ get_or lists i list) where
  -- the lists from a place on
  next_list : flat_map f (drop i lists) ≡ f list ++ flat_map f (drop (i + 1) lists)
  next_list =
      at_drop_more (flat_map f) lists i list inside
      ∙ ap (λ l. f l ++ flat_map f (drop (i + 1) lists)) (sym is)

  pub in_this_list : (k : ℕ) (x : X) → slice_get (f list) k ≡ Some x
      → slice_get (flat_map f (drop i lists)) k ≡ Some x
  in_this_list k x here =
      ap (λ l. slice_get l k) next_list
      ∙ get_left (f list) (flat_map f (drop (i + 1) lists)) k x here

  pub past_this_list : (k : ℕ) → length (f list) ≤ k
      → slice_get (flat_map f (drop i lists)) k
      ≡ slice_get (flat_map f (drop (i + 1) lists)) (k - length (f list))
  past_this_list k past =
      ap (λ l. slice_get l k) next_list
      ∙ get_right (f list) (flat_map f (drop (i + 1) lists)) k past

  -- so far and with this list they are no more than all
  pub within_all : length (flat_map f (take i lists)) + length (f list) ≤ length (flat_map f lists)
  within_all =
      let e : length (f list) ≡ length (f (get_or lists i list)) = ap (λ l. length (f l)) is in
      omega (arith, e, length-flat_map-take f lists i list inside)

-- the reports of one list more
pub all_reports-more : {P Z : Type 0} (lists more : List (Vec P Z)) (list : Vec P Z)
    → more ≡ lists ++ list ∷ [] → all_reports more ≡ all_reports lists ++ list.items
all_reports-more {P} {Z} lists more list is =
    ap all_reports is
    ∙ flat_map-append (λ (l : Vec P Z). l.items) lists (list ∷ [])
    ∙ ap (λ l. all_reports lists ++ l) (append-nil list.items)
