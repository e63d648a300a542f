-- The least rectangle around dabs, one after the other.
use Rattle.std.proofs.Common.{◌≡◌, ℕ, ◌+◌, ◌<◌, List, [], ◌∷◌, ◌++◌, length, get_or, take, map}
use Rattle.std.proofs.Common.{fold, Option, Some, None, ap, sym, ◌∙◌, refl}
use Rattle.std.proofs.lemmas.Option.{none-some, same_Some}
use Rattle.std.specs.Option.{option_map_or}
use Rattle.std.proofs.lemmas.List.{take_more, map-append}
use Rattle.std.proofs.lemmas.List.Sums.{fold_push}
use Rattle.dp_pixels.specs.declared.rect.Rect.{Rect}
use Rattle.dp_pixels.specs.Rectangles.{joined}
use Rattle.dp_pixels.specs.declared.dabs.PlacedDab.{PlacedDab}
use Rattle.dp_pixels.specs.Dabs.{dab_rect}
use Rattle.dp_pixels.specs.Feet.{around}

module _ {X : Type 0} (square : X → Rect) where
  -- the least rectangle around the squares, if there is one
  abbrev pub around_by : List X → Option Rect
  around_by [] = None
  around_by (dab ∷ dabs) = Some (fold joined (square dab) (map square dabs))

  push_around : (dabs : List X) (dab : X)
      → around_by (dabs ++ dab ∷ [])
      ≡ Some (option_map_or (λ rect. joined rect (square dab)) (around_by dabs) (square dab))
  push_around [] dab = refl
  push_around (first ∷ dabs) dab =
      ap (λ (rects : List Rect). Some (fold joined (square first) rects))
      (map-append square dabs (dab ∷ []))
      ∙ ap (λ (rect : Rect). Some rect)
      (fold_push joined (square first) (map square dabs) (square dab))

  -- with one more
  pub around_more : (dabs : List X) (k : ℕ) (dab : X) → k < length dabs
      → get_or dabs k dab ≡ dab
      → around_by (take (k + 1) dabs)
      ≡ Some (option_map_or (λ rect. joined rect (square dab)) (around_by (take k dabs))
      (square dab))
  around_more dabs k dab inside is =
      ap around_by (take_more dabs k dab inside ∙ ap (λ d. take k dabs ++ d ∷ []) is)
      ∙ push_around (take k dabs) dab

-- the rectangle around dabs, if there are some
pub around_some : (dabs : List _) (rect : Rect) → Some rect ≡ around_by dab_rect dabs
    → rect ≡ around dabs
around_some [] rect is = absurd (none-some rect (sym is))
around_some (dab ∷ dabs) rect is = same_Some rect _ is

-- the rectangle with one dab more
pub rect_more : (dabs : List PlacedDab) (k : ℕ) (dab : PlacedDab) (all : Option Rect)
    (square rect : Rect) → k < length dabs → get_or dabs k dab ≡ dab
    → all ≡ around_by dab_rect (take k dabs) → square ≡ dab_rect dab
    → rect ≡ option_map_or (λ r. joined r square) all square
    → Some rect ≡ around_by dab_rect (take (k + 1) dabs)
rect_more dabs k dab all square rect within here so_far cells is =
    ap (λ (r : Rect). Some r) (is ∙ (rw (cells, so_far) refl))
    ∙ sym (around_more dab_rect dabs k dab within here)
