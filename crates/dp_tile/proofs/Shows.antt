-- Cells that show something.
use Rattle.std.proofs.Common.{◌≡◌, ℕ, ◌<◌, List, length, get_or, ap, sym, ◌∙◌, refl, arith}
use Rattle.std.proofs.Common.{Bool, true, false, ◌&&◌, ◌⊎◌, inl, inr, ⊎_elim}
use Rattle.std.specs.Prelude.{not, ◌==◌}
use Rattle.std.proofs.lemmas.Bool.{eqb-true, and_parts}
use Rattle.std.proofs.lemmas.List.Folds.{list_any_at}
use Rattle.dp_blend.specs.Color.{Channels, clear}
use Rattle.dp_tile.specs.Tiles.{shows, tile_of}
use Rattle.dp_tile.proofs.Tiles.{length-tile_of, pixel-tile_of}

-- all channels are 0
abbrev is_clear : Channels → Bool
is_clear p = p.r == 0 && p.g == 0 && p.b == 0 && p.a == 0

clear_pixel : (p : Channels) → is_clear p ≡ true → p ≡ clear
clear_pixel p is =
    let three = and_parts (p.r == 0 && p.g == 0 && p.b == 0) (p.a == 0) is in
    let two = and_parts (p.r == 0 && p.g == 0) (p.b == 0) three.0 in
    let one = and_parts (p.r == 0) (p.g == 0) two.0 in
    let r = eqb-true p.r 0 one.0 in
    let g = eqb-true p.g 0 one.1 in
    let b = eqb-true p.b 0 two.1 in
    let a = eqb-true p.a 0 three.1 in
    ap (λ k. record { r = k; g = p.g; b = p.b; a = p.a }) r
    ∙ ap (λ k. record { r = 0; g = k; b = p.b; a = p.a }) g
    ∙ ap (λ k. record { r = 0; g = 0; b = k; a = p.a }) b
    ∙ ap (λ k. record { r = 0; g = 0; b = 0; a = k }) a

tell : (b : Bool) → (not b ≡ true) ⊎ (b ≡ true)
tell true = inr refl
tell false = inl refl

-- a pixel shows something, or is clear
pub shown_or_clear : (p : Channels) → (not (is_clear p) ≡ true) ⊎ (p ≡ clear)
shown_or_clear p =
    ⊎_elim (λ yes. inl yes) (λ is. inr (clear_pixel p is)) (tell (is_clear p))

-- a list of which one pixel isn't clear shows something
pub shows_at : (pixels : List Channels) (k : ℕ) (d : Channels) → k < length pixels
    → (get_or pixels k d ≡ clear → ⊥) → shows pixels ≡ true
shows_at pixels k d inside isnt =
    ⊎_elim (λ yes. list_any_at (λ (p : Channels). not (is_clear p)) pixels k d inside yes)
    (λ is. absurd (isnt is)) (shown_or_clear (get_or pixels k d))

-- a tile of a colour that isn't clear shows something
pub shows_color : (p : Channels) → (p ≡ clear → ⊥) → shows (tile_of p) ≡ true
shows_color p isnt =
    let inside : 0 < length (tile_of p) = omega (arith, length-tile_of p) in
    shows_at (tile_of p) 0 clear inside (λ is. isnt (sym (pixel-tile_of p 0 (omega arith)) ∙ is))
