-- Commands whose feet don't meet, on a board.
use Rattle.std.proofs.Common.{◌≡◌, ◌==◌, ℕ, ◌≤◌, true, false, List, [], ◌∷◌, map}
use Rattle.std.proofs.Common.{Option, None, Some, refl, ap, sym, ◌∙◌, ◌⊎◌, inl, inr, ⊎_elim}
use Rattle.std.specs.Prelude.{option_map}
use Rattle.std.proofs.lemmas.Bool.{cases_Bool, cond-true, cond-false, cond_both, eqb-true}
use Rattle.std.proofs.lemmas.Bool.{false≢true, not-true}
use Rattle.dp_blend.specs.Color.{Channels}
use Rattle.dp_msg_draw.specs.declared.draw.Draw.{Draw}
use Rattle.dp_msg_draw.specs.declared.draw.Draw.TheVariants as draws
use Rattle.dp_layers.specs.Rows.{Row}
use Rattle.dp_pixels.specs.declared.feet.Footprint.{Footprint}
use Rattle.dp_pixels.specs.declared.feet.Footprint.TheVariants.{Area, Two, All}
use Rattle.dp_pixels.specs.Commands.{pixels_after}
use Rattle.dp_pixels.specs.Feet.{are_apart, feet_meet, foot, foot_layer}
use Rattle.dp_plain.specs.Board.{Board, IsBoard}
use Rattle.dp_plain.specs.Commands.{draw, painted, with_change}

-- the law of one layer
abbrev pub CommutingLaw : Type 0
CommutingLaw = (width height : ℕ) (a b : Draw) (pixels : List Channels)
    → width ≤ 4096 → height ≤ 4096 → foot_layer (foot a) ≡ foot_layer (foot b)
    → feet_meet (foot a) (foot b) ≡ false
    → pixels_after width height b (pixels_after width height a pixels)
    ≡ pixels_after width height a (pixels_after width height b pixels)

-- ---- a row

module _ (id : ℕ) (f : List Channels → List Channels) (row : Row (List Channels)) where
  pub changed : (row.layer.id == id) ≡ true
      → with_change id f row ≡ record row { content = option_map f row.content }
  changed here = cond-true (row.layer.id == id)
      (record row { content = option_map f row.content }) row here

  pub unchanged : (row.layer.id == id) ≡ false → with_change id f row ≡ row
  unchanged out = cond-false (row.layer.id == id)
      (record row { content = option_map f row.content }) row out

  same_id : (with_change id f row).layer.id ≡ row.layer.id
  same_id =
      cond_both (row.layer.id == id) (record row { content = option_map f row.content }) row
      (λ (other : Row (List Channels)). other.layer.id ≡ row.layer.id) (λ _. refl) (λ _. refl)

-- a change that the row has no part in may come first or last
past_row : (la lb : ℕ) (f g : List Channels → List Channels) (row : Row (List Channels))
    → (row.layer.id == la) ≡ false
    → with_change lb g (with_change la f row) ≡ with_change la f (with_change lb g row)
past_row la lb f g row out =
    ap (with_change lb g) (unchanged la f row out)
    ∙ sym (unchanged la f (with_change lb g row)
    (ap (λ (id : ℕ). id == la) (same_id lb g row) ∙ out))

-- two changes of what a row holds
content_twice : (f g : List Channels → List Channels)
    → ((pixels : List Channels) → g (f pixels) ≡ f (g pixels)) → (o : Option (List Channels))
    → option_map g (option_map f o) ≡ option_map f (option_map g o)
content_twice f g either None = refl
content_twice f g either (Some pixels) = ap (λ (ps : List Channels). Some ps) (either pixels)

-- changes of two rows commute, and so do those of one whose changes of pixels do
row_twice : (la lb : ℕ) (f g : List Channels → List Channels)
    → (la ≡ lb → (pixels : List Channels) → g (f pixels) ≡ f (g pixels))
    → (row : Row (List Channels))
    → with_change lb g (with_change la f row) ≡ with_change la f (with_change lb g row)
row_twice la lb f g either row =
    ⊎_elim
    (λ (in_a : (row.layer.id == la) ≡ true).
    ⊎_elim
    (λ (in_b : (row.layer.id == lb) ≡ true).
    let same : la ≡ lb = sym (eqb-true row.layer.id la in_a) ∙ eqb-true row.layer.id lb in_b in
    ap (with_change lb g) (changed la f row in_a)
    ∙ changed lb g (record row { content = option_map f row.content }) in_b
    ∙ ap (λ (o : Option (List Channels)). record row { content = o })
    (content_twice f g (either same) row.content)
    ∙ sym (changed la f (record row { content = option_map g row.content }) in_a)
    ∙ sym (ap (with_change la f) (changed lb g row in_b)))
    (λ (out : (row.layer.id == lb) ≡ false). sym (past_row lb la g f row out))
    (cases_Bool (row.layer.id == lb)))
    (λ (out : (row.layer.id == la) ≡ false). past_row la lb f g row out)
    (cases_Bool (row.layer.id == la))

rows_twice : (la lb : ℕ) (f g : List Channels → List Channels)
    → (la ≡ lb → (pixels : List Channels) → g (f pixels) ≡ f (g pixels))
    → (rows : List (Row (List Channels)))
    → map (with_change lb g) (map (with_change la f) rows)
    ≡ map (with_change la f) (map (with_change lb g) rows)
rows_twice la lb f g either [] = refl
rows_twice la lb f g either (row ∷ rows) =
    ap (λ (first : Row (List Channels)).
    first ∷ map (with_change lb g) (map (with_change la f) rows))
    (row_twice la lb f g either row)
    ∙ ap (λ (rest : List (Row (List Channels))).
    with_change la f (with_change lb g row) ∷ rest) (rows_twice la lb f g either rows)

-- ---- a command

-- a command on the pixels of a layer
record IsOn (d : Draw) (layer : ℕ) : Type 0 where
  named : foot_layer (foot d) ≡ Some layer
  drawn : (board : Board) → draw board d ≡ painted board d layer

-- the foot of any other is everything
on_pixels : (d : Draw) → (foot d ≡ All) ⊎ ((layer : ℕ) × IsOn d layer)
on_pixels (draws.PutImage layer mode x y w h colors) =
    inr (layer, record { named = refl; drawn = λ board. refl })
on_pixels (draws.FillRect layer mode x y w h color) =
    inr (layer, record { named = refl; drawn = λ board. refl })
on_pixels (draws.PutTile layer col row repeat content) =
    inr (layer, record { named = refl; drawn = λ board. refl })
on_pixels (draws.DabsRound layer x y r g b mode dabs) =
    inr (layer, record { named = refl; drawn = λ board. refl })
on_pixels (draws.DabsSquare layer x y r g b mode dabs) =
    inr (layer, record { named = refl; drawn = λ board. refl })
on_pixels (draws.MoveRect layer sx sy w h tx ty) =
    inr (layer, record { named = refl; drawn = λ board. refl })
on_pixels _ = inl refl

-- everything meets each foot
all_meets : (f : Footprint) → feet_meet All f ≡ true
all_meets (Area layer rect) = refl
all_meets (Two layer from to) = refl
all_meets All = refl

painted_twice : CommutingLaw → (board : Board) → IsBoard board → (a b : Draw) (la lb : ℕ)
    → IsOn a la → IsOn b lb → feet_meet (foot a) (foot b) ≡ false
    → draw (draw board a) b ≡ draw (draw board b) a
painted_twice law board whole a b la lb on_a on_b far =
    let w = board.width in
    let h = board.height in
    on_b.drawn (draw board a)
    ∙ ap (λ (other : Board). painted other b lb) (on_a.drawn board)
    ∙ ap (λ (rows : List (Row (List Channels))). record board { rows = rows })
    (rows_twice la lb (pixels_after w h a) (pixels_after w h b)
    (λ same pixels. law w h a b pixels whole.width whole.height
    (on_a.named ∙ ap (λ (id : ℕ). Some id) same ∙ sym on_b.named) far) board.rows)
    ∙ sym (on_a.drawn (draw board b)
    ∙ ap (λ (other : Board). painted other a la) (on_b.drawn board))

pub drawn_twice : CommutingLaw → (board : Board) (a b : Draw) → IsBoard board
    → are_apart a b ≡ true → draw (draw board a) b ≡ draw (draw board b) a
drawn_twice law board a b whole apart =
    let far = not-true (feet_meet (foot a) (foot b)) apart in
    ⊎_elim
    (λ (all : foot a ≡ All).
    absurd (false≢true (sym far ∙ (ap (λ f. feet_meet f (foot b)) all ∙ all_meets (foot b)))))
    (λ (on_a : (layer : ℕ) × IsOn a layer).
    ⊎_elim
    (λ (all : foot b ≡ All). absurd (false≢true (sym far ∙ ap (feet_meet (foot a)) all)))
    (λ (on_b : (layer : ℕ) × IsOn b layer).
    painted_twice law board whole a b on_a.0 on_b.0 on_a.1 on_b.1 far)
    (on_pixels b))
    (on_pixels a)
