-- Commands on the pixels of one layer, one after the other.
use Rattle.std.proofs.Common.{◌≡◌, ◌==◌, ℕ, List, [], ◌∷◌, map, true, false, refl, ap, sym}
use Rattle.std.proofs.Common.{◌∙◌, Option, None, Some, ⊎_elim, get_or}
use Rattle.std.specs.Prelude.{All, option_map}
use Rattle.std.specs.List.{fold}
use Rattle.std.proofs.lemmas.Bool.{cases_Bool}
use Rattle.std.proofs.lemmas.Option.{none-some, same_Some}
use Rattle.std.proofs.lemmas.List.Elements.{All-head, All-tail}
use Rattle.std.proofs.lemmas.List.Folds.{map_fixed}
use Rattle.std.proofs.lemmas.Simd.{map-map}
use Rattle.dp_blend.specs.Color.{Channels, IsPixel}
use Rattle.dp_msg_draw.specs.declared.draw.Draw.{Draw}
use Rattle.dp_msg_draw.specs.declared.draw.Draw.TheVariants as draws
use Rattle.dp_layers.specs.Rows.{Row, content_of, with_content}
use Rattle.dp_pixels.specs.Colors.{FitsColors}
use Rattle.dp_pixels.specs.Commands.{pixels_after}
use Rattle.dp_plain.specs.Board.{Board, IsBoard}
use Rattle.dp_plain.specs.Commands.{draw, draw_all, painted, painted_layer, with_change}
use Rattle.dp_plain.proofs.Commuting.{changed, unchanged}
use Rattle.dp_plain.proofs.Rows.{map-each, changed_none, changed_some}
use Rattle.dp_plain.proofs.Pixels.{PixelsStay, pixels_after-All}

-- a command on pixels is drawn on the layer that it names
pub drawn_on : (board : Board) (c : Draw) (id : ℕ) → painted_layer c ≡ Some id
    → draw board c ≡ painted board c id
drawn_on board (draws.PutImage layer mode x y w h colors) id is =
    ap (painted board (draws.PutImage layer mode x y w h colors)) (same_Some layer id is)
drawn_on board (draws.FillRect layer mode x y w h color) id is =
    ap (painted board (draws.FillRect layer mode x y w h color)) (same_Some layer id is)
drawn_on board (draws.PutTile layer col row repeat content) id is =
    ap (painted board (draws.PutTile layer col row repeat content)) (same_Some layer id is)
drawn_on board (draws.DabsRound layer x y r g b mode dabs) id is =
    ap (painted board (draws.DabsRound layer x y r g b mode dabs)) (same_Some layer id is)
drawn_on board (draws.DabsSquare layer x y r g b mode dabs) id is =
    ap (painted board (draws.DabsSquare layer x y r g b mode dabs)) (same_Some layer id is)
drawn_on board (draws.MoveRect layer sx sy w h tx ty) id is =
    ap (painted board (draws.MoveRect layer sx sy w h tx ty)) (same_Some layer id is)
drawn_on board _ id is = absurd (none-some id is)

-- ---- changes of what a row holds

content_same : (o : Option (List Channels)) → option_map (λ pixels. pixels) o ≡ o
content_same None = refl
content_same (Some pixels) = refl

content_then : (f g : List Channels → List Channels) (o : Option (List Channels))
    → option_map g (option_map f o) ≡ option_map (λ pixels. g (f pixels)) o
content_then f g None = refl
content_then f g (Some pixels) = refl

-- one that keeps all pixels
row_same : (id : ℕ) (row : Row (List Channels)) → with_change id (λ pixels. pixels) row ≡ row
row_same id row =
    ⊎_elim
    (λ (here : (row.layer.id == id) ≡ true).
    changed id (λ pixels. pixels) row here
    ∙ ap (λ (o : Option (List Channels)). record row { content = o }) (content_same row.content))
    (λ (out : (row.layer.id == id) ≡ false). unchanged id (λ pixels. pixels) row out)
    (cases_Bool (row.layer.id == id))

-- one after another
row_then : (id : ℕ) (f g : List Channels → List Channels) (row : Row (List Channels))
    → with_change id g (with_change id f row) ≡ with_change id (λ pixels. g (f pixels)) row
row_then id f g row =
    ⊎_elim
    (λ (here : (row.layer.id == id) ≡ true).
    ap (with_change id g) (changed id f row here)
    ∙ changed id g (record row { content = option_map f row.content }) here
    ∙ ap (λ (o : Option (List Channels)). record row { content = o })
    (content_then f g row.content)
    ∙ sym (changed id (λ pixels. g (f pixels)) row here))
    (λ (out : (row.layer.id == id) ≡ false).
    ap (with_change id g) (unchanged id f row out) ∙ unchanged id g row out
    ∙ sym (unchanged id (λ pixels. g (f pixels)) row out))
    (cases_Bool (row.layer.id == id))

-- ---- a run

-- the pixels of a layer after commands
abbrev after : ℕ → ℕ → List Draw → List Channels → List Channels
after width height run pixels = fold (λ old c. pixels_after width height c old) pixels run

-- the commands are on the pixels of the layer
abbrev AreOn : ℕ → List Draw → Type 0
AreOn id run = All (λ c. painted_layer c ≡ Some id) run

run_drawn : (board : Board) (id : ℕ) (run : List Draw) → AreOn id run
    → draw_all board run ≡ record board {
      rows = map (with_change id (after board.width board.height run)) board.rows;
    }
run_drawn board id [] on =
    ap (λ (rows : List (Row (List Channels))). record board { rows = rows })
    (sym (map_fixed (with_change id (λ pixels. pixels)) board.rows
    (λ k d in_list. row_same id (get_or board.rows k d))))
run_drawn board id (c ∷ run) on =
    let one : List Channels → List Channels = pixels_after board.width board.height c in
    let rest : List Channels → List Channels = after board.width board.height run in
    ap (λ (b : Board). draw_all b run)
    (drawn_on board c id (All-head (λ d. painted_layer d ≡ Some id) c run on))
    ∙ run_drawn (painted board c id) id run (All-tail (λ d. painted_layer d ≡ Some id) c run on)
    ∙ ap (λ (rows : List (Row (List Channels))). record board { rows = rows })
    (map-map (with_change id rest) (with_change id one) board.rows
    ∙ map-each (λ row. with_change id rest (with_change id one row))
    (with_change id (λ pixels. rest (one pixels))) board.rows
    (λ k d in_list. row_then id one rest (get_or board.rows k d)))

module _ (board : Board) (id : ℕ) (run : List Draw) (whole : IsBoard board) (on : AreOn id run)
  where
    pub run_present : (pixels : List Channels) → content_of board.rows id ≡ Some pixels
        → draw_all board run ≡ record board {
          rows = with_content board.rows id (after board.width board.height run pixels);
        }
    run_present pixels found =
        run_drawn board id run on
        ∙ ap (λ (rows : List (Row (List Channels))). record board { rows = rows })
        (changed_some id (after board.width board.height run) board.rows pixels
        whole.tree.layers.distinct found)

    pub run_absent : content_of board.rows id ≡ None → draw_all board run ≡ board
    run_absent none =
        run_drawn board id run on
        ∙ ap (λ (rows : List (Row (List Channels))). record board { rows = rows })
        (changed_none id (after board.width board.height run) board.rows
        whole.tree.layers.distinct none)

-- pixels stay pixels through a run
pub run-All : PixelsStay → (w h : ℕ) (run : List Draw) (pixels : List Channels)
    → All FitsColors run → All IsPixel pixels → All IsPixel (after w h run pixels)
run-All law w h [] pixels fit each = each
run-All law w h (c ∷ run) pixels fit each =
    run-All law w h run (pixels_after w h c pixels) (All-tail FitsColors c run fit)
    (pixels_after-All law w h c pixels (All-head FitsColors c run fit) each)
