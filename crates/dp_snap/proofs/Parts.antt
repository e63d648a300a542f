-- Parts of rows of a canvas, clear past it, and the rows of a tile.
use Rattle.std.proofs.Common.{◌≡◌, ℕ, ◌+◌, ◌*◌, ◌-◌, ◌<◌, ◌≤◌, false, List, ◌++◌}
use Rattle.std.proofs.Common.{length, get_or, take, map, refl, ap, sym, ◌∙◌, ⊎_elim, arith, ◌⊎◌}
use Rattle.std.proofs.Common.{[], ◌∷◌, Option, add-one}
use Rattle.std.specs.List.{flat_map}
use Rattle.std.specs.Option.{option_map_or}
use borrow.Rule.Slice.PartMut.{put_mid}
use Rattle.std.proofs.lemmas.Slice.{take-put_mid}
use Rattle.std.proofs.lemmas.List.{append_assoc}
use Rattle.std.proofs.lemmas.List.FromFn.{length-map-range_with_len}
use Rattle.dp_msg_draw.specs.declared.draw.TileContent.{TileContent}
use Rattle.dp_msg_draw.specs.declared.draw.Draw.TheVariants.{PutTile}
use Rattle.dp_plain.proofs.Canvas.{canvas_of-more, pieces_more}
use Rattle.dp_snap.specs.Tiles.{pixels_of_tile, shown_of, content_of_tile}
use Rattle.dp_snap.specs.Snapshot.{put_of_tile}
use Rattle.std.specs.Prelude.{pos, min, nat_lt}
use Rattle.std.proofs.lemmas.Bool.{cases_lt, lt-ltb, and_left, and_right}
use Rattle.std.proofs.lemmas.Bool.Decides.{nat_tests}
use Rattle.std.proofs.lemmas.List.{length-append, get_or_append_left, get_or-append_right}
use Rattle.std.proofs.lemmas.List.FromFn.{fill_by_all, get_or-map-range_with_len}
use Rattle.dp_blend.specs.Color.{Channels, clear}
use Rattle.dp_blend.specs.Canvas.{below, canvas_of, pixel_at}
use Rattle.dp_pixels.specs.Commands.{pixel_of}

module _ (w h : ℕ) (pixels : List Channels) where
  pub pixel_of-inside : (x y : ℕ) → x < w → y < h
      → pixel_of w h pixels (pos x) (pos y) ≡ pixel_at w pixels x y
  pixel_of-inside x y in_x in_y = rw (lt-ltb x w in_x, lt-ltb y h in_y) refl

  past_x : (x y : ℕ) → w ≤ x → pixel_of w h pixels (pos x) (pos y) ≡ clear
  past_x x y past =
      let test : nat_lt x w ≡ false = grind (arith, nat_tests) in
      rw (and_left (nat_lt x w) (nat_lt y h) test) refl

  past_y : (x y : ℕ) → h ≤ y → pixel_of w h pixels (pos x) (pos y) ≡ clear
  past_y x y past =
      let test : nat_lt y h ≡ false = grind (arith, nat_tests) in
      rw (and_right (nat_lt x w) (nat_lt y h) test) refl

  -- a part that is past the canvas
  pub part_past : (x y n : ℕ) (part : List Channels) → length part ≡ n → (w ≤ x) ⊎ (h ≤ y)
      → ((i : ℕ) → i < n → get_or part i clear ≡ clear)
      → part ≡ map (λ i. pixel_of w h pixels (pos (x + i)) (pos y)) (below n)
  part_past x y n part long past each =
      fill_by_all (λ i. pixel_of w h pixels (pos (x + i)) (pos y)) part n clear long (λ i in_part.
      each i in_part
      ∙ sym (⊎_elim (λ (right : w ≤ x). past_x (x + i) y (omega arith))
      (λ (under : h ≤ y). past_y (x + i) y under) past))

  -- a part of which the first pixels are on the canvas
  pub part_read : (x y n : ℕ) (seen past : List Channels) → x < w → y < h
      → length seen ≡ min (w - x) n → length seen + length past ≡ n
      → seen ≡ map (λ i. pixel_at w pixels (x + i) y) (below (length seen))
      → ((i : ℕ) → i < length past → get_or past i clear ≡ clear)
      → seen ++ past ≡ map (λ i. pixel_of w h pixels (pos (x + i)) (pos y)) (below n)
  part_read x y n seen past in_x in_y shown long is each =
      fill_by_all (λ i. pixel_of w h pixels (pos (x + i)) (pos y)) (seen ++ past) n clear
      (length-append seen past ∙ long) (λ i in_part.
      ⊎_elim
      (λ (on : i < length seen).
      get_or_append_left seen past clear i on
      ∙ ap (λ ps. get_or ps i clear) is
      ∙ get_or-map-range_with_len (λ k. pixel_at w pixels (x + k) y) 0 (length seen) i i clear on
      (omega arith)
      ∙ sym (pixel_of-inside (x + i) y (omega arith) in_y))
      (λ (off : length seen ≤ i).
      get_or-append_right seen past (length seen) i clear refl off
      ∙ each (i - length seen) (omega arith)
      ∙ sym (past_x (x + i) y (omega arith)))
      (cases_lt i (length seen)))

-- ---- rows of a tile

-- one row more of a tile, of which the rows above are written
pub tile_more : (f : ℕ → ℕ → Channels) (tile row : List Channels) (y n : ℕ) → length tile ≡ 4096
    → y < 64 → n ≡ 64 → take (y * 64) tile ≡ canvas_of 64 y f → row ≡ map (λ x. f x y) (below n)
    → take ((y + 1) * 64) (put_mid (y * 64) (y * 64 + 64 - y * 64) tile row)
    ≡ canvas_of 64 (y + 1) f
tile_more f tile row y n whole in_tile all above is =
    let row_is : row ≡ map (λ x. f x y) (below 64) =
    is ∙ ap (λ m. map (λ x. f x y) (below m)) all in
    let long : length row ≡ 64 = ap length row_is
    ∙ length-map-range_with_len (λ x. f x y) 0 64 in
    take-put_mid (y * 64) (y * 64 + 64 - y * 64) tile row ((y + 1) * 64) (omega (arith, long))
    (omega (arith, whole))
    ∙ ap (λ ps. ps ++ row) above ∙ ap (λ ps. canvas_of 64 y f ++ ps) row_is
    ∙ sym (canvas_of-more 64 y f)

-- ---- commands of tiles

-- what is put into a tile, from the pixels that were read
pub put_is : (w h id : ℕ) (pixels : List Channels) (row col : ℕ) (tile : List Channels)
    (cols rows : ℕ) (found : Option TileContent) → tile ≡ pixels_of_tile w h pixels col row
    → cols ≡ shown_of w col → rows ≡ shown_of h row → found ≡ content_of_tile cols rows tile
    → put_of_tile w h id pixels row col
    ≡ option_map_or (λ content. PutTile id col row 0 content ∷ []) found []
put_is w h id pixels row col tile cols rows found tile_is cols_is rows_is is =
    let all : found ≡ content_of_tile (shown_of w col) (shown_of h row)
    (pixels_of_tile w h pixels col row) =
    is ∙ ap (λ n. content_of_tile n rows tile) cols_is
    ∙ ap (λ n. content_of_tile (shown_of w col) n tile) rows_is
    ∙ ap (content_of_tile (shown_of w col) (shown_of h row)) tile_is in
    ap (λ o. option_map_or (λ content. PutTile id col row 0 content ∷ []) o []) (sym all)

-- the commands of one more number
pub puts_more : {X : Type 0} (f : ℕ → List X) (first before now : List X) (n : ℕ)
    → before ≡ first ++ flat_map f (below n) → now ≡ before ++ f n
    → now ≡ first ++ flat_map f (below (n + 1))
puts_more f first before now n so_far more =
    let same : 0 + n ≡ n = omega arith in
    let step = pieces_more f 0 n in
    let next : flat_map f (below (n + 1)) ≡ flat_map f (below n) ++ f n =
    rw add-one (rw same at step) in
    more ∙ ap (λ xs. xs ++ f n) so_far ∙ append_assoc first (flat_map f (below n)) (f n)
    ∙ ap (λ xs. first ++ xs) (sym next)
