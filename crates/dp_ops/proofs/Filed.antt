-- Commands that are filed on tiles.
use Rattle.std.proofs.Common.{◌≡◌, ℕ, ◌+◌, ◌*◌, ◌<◌, ◌≤◌, List, [], ◌∷◌, ◌++◌, length}
use Rattle.std.proofs.Common.{refl, sym, ◌∙◌, ap, arith, ⊎_elim, ◌&&◌, cond, get_or}
use Rattle.std.proofs.Common.{Bool, true, false, map, take}
use Rattle.std.specs.Prelude.{ℤ, pos, ◌-ℤ◌}
use Rattle.std.specs.Int.{int_min}
use Rattle.std.proofs.lemmas.Bool.{cases_Bool, false≢true}
use Rattle.std.proofs.lemmas.Int.{ints, int_max_is, int_min_is}
use Rattle.std.proofs.lemmas.List.Sums.{fold-append}
use Rattle.std.proofs.lemmas.List.{get_or-map, length-map, take_more}
use Rattle.dp_blend.specs.Color.{Channels, fade, from8}
use Rattle.dp_blend.specs.Blending.{blend}
use Rattle.dp_blend.specs.declared.modes.Mode.{Mode}
use Rattle.dp_msg_draw.specs.declared.draw.Draw.{Draw}
use Rattle.dp_msg_draw.specs.declared.draw.Draw.TheVariants as draws
use Rattle.dp_pixels.specs.declared.dabs.NearDab.{NearDab}
use Rattle.dp_pixels.specs.declared.dabs.PlacedDab.{PlacedDab}
use Rattle.dp_pixels.specs.declared.dabs.Shape.{Shape}
use Rattle.dp_pixels.specs.declared.dabs.Shape.TheVariants.{Round, Square}
use Rattle.dp_pixels.specs.declared.rect.Rect.{Rect}
use Rattle.dp_pixels.specs.Commands.{dab_blended, dabs_blended, pixel_drawn}
use Rattle.dp_pixels.specs.Dabs.{dab_covers, dab_rect, is_in_disc}
use Rattle.dp_pixels.specs.Rectangles.{is_in, rect_at}
use Rattle.dp_pixels.proofs.Rectangles.{is_in-true, is_in_by}
use Rattle.dp_pixels.proofs.SpanLemmas.{same_test}
use Rattle.dp_tile.specs.declared.area.CellArea.{CellArea}
use Rattle.dp_tile.specs.Areas.{is_in_cells}
use Rattle.dp_ops.specs.declared.op.TileFill.{TileFill}
use Rattle.dp_ops.specs.declared.op.TileOp.{TileOp}
use Rattle.dp_ops.specs.Ops.{OnTile, is_in_fill, op_at, ops_at, tile_place}
use Rattle.dp_ops.specs.Lists.{AddsMore, AllCount, HaveSame, HaveSameLists, IsChangedOn}
use Rattle.dp_ops.specs.Lists.{IsFiled, IsFinished, IsInside, Lists, Waiting, list_at, listed_at}
use Rattle.dp_ops.specs.declared.lists.Finish.TheVariants.{Drop, Keep}
use Rattle.dp_ops.specs.Ops.{MayWait}
use Rattle.dp_ops.specs.Lists.{IsNumbered, PutsMore, StandsOn, anywhere, filed_at, row_to}
use Rattle.dp_pixels.proofs.Rectangles.{on_canvas}
use Rattle.dp_ops.proofs.Ops.{fill_by, fill_facts}
use Rattle.dp_ops.proofs.Waits.{inside_by, inside_facts}

-- ---- fills

-- a place of a tile is filled if the rectangle has it
pub fill_met : (f : TileFill) (x y w h col row i j : ℕ)
    → (f.left ≤ i → i < f.right → (x ≤ col * 64 + i) × (col * 64 + i < x + w))
    → (x ≤ col * 64 + i → col * 64 + i < x + w → (f.left ≤ i) × (i < f.right))
    → (f.top ≤ j → j < f.bottom → (y ≤ row * 64 + j) × (row * 64 + j < y + h))
    → (y ≤ row * 64 + j → row * 64 + j < y + h → (f.top ≤ j) × (j < f.bottom))
    → is_in_fill f i j
    ≡ is_in (rect_at (pos x) (pos y) w h) (pos (col * 64 + i)) (pos (row * 64 + j))
fill_met f x y w h col row i j across back_across down back_down =
    let rect = rect_at (pos x) (pos y) w h in
    same_test (is_in_fill f i j) (is_in rect (pos (col * 64 + i)) (pos (row * 64 + j)))
    (λ t.
    let is = fill_facts f i j t in
    let of_x = across is.left is.right in
    let of_y = down is.top is.bottom in
    let x0 = of_x.0 in
    let x1 = of_x.1 in
    let y0 = of_y.0 in
    let y1 = of_y.1 in
    is_in_by rect (pos (col * 64 + i)) (pos (row * 64 + j)) (record {
      x0 = omega (arith, ints);
      x1 = omega (arith, ints);
      y0 = omega (arith, ints);
      y1 = omega (arith, ints);
    }))
    (λ t.
    let r = is_in-true rect (pos (col * 64 + i)) (pos (row * 64 + j)) t in
    let x0 = r.x0 in
    let x1 = r.x1 in
    let y0 = r.y0 in
    let y1 = r.y1 in
    let of_x = back_across (omega (arith, ints)) (omega (arith, ints)) in
    let of_y = back_down (omega (arith, ints)) (omega (arith, ints)) in
    fill_by f i j (record { left = of_x.0; right = of_x.1; top = of_y.0; bottom = of_y.1 }))

-- ---- dabs

-- a dab, counted from the corner of a tile
abbrev pub on_tile : PlacedDab → ℕ → ℕ → PlacedDab
on_tile dab col row = record {
  at = record { x = tile_place dab.at.x col; y = tile_place dab.at.y row };
  size = dab.size;
  opacity = dab.opacity;
}

module _ (dab : PlacedDab) (size : dab.size < 256) (col row i j : ℕ) (in_x : i < 64)
    (in_y : j < 64) where
  abbrev x : ℤ
  x = pos (col * 64 + i)

  abbrev y : ℤ
  y = pos (row * 64 + j)

  abbrev tile : Rect
  tile = dab_rect (on_tile dab col row)

  -- if it is met it wasn't moved
  record IsMet : Type 0 where
    across : tile_place dab.at.x col ≡ dab.at.x -ℤ pos (col * 64)
    down : tile_place dab.at.y row ≡ dab.at.y -ℤ pos (row * 64)

  met_in : is_in tile (pos i) (pos j) ≡ true → IsMet
  met_in t =
      let r = is_in-true tile (pos i) (pos j) t in
      let x0 = r.x0 in
      let x1 = r.x1 in
      let y0 = r.y0 in
      let y1 = r.y1 in
      record {
        across = omega (
          arith,
          ints,
          x0,
          x1,
          size,
          in_x,
          int_max_is (pos 0 -ℤ pos 128) (int_min (dab.at.x -ℤ pos (col * 64)) (pos 191)),
          int_min_is (dab.at.x -ℤ pos (col * 64)) (pos 191),
        );
        down = omega (
          arith,
          ints,
          y0,
          y1,
          size,
          in_y,
          int_max_is (pos 0 -ℤ pos 128) (int_min (dab.at.y -ℤ pos (row * 64)) (pos 191)),
          int_min_is (dab.at.y -ℤ pos (row * 64)) (pos 191),
        );
      }

  met_by : is_in (dab_rect dab) x y ≡ true → IsMet
  met_by t =
      let r = is_in-true (dab_rect dab) x y t in
      let x0 = r.x0 in
      let x1 = r.x1 in
      let y0 = r.y0 in
      let y1 = r.y1 in
      record {
        across = omega (
          arith,
          ints,
          x0,
          x1,
          size,
          in_x,
          int_max_is (pos 0 -ℤ pos 128) (int_min (dab.at.x -ℤ pos (col * 64)) (pos 191)),
          int_min_is (dab.at.x -ℤ pos (col * 64)) (pos 191),
        );
        down = omega (
          arith,
          ints,
          y0,
          y1,
          size,
          in_y,
          int_max_is (pos 0 -ℤ pos 128) (int_min (dab.at.y -ℤ pos (row * 64)) (pos 191)),
          int_min_is (dab.at.y -ℤ pos (row * 64)) (pos 191),
        );
      }

  rect_same : is_in tile (pos i) (pos j) ≡ is_in (dab_rect dab) x y
  rect_same =
      same_test (is_in tile (pos i) (pos j)) (is_in (dab_rect dab) x y)
      (λ t.
      let met = met_in t in
      let a = met.across in
      let d = met.down in
      let r = is_in-true tile (pos i) (pos j) t in
      let x0 = r.x0 in
      let x1 = r.x1 in
      let y0 = r.y0 in
      let y1 = r.y1 in
      is_in_by (dab_rect dab) x y (record {
        x0 = omega (arith, ints, a, x0);
        x1 = omega (arith, ints, a, x1);
        y0 = omega (arith, ints, d, y0);
        y1 = omega (arith, ints, d, y1);
      }))
      (λ t.
      let met = met_by t in
      let a = met.across in
      let d = met.down in
      let r = is_in-true (dab_rect dab) x y t in
      let x0 = r.x0 in
      let x1 = r.x1 in
      let y0 = r.y0 in
      let y1 = r.y1 in
      is_in_by tile (pos i) (pos j) (record {
        x0 = omega (arith, ints, a, x0);
        x1 = omega (arith, ints, a, x1);
        y0 = omega (arith, ints, d, y0);
        y1 = omega (arith, ints, d, y1);
      }))

  disc_same : IsMet → is_in_disc dab.size (pos i -ℤ tile.x0) (pos j -ℤ tile.y0)
      ≡ is_in_disc dab.size (x -ℤ (dab_rect dab).x0) (y -ℤ (dab_rect dab).y0)
  disc_same met =
      let a = met.across in
      let d = met.down in
      let of_x : pos i -ℤ tile.x0 ≡ x -ℤ (dab_rect dab).x0 = omega (arith, ints, a) in
      let of_y : pos j -ℤ tile.y0 ≡ y -ℤ (dab_rect dab).y0 = omega (arith, ints, d) in
      ap (λ (z : ℤ). is_in_disc dab.size z (pos j -ℤ tile.y0)) of_x
      ∙ ap (is_in_disc dab.size (x -ℤ (dab_rect dab).x0)) of_y

  and_same : (s t a b : Bool) → s ≡ t → (t ≡ true → a ≡ b) → (s && a) ≡ (t && b)
  and_same true true a b same then = then refl
  and_same false false a b same then = refl
  and_same true false a b same then = absurd (false≢true (sym same))
  and_same false true a b same then = absurd (false≢true same)

  covers_same : (shape : Shape)
      → dab_covers shape (on_tile dab col row) (pos i) (pos j) ≡ dab_covers shape dab x y
  covers_same Square = rect_same
  covers_same Round =
      and_same (is_in tile (pos i) (pos j)) (is_in (dab_rect dab) x y)
      (is_in_disc dab.size (pos i -ℤ tile.x0) (pos j -ℤ tile.y0))
      (is_in_disc dab.size (x -ℤ (dab_rect dab).x0) (y -ℤ (dab_rect dab).y0)) rect_same
      (λ t. disc_same (met_by t))

  -- a dab does on the tile what it does there
  pub dab_moved : (shape : Shape) (mode : Mode) (color p : Channels)
      → dab_blended shape mode color (on_tile dab col row) (pos i) (pos j) p
      ≡ dab_blended shape mode color dab x y p
  dab_moved shape mode color p =
      ap (λ (t : Bool). cond t (blend mode (fade color (from8 dab.opacity)) p) p)
      (covers_same shape)

-- ---- what was added

-- what was added, by an equal change
pub adds_same : (among : OnTile → Type 0) (area : CellArea) (f g : ℤ → ℤ → Channels → Channels)
    (old new : Lists) → ((x y : ℤ) (p : Channels) → f x y p ≡ g x y p)
    → IsChangedOn area (AddsMore among f) old new → IsChangedOn area (AddsMore among g) old new
adds_same among area f g old new same is = record {
  first = is.first;
  len = is.len;
  inside = λ col row i.
      let both = is.inside col row i in (
        both.0,
        λ t a b p at_col at_row is_in in_x in_y. both.1 t a b p at_col at_row is_in in_x in_y
            ∙ same (pos (col * 64 + a)) (pos (row * 64 + b))
            (ops_at t (list_at old col row).more a b p),
      );
  outside = is.outside;
}

-- a change that keeps each pixel
pub adds_none : (among : OnTile → Type 0) (area : CellArea) (f : ℤ → ℤ → Channels → Channels)
    (lists : Lists) → ((x y : ℤ) (p : Channels) → f x y p ≡ p)
    → IsChangedOn area (AddsMore among f) lists lists
adds_none among area f lists keeps = record {
  first = refl;
  len = refl;
  inside = λ col row i. (
    refl,
    λ t a b p at_col at_row is_in in_x in_y. sym (keeps (pos (col * 64 + a)) (pos (row * 64 + b))
        (ops_at t (list_at lists col row).more a b p)),
  );
  outside = λ col row few out. refl;
}

-- one change after another, which is added if it changes something
pub adds_then : (among : OnTile → Type 0) (area met : CellArea)
    (f g both : ℤ → ℤ → Channels → Channels)
    (old now new : Lists)
    → ((col row : ℕ) → IsInside met col row → IsInside area col row) → area.right ≤ 64
    → ((col row i j : ℕ) (p : Channels) → IsInside area col row → (IsInside met col row → ⊥)
    → i < 64 → j < 64 → g (pos (col * 64 + i)) (pos (row * 64 + j)) p ≡ p)
    → ((x y : ℤ) (p : Channels) → both x y p ≡ g x y (f x y p))
    → IsChangedOn area (AddsMore among f) old now → IsChangedOn met (AddsMore among g) now new
    → IsChangedOn area (AddsMore among both) old new
adds_then among area met f g both old now new within few keeps is before then = record {
  first = then.first ∙ before.first;
  len = then.len ∙ before.len;
  inside = λ col row i.
      let first = before.inside col row i in
      ⊎_elim (λ here.
      let more = then.inside col row (inside_facts met col row here) in (
        more.0 ∙ first.0,
        λ t a b p at_col at_row is_in in_x in_y.
            let x = pos (col * 64 + a) in
            let y = pos (row * 64 + b) in
            more.1 t a b p at_col at_row is_in in_x in_y
            ∙ ap (g x y) (first.1 t a b p at_col at_row is_in in_x in_y)
            ∙ sym (is x y (ops_at t (list_at old col row).more a b p)),
      ))
      (λ beside.
      let out : IsInside met col row → ⊥ =
      λ j. false≢true (sym beside ∙ inside_by met col row j) in
      let in_cols : col < 64 = omega (arith, i.right, few) in
      let stays = then.outside col row in_cols out in (
        ap (λ (w : Waiting). w.ops) stays ∙ first.0,
        λ t a b p at_col at_row is_in in_x in_y.
            let x = pos (col * 64 + a) in
            let y = pos (row * 64 + b) in
            ap (λ (w : Waiting). ops_at t w.more a b p) stays
            ∙ first.1 t a b p at_col at_row is_in in_x in_y
            ∙ sym (keeps col row a b (f x y (ops_at t (list_at old col row).more a b p)) i out in_x
            in_y)
            ∙ sym (is x y (ops_at t (list_at old col row).more a b p)),
      ))
      (cases_Bool (is_in_cells met col row));
  outside = λ col row in_cols out.
      then.outside col row in_cols (λ j. out (within col row j))
      ∙ before.outside col row in_cols out;
}

-- lists of which what was added was dropped
pub dropped_same : (area : CellArea) (old new : Lists) → IsChangedOn area (IsFinished Drop) old new
    → HaveSame old new
dropped_same area old new is col row few =
    ⊎_elim (λ t.
    ap (λ (w : Waiting). w.ops) (is.inside col row (inside_facts area col row t)))
    (λ t.
    ap (λ (w : Waiting). w.ops) (is.outside col row few
    (λ i. false≢true (sym t ∙ inside_by area col row i))))
    (cases_Bool (is_in_cells area col row))

-- the pixel after one dab more
pub dabs_next : (shape : Shape) (mode : Mode) (color : Channels) (items : List NearDab) (k : ℕ)
    (d : NearDab) → k < length items → d ≡ get_or items k d → (x y : ℤ) (p : Channels)
    → dabs_blended shape mode color (take (k + 1) (map (λ (near : NearDab). near.dab) items)) x y p
    ≡ dab_blended shape mode color d.dab x y
    (dabs_blended shape mode color (take k (map (λ (near : NearDab). near.dab) items)) x y p)
dabs_next shape mode color items k d inside is x y p =
    let f = λ (near : NearDab). near.dab in
    let placed = map f items in
    ap (λ (dabs : List PlacedDab). dabs_blended shape mode color dabs x y p)
    (take_more placed k d.dab (omega (arith, inside, length-map items f))
    ∙ ap (λ (e : PlacedDab). take k placed ++ e ∷ [])
    (get_or-map f items k d d.dab inside ∙ ap f (sym is)))
    ∙ fold-append (λ (under : Channels) (e : PlacedDab). dab_blended shape mode color e x y under)
    p (take k placed) (d.dab ∷ [])

-- a command that has the number stands there, whatever it is
pub numbered_stands : (wide high number : ℕ) (op : Draw) (t : OnTile)
    → IsNumbered wide high number op t → StandsOn wide high number op t
numbered_stands wide high number (draws.FillRect layer mode a b w h color) t is = tt
numbered_stands wide high number (draws.DabsRound layer a b r g c mode dabs) t is = tt
numbered_stands wide high number (draws.DabsSquare layer a b r g c mode dabs) t is = tt
numbered_stands wide high number _ t is = is

-- a fill and dabs stand anywhere
pub waits_stand : (wide high number : ℕ) (op : Draw) (t : OnTile) → MayWait op
    → StandsOn wide high number op t
waits_stand wide high number (draws.FillRect layer mode a b w h color) t may = tt
waits_stand wide high number (draws.DabsRound layer a b r g c mode dabs) t may = tt
waits_stand wide high number (draws.DabsSquare layer a b r g c mode dabs) t may = tt
waits_stand wide high number _ t may = absurd may

-- what was filed draws the command on the canvas
pub filed_drawn : (wide high number : ℕ) (op : Draw) (t : OnTile) (x y : ℕ) (p : Channels)
    → StandsOn wide high number op t → x < t.width → y < t.height
    → filed_at wide high op (pos x) (pos y) p ≡ pixel_drawn t.width t.height op (pos x) (pos y) p
filed_drawn wide high number (draws.FillRect layer mode a b w h color) t x y p stands in_x in_y =
    let on = on_canvas t.width t.height x y in_x in_y in rw on refl
filed_drawn wide high number (draws.DabsRound layer a b r g c mode dabs) t x y p stands in_x in_y =
    let on = on_canvas t.width t.height x y in_x in_y in rw on refl
filed_drawn wide high number (draws.DabsSquare layer a b r g c mode dabs) t x y p stands in_x in_y =
    let on = on_canvas t.width t.height x y in_x in_y in rw on refl
filed_drawn wide high number _ t x y p stands in_x in_y = rw (stands.width, stands.height) refl

-- what was added and kept was filed
pub is_filed : (among : OnTile → Type 0) (op : Draw) (change : ℤ → ℤ → Channels → Channels)
    (area : CellArea) (old grown added kept : Lists) → area.right ≤ 64
    → ((t : OnTile) (x y : ℕ) (p : Channels) → among t → x < t.width → y < t.height
    → change (pos x) (pos y) p ≡ pixel_drawn t.width t.height op (pos x) (pos y) p)
    → HaveSameLists old grown → AllCount old
    → IsChangedOn area (AddsMore among change) grown added
    → IsChangedOn area (IsFinished Keep) added kept
    → IsFiled among op area old kept
is_filed among op change area old grown added kept few draws same counts adds keeps = record {
  inside = λ t is_in is i j p in_x in_y on_x on_y.
      let col = t.col in
      let row = t.row in
      let x = col * 64 + i in
      let y = row * 64 + j in
      let in_cols : col < 64 = omega (arith, is.right, few) in
      let more = adds.inside col row is in
      let w = list_at added col row in
      let none : (list_at grown col row).more ≡ [] =
      ap (λ (l : Waiting). l.more) (same col row in_cols) ∙ counts col row in_cols in
      let ops : w.ops ≡ listed_at old col row =
      more.0 ∙ ap (λ (l : Waiting). l.ops) (same col row in_cols) in
      ap (λ (l : Waiting). ops_at t l.ops i j p) (keeps.inside col row is)
      ∙ fold-append (λ (under : Channels) (o : TileOp). op_at t o i j under) p w.ops w.more
      ∙ more.1 t i j (ops_at t w.ops i j p) refl refl is_in in_x in_y
      ∙ ap (λ (l : List TileOp). change (pos x) (pos y) (ops_at t l i j (ops_at t w.ops i j p)))
      none
      ∙ ap (λ (l : List TileOp). change (pos x) (pos y) (ops_at t l i j p)) ops
      ∙ draws t x y (ops_at t (listed_at old col row) i j p) is_in on_x on_y;
  outside = λ col row in_cols out.
      ap (λ (l : Waiting). l.ops) (keeps.outside col row in_cols out
      ∙ adds.outside col row in_cols out ∙ same col row in_cols);
}

-- what was put on the one cell of an area was filed
pub put_filed : (among : OnTile → Type 0) (op : Draw) (put change : ℤ → ℤ → Channels → Channels)
    (area : CellArea) (old new : Lists) → area.right ≡ area.left + 1 → area.bottom ≡ area.top + 1
    → ((t : OnTile) (x y : ℕ) (p : Channels) → among t → x < t.width → y < t.height
    → change (pos x) (pos y) p ≡ pixel_drawn t.width t.height op (pos x) (pos y) p)
    → ((x y : ℤ) (p : Channels) → change x y p ≡ put x y p)
    → IsChangedOn (row_to area.top area.left (area.left + 1)) (PutsMore anywhere put) old new
    → IsFiled among op area old new
put_filed among op put change area old new one_col one_row draws same puts = record {
  inside = λ t is_in is i j p in_x in_y on_x on_y.
      let x = t.col * 64 + i in
      let y = t.row * 64 + j in
      let under = ops_at t (listed_at old t.col t.row) i j p in
      (puts.inside t.col t.row (record {
        left = is.left;
        right = omega (arith, is.right, one_col);
        top = is.top;
        bottom = omega (arith, is.bottom, one_row);
      })).1 t i j p refl refl tt in_x in_y
      ∙ sym (same (pos x) (pos y) under)
      ∙ draws t x y under is_in on_x on_y;
  outside = λ col row in_cols out.
      ap (λ (l : Waiting). l.ops) (puts.outside col row in_cols (λ j. out (record {
        left = j.left;
        right = omega (arith, j.right, one_col);
        top = j.top;
        bottom = omega (arith, j.bottom, one_row);
      })));
}
