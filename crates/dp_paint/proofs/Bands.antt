-- What waits on a grid, painted by workers.
use Rattle.std.proofs.Common.{◌≡◌, ℕ, zero, suc, ◌+◌, ◌-◌, ◌*◌, ◌/◌, ◌%◌, ◌<◌, ◌≤◌, List, [], ◌∷◌}
use Rattle.std.proofs.Common.{◌++◌, length, get_or, take, drop, ap, sym, ◌∙◌, refl, arith, ⊎_elim}
use Rattle.std.proofs.Common.{cond, leb, true, false}
use Rattle.std.specs.Prelude.{Bool}
use Rattle.std.proofs.lemmas.Bool.{cases_lt}
use Rattle.std.proofs.lemmas.List.{length-take, take-append-drop, take_more}
use Rattle.std.proofs.Math.Seq.{take-append-add}
use Rattle.std.proofs.lemmas.List.Sums.{fold-append}
use Rattle.dp_blend.specs.Color.{Channels}
use Rattle.dp_blend.proofs.Canvas.{canvas_of-same}
use Rattle.dp_msg_draw.specs.declared.draw.Draw.{Draw}
use Rattle.dp_pixels.specs.Commands.{pixels_after}
use Rattle.dp_tile.specs.Tiles.{TileGrid, grid_pixel, grid_pixels}
use Rattle.dp_ops.specs.declared.op.TileOp.{TileOp}
use Rattle.dp_ops.specs.declared.lists.Finish.TheVariants.{Clear}
use Rattle.dp_paint.specs.Jobs.{band_at}
use Rattle.dp_ops.specs.Lists.{AllCount, IsChangedOn, IsFinished, Lists, Waiting}
use Rattle.dp_paint.specs.Layers.{layer_pixels}
use Rattle.dp_ops.specs.Lists.{list_at, listed_at, no_list}
use Rattle.dp_paint.specs.Layers.{waiting_pixel}
use Rattle.dp_paint.specs.Jobs.{tiles_waiting}
use Rattle.dp_ops.specs.Ops.{on_tile, ops_at}
use Rattle.dp_paint.specs.Painting.{pixels_after_all}
use Rattle.dp_paint.proofs.Counts.{waiting_same, waiting_suc, waiting_zero, waits_none}
use Rattle.dp_paint.proofs.Counts.{waits_same}

-- ---- no operation

-- a grid on which nothing waits
pub none_waits : (width height : ℕ) (commands : List Draw) (lists : Lists) (g : TileGrid)
    → width ≤ 4096 → height ≤ 4096
    → ((col row : ℕ) → col < 64 → row < 64 → listed_at lists col row ≡ [])
    → layer_pixels width height commands lists g ≡ grid_pixels width height g
none_waits width height commands lists g wide high none =
    canvas_of-same width height (waiting_pixel width height commands lists g) (grid_pixel g)
    (λ x y in_x in_y.
    ap (λ (ops : List TileOp). ops_at (on_tile width height commands (x / 64) (y / 64)) ops
    (x % 64) (y % 64) (grid_pixel g x y))
    (none (x / 64) (y / 64) (omega (arith, in_x, wide)) (omega (arith, in_y, high))))

-- no list is there
empty_list : (lists : Lists) → lists.lists ≡ [] → (col row : ℕ) → list_at lists col row ≡ no_list
empty_list lists none col row = rw none (either (leb lists.first row))
  where
    either : (t : Bool) → cond t no_list no_list ≡ no_list
    either true = refl
    either false = refl

pub empty_counts : (lists : Lists) → lists.lists ≡ [] → AllCount lists
empty_counts lists none col row few = ap (λ (w : Waiting). w.more) (empty_list lists none col row)

pub empty_waits : (lists : Lists) → lists.lists ≡ [] → (n : ℕ) → tiles_waiting lists n ≡ 0
empty_waits lists none zero = waiting_zero lists
empty_waits lists none (suc n) =
    omega (
      arith,
      waiting_suc lists n,
      empty_waits lists none n,
      waits_none lists n
          (ap (λ (w : Waiting). w.ops) (empty_list lists none (n % 64) (n / 64))),
    )

-- ---- a band of rows

module _ (band : ℕ) (before after : Lists)
    (is : IsChangedOn (band_at (band * 8)) (IsFinished Clear) before after) where
  -- nothing waits on it and on those above
  pub band_empty : ((col row : ℕ) → col < 64 → row < band * 8 → listed_at before col row ≡ [])
      → (col row : ℕ) → col < 64 → row < (band + 1) * 8 → listed_at after col row ≡ []
  band_empty none col row few below =
      ⊎_elim (λ (above : row < band * 8).
      ap (λ (w : Waiting). w.ops) (is.outside col row few
      (λ i. let top = i.top in absurd (omega (arith, top, above))))
      ∙ none col row few above)
      (λ here.
      ap (λ (w : Waiting). w.ops) (is.inside col row (record {
        left = omega arith;
        right = few;
        top = here;
        bottom = omega (arith, below);
      })))
      (cases_lt row (band * 8))

  -- what waits below it stays
  pub band_rest : (initial : Lists) → ((col row : ℕ) → col < 64 → band * 8 ≤ row
      → listed_at before col row ≡ listed_at initial col row)
      → (col row : ℕ) → col < 64 → (band + 1) * 8 ≤ row
      → listed_at after col row ≡ listed_at initial col row
  band_rest initial rest col row few below =
      ap (λ (w : Waiting). w.ops) (is.outside col row few
      (λ i. let bottom = i.bottom in absurd (omega (arith, bottom, below))))
      ∙ rest col row few (omega (arith, below))

-- a bound on the tiles that were made for the bands so far, and for one more
pub band_count : (band : ℕ) (initial now : Lists) (start tiles new : ℕ)
    → ((col row : ℕ) → col < 64 → band * 8 ≤ row
    → listed_at now col row ≡ listed_at initial col row)
    → tiles ≤ start + tiles_waiting initial (band * 512)
    → new + tiles_waiting now (band * 8 * 64) ≤ tiles + tiles_waiting now (band * 8 * 64 + 512)
    → new ≤ start + tiles_waiting initial ((band + 1) * 512)
band_count band initial now start tiles new rest few more =
    let first : band * 8 * 64 ≡ band * 512 = omega arith in
    let last : band * 8 * 64 + 512 ≡ band * 512 + 512 = omega arith in
    let end : (band + 1) * 512 ≡ band * 512 + 512 = omega arith in
    let same = waiting_same now initial (band * 512) 512
    (λ k from to. waits_same now initial k
    (rest (k % 64) (k / 64) (omega arith) (omega (arith, from)))) in
    omega (
      arith,
      few,
      more,
      same,
      ap (tiles_waiting now) first,
      ap (tiles_waiting now) last,
      ap (tiles_waiting initial) end,
    )

-- ---- commands one after the other

-- one command more
pub after_more : (width height : ℕ) (commands : List Draw) (k : ℕ) (command : Draw)
    (start before after : List Channels) → k < length commands → command ≡ get_or commands k command
    → before ≡ pixels_after_all width height (take k commands) start
    → after ≡ pixels_after width height command before
    → after ≡ pixels_after_all width height (take (k + 1) commands) start
after_more width height commands k command start before after inside is first then =
    then ∙ ap (pixels_after width height command) first
    ∙ sym (fold-append (λ (old : List Channels) (c : Draw). pixels_after width height c old) start
    (take k commands) (command ∷ []))
    ∙ ap (λ (l : List Draw). pixels_after_all width height l start)
    (ap (λ (c : Draw). take k commands ++ c ∷ []) is ∙ sym (take_more commands k command inside))

-- a part of them more
pub part_more : (width height : ℕ) (first part all : List Draw) (start before after : List Channels)
    → all ≡ first ++ part → before ≡ pixels_after_all width height first start
    → after ≡ pixels_after_all width height part before
    → after ≡ pixels_after_all width height all start
part_more width height first part all start before after are is then =
    then ∙ ap (pixels_after_all width height part) is
    ∙ sym (fold-append (λ (old : List Channels) (c : Draw). pixels_after width height c old) start
    first part)
    ∙ ap (λ (l : List Draw). pixels_after_all width height l start) (sym are)

-- the first of them, up to a part
pub take_part : (all : List Draw) (done next : ℕ) → done ≤ next → done ≤ length all
    → take next all ≡ take done all ++ take (next - done) (drop done all)
take_part all done next order inside =
    let first = take done all in
    let long : length first ≡ done = omega (arith, length-take done all, inside) in
    let at : next ≡ length first + (next - done) = omega (arith, long, order) in
    ap (λ (n : ℕ). take n all) at
    ∙ ap (λ (l : List Draw). take (length first + (next - done)) l)
    (sym (take-append-drop done all))
    ∙ take-append-add first (drop done all) (next - done)
