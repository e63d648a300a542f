-- A pixel while the rows of a parent are laid on it, one after the other.
use Rattle.std.proofs.Common.{◌≡◌, ℕ, ◌+◌, ◌-◌, ◌<◌, ◌≤◌, suc, zero, true, false, cond}
use Rattle.std.proofs.Common.{◌∷◌, ◌++◌, length, get_or, take, drop, sym, ap, ◌∙◌, subst, refl}
use Rattle.std.proofs.Common.{arith, Bool, List, []}
use Rattle.std.proofs.lemmas.List.{take_all, take_rest, take-append-drop, drop_more}
use Rattle.std.proofs.lemmas.List.{get_or_append_left}
use Rattle.std.proofs.lemmas.List.Elements.{filter-append}
use Rattle.std.proofs.lemmas.List.Sums.{fold-append}
use Rattle.std.specs.List.{AllWithin, filter, fold}
use Rattle.dp_blend.specs.Color.{Channels, clear}
use Rattle.dp_layers.specs.declared.row.LayerRow.{LayerRow}
use Rattle.dp_layers.specs.Rows.{layers_of}
use Rattle.dp_pixels.specs.Tiles.{tile_x, tile_y}
use Rattle.dp_plain.specs.Board.{Board}
use Rattle.dp_plain.specs.Picture.{compose, is_seen_in, laid, row_pixel, seen}
use Rattle.dp_flat.specs.declared.tone.TileAt.{TileAt}
use Rattle.dp_flat.specs.declared.tone.Tone.{Tone}
use Rattle.dp_flat.specs.declared.tone.Tone.TheVariants.{Solid, Mixed}
use Rattle.dp_flat.specs.Tones.{tone_at}
use Rattle.dp_flat.specs.Composed.{shown, laid_on, composed_by, HidesBelow, IsDeep}
use Rattle.dp_flat.specs.Composed.{IsEnough, IsPlace}

-- no level is left
pub compose-zero : (board : Board) (parent x y : ℕ) (start : Channels)
    → compose zero (row_pixel board x y) (layers_of board.rows) parent start ≡ start
unfolding compose
compose-zero board parent x y start = refl

-- a level is left: all rows are laid, going down into groups one level less deep
pub compose-suc : (board : Board) (depth parent x y : ℕ) (start : Channels)
    → compose (suc depth) (row_pixel board x y) (layers_of board.rows) parent start
    ≡ composed_by board depth parent (layers_of board.rows) x y start
unfolding compose
compose-suc board depth parent x y start = refl

-- with no level left nothing is laid
pub compose_none : (board : Board) (depth parent x y : ℕ) (start : Channels) → depth ≡ 0
    → start ≡ compose depth (row_pixel board x y) (layers_of board.rows) parent start
compose_none board depth parent x y start none =
    sym (ap (λ n. compose n (row_pixel board x y) (layers_of board.rows) parent start) none
    ∙ compose-zero board parent x y start)

-- once all rows are laid, the levels are composed
pub composed_all : (board : Board) (depth parent : ℕ) (rows : List LayerRow) (x y : ℕ)
    (start : Channels)
    (i : ℕ)
    → 0 < depth → rows ≡ layers_of board.rows → length rows ≤ i
    → composed_by board (depth - 1) parent (take i rows) x y start
    ≡ compose depth (row_pixel board x y) (layers_of board.rows) parent start
composed_all board depth parent rows x y start i some is all =
    let one_more : suc (depth - 1) ≡ depth = omega arith in
    ap (λ rs. composed_by board (depth - 1) parent rs x y start) (take_all i rows all ∙ is)
    ∙ sym (compose-suc board (depth - 1) parent x y start)
    ∙ ap (λ n. compose n (row_pixel board x y) (layers_of board.rows) parent start) one_more

-- what a paint row shows, and a group
pub shown_paint : (board : Board) (depth : ℕ) (row : LayerRow) (x y : ℕ) → row.group ≡ false
    → row_pixel board x y row ≡ shown board depth row x y
shown_paint board depth row x y paints =
    ap (λ b. cond b (compose depth (row_pixel board x y) (layers_of board.rows) row.id clear)
    (row_pixel board x y row)) (sym paints)

-- the pixels of the first buffer of a memory
pub tone_prefix : (tone : Tone) (prefix rest : List Channels) (k : ℕ) → k < length prefix
    → tone_at tone (prefix ++ rest) k ≡ tone_at tone prefix k
tone_prefix (Solid color) prefix rest k inside = refl
tone_prefix Mixed prefix rest k inside = get_or_append_left prefix rest clear k inside

-- ---- rows that hide what is below them

composed_by-append : (board : Board) (depth parent : ℕ) (first rest : List LayerRow) (x y : ℕ)
    (start : Channels)
    → composed_by board depth parent (first ++ rest) x y start
    ≡ composed_by board depth parent rest x y (composed_by board depth parent first x y start)
composed_by-append board depth parent first rest x y start =
    ap (fold (laid_on board depth x y) start) (filter-append (is_seen_in parent) first rest)
    ∙ fold-append (laid_on board depth x y) start (filter (is_seen_in parent) first)
    (filter (is_seen_in parent) rest)

-- from such a row on it doesn't matter what the rows are laid on
from_hiding : (board : Board) (depth parent : ℕ) (row : LayerRow) (rest : List LayerRow) (x y : ℕ)
    (start other : Channels)
    → is_seen_in parent row ≡ true
    → laid_on board depth x y start row ≡ laid_on board depth x y other row
    → composed_by board depth parent (row ∷ rest) x y start
    ≡ composed_by board depth parent (row ∷ rest) x y other
from_hiding board depth parent row rest x y start other seen hides =
    let above = filter (is_seen_in parent) rest in
    let step = laid_on board depth x y in
    let folded : (s : Channels)
    → fold step s (filter (is_seen_in parent) (row ∷ rest)) ≡ fold step (step s row) above =
    λ s. ap (λ b. fold step s (cond b (row ∷ above) above)) seen in
    folded start ∙ ap (λ s. fold step s above) hides ∙ sym (folded other)

-- the rows from such a row on are enough
pub enough_from : (board : Board) (parent : ℕ) (tile : TileAt) (rows : List LayerRow) (k : ℕ)
    (row : LayerRow)
    → k < length rows → row ≡ get_or rows k row → rows ≡ layers_of board.rows
    → is_seen_in parent row ≡ true → HidesBelow board row tile → IsEnough board parent tile k
enough_from board parent tile rows k row inside is all seen hides = λ depth i start place.
    let x = tile_x tile.col i in
    let y = tile_y tile.row i in
    let by = λ (rs : List LayerRow) (s : Channels). composed_by board depth parent rs x y s in
    let here : drop k rows ≡ row ∷ drop (k + 1) rows = drop_more rows k row inside
    ∙ ap (λ r. r ∷ drop (k + 1) rows) (sym is) in
    let from : (s t : Channels) → by (drop k rows) s ≡ by (drop k rows) t = λ s t.
    ap (λ rs. by rs s) here
    ∙ from_hiding board depth parent row (drop (k + 1) rows) x y s t seen (hides depth i s t place)
    ∙ sym (ap (λ rs. by rs t) here) in
    let whole : by (drop k rows) start ≡ by rows start =
    from start (by (take k rows) start)
    ∙ sym (composed_by-append board depth parent (take k rows) (drop k rows) x y start)
    ∙ ap (λ rs. by rs start) (take-append-drop k rows) in
    subst (λ rs. by (drop k rs) start ≡ by rs start) all whole

-- once the rows that are enough are laid, all are composed
pub composed_enough : (board : Board) (depth parent : ℕ) (tile : TileAt)
    (rows above : List LayerRow) (first n k : ℕ) (start now : Channels)
    → IsEnough board parent tile first → 0 < depth → rows ≡ layers_of board.rows
    → above ≡ take (length rows - first) (drop first rows) → length above ≤ n
    → IsPlace board tile k
    → now ≡ composed_by board (depth - 1) parent (take n above) (tile_x tile.col k)
    (tile_y tile.row k) start
    → now ≡ compose depth (row_pixel board (tile_x tile.col k) (tile_y tile.row k))
    (layers_of board.rows) parent start
composed_enough board depth parent tile rows above first n k start now enough some all are last
    place laid =
    let x = tile_x tile.col k in
    let y = tile_y tile.row k in
    let by = λ (rs : List LayerRow). composed_by board (depth - 1) parent rs x y start in
    let more : suc (depth - 1) ≡ depth = omega arith in
    laid ∙ ap by (take_all n above last ∙ are ∙ take_rest rows first ∙ ap (drop first) all)
    ∙ enough (depth - 1) k start place
    ∙ sym (compose-suc board (depth - 1) parent x y start)
    ∙ ap (λ d. compose d (row_pixel board x y) (layers_of board.rows) parent start) more

-- ---- boards without groups

-- both depths give one colour for a row more, seen in the parent or not
flat_row : (board : Board) (m n parent : ℕ) (row : LayerRow) (rows : List LayerRow) (x y : ℕ)
    (start : Channels) (is_seen : Bool)
    → laid_on board m x y start row ≡ laid_on board n x y start row
    → ((s : Channels)
    → composed_by board m parent rows x y s ≡ composed_by board n parent rows x y s)
    → fold (laid_on board m x y) start (cond is_seen (row ∷ filter (is_seen_in parent) rows)
    (filter (is_seen_in parent) rows))
    ≡ fold (laid_on board n x y) start (cond is_seen (row ∷ filter (is_seen_in parent) rows)
    (filter (is_seen_in parent) rows))
flat_row board m n parent row rows x y start false step rest = rest start
flat_row board m n parent row rows x y start true step rest =
    rest (laid_on board m x y start row)
    ∙ ap (λ s. composed_by board n parent rows x y s) step

-- if no row is a group, it makes no difference how deep groups are gone down into
flat_rows : (board : Board) (m n parent : ℕ) (rows : List LayerRow) (x y : ℕ) (start : Channels)
    → ((k : ℕ) (d : LayerRow) → k < length rows → (get_or rows k d).group ≡ false)
    → composed_by board m parent rows x y start ≡ composed_by board n parent rows x y start
flat_rows board m n parent [] x y start paints = refl
flat_rows board m n parent (row ∷ rows) x y start paints =
    let paint : row.group ≡ false = paints zero row (omega arith) in
    let others : (k : ℕ) (d : LayerRow) → k < length rows → (get_or rows k d).group ≡ false =
    λ k d inside. paints (suc k) d (omega arith) in
    let same : shown board m row x y ≡ shown board n row x y =
    sym (shown_paint board m row x y paint) ∙ shown_paint board n row x y paint in
    let step : laid_on board m x y start row ≡ laid_on board n x y start row =
    ap (λ s. laid row s start) same in
    flat_row board m n parent row rows x y start (is_seen_in parent row) step
    (λ s. flat_rows board m n parent rows x y s others)

-- so one level is deep enough
pub deep_flat : (board : Board)
    → AllWithin (λ r. r.group ≡ false) (layers_of board.rows) 0 (length (layers_of board.rows))
    → IsDeep board 1
deep_flat board paints = λ x y start.
    compose-suc board 0 0 x y start
    ∙ flat_rows board 0 15 0 (layers_of board.rows) x y start
    (λ k d inside. paints k d (omega arith) inside)
    ∙ sym (compose-suc board 15 0 x y start)
