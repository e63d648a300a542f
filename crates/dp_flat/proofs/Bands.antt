-- A row of tiles of the picture as bytes, and the text of these.
use Rattle.std.proofs.Common.{◌≡◌, ◌≢◌, ℕ, ◌+◌, ◌*◌, ◌/◌, ◌%◌, ◌<◌, ◌≤◌, List, length}
use Rattle.std.proofs.Common.{get_or, take, drop, map, replicate, set, refl, sym, ap, ◌∙◌, subst}
use Rattle.std.proofs.Common.{arith, ⊎_elim}
use Rattle.std.specs.Prelude.{Bool, Option, None, Some}
use Rattle.std.specs.List.{flat_map}
use Rattle.std.proofs.lemmas.Bool.{cases_lt}
use Rattle.std.proofs.lemmas.List.{get_or-replicate, get_or-set_other, length-replicate}
use Rattle.std.proofs.lemmas.List.{get_or-take, get_or-drop, length-take-le, length-drop}
use Rattle.std.proofs.lemmas.List.Folds.{flat_map-map}
use Rattle.std.proofs.lemmas.List.FromFn.{fill_by_all}
use Rattle.std.proofs.lemmas.Grind.{get_or-set_at}
use Rattle.dp_blend.specs.Canvas.{below}
use Rattle.dp_blend.specs.Color.{Channels}
use Rattle.dp_blend.specs.White.{rgb}
use Rattle.dp_pixels.specs.Tiles.{tile_x, tile_y}
use Rattle.dp_blend.proofs.Written.{part_below, part_within}
use Rattle.dp_plain.specs.Board.{Board}
use Rattle.dp_plain.specs.Picture.{seen}
use Rattle.dp_flat.specs.declared.text.Format.{Format}
use Rattle.dp_flat.specs.declared.text.Format.TheVariants.{P6, P3}
use Rattle.dp_flat.specs.Bands.{IsBand, IsLine, band_rgb, black, chunk_pixels, rgb_text}
use Rattle.dp_flat.specs.Texts.{pixel_text_of}
use borrow.Rule.Slice.PartMut.{put_mid}

-- ---- the tiles of a row of tiles

-- the tiles before a column are those of the picture
abbrev pub IsBandBefore : Board → ℕ → ℕ → List (Option (List ℕ)) → List (List ℕ) → Type 0
IsBandBefore board row before colors bytes =
    (col k : ℕ) → col < before → k < 4096 → tile_x col k < board.width → tile_y row k < board.height
    → band_rgb (get_or colors col None) bytes (col * 4096 + k)
    ≡ rgb (seen board (tile_x col k) (tile_y row k))

-- the bytes at a place of one list, and at one of another
bytes_same : (color : Option (List ℕ)) (xs ys : List (List ℕ)) (i j : ℕ)
    → get_or xs i black ≡ get_or ys j black
    → band_rgb color xs i ≡ band_rgb color ys j
bytes_same (Some color) xs ys i j same = refl
bytes_same None xs ys i j same = same

-- the length of a part of a list
pub part_long : {X : Type 0} (start size count : ℕ) (xs : List X) → size ≡ count
    → start + count ≤ length xs
    → length (take size (drop start xs)) ≡ count
part_long start size count xs same fits =
    length-take-le size (drop start xs) (omega (arith, length-drop start xs)) ∙ same

-- one more tile
pub band_more : (board : Board) (row col size : ℕ) (color : Option (List ℕ))
    (colors : List (Option (List ℕ))) (bytes part : List (List ℕ))
    → col < length colors → col * 4096 ≤ length bytes → length part ≡ 4096
    → IsBandBefore board row col colors bytes
    → ((k : ℕ) → k < 4096 → tile_x col k < board.width → tile_y row k < board.height
    → band_rgb color part k ≡ rgb (seen board (tile_x col k) (tile_y row k)))
    → IsBandBefore board row (col + 1) (set colors col color)
    (put_mid (col * 4096) size bytes part)
band_more board row col size color colors bytes part inside fits long before here = λ c k is_before
    in_tile across down.
    let now = put_mid (col * 4096) size bytes part in
    let wanted = λ (n : ℕ). rgb (seen board (tile_x n k) (tile_y row k)) in
    ⊎_elim
    (λ (earlier : c < col).
    let other : c ≢ col = omega arith in
    ap (λ (o : Option (List ℕ)). band_rgb o now (c * 4096 + k))
    (get_or-set_other colors col c color None other)
    ∙ bytes_same (get_or colors c None) now bytes (c * 4096 + k) (c * 4096 + k)
    (part_below (col * 4096) size (c * 4096 + k) bytes part black (omega arith) fits)
    ∙ before c k earlier in_tile across down)
    (λ (later : col ≤ c).
    let same : c ≡ col = omega arith in
    ap (λ (o : Option (List ℕ)). band_rgb o now (c * 4096 + k))
    (get_or-set_at colors col c color None same inside)
    ∙ bytes_same color now part (c * 4096 + k) k
    (part_within (col * 4096) size (c * 4096 + k) k bytes part black (omega arith) (omega arith)
    fits)
    ∙ here k in_tile (subst (λ n. tile_x n k < board.width) same across) down
    ∙ ap wanted (sym same))
    (cases_lt c col)

-- a row of tiles by equal numbers and lists
pub band_same : (board : Board) (row now : ℕ) (was colors : List (Option (List ℕ)))
    (before bytes : List (List ℕ))
    → IsBand board row was before → row ≡ now → colors ≡ was → bytes ≡ before
    → IsBand board now colors bytes
band_same board row now was colors before bytes band same by_colors by_bytes =
    subst (λ n. IsBand board n colors bytes) same
    (subst (λ (l : List (Option (List ℕ))). IsBand board row l bytes) (sym by_colors)
    (subst (λ (l : List (List ℕ)). IsBand board row was l) (sym by_bytes) band))

-- the text of its rows of pixels
pub line_same : (format : Format) (board : Board) (row now : ℕ) (was known : Bool)
    (before text : List ℕ)
    → IsLine format board row was before → row ≡ now → known ≡ was → text ≡ before
    → IsLine format board now known text
line_same format board row now was known before text line same by_known by_text =
    subst (λ n. IsLine format board n known text) same
    (subst (λ (b : Bool). IsLine format board row b text) (sym by_known)
    (subst (λ (l : List ℕ). IsLine format board row was l) (sym by_text) line))

-- ---- the text of a chunk

-- the pixels of a chunk that shows f of each place
pub chunk_shows : (color : Option (List ℕ)) (pixels : List (List ℕ)) (f : ℕ → List ℕ) (count : ℕ)
    → length pixels ≡ count → ((i : ℕ) → i < count → band_rgb color pixels i ≡ f i)
    → chunk_pixels color pixels ≡ map f (below count)
chunk_shows (Some color) pixels f count long each =
    ap (λ n. replicate n color) long
    ∙ fill_by_all f (replicate count color) count color (length-replicate count color)
    (λ i inside. get_or-replicate count i color color inside ∙ each i inside)
chunk_shows None pixels f count long each = fill_by_all f pixels count black long each

-- the text of bytes is that of the pixels
bytes_text : (format : Format) (f : ℕ → Channels) (places : List ℕ)
    → flat_map (rgb_text format) (map (λ i. rgb (f i)) places)
    ≡ flat_map (pixel_text_of format) (map f places)
bytes_text P6 f places =
    flat_map-map (rgb_text P6) (λ i. rgb (f i)) places
    ∙ sym (flat_map-map (pixel_text_of P6) f places)
bytes_text P3 f places =
    flat_map-map (rgb_text P3) (λ i. rgb (f i)) places
    ∙ sym (flat_map-map (pixel_text_of P3) f places)

-- the text of a chunk of the row y, cut out of a row of tiles
pub chunk_text : (format : Format) (board : Board) (y col size count : ℕ)
    (colors : List (Option (List ℕ))) (bytes : List (List ℕ))
    → IsBand board (y / 64) colors bytes → y < board.height → count ≤ 64
    → col * 64 + count ≤ board.width → size ≡ count → col * 4096 + 4096 ≤ length bytes
    → flat_map (rgb_text format) (chunk_pixels (get_or colors col None)
    (take size (drop (col * 4096 + y % 64 * 64) bytes)))
    ≡ flat_map (pixel_text_of format) (map (λ i. seen board (col * 64 + i) y) (below count))
chunk_text format board y col size count colors bytes band down few across same fits =
    let f = λ (i : ℕ). seen board (col * 64 + i) y in
    let start = col * 4096 + y % 64 * 64 in
    let pixels = take size (drop start bytes) in
    let color = get_or colors col None in
    let each : (i : ℕ) → i < count → band_rgb color pixels i ≡ rgb (f i) = λ i inside.
    let k = y % 64 * 64 + i in
    let at_x : tile_x col k ≡ col * 64 + i = omega arith in
    let at_y : tile_y (y / 64) k ≡ y = omega arith in
    let place : start + i ≡ col * 4096 + k = omega arith in
    bytes_same color pixels bytes i (col * 4096 + k)
    (get_or-take size (drop start bytes) i black (omega arith) ∙ get_or-drop start bytes i black
    ∙ ap (λ n. get_or bytes n black) place)
    ∙ band col k (omega arith) (omega arith) (omega arith)
    ∙ ap (λ n. rgb (seen board n (tile_y (y / 64) k))) at_x
    ∙ ap (λ n. rgb (seen board (col * 64 + i) n)) at_y in
    ap (flat_map (rgb_text format)) (chunk_shows color pixels (λ i. rgb (f i)) count
    (part_long start size count bytes same (omega arith)) each)
    ∙ bytes_text format f (below count)

-- the text of a chunk of the row y, if its tile is of one colour
pub solid_text : (format : Format) (board : Board) (y row col count : ℕ) (color : List ℕ)
    (colors : List (Option (List ℕ))) (bytes : List (List ℕ))
    → IsBand board row colors bytes → get_or colors col None ≡ Some color → y / 64 ≡ row
    → y < board.height → count ≤ 64 → col * 64 + count ≤ board.width
    → flat_map (rgb_text format) (replicate count color)
    ≡ flat_map (pixel_text_of format) (map (λ i. seen board (col * 64 + i) y) (below count))
solid_text format board y row col count color colors bytes band solid in_row down few across =
    let f = λ (i : ℕ). seen board (col * 64 + i) y in
    let each : (i : ℕ) → i < count → color ≡ rgb (f i) = λ i inside.
    let k = y % 64 * 64 + i in
    let at_x : tile_x col k ≡ col * 64 + i = omega arith in
    let at_y : tile_y row k ≡ y = omega arith in
    ap (λ (o : Option (List ℕ)). band_rgb o bytes (col * 4096 + k)) (sym solid)
    ∙ band col k (omega arith) (omega arith) (omega arith)
    ∙ ap (λ n. rgb (seen board n (tile_y row k))) at_x
    ∙ ap (λ n. rgb (seen board (col * 64 + i) n)) at_y in
    ap (flat_map (rgb_text format))
    (fill_by_all (λ i. rgb (f i)) (replicate count color) count color (length-replicate count color)
    (λ i inside. get_or-replicate count i color color inside ∙ each i inside))
    ∙ bytes_text format f (below count)
