-- The text of a picture by its rows.
use Rattle.std.proofs.Common.{◌≡◌, ℕ, ◌+◌, ◌-◌, ◌<◌, ◌≤◌, List, ◌∷◌, ◌++◌, map, suc, zero, sym, ap}
use Rattle.std.proofs.Common.{◌∙◌, subst, arith, replicate, refl}
use Rattle.std.proofs.lemmas.List.{append_assoc, append-nil, map-append}
use Rattle.std.proofs.lemmas.List.FromFn.{fill_by_all, get_or-map-range_with_len}
use Rattle.std.proofs.lemmas.List.FromFn.{length-map-range_with_len}
use Rattle.std.proofs.lemmas.Grind.{flat_map-append}
use Rattle.std.specs.List.{range_with_len, flat_map}
use Rattle.std.specs.declared.option.Option.{Option}
use Rattle.dp_blend.specs.Color.{Channels, clear}
use Rattle.dp_blend.specs.Canvas.{below, canvas_of}
use Rattle.dp_plain.specs.Board.{Board}
use Rattle.dp_plain.specs.Picture.{picture, seen}
use Rattle.dp_io.specs.Streams.{GrowsByPrefix}
use Rattle.dp_flat.specs.Composed.{seen_first, seen_row}
use Rattle.dp_flat.specs.Texts.{GrowsBefore}
use Rattle.dp_io.proofs.Prefixes.{grows_within}

range_split : (a m n : ℕ) → range_with_len a (m + n) ≡ range_with_len a m
    ++ range_with_len (a + m) n
range_split a zero n =
    let none : zero + n ≡ n = omega arith in
    let here : a + zero ≡ a = omega arith in
    rw (none, here)
range_split a (suc m) n =
    let more : suc m + n ≡ suc (m + n) = omega arith in
    let later : a + suc m ≡ a + 1 + m = omega arith in
    rw (more, later) (ap (λ rest. a ∷ rest) (range_split (a + 1) m n))

-- the first rows of a canvas, and those below
canvas_split : (w m n : ℕ) (f : ℕ → ℕ → Channels)
    → canvas_of w (m + n) f ≡ canvas_of w m f
    ++ flat_map (λ y. map (λ x. f x y) (below w)) (range_with_len (0 + m) n)
canvas_split w m n f =
    let row = λ (y : ℕ). map (λ x. f x y) (below w) in
    ap (flat_map row) (range_split 0 m n) ∙ flat_map-append row (range_with_len 0 m)
    (range_with_len (0 + m) n)

-- one more row of the picture
pub rows_more : (board : Board) (y : ℕ) → canvas_of board.width (y + 1) (seen board)
    ≡ canvas_of board.width y (seen board) ++ seen_row board y
rows_more board y =
    let row = λ (y : ℕ). map (λ x. seen board x y) (below board.width) in
    let here : 0 + y ≡ y = omega arith in
    canvas_split board.width y 1 (seen board)
    ∙ ap (λ l. canvas_of board.width y (seen board) ++ l) (append-nil (row (0 + y)) ∙ ap row here)

-- the text so far and that of one more row
pub text_more : (text : Channels → List ℕ) (board : Board) (y : ℕ) (prefix : List ℕ)
    → prefix ++ flat_map text (canvas_of board.width y (seen board))
    ++ flat_map text (seen_row board y)
    ≡ prefix ++ flat_map text (canvas_of board.width (y + 1) (seen board))
text_more text board y prefix =
    append_assoc prefix (flat_map text (canvas_of board.width y (seen board)))
    (flat_map text (seen_row board y))
    ∙ ap (λ l. prefix ++ l)
    (sym (flat_map-append text (canvas_of board.width y (seen board)) (seen_row board y))
    ∙ ap (flat_map text) (sym (rows_more board y)))

-- a prefix of the text so far and of one more row is one of the whole text
pub text_failed : (a b : Option (List ℕ)) (text : Channels → List ℕ) (board : Board) (y : ℕ)
    (prefix : List ℕ)
    → y < board.height
    → GrowsByPrefix a b (prefix ++ flat_map text (canvas_of board.width y (seen board))
    ++ flat_map text (seen_row board y))
    → GrowsByPrefix a b (prefix ++ flat_map text (canvas_of board.width board.height (seen board)))
text_failed a b text board y prefix inside some =
    let rest = board.height - (y + 1) in
    let all : y + 1 + rest ≡ board.height = omega arith in
    let pixels_of = λ (y : ℕ). map (λ x. seen board x y) (below board.width) in
    let others = flat_map pixels_of (range_with_len (0 + (y + 1)) rest) in
    let whole : prefix ++ flat_map text (canvas_of board.width (y + 1) (seen board))
    ++ flat_map text others
    ≡ prefix ++ flat_map text (canvas_of board.width board.height (seen board)) =
    append_assoc prefix (flat_map text (canvas_of board.width (y + 1) (seen board)))
    (flat_map text others)
    ∙ ap (λ l. prefix ++ l) (sym (flat_map-append text (canvas_of board.width (y + 1) (seen board))
    others)
    ∙ ap (flat_map text) (sym (canvas_split board.width (y + 1) rest (seen board))
    ∙ ap (λ n. canvas_of board.width n (seen board)) all)) in
    subst (GrowsByPrefix a b) whole
    (grows_within a b (prefix ++ flat_map text (canvas_of board.width (y + 1) (seen board)))
    (flat_map text others)
    (subst (GrowsByPrefix a b) (text_more text board y prefix) some))

-- once all rows are there, the text is whole
pub text_all : (a b : Option (List ℕ)) (text : Channels → List ℕ) (board : Board) (y : ℕ)
    (prefix piece : List ℕ) → y ≡ board.height
    → GrowsBefore a b piece (prefix ++ flat_map text (canvas_of board.width y (seen board)))
    → GrowsBefore a b piece (prefix ++ flat_map text (picture board))
text_all a b text board y prefix piece all before =
    subst (GrowsBefore a b piece)
    (ap (λ n. prefix ++ flat_map text (canvas_of board.width n (seen board))) all) before

-- ---- the chunks of a row

-- the first pixels of a row, and those after them
seen_split : (board : Board) (y x count : ℕ)
    → seen_first board y (x + count)
    ≡ seen_first board y x ++ map (λ i. seen board (x + i) y) (below count)
seen_split board y x count =
    let f = λ (x : ℕ). seen board x y in
    let later : map f (range_with_len (0 + x) count) ≡ map (λ i. f (x + i)) (below count) =
    fill_by_all (λ i. f (x + i)) (map f (range_with_len (0 + x) count)) count clear
    (length-map-range_with_len f (0 + x) count)
    (λ i inside.
    get_or-map-range_with_len f (0 + x) count i (x + i) clear inside (omega arith)) in
    ap (map f) (range_split 0 x count)
    ∙ map-append f (range_with_len 0 x) (range_with_len (0 + x) count)
    ∙ ap (λ l. seen_first board y x ++ l) later

-- the text so far and that of one more chunk
pub chunk_more : (text : Channels → List ℕ) (board : Board) (y x count m n : ℕ) (prefix : List ℕ)
    → m ≡ x → n ≡ x + count
    → prefix ++ flat_map text (seen_first board y m)
    ++ flat_map text (map (λ i. seen board (x + i) y) (below count))
    ≡ prefix ++ flat_map text (seen_first board y n)
chunk_more text board y x count m n prefix here after =
    let chunk = map (λ i. seen board (x + i) y) (below count) in
    append_assoc prefix (flat_map text (seen_first board y m)) (flat_map text chunk)
    ∙ ap (λ l. prefix ++ l)
    (ap (λ k. flat_map text (seen_first board y k) ++ flat_map text chunk) here
    ∙ sym (flat_map-append text (seen_first board y x) chunk)
    ∙ ap (flat_map text) (sym (seen_split board y x count) ∙ ap (seen_first board y) (sym after)))

-- a prefix of the text so far is one of the text with the whole row
pub row_failed : (a b : Option (List ℕ)) (text : Channels → List ℕ) (board : Board) (y n : ℕ)
    (prefix : List ℕ)
    → n ≤ board.width
    → GrowsByPrefix a b (prefix ++ flat_map text (seen_first board y n))
    → GrowsByPrefix a b (prefix ++ flat_map text (seen_row board y))
row_failed a b text board y n prefix within some =
    let rest = board.width - n in
    let all : board.width ≡ n + rest = omega arith in
    subst (GrowsByPrefix a b)
    (chunk_more text board y n rest n board.width prefix refl all)
    (grows_within a b (prefix ++ flat_map text (seen_first board y n))
    (flat_map text (map (λ i. seen board (n + i) y) (below rest))) some)

-- copies of a pixel's text are the texts of copies of the pixel
pub copies_text : (text : List ℕ → List ℕ) (pixel bytes : List ℕ) (count : ℕ)
    → bytes ≡ text pixel
    → flat_map (λ copy. copy) (replicate count bytes) ≡ flat_map text (replicate count pixel)
copies_text text pixel bytes zero is = refl
copies_text text pixel bytes (suc count) is =
    ap (λ l. l ++ flat_map (λ copy. copy) (replicate count bytes)) is
    ∙ ap (λ l. text pixel ++ l) (copies_text text pixel bytes count is)
