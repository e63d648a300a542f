-- Bytes have their parts, and their lines, in one way.
use Rattle.std.proofs.Common.{◌≡◌, ◌≢◌, ℕ, List, [], ◌∷◌, ◌++◌, length, refl, sym, ap, ◌∙◌, subst}
use Rattle.std.proofs.Common.{arith, append_assoc}
use Rattle.std.specs.List.{All, flat_map, join_with_byte}
use Rattle.std.proofs.lemmas.List.Elements.{All-nil, All-cons, All-head, All-tail, All-same}
use Rattle.std.proofs.lemmas.List.Splits.{join_with_byte-slice_split}
use Rattle.dp_lines.specs.Lines.{newline, pieces, Lacks, ended, open_rest}
use Rattle.dp_lines.proofs.Pieces.{Parts, parts_of, last, next, pieces_lacking, pieces_at}
use Rattle.dp_lines.proofs.Pieces.{some_piece, ended_none, rest_none, ended_at, rest_at}

pub join-pieces : (separator : ℕ) (bytes : List ℕ)
    → join_with_byte separator (pieces separator bytes) ≡ bytes
join-pieces separator bytes = join_with_byte-slice_split separator bytes

pub pieces_some : (separator : ℕ) (bytes : List ℕ) → pieces separator bytes ≢ []
pieces_some separator bytes none = omega (arith, some_piece separator bytes, ap length none)

-- no part holds a separator
lacking_parts : (separator : ℕ) (bytes : List ℕ) → Parts separator bytes
    → All (Lacks separator) (pieces separator bytes)
lacking_parts separator _ (last bytes lacks) =
    All-same (Lacks separator) (pieces separator bytes) (bytes ∷ [])
    (pieces_lacking separator bytes lacks)
    (All-cons (Lacks separator) bytes [] lacks (All-nil (Lacks separator)))
lacking_parts separator _ (next bytes part after whole lacks parts) =
    All-same (Lacks separator) (pieces separator bytes) (part ∷ pieces separator after)
    (ap (pieces separator) whole ∙ pieces_at separator part after lacks)
    (All-cons (Lacks separator) part (pieces separator after) lacks
    (lacking_parts separator after parts))

pub pieces_lack : (separator : ℕ) (bytes : List ℕ) → All (Lacks separator) (pieces separator bytes)
pieces_lack separator bytes = lacking_parts separator bytes (parts_of separator bytes)

-- parts without a separator are the parts of what they are joined to
pub pieces-join : (separator : ℕ) (parts : List (List ℕ)) → parts ≢ [] → All (Lacks separator) parts
    → pieces separator (join_with_byte separator parts) ≡ parts
pieces-join separator [] some lack = absurd (some refl)
pieces-join separator (part ∷ []) some lack = pieces_lacking separator part
    (All-head (Lacks separator) part [] lack)
pieces-join separator (part ∷ other ∷ more) some lack =
    pieces_at separator part (join_with_byte separator (other ∷ more))
    (All-head (Lacks separator) part (other ∷ more) lack)
    ∙ ap (λ (ps : List (List ℕ)). part ∷ ps)
    (pieces-join separator (other ∷ more) (λ none. cc (none))
    (All-tail (Lacks separator) part (other ∷ more) lack))

-- one line more in front
one_line : (line more : List ℕ) → (line ++ newline ∷ []) ++ more ≡ line ++ newline ∷ more
one_line line more = append_assoc line (newline ∷ []) more

-- the bytes are their lines with newlines, and their rest
whole_parts : (bytes : List ℕ) → Parts newline bytes
    → bytes ≡ flat_map (λ line. line ++ newline ∷ []) (ended bytes) ++ open_rest bytes
whole_parts _ (last bytes lacks) =
    sym (rest_none bytes lacks)
    ∙ ap (λ (ls : List (List ℕ)). flat_map (λ line. line ++ newline ∷ []) ls ++ open_rest bytes)
    (sym (ended_none bytes lacks))
whole_parts _ (next bytes line after whole lacks parts) =
    let flat = flat_map (λ line. line ++ newline ∷ []) in
    let ends = ap ended whole ∙ ended_at line after lacks in
    let rests = ap open_rest whole ∙ rest_at line after lacks in
    whole
    ∙ ap (λ (b : List ℕ). line ++ newline ∷ b) (whole_parts after parts)
    ∙ sym (one_line line (flat (ended after) ++ open_rest after))
    ∙ sym (append_assoc (line ++ newline ∷ []) (flat (ended after)) (open_rest after))
    ∙ ap (λ (ls : List (List ℕ)). flat ls ++ open_rest after) (sym ends)
    ∙ ap (λ (b : List ℕ). flat (ended bytes) ++ b) (sym rests)

pub ended_and_rest : (bytes : List ℕ)
    → bytes ≡ flat_map (λ line. line ++ newline ∷ []) (ended bytes) ++ open_rest bytes
ended_and_rest bytes = whole_parts bytes (parts_of newline bytes)

-- no ended line holds a newline
lacking_lines : (bytes : List ℕ) → Parts newline bytes → All (Lacks newline) (ended bytes)
lacking_lines _ (last bytes lacks) =
    All-same (Lacks newline) (ended bytes) [] (ended_none bytes lacks) (All-nil (Lacks newline))
lacking_lines _ (next bytes line after whole lacks parts) =
    All-same (Lacks newline) (ended bytes) (line ∷ ended after)
    (ap ended whole ∙ ended_at line after lacks)
    (All-cons (Lacks newline) line (ended after) lacks (lacking_lines after parts))

pub ended_lack : (bytes : List ℕ) → All (Lacks newline) (ended bytes)
ended_lack bytes = lacking_lines bytes (parts_of newline bytes)

-- nor does the rest
lacking_rest : (bytes : List ℕ) → Parts newline bytes → Lacks newline (open_rest bytes)
lacking_rest _ (last bytes lacks) = subst (Lacks newline) (sym (rest_none bytes lacks)) lacks
lacking_rest _ (next bytes line after whole lacks parts) =
    subst (Lacks newline) (sym (ap open_rest whole ∙ rest_at line after lacks))
    (lacking_rest after parts)

pub rest_lacks : (bytes : List ℕ) → Lacks newline (open_rest bytes)
rest_lacks bytes = lacking_rest bytes (parts_of newline bytes)

-- lines with newlines and a rest are the lines and the rest of their bytes
pub lines_only : (lines : List (List ℕ)) (rest : List ℕ) → All (Lacks newline) lines
    → Lacks newline rest
    → (ended (flat_map (λ line. line ++ newline ∷ []) lines ++ rest) ≡ lines)
    × (open_rest (flat_map (λ line. line ++ newline ∷ []) lines ++ rest) ≡ rest)
lines_only [] rest lack lacks = (ended_none rest lacks, rest_none rest lacks)
lines_only (line ∷ lines) rest lack lacks =
    let flat = flat_map (λ line. line ++ newline ∷ []) in
    let head = All-head (Lacks newline) line lines lack in
    let after = lines_only lines rest (All-tail (Lacks newline) line lines lack) lacks in
    let bytes = append_assoc (line ++ newline ∷ []) (flat lines) rest
    ∙ one_line line (flat lines ++ rest) in (
      ap ended bytes ∙ ended_at line (flat lines ++ rest) head
          ∙ ap (λ (ls : List (List ℕ)). line ∷ ls) after.0,
      ap open_rest bytes ∙ rest_at line (flat lines ++ rest) head ∙ after.1,
    )
