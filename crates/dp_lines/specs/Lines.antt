-- The lines of a list of bytes, and the words of a line.
use Rattle.std.specs.Prelude.{◌≢◌, ℕ, ◌+◌, ◌-◌, ◌==◌, Bool, false, if◌then◌else◌, ◌&&◌, ◌||◌, not}
use Rattle.std.specs.Prelude.{nat_lt, List, [], ◌∷◌, ◌++◌, length, take, slice_index_or}
use Rattle.std.specs.List.{All, slice_split}
use Rattle.dp_lines.specs.declared.line.Line.{Line}

-- the byte that ends a line, the one between words, and the one that begins a comment
abbrev pub newline : ℕ
newline = 10

abbrev pub space : ℕ
space = 32

abbrev pub hash : ℕ
hash = 35

-- the parts of the bytes around each separator: one more than there are separators
abbrev pub pieces : ℕ → List ℕ → List (List ℕ)
pieces separator bytes = slice_split (λ byte. byte == separator) bytes

-- no byte is the separator
abbrev pub Lacks : ℕ → List ℕ → Type 0
Lacks separator bytes = All (λ byte. byte ≢ separator) bytes

-- the words of a line
abbrev pub words : List ℕ → List (List ℕ)
words line = pieces space line

-- all but the last
abbrev pub all_but_last : {X : Type 0} → List X → List X
all_but_last xs = take (length xs - 1) xs

-- the lines that have their newline
unfoldable pub ended : List ℕ → List (List ℕ)
ended bytes = all_but_last (pieces newline bytes)

-- what stands after the last newline
unfoldable pub open_rest : List ℕ → List ℕ
open_rest bytes = slice_index_or (pieces newline bytes) (length (pieces newline bytes) - 1) []

-- the list with the bytes as its one item, or none if there are no bytes
abbrev pub if_any : List ℕ → List (List ℕ)
if_any [] = []
if_any (byte ∷ more) = (byte ∷ more) ∷ []

-- all lines: a last one without a newline counts
abbrev pub lines : List ℕ → List (List ℕ)
lines bytes = ended bytes ++ if_any (open_rest bytes)

-- a line that begins with the byte of a comment
abbrev pub is_comment : List ℕ → Bool
is_comment [] = false
is_comment (byte ∷ more) = byte == hash

-- a line that is passed over: an empty one, or a comment
abbrev pub is_skipped : List ℕ → Bool
is_skipped line = length line == 0 || is_comment line

-- how many bytes a line has at most, without its newline
abbrev pub line_limit : ℕ
line_limit = 131100

-- a line that is too long, and no comment
abbrev pub is_overlong : List ℕ → Bool
is_overlong line = not (is_comment line) && nat_lt line_limit (length line)

-- the lines that aren't passed over, each with its number; the first line of all has the number
-- n + 1
abbrev pub numbered : ℕ → List (List ℕ) → List Line
numbered n [] = []
numbered n (line ∷ after) =
    if is_skipped line then numbered (n + 1) after
    else record { number = n + 1; bytes = line } ∷ numbered (n + 1) after
