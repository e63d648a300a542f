-- What an input of lines comes to, if each line is to be a step after those before it.
use Rattle.std.specs.Prelude.{◌≡◌, ℕ, ◌<◌, ◌≤◌, if◌then◌else◌, nat_le, List, [], ◌∷◌, ◌++◌, length}
use Rattle.std.specs.Prelude.{take}
use Rattle.dp_lines.specs.declared.line.Line.{Line}
use Rattle.dp_lines.specs.Held.{IsInLimit}
use Rattle.dp_lines.specs.Lines.{ended, open_rest, lines, numbered, is_overlong}

-- how an input ends: all of its lines are steps, the line of this number is none, or it has more
-- bytes than count
pub data LinesEnd : Type 0 where
  AllDone : LinesEnd
  BadLine : ℕ → LinesEnd
  TooLong : LinesEnd

-- the lines of a prefix of a longer input: the ended ones, and the open rest if it is too long
-- already
abbrev pub lines_of_prefix : List ℕ → List (List ℕ)
lines_of_prefix bytes =
    ended bytes ++ (if is_overlong (open_rest bytes) then open_rest bytes ∷ [] else [])

-- the lines that count: all lines of an input of at most `limit` bytes, and of a longer one those
-- of its first `limit` bytes
abbrev pub seen : ℕ → List ℕ → List Line
seen limit bytes =
    numbered 0
    (if nat_le (length bytes) limit then lines bytes else lines_of_prefix (take limit bytes))

-- the line isn't too long, and is a step after the lines before it
pub record IsDoable (IsStep : List Line → Line → Type 0) (done : List Line) (line : Line) : Type 0
  where
    pub fits : IsInLimit line
    pub step : IsStep done line

-- each line is doable after those before it
abbrev pub AreSteps : (List Line → Line → Type 0) → List Line → Type 0
AreSteps IsStep all =
    (before : List Line) (line : Line) (after : List Line)
    → all ≡ before ++ line ∷ after → IsDoable IsStep before line

-- after the lines `done`, which are steps, the line of this number is none
pub record StopsAt (IsStep : List Line → Line → Type 0) (all done : List Line) (n : ℕ) : Type 0
  where
    pub line : Line
    pub after : List Line
    pub next : all ≡ done ++ line ∷ after
    pub number : line.number ≡ n
    pub steps : AreSteps IsStep done
    pub bad : ¬ IsDoable IsStep done line

-- what an input comes to: how it ends, and the lines that are done before
abbrev pub LinesComeTo : (List Line → Line → Type 0) → ℕ → List ℕ → List Line → LinesEnd → Type 0
LinesComeTo IsStep limit bytes done AllDone =
    (length bytes ≤ limit) × (done ≡ seen limit bytes) × AreSteps IsStep done
LinesComeTo IsStep limit bytes done TooLong =
    (limit < length bytes) × (done ≡ seen limit bytes) × AreSteps IsStep done
LinesComeTo IsStep limit bytes done (BadLine n) = StopsAt IsStep (seen limit bytes) done n
