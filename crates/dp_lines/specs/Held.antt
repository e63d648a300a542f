-- What is held of a text that comes in pieces.
use Rattle.std.specs.Prelude.{◌≡◌, ℕ, ◌+◌, List, [], ◌∷◌, ◌++◌, length, Option, Some, None, Result}
use Rattle.std.specs.Prelude.{Ok, Err, true}
use Rattle.dp_lines.specs.declared.line.Line.{Line}
use Rattle.dp_lines.specs.declared.lines.LineError.{LineError}
use Rattle.dp_lines.specs.Lines.{ended, open_rest, lines, numbered, is_overlong}

-- how many lines were taken, those that are passed over too; the bytes after them; and how many
-- bytes were fed
pub record Held : Type 0 where
  pub count : ℕ
  pub bytes : List ℕ
  pub fed : ℕ

-- the lines to come that have their newline
abbrev pub ended_from : Held → List Line
ended_from held = numbered held.count (ended held.bytes)

-- the lines to come if nothing more is fed
abbrev pub lines_from : Held → List Line
lines_from held = numbered held.count (lines held.bytes)

-- the line that an answer gives, if it gives one
abbrev pub given : Result (Option Line) LineError → List Line
given (Ok (Some line)) = line ∷ []
given (Ok None) = []
given (Err error) = []

-- the line isn't too long
abbrev pub IsInLimit : Line → Type 0
IsInLimit line = ¬ (is_overlong line.bytes ≡ true)

-- the line to be given next, ended or not, has this number and is too long
pub record NextIsLong (held : Held) (n : ℕ) : Type 0 where
  pub line : Line
  pub after : List Line
  pub next : lines_from held ≡ line ∷ after
  pub long : is_overlong line.bytes ≡ true
  pub number : line.number ≡ n

-- of all the bytes that were fed the lines `done` were given, and this is left
pub record IsLeft (all : List ℕ) (done : List Line) (held : Held) : Type 0 where
  pub whole : numbered 0 (ended all) ≡ done ++ ended_from held
  pub rest : open_rest all ≡ open_rest held.bytes
  pub count : length (ended all) ≡ held.count + length (ended held.bytes)
  pub fed : held.fed ≡ length all
