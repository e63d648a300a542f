-- The laws of lines that a run calls.
use Rattle.std.proofs.Common.{◌≡◌, ◌≢◌, ℕ, ◌+◌, ◌≤◌, List, [], ◌∷◌, ◌++◌, length}
use Rattle.std.specs.Prelude.{IsTrue}
use Rattle.dp_lines.specs.declared.line.Line.{Line}
use Rattle.dp_lines.specs.Ends.{AreSteps, IsDoable, seen}
use Rattle.dp_lines.specs.Held.{Held, IsLeft, NextIsLong, ended_from, lines_from}
use Rattle.dp_lines.specs.Lines.{ended, open_rest, is_overlong}

-- steps with a doable line after them are steps
abbrev pub FurtherStep : (List Line → Line → Type 0) → Type 0
FurtherStep IsStep = (done : List Line) (line : Line) → AreSteps IsStep done
    → IsDoable IsStep done line → AreSteps IsStep (done ++ line ∷ [])

-- more is fed
abbrev pub LeftFed : Type 0
LeftFed = (all more : List ℕ) (done : List Line) (old new : Held) → IsLeft all done old
    → new.bytes ≡ old.bytes ++ more → new.count ≡ old.count → new.fed ≡ old.fed + length more
    → IsLeft (all ++ more) done new

-- ended lines are given
abbrev pub LeftGiven : Type 0
LeftGiven = (all : List ℕ) (done prefix : List Line) (old new : Held) → IsLeft all done old
    → ended_from old ≡ prefix ++ ended_from new
    → new.count + length (ended new.bytes) ≡ old.count + length (ended old.bytes)
    → open_rest new.bytes ≡ open_rest old.bytes → new.fed ≡ old.fed
    → IsLeft all (done ++ prefix) new

-- what was given is a prefix of what is seen
abbrev pub SeenGiven : Type 0
SeenGiven = (limit : ℕ) (all more : List ℕ) (done : List Line) (held : Held) → IsLeft all done held
    → length all ≤ limit
    → (after : List Line) × (seen limit (all ++ more) ≡ done ++ after)

-- a next line that is too long is the next that is seen
abbrev pub SeenLong : Type 0
SeenLong = (limit : ℕ) (all more : List ℕ) (done : List Line) (held : Held) (n : ℕ)
    → IsLeft all done held → length all ≤ limit → NextIsLong held n
    → (line : Line) × (after : List Line) × (seen limit (all ++ more) ≡ done ++ line ∷ after)
    × IsTrue (is_overlong line.bytes) × (line.number ≡ n)

-- at the limit all is given
abbrev pub SeenCut : Type 0
SeenCut = (limit : ℕ) (all more : List ℕ) (done : List Line) (held : Held) → IsLeft all done held
    → length all ≡ limit
    → more ≢ [] → ended_from held ≡ [] → ((n : ℕ) → ¬ NextIsLong held n)
    → seen limit (all ++ more) ≡ done

-- at the end the lines to come are left
abbrev pub SeenWhole : Type 0
SeenWhole = (limit : ℕ) (all : List ℕ) (done : List Line) (held : Held) → IsLeft all done held
    → length all ≤ limit
    → seen limit all ≡ done ++ lines_from held
