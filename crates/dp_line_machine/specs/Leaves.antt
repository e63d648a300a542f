-- What a run over the lines of an input leaves.
use Rattle.std.specs.Prelude.{◌≡◌, ℕ, ◌≤◌, List, ◌∷◌, ◌++◌, length, Option, IfSome, true}
use Rattle.std.specs.Io.KnownBytes.{IsAtEnd}
use Rattle.dp_lines.specs.declared.line.Line.{Line}
use Rattle.dp_lines.specs.Ends.{AreSteps, LinesComeTo, seen}
use Rattle.dp_lines.specs.Ends as ends
use Rattle.dp_lines.specs.Held.{IsInLimit}
use Rattle.dp_lines.specs.Lines.{ended, open_rest, is_overlong, numbered}
use Rattle.dp_lines.specs.TakenParts.{TookWithin}
use Rattle.dp_line_machine.specs.declared.machine.ScriptEnd.{ScriptEnd}
use Rattle.dp_line_machine.specs.declared.machine.ScriptEnd.TheVariants.{Done, BadLine, ReadFault, Long}
use Rattle.dp_line_machine.specs.declared.machine.ScriptEnd.TheVariants.{Memory, Ended}

-- These bytes hold no cause to end: they are no more than count, the lines that are whole in them
-- are steps, and what stands after the last newline isn't too long.
pub record HoldsNoCause (IsStep : List Line → Line → Type 0) (limit : ℕ) (bytes : List ℕ) : Type 0
  where
    pub counts : length bytes ≤ limit
    pub steps : AreSteps IsStep (numbered 0 (ended bytes))
    pub short : ¬ (is_overlong (open_rest bytes) ≡ true)

-- these bytes hold no cause to end, and these are the lines that are whole in them
pub record HoldsLines (IsStep : List Line → Line → Type 0) (limit : ℕ) (done : List Line)
    (bytes : List ℕ) : Type 0 where
  pub lines : done ≡ numbered 0 (ended bytes)
  pub quiet : HoldsNoCause IsStep limit bytes

-- these lines are the first of those, and are steps
pub record AreFirstOf (IsStep : List Line → Line → Type 0) (lines done : List Line) : Type 0 where
  pub after : List Line
  pub parts : lines ≡ done ++ after
  pub steps : AreSteps IsStep done

-- these lines are the first of those, and are steps; this one is the next, and isn't too long
pub record IsNextOf (IsStep : List Line → Line → Type 0) (lines done : List Line) (line : Line) :
    Type 0 where
  pub after : List Line
  pub parts : lines ≡ done ++ line ∷ after
  pub steps : AreSteps IsStep done
  pub fits : IsInLimit line

-- What a run with this end leaves of an input, from its first moment to its last. The lines that
-- were done are those of the input, if its bytes are known: all that count, those before a bad
-- line, or those that are whole in what was taken before a fault.
abbrev pub ScriptLeaves : {X E : Type 0} → (List Line → Line → Type 0)
    → (X → List Line → X → Type 0) → (X → List Line → Line → X → E → Type 0)
    → ℕ → Option (List ℕ) → Option (List ℕ) → X → X → ScriptEnd E → Type 0
ScriptLeaves IsStep Does Ends limit input left start now Done =
    IsAtEnd left × (done : List Line) × Does start done now
    × IfSome input (λ bytes. LinesComeTo IsStep limit bytes done ends.AllDone)
ScriptLeaves IsStep Does Ends limit input left start now (BadLine n) =
    (done : List Line) × Does start done now
    × IfSome input (λ bytes. LinesComeTo IsStep limit bytes done (ends.BadLine n))
ScriptLeaves IsStep Does Ends limit input left start now ReadFault =
    (done : List Line) × Does start done now
    × IfSome input (λ bytes. TookWithin (HoldsLines IsStep limit done) 0 bytes left)
ScriptLeaves IsStep Does Ends limit input left start now Long =
    (done : List Line) × Does start done now
    × IfSome input (λ bytes. LinesComeTo IsStep limit bytes done ends.TooLong)
ScriptLeaves IsStep Does Ends limit input left start now Memory =
    (done : List Line) × Does start done now
    × IfSome input (λ bytes. AreFirstOf IsStep (seen limit bytes) done)
ScriptLeaves IsStep Does Ends limit input left start now (Ended end) =
    (done : List Line) × (line : Line) × Ends start done line now end
    × IfSome input (λ bytes. IsNextOf IsStep (seen limit bytes) done line)
