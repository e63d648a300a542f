-- How far a run has come, and how a line stops it. What was done between two moments is a relation
-- of the machine.
use Rattle.std.specs.Prelude.{◌≡◌, ℕ, List, [], ◌∷◌, ◌++◌, Option}
use Rattle.dp_io.specs.Pieces.{TookPieces}
use Rattle.dp_lines.specs.declared.line.Line.{Line}
use Rattle.dp_lines.specs.Ends.{AreSteps, IsDoable, StopsAt}
use Rattle.dp_lines.specs.Held.{Held, IsInLimit, IsLeft, lines_from}
use Rattle.dp_line_machine.specs.declared.machine.ScriptEnd.{ScriptEnd}
use Rattle.dp_line_machine.specs.declared.machine.ScriptEnd.TheVariants.{Done, BadLine, ReadFault, Long}
use Rattle.dp_line_machine.specs.declared.machine.ScriptEnd.TheVariants.{Memory, Ended}

-- these lines are steps, and they were done between these moments
pub record HasDone {X : Type 0} (IsStep : List Line → Line → Type 0)
    (Does : X → List Line → X → Type 0) (start : X) (done : List Line) (now : X) : Type 0 where
  pub steps : AreSteps IsStep done
  pub does : Does start done now

-- all of these bytes were fed, and the lines that aren't held any more were done
pub record IsReading {X : Type 0} (IsStep : List Line → Line → Type 0)
    (Does : X → List Line → X → Type 0) (all : List ℕ) (held : Held) (start now : X) : Type 0 where
  pub done : List Line
  pub left : IsLeft all done held
  pub has : HasDone IsStep Does start done now

-- nothing more is fed: of these lines those were done that aren't to come
pub record IsEnding {X : Type 0} (IsStep : List Line → Line → Type 0)
    (Does : X → List Line → X → Type 0) (lines : List Line) (held : Held) (start now : X) : Type 0
  where
    pub done : List Line
    pub whole : lines ≡ done ++ lines_from held
    pub has : HasDone IsStep Does start done now

-- of the bytes of the input, of which `limit` count, these were taken and fed
pub record HasRead {X : Type 0} (IsStep : List Line → Line → Type 0)
    (Does : X → List Line → X → Type 0) (limit : ℕ) (input left : Option (List ℕ)) (held : Held)
    (start now : X) : Type 0 where
  pub taken : List ℕ
  pub took : TookPieces limit input left taken [] []
  pub reading : IsReading IsStep Does taken held start now

-- how a line after those that were done stops the run
abbrev pub StopsAfter : {X E : Type 0} → (List Line → Line → Type 0)
    → (X → List Line → X → Type 0) → (X → List Line → Line → X → E → Type 0)
    → List Line → Line → X → X → ScriptEnd E → Type 0
StopsAfter IsStep Does Ends done line start now Done = ⊥
StopsAfter IsStep Does Ends done line start now (BadLine n) =
    (line.number ≡ n) × ¬ IsDoable IsStep done line × Does start done now
StopsAfter IsStep Does Ends done line start now ReadFault = ⊥
StopsAfter IsStep Does Ends done line start now Long = ⊥
StopsAfter IsStep Does Ends done line start now Memory = ⊥
StopsAfter IsStep Does Ends done line start now (Ended end) =
    IsInLimit line × Ends start done line now end

-- these lines were done of those, which are steps
pub record DidSome {X : Type 0} (IsStep : List Line → Line → Type 0)
    (Does : X → List Line → X → Type 0) (lines : List Line) (start now : X) : Type 0 where
  pub done : List Line
  pub after : List Line
  pub parts : lines ≡ done ++ after
  pub has : HasDone IsStep Does start done now

-- one of these lines ended the run so, after those before it, which are steps
pub record EndsAt {X E : Type 0} (IsStep : List Line → Line → Type 0)
    (Ends : X → List Line → Line → X → E → Type 0) (lines : List Line) (start now : X) (end : E) :
    Type 0 where
  pub done : List Line
  pub line : Line
  pub after : List Line
  pub parts : lines ≡ done ++ line ∷ after
  pub steps : AreSteps IsStep done
  pub fits : IsInLimit line
  pub ends : Ends start done line now end

-- how the run stops at one of these lines
abbrev pub StopsIn : {X E : Type 0} → (List Line → Line → Type 0)
    → (X → List Line → X → Type 0) → (X → List Line → Line → X → E → Type 0)
    → List Line → X → X → ScriptEnd E → Type 0
StopsIn IsStep Does Ends lines start now Done = ⊥
StopsIn IsStep Does Ends lines start now (BadLine n) =
    (done : List Line) × StopsAt IsStep lines done n × Does start done now
StopsIn IsStep Does Ends lines start now ReadFault = ⊥
StopsIn IsStep Does Ends lines start now Long = ⊥
StopsIn IsStep Does Ends lines start now Memory = DidSome IsStep Does lines start now
StopsIn IsStep Does Ends lines start now (Ended end) = EndsAt IsStep Ends lines start now end
