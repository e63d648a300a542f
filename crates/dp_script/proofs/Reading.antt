-- How a run goes on by what is fed and by the lines that are given.
use Rattle.std.proofs.Common.{◌≡◌, ℕ, ◌+◌, ◌≤◌, List, [], ◌∷◌, ◌++◌, length, sym, ap, ◌∙◌, subst}
use Rattle.std.proofs.Common.{append_assoc}
use Rattle.std.proofs.lemmas.List.{append-nil}
use Rattle.dp_lines.specs.declared.line.Line.{Line}
use Rattle.dp_lines.specs.Ends.{AreSteps, seen}
use Rattle.dp_lines.specs.Held.{Held, NextIsLong, ended_from, lines_from}
use Rattle.dp_lines.specs.Lines.{ended, open_rest}
use Rattle.dp_line_machine.specs.declared.machine.ScriptEnd.{ScriptEnd}
use Rattle.dp_line_machine.specs.declared.machine.ScriptEnd.TheVariants.{BadLine, Memory, Ended}
use Rattle.dp_script.specs.Progress.{HasDone, IsReading, IsEnding, StopsAfter, StopsIn}
use Rattle.dp_script.proofs.Called.{LeftFed, LeftGiven, SeenGiven, SeenLong}

-- ---- stops

-- a line of these stops the run
stops_in : {X E : Type 0} (S : List Line → Line → Type 0) (D : X → List Line → X → Type 0)
    (F : X → List Line → Line → X → E → Type 0) (lines done after : List Line) (line : Line)
    (start now : X) (end : ScriptEnd E)
    → lines ≡ done ++ line ∷ after → AreSteps S done
    → StopsAfter S D F done line start now end → StopsIn S D F lines start now end
stops_in S D F lines done after line start now (BadLine n) whole steps (number, bad, does) = (
  done,
  record { line = line; after = after; next = whole; number = number; steps = steps; bad = bad },
  does,
)
stops_in S D F lines done after line start now (Ended end) whole steps (fits, ends) = record {
  done = done;
  line = line;
  after = after;
  parts = whole;
  steps = steps;
  fits = fits;
  ends = ends;
}
stops_in S D F lines done after line start now _ whole steps stops = absurd stops

-- ---- while more is fed

-- a piece is fed
pub reading_fed : {X : Type 0} {S : List Line → Line → Type 0} {D : X → List Line → X → Type 0}
    → LeftFed → (all piece : List ℕ) (held later : Held) {start now : X}
    → later.bytes ≡ held.bytes ++ piece → later.count ≡ held.count
    → later.fed ≡ held.fed + length piece
    → IsReading S D all held start now → IsReading S D (all ++ piece) later start now
reading_fed law all piece held later bytes count fed reading = record {
  done = reading.done;
  left = law all piece reading.done held later reading.left bytes count fed;
  has = reading.has;
}

-- a line is given and done
pub reading_further : {X : Type 0} {S : List Line → Line → Type 0}
    {D : X → List Line → X → Type 0}
    → LeftGiven → (all : List ℕ) (held later : Held) (line : Line) {start old now : X}
    → ended_from held ≡ line ∷ ended_from later
    → later.count + length (ended later.bytes) ≡ held.count + length (ended held.bytes)
    → open_rest later.bytes ≡ open_rest held.bytes → later.fed ≡ held.fed
    → ((start : X) (done : List Line) → HasDone S D start done old
    → HasDone S D start (done ++ line ∷ []) now)
    → IsReading S D all held start old → IsReading S D all later start now
reading_further law all held later line {start = start} lines count rest fed does reading = record {
  done = reading.done ++ line ∷ [];
  left = law all reading.done (line ∷ []) held later reading.left lines count rest fed;
  has = does start reading.done reading.has;
}

-- a line is given, and stops the run
pub reading_stops : {X E : Type 0} (S : List Line → Line → Type 0)
    (D : X → List Line → X → Type 0) (F : X → List Line → Line → X → E → Type 0)
    → LeftGiven → SeenGiven → (limit : ℕ) (all more : List ℕ) (held later : Held) (line : Line)
    (start old now : X) (end : ScriptEnd E)
    → length all ≤ limit → ended_from held ≡ line ∷ ended_from later
    → later.count + length (ended later.bytes) ≡ held.count + length (ended held.bytes)
    → open_rest later.bytes ≡ open_rest held.bytes → later.fed ≡ held.fed
    → ((start : X) (done : List Line) → HasDone S D start done old
    → StopsAfter S D F done line start now end)
    → IsReading S D all held start old → StopsIn S D F (seen limit (all ++ more)) start now end
reading_stops S D F law law_seen limit all more held later line start old now end few lines count
    rest fed stops reading =
    let left = law all reading.done (line ∷ []) held later reading.left lines count rest fed in
    let sees = law_seen limit all more (reading.done ++ line ∷ []) later left few in
    stops_in S D F (seen limit (all ++ more)) reading.done sees.0 line start now end
    (sees.1 ∙ append_assoc reading.done (line ∷ []) sees.0) reading.has.steps
    (stops start reading.done reading.has)

-- the next line is too long
pub reading_long : {X E : Type 0} (S : List Line → Line → Type 0)
    (D : X → List Line → X → Type 0) (F : X → List Line → Line → X → E → Type 0)
    → SeenLong → (limit : ℕ) (all more : List ℕ) (held : Held) (n : ℕ) (start now : X)
    → length all ≤ limit → NextIsLong held n
    → IsReading S D all held start now
    → StopsIn S D F (seen limit (all ++ more)) start now (BadLine n)
reading_long S D F law limit all more held n start now few long reading =
    let (line, after, whole, overlong, number) = law limit all more reading.done held n
    reading.left few long in (
      reading.done,
      record {
        line = line;
        after = after;
        next = whole;
        number = number;
        steps = reading.has.steps;
        bad = λ doable. doable.fits overlong;
      },
      reading.has.does,
    )

-- memory runs out
pub reading_full : {X E : Type 0} (S : List Line → Line → Type 0)
    (D : X → List Line → X → Type 0) (F : X → List Line → Line → X → E → Type 0)
    → SeenGiven → (limit : ℕ) (all more : List ℕ) (held : Held) (start now : X)
    → length all ≤ limit
    → IsReading S D all held start now → StopsIn S D F (seen limit (all ++ more)) start now Memory
reading_full S D F law limit all more held start now few reading =
    let sees = law limit all more reading.done held reading.left few in record {
      done = reading.done;
      after = sees.0;
      parts = sees.1;
      has = reading.has;
    }

-- ---- if nothing more is fed

-- a line is given and done
pub ending_further : {X : Type 0} {S : List Line → Line → Type 0}
    {D : X → List Line → X → Type 0} (lines : List Line) (held later : Held) (line : Line)
    {start old now : X}
    → lines_from held ≡ line ∷ lines_from later
    → ((start : X) (done : List Line) → HasDone S D start done old
    → HasDone S D start (done ++ line ∷ []) now)
    → IsEnding S D lines held start old → IsEnding S D lines later start now
ending_further lines held later line {start = start} given does ending = record {
  done = ending.done ++ line ∷ [];
  whole =
      ending.whole ∙ ap (λ (ls : List Line). ending.done ++ ls) given
      ∙ sym (append_assoc ending.done (line ∷ []) (lines_from later));
  has = does start ending.done ending.has;
}

-- a line is given, and stops the run
pub ending_stops : {X E : Type 0} (S : List Line → Line → Type 0)
    (D : X → List Line → X → Type 0) (F : X → List Line → Line → X → E → Type 0)
    (lines : List Line) (held later : Held) (line : Line) (start old now : X) (end : ScriptEnd E)
    → lines_from held ≡ line ∷ lines_from later
    → ((start : X) (done : List Line) → HasDone S D start done old
    → StopsAfter S D F done line start now end)
    → IsEnding S D lines held start old → StopsIn S D F lines start now end
ending_stops S D F lines held later line start old now end given stops ending =
    stops_in S D F lines ending.done (lines_from later) line start now end
    (ending.whole ∙ ap (λ (ls : List Line). ending.done ++ ls) given) ending.has.steps
    (stops start ending.done ending.has)

-- the next line is too long
pub ending_long : {X E : Type 0} (S : List Line → Line → Type 0)
    (D : X → List Line → X → Type 0) (F : X → List Line → Line → X → E → Type 0)
    (lines : List Line) (held : Held) (n : ℕ) (start now : X)
    → NextIsLong held n → IsEnding S D lines held start now
    → StopsIn S D F lines start now (BadLine n)
ending_long S D F lines held n start now long ending = (
  ending.done,
  record {
    line = long.line;
    after = long.after;
    next = ending.whole ∙ ap (λ (ls : List Line). ending.done ++ ls) long.next;
    number = long.number;
    steps = ending.has.steps;
    bad = λ doable. doable.fits long.long;
  },
  ending.has.does,
)

-- memory runs out
pub ending_full : {X E : Type 0} (S : List Line → Line → Type 0)
    (D : X → List Line → X → Type 0) (F : X → List Line → Line → X → E → Type 0)
    (lines : List Line) (held : Held) (start now : X)
    → IsEnding S D lines held start now → StopsIn S D F lines start now Memory
ending_full S D F lines held start now ending = record {
  done = ending.done;
  after = lines_from held;
  parts = ending.whole;
  has = ending.has;
}

-- no line is left
pub ending_done : {X : Type 0} {S : List Line → Line → Type 0} {D : X → List Line → X → Type 0}
    (lines : List Line) (held : Held) {start now : X}
    → lines_from held ≡ [] → IsEnding S D lines held start now → HasDone S D start lines now
ending_done {S = S} {D = D} lines held {start = start} {now = now} none ending =
    let all : ending.done ≡ lines =
    sym (ending.whole ∙ ap (λ (ls : List Line). ending.done ++ ls) none ∙ append-nil ending.done) in
    subst (λ (ls : List Line). HasDone S D start ls now) all ending.has
