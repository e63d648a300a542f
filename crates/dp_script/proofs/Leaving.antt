-- What a run leaves.
use Rattle.std.proofs.Common.{◌≡◌, ◌≢◌, ℕ, ◌+◌, ◌≤◌, ◌<◌, List, [], ◌∷◌, ◌++◌, length, take, drop}
use Rattle.std.proofs.Common.{refl, sym, ap, ◌∙◌, subst, length-append, arith, zero}
use Rattle.std.proofs.Common.{suc, true, false, IsTrue, Bool, cond, min}
use Rattle.std.specs.Prelude.{Option, Some, None, IfSome, not, nat_lt, ◌&&◌, ◌||◌, ◌==◌}
use Rattle.std.proofs.lemmas.List.{append-nil, length-drop, length-take, take-append-drop}
use lib.Dec.{eqb-suc-zero}
use Rattle.std.specs.Io.KnownBytes.{Consumes, Keeps, IsAtEnd}
use Rattle.dp_io.specs.Pieces.{TookPieces}
use Rattle.dp_io.proofs.Pieces.{all_taken, cut_short, kept_taken, last_taken, more_taken}
use Rattle.dp_io.proofs.Pieces.{none_taken, nothing_taken, parts_of}
use Rattle.dp_lines.proofs.Giving.{lines_from_parts}
use Rattle.dp_lines.proofs.TakenParts.{took_all, took_last}
use Rattle.dp_lines.specs.declared.line.Line.{Line}
use Rattle.dp_lines.specs.Ends.{AreSteps, seen}
use Rattle.dp_lines.specs.Held.{Held, IsLeft, NextIsLong, ended_from, lines_from}
use Rattle.dp_lines.specs.Lines.{ended, open_rest, if_any, is_overlong, line_limit, numbered}
use Rattle.dp_lines.specs.TakenParts.{TookWithin}
use Rattle.dp_line_machine.specs.declared.machine.ScriptEnd.{ScriptEnd}
use Rattle.dp_line_machine.specs.declared.machine.ScriptEnd.TheVariants.{Done, BadLine, ReadFault, Long}
use Rattle.dp_line_machine.specs.declared.machine.ScriptEnd.TheVariants.{Memory, Ended}
use Rattle.dp_line_machine.specs.Ends.{FaultMatchesInput, IsOfLines}
use Rattle.dp_line_machine.specs.Leaves.{HoldsNoCause, HoldsLines, ScriptLeaves}
use Rattle.dp_script.specs.Progress.{HasDone, HasRead, IsReading, IsEnding, StopsIn}
use Rattle.dp_script.proofs.Called.{SeenCut, SeenWhole}

-- ---- at the start

pub none_ended : (held : Held) → held ≡ record { count = 0; bytes = []; fed = 0 }
    → ended_from held ≡ []
unfolding ended
none_ended held fresh = ap ended_from fresh

none_left : (held : Held) → held ≡ record { count = 0; bytes = []; fed = 0 }
    → lines_from held ≡ []
unfolding ended open_rest
none_left held fresh = ap lines_from fresh

pub none_long : (held : Held) → held ≡ record { count = 0; bytes = []; fed = 0 } → (n : ℕ)
    → ¬ NextIsLong held n
none_long held fresh n long =
    let e : [] ≡ long.line ∷ long.after = sym (none_left held fresh) ∙ long.next in cc (e)

-- nothing is fed yet
pub read_first : {X : Type 0} {S : List Line → Line → Type 0} {D : X → List Line → X → Type 0}
    → IsLeft [] [] (record { count = 0; bytes = []; fed = 0 }) → AreSteps S []
    → (limit : ℕ) (input : Option (List ℕ)) (held : Held) (start : X)
    → held ≡ record { count = 0; bytes = []; fed = 0 } → D start [] start
    → HasRead S D limit input input held start start
read_first left none limit input held start fresh first = record {
  taken = [];
  took = none_taken limit input;
  reading = record {
    done = [];
    left = subst (IsLeft [] []) (sym fresh) left;
    has = record { steps = none; does = first };
  };
}

-- ---- a piece more

-- the first bytes of a buffer, in two parts
take_of_take : (m n : ℕ) (xs : List ℕ) → m ≤ n → take m (take n xs) ≡ take m xs
take_of_take zero n xs h = refl
take_of_take (suc m) zero xs h = absurd (omega arith)
take_of_take (suc m) (suc n) [] h = refl
take_of_take (suc m) (suc n) (x ∷ xs) h = let k : m ≤ n = omega arith in ap
    (λ (ys : List ℕ). x ∷ ys) (take_of_take m n xs k)

two_parts : (m n : ℕ) (xs : List ℕ) → m ≤ n → take n xs ≡ take m xs ++ drop m (take n xs)
two_parts m n xs h = sym (take-append-drop m (take n xs))
    ∙ ap (λ (ys : List ℕ). ys ++ drop m (take n xs)) (take_of_take m n xs h)

-- how many bytes were taken
taken_length : {X : Type 0} {S : List Line → Line → Type 0} {D : X → List Line → X → Type 0}
    {limit : ℕ} {input left : Option (List ℕ)} {held : Held} {start now : X}
    → (read : HasRead S D limit input left held start now)
    → (length read.taken ≡ held.fed) × (length read.taken ≤ limit)
taken_length read =
    (sym read.reading.left.fed, omega (arith, read.took.within, length-append read.taken []))

-- all of a chunk is fed
pub read_further : {X : Type 0} {S : List Line → Line → Type 0} {D : X → List Line → X → Type 0}
    (limit : ℕ) (input left rest : Option (List ℕ)) (chunk : List ℕ) (held later : Held)
    {start old now : X}
    → held.fed + length chunk ≤ limit → length chunk ≤ 4096 → Consumes left rest chunk
    → ((start : X) (all : List ℕ) → IsReading S D all held start old
    → IsReading S D (all ++ chunk) later start now)
    → HasRead S D limit input left held start old → HasRead S D limit input rest later start now
read_further limit input left rest chunk held later {start = start} within few consumes does read =
    record {
      taken = read.taken ++ chunk;
      took = more_taken limit input left rest read.taken chunk
          (omega (arith, within, (taken_length read).0)) consumes few read.took;
      reading = does start read.taken read.reading;
    }

-- a piece of the buffer is taken, of which as many bytes count as there is room
pub took_piece : {X : Type 0} {S : List Line → Line → Type 0} {D : X → List Line → X → Type 0}
    {held : Held} {start now : X} (limit room count counted : ℕ)
    (input left rest : Option (List ℕ)) (buffer : List ℕ)
    → held.fed + room ≡ limit → counted ≡ min count room → count ≤ length buffer
    → length buffer ≤ 4096 → Consumes left rest (take count buffer)
    → (read : HasRead S D limit input left held start now)
    → TookPieces limit input rest read.taken (take counted buffer)
    (drop counted (take count buffer))
took_piece limit room count counted input left rest buffer more least bound small consumes read =
    let long : length (take count buffer) ≡ count =
    omega (arith, length-take count buffer, bound) in
    let front : length (take counted buffer) ≡ counted =
    omega (arith, length-take counted buffer, bound, least) in
    last_taken limit input left rest read.taken (take count buffer) (take counted buffer)
    (drop counted (take count buffer)) (two_parts counted count buffer (omega (arith, least)))
    (omega (arith, front, more, least, (taken_length read).0))
    (λ some. omega (
      arith,
      some,
      front,
      long,
      more,
      least,
      (taken_length read).0,
      length-drop counted (take count buffer),
    ))
    consumes (omega (arith, long, bound, small)) read.took

-- ---- what was taken

-- a rest that is too long isn't passed over
long_counts : (n : ℕ) (rest : List ℕ) → IsTrue (is_overlong rest)
    → numbered n (if_any rest) ≡ record { number = n + 1; bytes = rest } ∷ []
long_counts n [] long = cc (long)
long_counts n (b ∷ more) long = by_test (b == 35) long
  where
    by_test : (comment : Bool) → IsTrue (not comment && nat_lt line_limit (length (b ∷ more)))
        → cond {A = List Line} (length (b ∷ more) == 0 || comment) []
        (record { number = n + 1; bytes = b ∷ more } ∷ [])
        ≡ record { number = n + 1; bytes = b ∷ more } ∷ []
    by_test true long = cc (long)
    by_test false long = rw (eqb-suc-zero (length more)) refl

-- if no ended line is held, a rest that is too long is the next line
rest_is_long : (held : Held) → ended_from held ≡ [] → IsTrue (is_overlong (open_rest held.bytes))
    → NextIsLong held (held.count + length (ended held.bytes) + 1)
rest_is_long held none long = record {
  line = record {
    number = held.count + length (ended held.bytes) + 1;
    bytes = open_rest held.bytes;
  };
  after = [];
  next =
      lines_from_parts held
      ∙ ap (λ (ls : List Line). ls ++ numbered (held.count + length (ended held.bytes))
      (if_any (open_rest held.bytes))) none
      ∙ long_counts (held.count + length (ended held.bytes)) (open_rest held.bytes) long;
  long = long;
  number = refl;
}

-- all lines that are whole were done, and what is left isn't too long: no cause to end
no_cause : {X : Type 0} {S : List Line → Line → Type 0} {D : X → List Line → X → Type 0}
    {held : Held} {start now : X} (limit : ℕ) (taken : List ℕ)
    → length taken ≤ limit → ended_from held ≡ [] → ((n : ℕ) → ¬ NextIsLong held n)
    → (reading : IsReading S D taken held start now)
    → HoldsLines S limit reading.done taken
no_cause {S = S} {held = held} limit taken few none short reading =
    let lines : numbered 0 (ended taken) ≡ reading.done =
    reading.left.whole ∙ ap (λ (ls : List Line). reading.done ++ ls) none
    ∙ append-nil reading.done in record {
      lines = sym lines;
      quiet = record {
        counts = few;
        steps = subst (AreSteps S) (sym lines) reading.has.steps;
        short = λ long.
            short (held.count + length (ended held.bytes) + 1)
            (rest_is_long held none
            (subst (λ (rest : List ℕ). IsTrue (is_overlong rest)) reading.left.rest long));
      };
    }

-- a piece was taken after what holds no cause
pub took_chunk : {X : Type 0} {S : List Line → Line → Type 0} {D : X → List Line → X → Type 0}
    {held : Held} {start now : X} (limit : ℕ) (input left rest : Option (List ℕ))
    (front cut : List ℕ)
    → ended_from held ≡ [] → ((n : ℕ) → ¬ NextIsLong held n)
    → (read : HasRead S D limit input left held start now)
    → TookPieces limit input rest read.taken front cut
    → IfSome input (λ bytes. TookWithin (HoldsNoCause S limit) 4096 bytes rest)
took_chunk limit None left rest front cut none short read took = tt
took_chunk {S = S} limit (Some bytes) left rest front cut none short read took =
    took_last (HoldsNoCause S limit) took
    (no_cause limit read.taken (taken_length read).1 none short read.reading).quiet

-- the input failed
pub took_fault : {X : Type 0} {S : List Line → Line → Type 0} {D : X → List Line → X → Type 0}
    {held : Held} {start now : X} (limit : ℕ) (input left rest : Option (List ℕ))
    → ended_from held ≡ [] → ((n : ℕ) → ¬ NextIsLong held n)
    → Keeps left rest → HasRead S D limit input left held start now
    → IfSome input (λ bytes. TookWithin (HoldsNoCause S limit) 4096 bytes rest)
took_fault limit input left rest none short keeps read =
    took_chunk limit input left rest [] [] none short read
    (kept_taken limit input left rest read.taken [] [] keeps read.took)

pub fault_leaves : {X E : Type 0} (S : List Line → Line → Type 0)
    (D : X → List Line → X → Type 0) (F : X → List Line → Line → X → E → Type 0)
    (limit : ℕ) (input left rest : Option (List ℕ)) (held : Held) (start now : X)
    → ended_from held ≡ [] → ((n : ℕ) → ¬ NextIsLong held n)
    → Keeps left rest → HasRead S D limit input left held start now
    → ScriptLeaves S D F limit input rest start now ReadFault
fault_leaves S D F limit None left rest held start now none short keeps read =
    (read.reading.done, read.reading.has.does, tt)
fault_leaves S D F limit (Some bytes) left rest held start now none short keeps read = (
  read.reading.done,
  read.reading.has.does,
  took_all (HoldsLines S limit read.reading.done) 0
      (kept_taken limit (Some bytes) left rest read.taken [] [] keeps read.took)
      (subst (HoldsLines S limit read.reading.done) (sym (append-nil read.taken))
      (no_cause limit read.taken (taken_length read).1 none short read.reading)),
)

-- ---- stops

-- of an input whose bytes are known
told_of_stop : {X E : Type 0} (S : List Line → Line → Type 0)
    (D : X → List Line → X → Type 0) (F : X → List Line → Line → X → E → Type 0)
    (limit : ℕ) (bytes : List ℕ) (left : Option (List ℕ)) (start now : X) (end : ScriptEnd E)
    → StopsIn S D F (seen limit bytes) start now end
    → ScriptLeaves S D F limit (Some bytes) left start now end
told_of_stop S D F limit bytes left start now (BadLine n) (done, stops, does) =
    (done, does, stops)
told_of_stop S D F limit bytes left start now Memory some = (
  some.done,
  some.has.does,
  record { after = some.after; parts = some.parts; steps = some.has.steps },
)
told_of_stop S D F limit bytes left start now (Ended end) at = (
  at.done,
  at.line,
  at.ends,
  record { after = at.after; parts = at.parts; steps = at.steps; fits = at.fits },
)
told_of_stop S D F limit bytes left start now _ stops = absurd stops

-- of one whose bytes aren't
untold_of_stop : {X E : Type 0} (S : List Line → Line → Type 0)
    (D : X → List Line → X → Type 0) (F : X → List Line → Line → X → E → Type 0)
    (limit : ℕ) (lines : List Line) (left : Option (List ℕ)) (start now : X) (end : ScriptEnd E)
    → StopsIn S D F lines start now end → ScriptLeaves S D F limit None left start now end
untold_of_stop S D F limit lines left start now (BadLine n) (done, stops, does) = (done, does, tt)
untold_of_stop S D F limit lines left start now Memory some = (some.done, some.has.does, tt)
untold_of_stop S D F limit lines left start now (Ended end) at = (at.done, at.line, at.ends, tt)
untold_of_stop S D F limit lines left start now _ stops = absurd stops

-- the run stops at a line that is seen of the bytes that count, with whatever after them
pub piece_stops : {X E : Type 0} (S : List Line → Line → Type 0)
    (D : X → List Line → X → Type 0) (F : X → List Line → Line → X → E → Type 0)
    (limit : ℕ) (input left rest : Option (List ℕ)) (front cut : List ℕ)
    (held : Held) (start old now : X) (end : ScriptEnd E)
    → ((start : X) (limit : ℕ) (all more : List ℕ) → length (all ++ front) ≤ limit
    → IsReading S D all held start old
    → StopsIn S D F (seen limit (all ++ front ++ more)) start now end)
    → (read : HasRead S D limit input left held start old)
    → TookPieces limit input rest read.taken front cut
    → ScriptLeaves S D F limit input rest start now end
piece_stops S D F limit None left rest front cut held start old now end stops read took =
    untold_of_stop S D F limit (seen limit (read.taken ++ front ++ [])) rest start now end
    (stops start limit read.taken [] took.within read.reading)
piece_stops S D F limit (Some bytes) left rest front cut held start old now end stops read took =
    let p = parts_of took in
    told_of_stop S D F limit bytes rest start now end
    (subst (λ (b : List ℕ). StopsIn S D F (seen limit b) start now end) (sym p.whole)
    (stops start limit read.taken (cut ++ p.untaken) took.within read.reading))

prefix_none : (xs ys : List ℕ) → xs ++ ys ≡ [] → length xs ≡ 0
prefix_none [] ys e = refl
prefix_none (x ∷ xs) ys e = cc (e)

-- the input has more bytes than count
pub long_leaves : {X E : Type 0} (S : List Line → Line → Type 0)
    (D : X → List Line → X → Type 0) (F : X → List Line → Line → X → E → Type 0)
    → SeenCut → (limit : ℕ) (input left rest : Option (List ℕ))
    (front cut : List ℕ) (held later : Held) (start old now : X)
    → 0 < length cut → ended_from later ≡ [] → ((n : ℕ) → ¬ NextIsLong later n)
    → ((start : X) (all : List ℕ) → IsReading S D all held start old
    → IsReading S D (all ++ front) later start now)
    → (read : HasRead S D limit input left held start old)
    → TookPieces limit input rest read.taken front cut
    → ScriptLeaves S D F limit input rest start now Long
long_leaves S D F law limit None left rest front cut held later start old now some none short does
    read took =
    let reading = does start read.taken read.reading in (reading.done, reading.has.does, tt)
long_leaves S D F law limit (Some bytes) left rest front cut held later start old now some none
    short does read took =
    let p = parts_of took in
    let more : List ℕ = cut ++ p.untaken in
    let reading = does start read.taken read.reading in
    let some_more : more ≢ [] = λ e. omega (arith, some, prefix_none cut p.untaken e) in
    let all = ap (seen limit) p.whole
    ∙ law limit (read.taken ++ front) more reading.done later reading.left (took.full some)
    some_more none short in
    (reading.done, reading.has.does, ((cut_short took some).1, sym all, reading.has.steps))

-- ---- the input's end

-- what is left are the lines to come
pub ending_of : {X : Type 0} {S : List Line → Line → Type 0} {D : X → List Line → X → Type 0}
    → SeenWhole → (limit : ℕ) (all : List ℕ) {held : Held} {start now : X}
    → length all ≤ limit → IsReading S D all held start now
    → IsEnding S D (seen limit all) held start now
ending_of law limit all {held = held} few reading = record {
  done = reading.done;
  whole = law limit all reading.done held reading.left few;
  has = reading.has;
}

-- all of the input was taken
all_of : {X : Type 0} {S : List Line → Line → Type 0} {D : X → List Line → X → Type 0}
    {held : Held} {start now : X} (limit : ℕ) (bytes : List ℕ) (left rest : Option (List ℕ))
    (none : List ℕ)
    → none ≡ [] → Consumes left rest none → IsAtEnd rest
    → (read : HasRead S D limit (Some bytes) left held start now) → bytes ≡ read.taken
all_of limit bytes left rest none is consumes end read =
    (all_taken (nothing_taken limit (Some bytes) left rest read.taken [] none is consumes read.took)
    end).0 ∙ append-nil read.taken

-- all lines were done
pub done_leaves : {X E : Type 0} (S : List Line → Line → Type 0)
    (D : X → List Line → X → Type 0) (F : X → List Line → Line → X → E → Type 0)
    → SeenWhole → (limit : ℕ) (input left rest : Option (List ℕ)) (none : List ℕ) (held : Held)
    (start old now : X)
    → none ≡ [] → Consumes left rest none → IsAtEnd rest
    → ((start : X) (lines : List Line) → IsEnding S D lines held start old
    → HasDone S D start lines now)
    → HasRead S D limit input left held start old
    → ScriptLeaves S D F limit input rest start now Done
done_leaves S D F law limit None left rest none held start old now is consumes end does read = (
  end,
  seen limit read.taken,
  (does start (seen limit read.taken) (ending_of law limit read.taken (taken_length read).1
      read.reading)).does,
  tt,
)
done_leaves S D F law limit (Some bytes) left rest none held start old now is consumes end does
    read =
    let all = all_of limit bytes left rest none is consumes end read in
    let has = does start (seen limit read.taken) (ending_of law limit read.taken
    (taken_length read).1 read.reading) in
    let same : seen limit read.taken ≡ seen limit bytes = ap (seen limit) (sym all) in
    let within : length bytes ≤ limit = omega (arith, ap length all, (taken_length read).1) in
    (end, seen limit read.taken, has.does, (within, same, has.steps))

-- a line of the rest stops the run
pub rest_stops : {X E : Type 0} (S : List Line → Line → Type 0)
    (D : X → List Line → X → Type 0) (F : X → List Line → Line → X → E → Type 0)
    → SeenWhole → (limit : ℕ) (input left rest : Option (List ℕ)) (none : List ℕ) (held : Held)
    (start old now : X) (end : ScriptEnd E)
    → none ≡ [] → Consumes left rest none → IsAtEnd rest
    → ((start : X) (lines : List Line) → IsEnding S D lines held start old
    → StopsIn S D F lines start now end)
    → HasRead S D limit input left held start old
    → ScriptLeaves S D F limit input rest start now end
rest_stops S D F law limit None left rest none held start old now end is consumes at_end stops
    read =
    untold_of_stop S D F limit (seen limit read.taken) rest start now end
    (stops start (seen limit read.taken)
    (ending_of law limit read.taken (taken_length read).1 read.reading))
rest_stops S D F law limit (Some bytes) left rest none held start old now end is consumes at_end
    stops read =
    let all = all_of limit bytes left rest none is consumes at_end read in
    told_of_stop S D F limit bytes rest start now end
    (subst (λ (b : List ℕ). StopsIn S D F (seen limit b) start now end) (sym all)
    (stops start (seen limit read.taken)
    (ending_of law limit read.taken (taken_length read).1 read.reading)))

-- ---- counts of faults

-- a stop at a line blames no input
pub stop_fault : {E : Type 0} (before now : ℕ) (end : ScriptEnd E) → IsOfLines end → now ≡ before
    → FaultMatchesInput before now end
stop_fault before now ReadFault stop kept = absurd stop
stop_fault before now _ stop kept = kept
