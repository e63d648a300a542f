-- What it changes of the lines to come that one of them is given.
use Rattle.std.proofs.Common.{◌≡◌, ◌≢◌, ℕ, ◌+◌, ◌<◌, ◌==◌, inl, inr, true, false, List, [], ◌∷◌}
use Rattle.std.proofs.Common.{◌++◌, length, take, drop, Option, Some, None, Result, Ok, Err, refl}
use Rattle.std.proofs.Common.{sym, ap, ◌∙◌, subst, arith, append_assoc}
use Rattle.std.specs.Prelude.{◌↔◌, IsTrue, IfNone, IfOk, OnOk, OnErr}
use Rattle.std.proofs.lemmas.Bool.{cases_lt, cases_Bool, and_parts, or_from, ne_eqb, not-true}
use Rattle.std.proofs.lemmas.List.{take_all, drop_all, nil_from_length}
use Rattle.std.proofs.lemmas.List.Elements.{All-nil}
use Rattle.dp_lines.specs.declared.line.Line.{Line}
use Rattle.dp_lines.specs.declared.lines.LineError.{LineError}
use Rattle.dp_lines.specs.declared.lines.LineError.TheVariants.{Long}
use Rattle.dp_lines.specs.Lines.{newline, Lacks, ended, open_rest, if_any, lines, is_comment}
use Rattle.dp_lines.specs.Lines.{is_skipped, is_overlong, numbered}
use Rattle.dp_lines.specs.Held.{Held, ended_from, lines_from, given, NextIsLong}
use Rattle.dp_lines.specs.Taken.{first_line, after_first, Keeps, IsEnd}
use Rattle.dp_lines.proofs.Numbering.{numbered-append, numbered_skipped, numbered_kept}
use Rattle.dp_lines.proofs.Numbering.{lines_after_kept}
use Rattle.dp_lines.proofs.Pieces.{ended_none, rest_none}

-- the lines to come are those with their newline, and then the rest
pub lines_from_parts : (held : Held)
    → lines_from held ≡ ended_from held ++ numbered (held.count + length (ended held.bytes))
    (if_any (open_rest held.bytes))
lines_from_parts held = numbered-append held.count (ended held.bytes)
    (if_any (open_rest held.bytes))

-- two joined lists are empty only if the first is
prefix_none : (prefix after : List Line) → prefix ++ after ≡ [] → prefix ≡ []
prefix_none [] after none = refl
prefix_none (line ∷ prefix) after none = absurd (cc (none))

-- taking lines off in front takes them off all lines to come
pub further_lines : (prefix : List Line) (old new : Held)
    → ended_from old ≡ prefix ++ ended_from new
    → new.count + length (ended new.bytes) ≡ old.count + length (ended old.bytes)
    → open_rest new.bytes ≡ open_rest old.bytes → lines_from old ≡ prefix ++ lines_from new
further_lines prefix old new taken count rest =
    lines_from_parts old
    ∙ ap (λ (ls : List Line). ls ++ numbered (old.count + length (ended old.bytes))
    (if_any (open_rest old.bytes))) taken
    ∙ append_assoc prefix (ended_from new) _
    ∙ ap (λ (ls : List Line). prefix ++ ls)
    (ap (λ (n : ℕ). ended_from new ++ numbered n (if_any (open_rest old.bytes))) (sym count)
    ∙ ap (λ (b : List ℕ). ended_from new ++ numbered (new.count + length (ended new.bytes))
    (if_any b)) (sym rest)
    ∙ sym (lines_from_parts new))

-- if no line is to come, none with its newline is
pub none_lines : (held : Held) → lines_from held ≡ [] → ended_from held ≡ []
none_lines held none = prefix_none (ended_from held) _ (sym (lines_from_parts held) ∙ none)

pub lines_kept : (old new : Held) → Keeps old new → lines_from old ≡ lines_from new
lines_kept old new keeps = further_lines [] old new (sym keeps.lines) keeps.count keeps.rest

-- a line is given exactly if it is taken off in front
pub given_line : (from : Held → List Line) (held new after : Held) (line : Line)
    (r : Result (Option Line) LineError)
    → from held ≡ line ∷ from after → IfOk r (λ next. next ≡ Some line) → OnOk r (new ≡ after)
    → OnErr r (new ≡ held) → from held ≡ given r ++ from new
given_line from held new after line (Ok (Some other)) first is taken left =
    let same : other ≡ line = cc in
    first ∙ ap (λ (l : Line). l ∷ from after) (sym same)
    ∙ ap (λ (h : Held). other ∷ from h) (sym taken)
given_line from held new after line (Ok None) first is taken left = absurd (cc)
given_line from held new after line (Err error) first is taken left = ap from (sym left)

-- what is the same after the line is the same after the call
pub same_after : {A : Type 0} (of : Held → A) (held new after : Held)
    (r : Result (Option Line) LineError)
    → of after ≡ of held → OnOk r (new ≡ after) → OnErr r (new ≡ held) → of new ≡ of held
same_after of held new after (Ok next) same taken left = ap of taken ∙ same
same_after of held new after (Err error) same taken left = ap of left

-- what holds in any case holds if no line is given
pub if_none : {P : Type 0} (r : Result (Option Line) LineError) → P → IfOk r (λ next. IfNone next P)
if_none (Ok (Some line)) fact = tt
if_none (Ok None) fact = fact
if_none (Err error) fact = tt

-- what follows from a fact that holds if no line is given
pub if_none_then : {P Q : Type 0} (r : Result (Option Line) LineError) → (P → Q)
    → IfOk r (λ next. IfNone next P) → IfOk r (λ next. IfNone next Q)
if_none_then (Ok (Some line)) then fact = tt
if_none_then (Ok None) then fact = then fact
if_none_then (Err error) then fact = tt

-- which of the lines to come is the next
next_is : (a b : Line) (more others : List Line) → a ∷ more ≡ b ∷ others → a ≡ b
next_is a b more others same = cc

-- the call says that the next line is too long exactly if it is
pub long_next : (held : Held) (line : Line) (after : List Line)
    (r : Result (Option Line) LineError)
    → lines_from held ≡ line ∷ after
    → ((n : ℕ) → (r ≡ Err (Long n)) ↔ (IsTrue (is_overlong line.bytes) × (n ≡ line.number)))
    → (n : ℕ) → (r ≡ Err (Long n)) ↔ NextIsLong held n
long_next held line after r first says n = (
  λ err.
      let told = (says n).0 err in record {
        line = line;
        after = after;
        next = first;
        long = told.0;
        number = sym told.1;
      },
  λ next.
      let same = next_is line next.line after next.after (sym first ∙ next.next) in
      (says n).1 (subst (λ (l : Line). IsTrue (is_overlong l.bytes) × (n ≡ l.number)) (sym same)
      (next.long, sym next.number)),
)

-- if no line is to come, none is too long
pub none_next : (held : Held) → lines_from held ≡ [] → (n : ℕ) → NextIsLong held n → ⊥
none_next held none n next = absurd (cc (next.next))

-- what holds of the next line to come holds if only lines were taken that are passed over
pub long_kept : (old new : Held) (n : ℕ) → Keeps old new → NextIsLong new n → NextIsLong old n
long_kept old new n keeps next = record {
  line = next.line;
  after = next.after;
  next = lines_kept old new keeps ∙ next.next;
  long = next.long;
  number = next.number;
}

pub long_still : (old new : Held) (n : ℕ) → Keeps old new → NextIsLong old n → NextIsLong new n
long_still old new n keeps next = record {
  line = next.line;
  after = next.after;
  next = sym (lines_kept old new keeps) ∙ next.next;
  long = next.long;
  number = next.number;
}

-- the first line that isn't passed over is the first of all lines to come
pub first_of_lines : (held : Held) (len : ℕ) → IsEnd held.bytes len
    → is_skipped (take len held.bytes) ≡ false
    → (after : List Line) × (lines_from held ≡ first_line held len ∷ after)
first_of_lines held len end kept = (
  _,
  lines_from_parts held
      ∙ ap (λ (ls : List Line). ls ++ numbered (held.count + length (ended held.bytes))
      (if_any (open_rest held.bytes)))
      (lines_after_kept held len end kept),
)

-- bytes are one line, if there are any
if_any_some : (bytes : List ℕ) → 0 < length bytes → if_any bytes ≡ bytes ∷ []
if_any_some [] some = absurd (omega arith)
if_any_some (byte ∷ more) some = refl

-- the lines of bytes without a newline
pub lines_of_rest : (bytes : List ℕ) → Lacks newline bytes → lines bytes ≡ if_any bytes
lines_of_rest bytes lacks =
    ap (λ (ls : List (List ℕ)). ls ++ if_any (open_rest bytes)) (ended_none bytes lacks)
    ∙ ap if_any (rest_none bytes lacks)

pub no_lines : lines [] ≡ []
no_lines = lines_of_rest [] (All-nil (λ byte. byte ≢ newline))

pub line_of_rest : (bytes : List ℕ) → Lacks newline bytes → 0 < length bytes
    → lines bytes ≡ bytes ∷ []
line_of_rest bytes lacks some = lines_of_rest bytes lacks ∙ if_any_some bytes some

-- no bytes are left after all of them
pub none_after : (held : Held) → lines_from (after_first held (length held.bytes)) ≡ []
none_after held =
    ap (λ (b : List ℕ). numbered (held.count + 1) (lines b))
    (drop_all (length held.bytes) held.bytes (omega arith))
    ∙ ap (numbered (held.count + 1)) no_lines

-- bytes without a newline have no ended line to come
pub none_ended : (held : Held) → Lacks newline held.bytes → ended_from held ≡ []
none_ended held lacks = ap (numbered held.count) (ended_none held.bytes lacks)

-- the rest counts as one line
pub rest_counted : (held : Held) → Lacks newline held.bytes → 0 < length held.bytes
    → held.count + 1 + length (lines (drop (length held.bytes) held.bytes))
    ≡ held.count + length (lines held.bytes)
rest_counted held lacks some =
    let none = ap lines (drop_all (length held.bytes) held.bytes (omega arith)) ∙ no_lines in
    omega (arith, ap length none, ap length (line_of_rest held.bytes lacks some))

-- a rest that is passed over is no line to come
pub skipped_rest : (held : Held) → Lacks newline held.bytes → 0 < length held.bytes
    → is_skipped held.bytes ≡ true → lines_from held ≡ []
skipped_rest held lacks some skipped =
    ap (numbered held.count) (line_of_rest held.bytes lacks some)
    ∙ numbered_skipped held.count held.bytes [] skipped

-- a rest that isn't is the one line to come
pub kept_rest : (held : Held) → Lacks newline held.bytes → 0 < length held.bytes
    → is_skipped held.bytes ≡ false → lines_from held ≡ first_line held (length held.bytes) ∷ []
kept_rest held lacks some kept =
    ap (numbered held.count) (line_of_rest held.bytes lacks some)
    ∙ numbered_kept held.count held.bytes [] kept
    ∙ ap (λ (b : List ℕ). let l : Line = record { number = held.count + 1; bytes = b } in l ∷ [])
    (sym (take_all (length held.bytes) held.bytes (omega arith)))

-- a rest that is too long has bytes, and isn't passed over
pub long_is_kept : (line : List ℕ) → is_overlong line ≡ true
    → (0 < length line) × (is_skipped line ≡ false)
long_is_kept [] long = absurd (cc (long))
long_is_kept (byte ∷ more) long = (
  omega arith,
  or_from (length (byte ∷ more) == 0) (is_comment (byte ∷ more))
      (ne_eqb (length (byte ∷ more)) 0 (λ none. omega arith))
      (not-true (is_comment (byte ∷ more)) (and_parts _ _ long).0),
)

-- a rest that is too long is the next line
pub long_rest : (held : Held) → Lacks newline held.bytes → is_overlong held.bytes ≡ true
    → NextIsLong held (held.count + 1)
long_rest held lacks long =
    let kept = long_is_kept held.bytes long in record {
      line = record { number = held.count + 1; bytes = held.bytes };
      after = [];
      next =
          ap (numbered held.count) (line_of_rest held.bytes lacks kept.0)
          ∙ numbered_kept held.count held.bytes [] kept.1;
      long = long;
      number = refl;
    }

-- a held rest is the next line, if one is to come
next_in_rest : (held : Held) → Lacks newline held.bytes → (line : Line) (after : List Line)
    → lines_from held ≡ line ∷ after
    → line ≡ record { number = held.count + 1; bytes = held.bytes }
next_in_rest held lacks line after next = elim (cases_lt 0 (length held.bytes)) [
  | inl some ↦ elim (cases_Bool (is_skipped held.bytes)) [
    | inl skipped ↦ absurd (cc (next, skipped_rest held lacks some skipped))
    | inr kept ↦
        next_is line _ after []
        (sym next ∙ ap (numbered held.count) (line_of_rest held.bytes lacks some)
        ∙ numbered_kept held.count held.bytes [] kept)
  ]
  | inr none ↦
      let empty = nil_from_length held.bytes (omega arith) in
      absurd (cc (
        next,
        ap (λ (b : List ℕ). numbered held.count (lines b)) empty,
        ap
            (numbered held.count) no_lines,
      ))
]

-- it is too long and has the next number exactly if the call says so
pub long_in_rest : (held : Held) → Lacks newline held.bytes → (n : ℕ) → NextIsLong held n
    → (IsTrue (is_overlong held.bytes)) × (n ≡ held.count + 1)
long_in_rest held lacks n next =
    let is = next_in_rest held lacks next.line next.after next.next in (
      subst (λ (l : Line). IsTrue (is_overlong l.bytes)) is next.long,
      sym next.number
          ∙ ap (λ (l : Line). l.number) is,
    )
