use Rattle.std.proofs.Common.{◌≡◌, ℕ, ◌+◌, ◌<◌, List, [], ◌∷◌, length, ap, sym, ◌∙◌, arith}
use Rattle.std.proofs.lemmas.List.{nil_from_length}
use Rattle.dp_lines.specs.Lines.{lines, numbered, is_skipped}
use Rattle.dp_lines.specs.Held.{Held, lines_from}
use Rattle.dp_lines.specs.Taken.{first_line, after_first}
use Rattle.dp_lines.proofs.Giving.{given_line, same_after, long_next, none_next, no_lines}
use Rattle.dp_lines.proofs.Giving.{none_after, rest_counted, skipped_rest, kept_rest}
use Rattle.dp_lines.proofs.lines.Lines.take_rest.Goals as goal
use Rattle.dp_lines.proofs.lines.Lines.take_rest.Goals.{Then-len-eq0, After-drop_line}
use Rattle.dp_lines.proofs.lines.Lines.take_rest.Goals.{After-take_line}

-- no bytes are no line
none_to_come : (held : Held) (len : ℕ) → len ≡ length held.bytes → len ≡ 0 → lines_from held ≡ []
none_to_come held len all none =
    ap (λ (b : List ℕ). numbered held.count (lines b)) (nil_from_length held.bytes (sym all ∙ none))
    ∙ ap (numbered held.count) no_lines

empty_rest : (c : Then-len-eq0) → lines_from c.args.self.now ≡ []
empty_rest c =
    none_to_come c.args.self.now c.len-len.result
    (c.len-len.ensures.value ∙ ap (λ (h : Held). length h.bytes) c.self.view_is) c.if-len-eq0.true

pub returns-then-len-eq0-clause-none : goal.returns-then-len-eq0-clause-none
returns-then-len-eq0-clause-none c = empty_rest c

pub returns-then-len-eq0-clause-long : goal.returns-then-len-eq0-clause-long
returns-then-len-eq0-clause-long c n =
    (λ err. absurd (cc (err)), λ next. absurd (none_next c.args.self.now (empty_rest c) n next))

-- what is known if the rest is passed over
skipped_facts : (c : After-drop_line)
    → (c.drop_line.new.self ≡ after_first c.args.self.now (length c.args.self.now.bytes))
    × (0 < length c.args.self.now.bytes) × (lines_from c.args.self.now ≡ [])
skipped_facts c =
    let bytes = ap (λ (h : Held). h.bytes) c.self.view_is in
    let len = c.len-len.ensures.value ∙ ap length bytes in
    let some : 0 < length c.args.self.now.bytes = omega (arith, c.if-len-eq0.false, len) in
    let skipped = ap is_skipped (sym bytes ∙ sym c.as_slice.ensures)
    ∙ sym c.if-is_passed.ensures in (
      c.drop_line.ensures ∙ ap (after_first c.args.self.now) len,
      some,
      skipped_rest c.args.self.now c.requires some skipped,
    )

pub returns-then-is_passed-clause-lines : goal.returns-then-is_passed-clause-lines
returns-then-is_passed-clause-lines c =
    let facts = skipped_facts c in
    facts.2 ∙ sym (ap lines_from facts.0 ∙ none_after c.args.self.now)

pub returns-then-is_passed-clause-none : goal.returns-then-is_passed-clause-none
returns-then-is_passed-clause-none c = (skipped_facts c).2

pub returns-then-is_passed-clause-long : goal.returns-then-is_passed-clause-long
returns-then-is_passed-clause-long c n = (
  λ err. absurd (cc (err)),
  λ next. absurd (none_next c.args.self.now (skipped_facts c).2 n
      next),
)

pub returns-then-is_passed-clause-count : goal.returns-then-is_passed-clause-count
returns-then-is_passed-clause-count c =
    let facts = skipped_facts c in
    ap (λ (h : Held). h.count + length (lines h.bytes)) facts.0
    ∙ rest_counted c.args.self.now c.requires facts.1

-- what is known if the rest is a line to come
kept_facts : (c : After-take_line)
    → (after_first c.args.self.now (c.len-len.result + 0)
    ≡ after_first c.args.self.now (length c.args.self.now.bytes))
    × (0 < length c.args.self.now.bytes) × (lines_from c.args.self.now
    ≡ first_line c.args.self.now c.len-len.result ∷ [])
kept_facts c =
    let bytes = ap (λ (h : Held). h.bytes) c.self.view_is in
    let len = c.len-len.ensures.value ∙ ap length bytes in
    let some : 0 < length c.args.self.now.bytes = omega (arith, c.if-len-eq0.false, len) in
    let all : c.len-len.result + 0 ≡ length c.args.self.now.bytes = omega (arith, len) in
    let kept = ap is_skipped (sym bytes ∙ sym c.as_slice.ensures) ∙ sym c.if-is_passed.ensures in (
      ap (after_first c.args.self.now) all,
      some,
      kept_rest c.args.self.now c.requires some kept
          ∙ ap (λ (k : ℕ). first_line c.args.self.now k ∷ []) (sym len),
    )

pub returns-clause-lines : goal.returns-clause-lines
returns-clause-lines c =
    let facts = kept_facts c in
    let none = ap lines_from facts.0 ∙ none_after c.args.self.now in
    given_line lines_from c.args.self.now c.take_line.new.self
    (after_first c.args.self.now (c.len-len.result + 0))
    (first_line c.args.self.now c.len-len.result)
    c.take_line.result
    (facts.2 ∙ ap (λ ls. first_line c.args.self.now c.len-len.result ∷ ls) (sym none))
    c.take_line.ensures.line c.take_line.ensures.taken c.take_line.ensures.err

pub returns-clause-long : goal.returns-clause-long
returns-clause-long c =
    long_next c.args.self.now (first_line c.args.self.now c.len-len.result) [] c.take_line.result
    (kept_facts c).2 c.take_line.ensures.long

pub returns-clause-memory : goal.returns-clause-memory
returns-clause-memory c err none =
    let first = (kept_facts c).2 in
    absurd (cc (first, none))

pub returns-clause-count : goal.returns-clause-count
returns-clause-count c =
    let facts = kept_facts c in
    same_after (λ held. held.count + length (lines held.bytes)) c.args.self.now c.take_line.new.self
    (after_first c.args.self.now (c.len-len.result + 0)) c.take_line.result
    (ap (λ (h : Held). h.count + length (lines h.bytes)) facts.0
    ∙ rest_counted c.args.self.now c.requires facts.1)
    c.take_line.ensures.taken c.take_line.ensures.err
