use Rattle.std.proofs.Common.{◌≡◌, ℕ, ◌-◌, ◌<◌, ◌≤◌, List, length, drop, get_or, not, true, false}
use Rattle.std.proofs.Common.{sym, ap, ◌∙◌, arith}
use Rattle.std.specs.List.{after_last, suffix_len}
use Rattle.std.proofs.lemmas.List.Sums.{suffix_len_is}
use Rattle.dp_messages.specs.declared.message.Msg.TheVariants.{Point}
use Rattle.dp_messages.specs.declared.message.Entry.{Entry}
use Rattle.dp_replay.specs.Replay.{is_mark}
use Rattle.dp_plain_replay.proofs.replay.epoch_start.Goals as goal

-- after the last mark stands what begins if no entry is a mark, and the one before is one
start_is : (entries : List Entry) (start : ℕ) (d : Entry) → start ≤ length entries →
    ((k : ℕ) → start ≤ k → k < length entries → is_mark (get_or entries k d) ≡ false) →
    (0 < start → is_mark (get_or entries (start - 1) d) ≡ true)
    → drop start entries ≡ after_last is_mark entries
start_is entries start d within none mark =
    let count : suffix_len (λ (e : Entry). not (is_mark e)) entries ≡ length entries - start =
    suffix_len_is (λ (e : Entry). not (is_mark e)) entries start d within
    (λ k from below. ap not (none k from below)) (λ some. ap not (mark some)) in
    let at : length entries - suffix_len (λ (e : Entry). not (is_mark e)) entries ≡ start = omega
    (arith, count, within) in
    ap (λ (n : ℕ). drop n entries) (sym at)

pub returns-else-not-is_reset_mark-clause-after : goal.returns-else-not-is_reset_mark-clause-after
returns-else-not-is_reset_mark-clause-after c =
    let found : is_mark (get_or c.args.entries.now (c.loop-start.start - 1)
    c.index-entries-start.result) ≡ true =
    sym c.is_reset_mark.ensures ∙ c.if-not-is_reset_mark.false in
    start_is c.args.entries.now c.loop-start.start c.index-entries-start.result
    c.loop-start.invariant.within
    (λ k from below. c.loop-start.invariant.none k _ from below)
    (λ some. found)

pub returns-after-loop-start-clause-after : goal.returns-after-loop-start-clause-after
returns-after-loop-start-clause-after c =
    start_is c.args.entries.now c.loop-start.start (record { user = 0; msg = Point })
    c.loop-start.invariant.within
    (λ k from below. c.loop-start.invariant.none k _ from below)
    (λ some. absurd (omega (arith, some)))
