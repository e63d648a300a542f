use Rattle.std.proofs.Common.{◌≡◌, ◌-◌, length, map, drop, sym, ap, subst, ◌∙◌}
use Rattle.std.proofs.lemmas.List.{drop-map}
use Rattle.dp_history.specs.Frames.{AreWritten}
use Rattle.dp_history.specs.Items.{entry_in}
use Rattle.dp_history.specs.Made.{WereKept, going_over}
use Rattle.dp_history.proofs.KeptLemmas.{made-of-kept}
use Rattle.dp_history.proofs.frames.HistoryFrames.keep.Goals as goal

pub keep_frames-outcome-requires-clause-made : goal.keep_frames-outcome-requires-clause-made
keep_frames-outcome-requires-clause-made c =
    let f = entry_in c.args.journal.now in
    subst (AreWritten c.args.self.now.rest)
    (drop-map f c.args.self.now.base c.args.live.now ∙ ap (map f) (sym c.rest_of-items.ensures))
    c.requires.made.rest

pub returns-clause-kept : goal.returns-clause-kept
returns-clause-kept c = λ are.
    let f = entry_in c.args.journal.now in
    let rest = are.rest in
    let items : drop c.args.self.now.base (map f c.args.live.now) ≡ map f c.rest_of-items.result.now
    = drop-map f c.args.self.now.base c.args.live.now
    ∙ ap (map f) (sym c.rest_of-items.ensures) in
    record {
      none = c.new.ensures;
      kept = subst (λ n. WereKept c.keep_frames-outcome.result c.keep_frames-outcome.new.kept
          (going_over (drop n rest.written)))
          c.saturating_sub-skip.ensures
          (c.keep_frames-outcome.ensures (record {
            written = rest.written;
            rest = rest.rest;
            of = rest.of;
            all = sym items ∙ rest.all;
          }));
    }

pub returns-clause-made : goal.returns-clause-made
returns-clause-made c = λ before long.
    let f = entry_in c.args.journal.now in
    let base = c.args.self.now.base in
    let live = c.args.live.now in
    let skip = c.saturating_sub-skip.result in
    let items = c.rest_of-items.result.now in
    let all : drop base (map f live) ≡ map f items =
    drop-map f base live ∙ ap (map f) (sym c.rest_of-items.ensures) in
    let left : map f c.rest_of.result.now ≡ drop (c.args.at - base) (drop base (map f live)) =
    ap (map f) c.rest_of.ensures ∙ sym (drop-map f skip items) ∙ ap (drop skip) (sym all)
    ∙ ap (λ n. drop n (drop base (map f live))) c.saturating_sub-skip.ensures in
    made-of-kept c.keep_frames-outcome.result c.args.self.now _ (map f live) before c.args.at
    c.count_kept-count.result c.args.opens_with c.requires.made
    (returns-clause-kept c c.requires.made)
    (c.count_kept-count.ensures ∙ ap (λ xs. length (going_over xs)) left) long
    c.saturating_sub-self.ensures
