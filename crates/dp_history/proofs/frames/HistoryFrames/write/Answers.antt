use Rattle.std.proofs.Common.{◌≡◌, map, take, drop, sym, ap, subst, ◌∙◌}
use Rattle.std.proofs.lemmas.List.{take-map, drop-map}
use Rattle.dp_history.specs.Frames.{AreWritten}
use Rattle.dp_history.specs.Items.{entry_in}
use Rattle.dp_history.proofs.frames.HistoryFrames.write.Goals as goal

pub returns : goal.returns
returns c = λ are.
    let f = entry_in c.args.journal.now in
    let base = c.args.self.now.base in
    let live = c.args.live.now in
    let front : take base (map f live) ≡ map f c.prefix_of.result.now =
    take-map f base live ∙ ap (map f) (sym c.prefix_of.ensures) in
    let rest : drop base (map f live) ≡ map f c.rest_of.result.now =
    drop-map f base live ∙ ap (map f) (sym c.rest_of.ensures) in
    record {
      within = are.within;
      front = subst (AreWritten c.write_all.new.frames) (sym front)
          (c.write_all.ensures (subst (AreWritten c.args.self.now.front) front are.front));
      rest = subst (AreWritten c.write_all-2.new.frames) (sym rest)
          (c.write_all-2.ensures (subst (AreWritten c.args.self.now.rest) rest are.rest));
    }
