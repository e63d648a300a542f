use Rattle.std.proofs.Common.{map, sym, subst, All}
use Rattle.dp_history.specs.Items.{entry_in, IsIn}
use Rattle.dp_history.specs.Made.{AreMadeOf}
use Rattle.dp_commit.proofs.live.LiveEpoch.write_frames.Goals as goal

pub write-requires : goal.write-requires
write-requires c = subst (All (IsIn c.args.journal.now)) (sym c.deref.ensures.value) c.requires

pub returns-clause-made : goal.returns-clause-made
returns-clause-made c =
    subst (λ xs. AreMadeOf c.args.self.now.frames (map (entry_in c.args.journal.now) xs)
    → AreMadeOf c.write.new.self (map (entry_in c.args.journal.now) xs))
    c.deref.ensures.value c.write.ensures
