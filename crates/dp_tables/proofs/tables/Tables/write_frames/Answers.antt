use Rattle.std.proofs.Common.{map, sym, subst, All}
use Rattle.dp_history.specs.Items.{entry_in, IsIn}
use Rattle.dp_history.specs.Made.{AreMadeOf}
use Rattle.dp_tables.specs.Inside.{AreTables}
use Rattle.dp_tables.proofs.tables.Tables.write_frames.Goals as goal

pub write_frames-requires : goal.write_frames-requires
write_frames-requires c =
    subst (λ j. All (IsIn j) c.self.inside.live.history.items) (sym c.deref.ensures.value)
    c.self.invariant.of.said

pub invariant_of-self : goal.invariant_of-self
invariant_of-self c =
    let t = c.self.inside in
    let are = c.self.invariant in
    let made = subst (λ j. AreMadeOf t.live.frames (map (entry_in j) t.live.history.items)
    → AreMadeOf c.write_frames.new.self.frames (map (entry_in j) t.live.history.items))
    c.deref.ensures.value c.write_frames.ensures.made in
    subst (λ l. AreTables (record t { live = l })) (sym c.write_frames.ensures.others) (record {
      of = are.of;
      before = are.before;
      bytes = are.bytes;
      events = are.events;
      within = are.within;
      flags = are.flags;
      frames = subst (AreMadeOf c.write_frames.new.self.frames) are.of.entries
          (made (subst (AreMadeOf t.live.frames) (sym are.of.entries) are.frames));
    })
