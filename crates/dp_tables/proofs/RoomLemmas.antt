-- Tables for which memory was made ready.
use Rattle.std.proofs.Common.{◌≡◌, ◌≤◌, length, All, sym, ap, subst, ◌∙◌, arith}
use Rattle.dp_epochs.specs.Rows.{row_bytes}
use Rattle.dp_epochs.specs.Past.{state_after}
use Rattle.dp_epochs.specs.declared.event.ShutAt.{ShutAt}
use Rattle.dp_history.specs.Made.{AreMadeOf}
use Rattle.dp_commit.specs.Room.{SameRoster, SameSending, SameLive}
use Rattle.dp_tables.specs.declared.tables.Tables.TheInside.{Inside}
use Rattle.dp_tables.specs.Inside.{ledger_of, seen, AreTables}
use Rattle.dp_tables.specs.SessionLog.{state_in}
use Rattle.dp_commit.specs.Tables.{AreOf}

-- what they hold stays
pub tables-roomier : (old new : Inside) → AreTables old
    → new.journal.items ≡ old.journal.items → new.shut.items ≡ old.shut.items
    → new.row_bytes ≡ old.row_bytes → SameRoster old.roster new.roster
    → SameSending old.sending new.sending → SameLive old.live new.live → AreTables new
tables-roomier old new are journal shut row_bytes_are roster sending live =
    let s = state_in (ledger_of old) in
    let of = are.of in
    let state_is : state_in (ledger_of new) ≡ s =
    ap (λ j. state_after j new.shut.items) journal
    ∙ ap (state_after old.journal.items) shut in
    let seen_is : seen new ≡ record (seen old) { rights = new.live.rights } = cc in
    let stays : AreOf s (record (seen old) { rights = new.live.rights }) = record {
      epoch = of.epoch;
      reset = of.reset;
      table = of.table;
      entries = of.entries;
      said = of.said;
      stands = live.stands s.live of.stands;
      ids = of.ids;
      marks = of.marks;
      slots = of.slots;
      joined = of.joined;
      opened = of.opened;
    }
    in
    record {
      of = subst (λ x. AreOf x (seen new)) (sym state_is) (subst (AreOf s) (sym seen_is) stays);
      before = subst (λ x. All (λ (y : ShutAt). y.n ≤ length new.journal.items) x) (sym shut)
          (subst (λ j. All (λ (y : ShutAt). y.n ≤ length j) old.shut.items) (sym journal)
          are.before);
      bytes = row_bytes_are ∙ are.bytes ∙ sym (ap row_bytes journal);
      events = omega (arith, ap length journal, are.events);
      within = omega (arith, row_bytes_are, are.within);
      flags = ap length roster.quiet ∙ are.flags ∙ sym (ap length roster.connections);
      frames = subst (λ x. AreMadeOf x (state_in (ledger_of new)).live) (sym live.frames)
          (subst (AreMadeOf old.live.frames) (sym (ap (λ x. x.live) state_is)) are.frames);
    }
