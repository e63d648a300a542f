-- A hall may be shared and a seat may go to another thread, if the machine may.
use denote.RattleType.{RattleType}
use denote.Param.Send.{IsSend, IsSync, sendable}
use Rattle.std.proofs.Crossing.{crosses}
use Rattle.std.proofs.Crossing as cross
use Rattle.std.specs.contracts.alloc.AllocError as AllocError
use Rattle.std.specs.contracts.option.Option as Option
use Rattle.std.specs.contracts.result.Result as Result
use Rattle.atomic_table.proofs.shared.Seat.TheSendSync as token
use Rattle.atomic_table.proofs.shared.Shared.TheSendSync as shared
use Rattle.atomic_table.proofs.send_lease.SendLease.TheSendSync as lease
use denote.Builtin.{u64}
use Rattle.dp_machine.specs.declared.Machine.{Ghosts}
use Rattle.dp_hall.specs.contracts.seat.Seat as Seat
use Rattle.dp_hall.specs.contracts.hall.Hall as Hall
use Rattle.dp_hall.specs.contracts.slot.Stored as Stored
use Rattle.atomic_table.specs.contracts.owned.Table as Table
use Rattle.dp_hall.specs.contracts.rule.HallRule as HallRule
use Rattle.dp_hall.specs.contracts.rule.HallRuleTableRuleSlotOfViewOfSnapshot.TheImpl as rule
use Rattle.dp_hall.specs.contracts.view.View as View
use Rattle.std.specs.contracts.alloc.Global as Global
use Rattle.std.specs.contracts.impls.GlobalAllocator.TheImpl as heap
use Rattle.std.specs.contracts.snapshot.Snapshot as Snapshot

module _ (T E R Q A : RattleType) (g : Ghosts T.Denot E.Denot R.Denot Q.Denot A.Denot) where
  pub slot_send : IsSend T → IsSend (Option.the_row (Stored.the_row E
      (Result.the_row R AllocError.the_row) T))
  slot_send s = search (sendable, crosses) depth 20

  pub seat_send : IsSend T → IsSend (Seat.the_row T E R Q A g)
  seat_send s = let slot = slot_send s in search (sendable, token.the_send) depth 20

  abbrev slot : RattleType
  slot = Option.the_row (Stored.the_row E (Result.the_row R AllocError.the_row) T)

  abbrev view : RattleType
  view = View.the_row E (Result.the_row R AllocError.the_row) T

  -- the table's fields, each given whole, since a `search` that goes down through them runs out of
  -- steps
  table_sync : IsSend T → IsSync (Table.the_field slot view (Snapshot.the_row T)
      (HallRule.the_row T) Global.the_row (rule.ghosts T E R Q A g rule.no_dict rule.no_dict
      rule.no_dict) heap.ghosts).row
  table_sync s =
      let all = shared.the_sync slot view (Snapshot.the_row T) (HallRule.the_row T)
      (rule.ghosts T E R Q A g rule.no_dict rule.no_dict rule.no_dict) (slot_send s) in
      let words = lease.the_sync u64 Global.the_row heap.ghosts cross.send cross.frees in
      let slots = lease.the_sync slot Global.the_row heap.ghosts cross.send cross.frees in
      search (sendable, cross.sync) depth 20

  pub hall_sync : IsSend T → IsSync (Hall.the_row T E R Q A g)
  hall_sync s = search (sendable, table_sync) depth 20
