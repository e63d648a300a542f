-- What threads share of a number of links, and that jobs may cross threads.
use denote.Builtin.{u32}
use denote.RattleType.{RattleType}
use denote.Param.Send.{IsSend, IsSync, plain_send, plain_sync, recorded_send, struct_send}
use denote.Param.Send.{view_send}
use denote.Struct.Declared.{shape}
use Rattle.std.proofs.option.Option.TheSendSync as option
use Rattle.std.specs.contracts.option.Option as Option
use Rattle.dp_machine.specs.declared.Machine.{Ghosts}
use Rattle.dp_hall.proofs.Sending.{seat_send}
use Rattle.dp_crew.proofs.worked.Worked.TheSendSync as worked
use Rattle.dp_crew.specs.contracts.jobs.Job as Job
use Rattle.dp_crew.specs.contracts.jobs.Job.TheInside as inside

-- a number of links, if one is given
pub number_sync : IsSync (Option.the_row u32)
number_sync = option.the_sync u32 (plain_sync _ _ _ _ _)

pub job_send : (W M P E R Q A : RattleType)
    (g : Ghosts M.Denot E.Denot R.Denot Q.Denot A.Denot) → IsSend W → IsSend M → IsSend P
    → IsSend (Job.the_row W M P E R Q A g)
job_send W M P E R Q A g w m p =
    view_send (inside.the_row W M P E R Q A g) _ _ _ _
    (recorded_send (inside.the_field W M P E R Q A g).row _ _
    (inside.the_type W M P E R Q A g).to_one
    (struct_send (shape (inside.the_type W M P E R Q A g)) (
      plain_send _ _ _ _ _,
      (w, (option.the_field_send _ (seat_send M E R Q A g m), (worked.the_field_send _ p, tt))),
    )))
