-- What threads share of a session's hall, and what they hand to each other.
use denote.RattleType.{RattleType}
use denote.Param.Send.{IsSend}
use Rattle.dp_any_session.proofs.session.AnySession.TheSendSync as session
use Rattle.dp_any_session.specs.contracts.session.AnySession as AnySession
use Rattle.dp_any_session.specs.contracts.session.AnySessionMachine.TheImpl as machine
use Rattle.dp_any_session.specs.declared.session_core.SessionCore as core
use Rattle.dp_crew.proofs.Sending.{job_send}
use Rattle.dp_crew.specs.contracts.jobs.Job as Job
use Rattle.dp_epochs.specs.contracts.event.Answer as Answer
use Rattle.dp_epochs.specs.contracts.event.Event as Event
use Rattle.dp_epochs.specs.contracts.event.Query as Query
use Rattle.dp_epochs.specs.contracts.event.Reply as Reply
use Rattle.dp_keeper.specs.declared.keeper.Keeper as keeper
use Rattle.dp_serve.proofs.report.LinkReport.TheSendSync as report
use Rattle.dp_serve.specs.contracts.report.LinkReport as LinkReport

-- a session over a core whose store is S
module _ (C S : RattleType) (g : core.Ghosts C.Denot S.Denot) (k : keeper.Ghosts S.Denot) where
  abbrev row : RattleType
  row = AnySession.the_row C S g k

  pub session_job_send : (W : RattleType) → IsSend W → IsSend C
      → IsSend (Job.the_row W (AnySession.the_row C S g k) LinkReport.the_row Event.the_row
      Reply.the_row Query.the_row Answer.the_row
      (machine.ghosts C S g machine.no_dict k machine.no_dict))
  session_job_send W w s =
      job_send W row LinkReport.the_row Event.the_row Reply.the_row Query.the_row Answer.the_row
      (machine.ghosts C S g machine.no_dict k machine.no_dict) w (session.the_send C S g k s)
      report.the_send
