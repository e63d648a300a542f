-- What threads share of a session's hall, and what they hand to each other.
use denote.RattleType.{RattleType}
use denote.Param.Send.{IsSend, IsSync}
use Rattle.dp_any_session.proofs.session.AnySession.TheSendSync as session
use Rattle.dp_any_session.specs.contracts.session.AnySession as AnySession
use Rattle.dp_any_session.specs.contracts.session.AnySessionMachine.TheImpl as machine
use Rattle.dp_any_session.specs.declared.session_core.SessionCore as core
use Rattle.dp_epochs.specs.contracts.event.Answer as Answer
use Rattle.dp_epochs.specs.contracts.event.Event as Event
use Rattle.dp_epochs.specs.contracts.event.Query as Query
use Rattle.dp_epochs.specs.contracts.event.Reply as Reply
use Rattle.dp_hall.proofs.Sending.{seat_send, hall_sync}
use Rattle.dp_hall.specs.contracts.hall.Hall as Hall
use Rattle.dp_hall.specs.contracts.seat.Seat as Seat
use Rattle.dp_keeper.specs.declared.keeper.Keeper as keeper

-- a session over a core whose store is S
module _ (C S : RattleType) (g : core.Ghosts C.Denot S.Denot) (k : keeper.Ghosts S.Denot) where
  abbrev row : RattleType
  row = AnySession.the_row C S g k

  pub session_hall_sync : IsSend C → IsSync (Hall.the_row (AnySession.the_row C S g k)
      Event.the_row Reply.the_row Query.the_row Answer.the_row
      (machine.ghosts C S g machine.no_dict k machine.no_dict))
  session_hall_sync s =
      hall_sync row Event.the_row Reply.the_row Query.the_row Answer.the_row
      (machine.ghosts C S g machine.no_dict k machine.no_dict) (session.the_send C S g k s)

  pub session_seat_send : IsSend C → IsSend (Seat.the_row (AnySession.the_row C S g k)
      Event.the_row Reply.the_row Query.the_row Answer.the_row
      (machine.ghosts C S g machine.no_dict k machine.no_dict))
  session_seat_send s =
      seat_send row Event.the_row Reply.the_row Query.the_row Answer.the_row
      (machine.ghosts C S g machine.no_dict k machine.no_dict) (session.the_send C S g k s)
