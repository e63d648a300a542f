-- What a link acts on the hall of a session.
use Rattle.std.specs.Prelude.{◌≡◌, List, [], ◌∷◌, Option, None, Some}
use Rattle.dp_hall.specs.declared.view.View.{View}
use Rattle.dp_hall.specs.Laws.{Continues}
use Rattle.dp_epochs.specs.declared.event.Event.{Event}
use Rattle.dp_epochs.specs.Past.{Past}
use Rattle.dp_session_laws.specs.Logs.{LogEntry, ReplyOrMemory}

-- what a seat of the session's hall knows
abbrev pub SeatView : Type 0
SeatView = View Event ReplyOrMemory Past

-- the act is of this event, of which that came
pub record IsAct (act : LogEntry) (event : Event) (outcome : ReplyOrMemory) : Type 0 where
  pub event_is : act.event ≡ event
  pub outcome_is : act.outcome ≡ outcome

-- the seat acted this event, of which that came, and nothing else
pub record ActsOnce (v : SeatView) (event : Event) (outcome : ReplyOrMemory) (w : SeatView) : Type 0
  where
    pub act : LogEntry
    pub is : IsAct act event outcome
    pub goes : Continues v (act ∷ []) w

-- what came of the last of these acts, if there is one
abbrev pub last_outcome : List LogEntry → Option ReplyOrMemory
last_outcome [] = None
last_outcome (act ∷ []) = Some act.outcome
last_outcome (act ∷ next ∷ acts) = last_outcome (next ∷ acts)
