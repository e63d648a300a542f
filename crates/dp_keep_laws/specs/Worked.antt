-- Worked examples.
use Rattle.std.specs.Prelude.{ℕ, false, List, [], ◌∷◌}
use Rattle.dp_msg_draw.specs.declared.draw.Draw.TheVariants.{LayerDelete}
use Rattle.dp_msg_meta.specs.declared.message.Control.TheVariants.{ResetFrom}
use Rattle.dp_messages.specs.declared.message.Msg.TheVariants as msg
use Rattle.dp_board.specs.declared.act.Act.TheVariants as act
use Rattle.dp_board.specs.declared.act.UserAct.{UserAct}
use Rattle.dp_board.specs.Laws.{point_of}
use Rattle.dp_epochs.specs.declared.event.Event.{Event}
use Rattle.dp_epochs.specs.declared.event.Event.TheVariants.{Open, Say}

-- ann joins, begins a reset that keeps entries from place 3 on, sets a point, and deletes a layer
-- that isn't there
abbrev pub keeping_journal : List Event
keeping_journal =
    Open (97 ∷ 110 ∷ 110 ∷ []) false
    ∷ Say 1 (msg.Control (ResetFrom 3))
    ∷ Say 1 msg.Point
    ∷ Say 1 (msg.Draw (LayerDelete 257)) ∷ []

-- user 1 sets a point and draws the command 7
abbrev pub older_stroke : List (UserAct ℕ)
older_stroke = point_of 1 ∷ record { user = 1; act = act.Draw 7 } ∷ []

-- and undoes that
abbrev pub its_undo : List (UserAct ℕ)
its_undo = record { user = 1; act = act.Undo 1 } ∷ []
