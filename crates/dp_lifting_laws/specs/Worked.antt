-- A worked example: ann joins, and says a message of kind 70 with two bytes.
use Rattle.std.specs.Prelude.{false, List, [], ◌∷◌}
use Rattle.dp_keeper.specs.declared.row.Row.{Row}
use Rattle.dp_messages.specs.declared.message.Msg.TheVariants.{Opaque}
use Rattle.dp_epochs.specs.declared.event.Event.{Event}
use Rattle.dp_epochs.specs.declared.event.Event.TheVariants.{Open, Say}

abbrev pub worked_rows : List Row
worked_rows =
    record { n = 0; bytes = 0 ∷ 0 ∷ 97 ∷ 110 ∷ 110 ∷ [] }
    ∷ record { n = 1; bytes = 1 ∷ 0 ∷ 0 ∷ 0 ∷ 1 ∷ 70 ∷ 170 ∷ 187 ∷ [] } ∷ []

abbrev pub worked_journal : List Event
worked_journal =
    Open (97 ∷ 110 ∷ 110 ∷ []) false ∷ Say 1 (Opaque 70 (170 ∷ 187 ∷ [])) ∷ []
