-- What an opening that is being made holds.
use Rattle.std.specs.Prelude.{◌≡◌, List, map, All}
use Rattle.dp_messages.specs.declared.message.Entry.{Entry}
use Rattle.dp_acl.specs.Table.{StandsFor}
use Rattle.dp_epochs.specs.declared.event.Event.{Event}
use Rattle.dp_history.specs.declared.opening.Opening.{Opening}
use Rattle.dp_history.specs.Items.{entry_in, IsIn}

-- its items are kept of the history beside the journal, and the rights are those after it
pub record Holds (journal : List Event) (opening : Opening) (history : List Entry) : Type 0 where
  pub entries : map (entry_in journal) opening.live.items ≡ history
  pub said : All (IsIn journal) opening.live.items
  pub stands : StandsFor opening.rights.value history
