use Rattle.std.proofs.lemmas.Str.{IsUtf8-string_bytes}
use Rattle.dp_msg_meta.proofs.lists.Text.as_slice.Goals as goal

pub returns-clause-text : goal.returns-clause-text
returns-clause-text c = rw (← c.self.view_is) (
  IsUtf8-string_bytes c.self.inside.text,
  c.self.invariant,
)
