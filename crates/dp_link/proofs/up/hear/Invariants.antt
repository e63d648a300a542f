use Rattle.std.proofs.Common.{◌≡◌, ◌-◌, ◌≤◌, ℕ, List, Option, false}
use Rattle.dp_frame.specs.Frames.{HoldsNoFrame}
use Rattle.dp_split.specs.Stream.{Stream}
use Rattle.dp_messages.specs.declared.message.Entry.{Entry}
use Rattle.dp_entries.specs.Anywhere.{StandsAnywhere}
use Rattle.dp_entries.specs.Onward.{ReadOn}
use Rattle.dp_io.specs.Limits.{stream_limit}
use Rattle.dp_link.specs.Hearing.{HeardMore}
use Rattle.dp_link.proofs.up.hear.Given as goal

-- the messages so far were heard, and another one is held
abbrev pub invariant-messages : goal.invariant-messages
invariant-messages l = record {
  limit : l.link.limit ≡ stream_limit;
  held : ¬ HoldsNoFrame l.link.stream.held;
  at : l.fn.link.stream.at ≤ l.link.stream.at;
  hears : (left unread : Option (List ℕ)) (start : Stream) (entries : List Entry)
      → ReadOn StandsAnywhere left unread start entries l.fn.link
      → HeardMore left unread start entries l.conn l.says.items false l.link;
}

abbrev pub decreases-messages : goal.decreases-messages
decreases-messages l = stream_limit - l.link.stream.at
