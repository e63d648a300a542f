-- Histories as they are sent: the frames of their entries.
use Rattle.std.specs.Prelude.{◌≡◌, List, ◌++◌}
use Rattle.dp_messages.specs.declared.message.Entry.{Entry}
use Rattle.dp_frame_log.specs.Frames.{Log, AreLogOf}
pub use Rattle.dp_frame_log.specs.Frames.{frames_of}

-- the frames are those of the first entries of a history
pub record AreWritten (log : Log) (history : List Entry) : Type 0 where
  pub written : List Entry
  pub rest : List Entry
  pub of : AreLogOf log written
  pub all : history ≡ written ++ rest
