-- Closing the connections that are open, and serving a session after that.
use Rattle.std.specs.Prelude.{◌≡◌, ℕ, ◌+◌, ◌-◌, ◌||◌, is_some, Option, None, Some, MatchBool}
use Rattle.std.specs.Prelude.{List, [], ◌∷◌, length}
use Rattle.std.specs.List.{filter, range_with_len}
use Rattle.dp_hall.specs.Calls.{Closes}
use Rattle.dp_link.specs.Acts.{SeatView}
use Rattle.dp_epochs.specs.declared.connection.Connection.{Connection}
use Rattle.dp_epochs.specs.declared.event.Event.TheVariants.{Close}
use Rattle.dp_epochs.specs.State.{open_in}
use Rattle.dp_epochs.specs.Past.{Past, Step, state_of}
use Rattle.dp_session_laws.specs.Logs.{ReplyOrMemory}
use Rattle.dp_session_laws.specs.Journals.{is_kept}
use Rattle.dp_link_run.specs.Talking.{is_last_failed, is_last_store_fault}
use Rattle.dp_serve.specs.Serving.{Seen, Left, Serves}

-- the numbers above this one of the connections that are open among these, rising
abbrev pub open_above : ℕ → List Connection → List ℕ
open_above low connections =
    filter (λ conn. is_some (open_in connections conn))
    (range_with_len (low + 1) (length connections - low))

-- the numbers of a session's connections that are open, rising
abbrev pub open_numbers : Past → List ℕ
open_numbers past = open_above 0 (state_of past).connections

-- Connections were closed one after another, each by one step, up to the first Close that was
-- refused, if one was: it came to this.
abbrev pub ClosesEach : Past → List ℕ → Option ReplyOrMemory → Past → Type 0
ClosesEach old [] refusal new = (refusal ≡ None) × (new ≡ old)
ClosesEach old (conn ∷ conns) refusal new =
    (outcome : ReplyOrMemory) × (next : Past) × Step old (Close conn) outcome next
    × MatchBool (is_kept outcome) (ClosesEach next conns refusal new)
    ((refusal ≡ Some outcome) × (new ≡ next))

-- First the connections that were open were closed, and then the session was served over these
-- wires. The flags tell of the closings, too.
pub record ServesOn {W R T : Type 0} (see : Seen W R T) (start : Past) (most : ℕ)
    (old new : List W) (left : Left) : Type 0 where
  pub refusal : Option ReplyOrMemory
  pub closed : Past
  pub closes : ClosesEach start (open_numbers start) refusal closed
  pub rest : Left
  pub serves : Serves see closed most old new rest
  pub left_is : left ≡ record rest {
    memory = rest.memory || is_last_failed refusal;
    store = rest.store || is_last_store_fault refusal;
  }

-- what closing the hall left
pub record ClosesTo (start : Past) (v : SeatView) (left : Left) : Type 0 where
  pub last : Past
  pub closes : Closes Step start v last
  pub journal : left.journal ≡ last.journal
  pub shut : left.shut ≡ last.shut
  pub known : left.known ≡ last.known
  pub count : left.count ≡ last.count
  pub read_faults : left.read_faults ≡ last.read_faults
