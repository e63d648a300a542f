-- The acts of a seat are in what it has seen.
use Rattle.std.proofs.Common.{ℕ, Bool, true, false, List, [], ◌∷◌, ◌++◌, Option}
use Rattle.std.proofs.Common.{Ok}
use Rattle.std.proofs.Common.{if◌then◌else◌, refl, sym, subst, inl, inr}
use Rattle.dp_split.specs.Stream.{Stream}
use Rattle.dp_hall.specs.Logs.{entries_by, is_same_name}
use Rattle.dp_hall.specs.Names.{IsIn}
use Rattle.dp_hall.specs.Calls.{IsSound}
use Rattle.dp_epochs.specs.Past.{Step}
use Rattle.dp_session_laws.specs.Logs.{HasOpened}
use Rattle.dp_link.specs.declared.ends.Greeting.{Greeting}
use Rattle.dp_link.specs.Acts.{SeatView}
use Rattle.dp_session_laws.specs.Logs.{LogEntry}
use Rattle.dp_link.specs.Hello.{Greets}

in-right : (act : LogEntry) (xs ys : List LogEntry) → IsIn act ys → IsIn act (xs ++ ys)
in-right act [] ys h = h
in-right act (x ∷ xs) ys h = inr (in-right act xs ys h)

-- an entry by a name is an entry
in-all : (name : List ℕ) (act : LogEntry) (log : List LogEntry) → IsIn act (entries_by name log)
    → IsIn act log
in-all name act [] h = absurd h
in-all name act (e ∷ log) h = by_name (is_same_name e.by name) h (in-all name act log)
  where
    by_name : (b : Bool)
        → IsIn act (if b then e ∷ entries_by name log else entries_by name log)
        → (IsIn act (entries_by name log) → IsIn act log) → IsIn act (e ∷ log)
    by_name true (inl same) more = inl same
    by_name true (inr later) more = inr (more later)
    by_name false later more = inr (more later)

pub greeted-seen : (v w : SeatView) (left unread held taken : Option (List ℕ)) (stream : Stream)
    (greeting : Greeting) → IsSound Step w
    → Greets v w left unread held taken stream (Ok greeting)
    → HasOpened w.seen greeting.conn greeting.user greeting.epoch greeting.at
greeted-seen v w left unread held taken stream greeting sound h =
    let opens = h.by.3.0 in
    let last : IsIn opens.0 h.acts =
    subst (λ (l : List LogEntry). IsIn opens.0 l) (sym opens.1) (inl refl) in
    let mine : IsIn opens.0 w.mine =
    subst (λ (l : List LogEntry). IsIn opens.0 l) (sym h.goes.mine)
    (in-right opens.0 v.mine h.acts last) in
    record {
      act = opens.0;
      within =
          in-all w.name opens.0 w.seen
          (subst (λ (l : List LogEntry). IsIn opens.0 l) (sym sound.mine) mine);
      answer = opens.2.outcome_is;
    }
