-- What the calls of a client and of a world rest on.
use Rattle.std.proofs.Common.{◌≡◌, ℕ, suc, zero, ◌-◌, ◌==◌, Bool, true, false, not, if◌then◌else◌}
use Rattle.std.proofs.Common.{List, [], ◌∷◌, length, Option, None, Some, is_some, Result, Ok, Err}
use Rattle.std.proofs.Common.{OnOk, IfSome, IsSome}
use Rattle.std.proofs.Common.{refl, sym, ap, subst, ◌∙◌}
use Rattle.std.specs.List.{list_any, slice_get}
use Rattle.std.specs.Option.{option_map_or}
use Rattle.std.specs.Prelude.{slice_index_or}
use Rattle.dp_board.specs.Counts.{CountsFew}
use Rattle.dp_lists.specs.Numbered.{numbered}
use Rattle.dp_messages.specs.declared.message.Entry.{Entry}
use Rattle.dp_msg_draw.specs.declared.draw.Draw.{Draw}
use Rattle.dp_pixels.specs.Feet.{reach}
use Rattle.dp_schedule.specs.declared.action.Instruction.{Instruction}
use Rattle.dp_epochs.specs.declared.connection.Connection.{Connection}
use Rattle.dp_epochs.specs.declared.connection.Ending.{Ending}
use Rattle.dp_epochs.specs.declared.connection.Ending.TheVariants as ending
use Rattle.dp_epochs.specs.declared.event.Answer.{Answer}
use Rattle.dp_epochs.specs.declared.event.Answer.TheVariants.{Entries, Gone}
use Rattle.dp_epochs.specs.declared.event.Query.TheVariants.{Pull}
use Rattle.dp_epochs.specs.Connections.{is_ended}
use Rattle.dp_epochs.specs.State.{State, epoch_of, where_open, connection_of}
use Rattle.dp_epochs.specs.Past.{Past, state_of}
use Rattle.dp_epochs.specs.Pull.{page, pulled_from, pulled_by, pulled_where, answered}
use Rattle.dp_sim.specs.Exchanges.{Participant, next_entry}
use Rattle.dp_sim_world.specs.Calls.{exchange, CanTake}
use Rattle.dp_sim.specs.Due.{exchange_due}
use Rattle.dp_sim.specs.World.{World}
use Rattle.dp_sim.specs.Invariant.{IsWorld}

-- ---- what is pulled

-- the first entry of an answer
abbrev first_of : Answer → Option Entry
first_of (Entries epoch at list) = slice_get list 0
first_of Gone = None

-- the first entry of a page
page-first : (n : ℕ) (xs : List Entry) → slice_get (page n 1 xs) 0 ≡ slice_get xs n
page-first zero [] = refl
page-first zero (x ∷ xs) = refl
page-first (suc n) [] = refl
page-first (suc n) (x ∷ xs) = page-first n xs

-- by whether the cursor is of the live epoch
first-pulled : (live : List Entry) (epoch other at : ℕ) (b : Bool)
    → first_of (if b then Entries epoch at (page at 1 live) else Entries other 0 (page 0 1 live))
    ≡ slice_get live (if b then at else 0)
first-pulled live epoch other at true = page-first at live
first-pulled live epoch other at false = page-first 0 live

-- a connection that has not ended is pulled from, if none is quiet
by-ending : (s : State) (quiet : List ℕ) (conn epoch at most : ℕ) (c : Connection) (e : Ending)
    → quiet ≡ []
    → is_some (if not (is_ended e) then Some c else None) ≡ true
    → pulled_by s quiet conn epoch at most e ≡ pulled_from s epoch at most s.live
by-ending s quiet conn epoch at most c ending.Running none running =
    ap (λ q. if list_any (λ other. other == conn) q then Gone
    else pulled_from s epoch at most s.live) none
by-ending s quiet conn epoch at most c (ending.Left place) none running = cc
by-ending s quiet conn epoch at most c ending.Shut none running = cc

-- so is an open one
by-connection : (s : State) (quiet : List ℕ) (conn epoch at most : ℕ) (o : Option Connection)
    → quiet ≡ []
    → is_some (where_open o) ≡ true
    → pulled_where s quiet conn epoch at most o ≡ pulled_from s epoch at most s.live
by-connection s quiet conn epoch at most None none running = cc
by-connection s quiet conn epoch at most (Some c) none running =
    by-ending s quiet conn epoch at most c c.ending none running

-- what a client pulls is that of its cursor
pub pull-is : (past : Past) (participant : Participant) (conn epoch at : ℕ) (answer : Answer)
    → CanTake past participant
    → conn ≡ participant.conn → epoch ≡ participant.state.epoch
    → at ≡ length participant.state.taken
    → answer ≡ answered past (Pull conn epoch at 1)
    → answer ≡ pulled_from (state_of past) participant.state.epoch (length participant.state.taken)
    1 (state_of past).live
pull-is past participant conn epoch at answer can same_conn same_epoch same_at is =
    let s = state_of past in
    is
    ∙ ap (λ n. pulled_where s past.quiet n epoch at 1 (connection_of s n)) same_conn
    ∙ by-connection s past.quiet participant.conn epoch at 1 (connection_of s participant.conn)
    can.quiet can.running
    ∙ ap (λ n. pulled_from s n at 1 s.live) same_epoch
    ∙ ap (λ n. pulled_from s participant.state.epoch n 1 s.live) same_at

-- its first entry comes next
pub next-is : (past : Past) (participant : Participant) (epoch at : ℕ) (list : List Entry)
    → Entries epoch at list
    ≡ pulled_from (state_of past) participant.state.epoch (length participant.state.taken) 1
    (state_of past).live
    → slice_get list 0 ≡ next_entry (exchange past participant)
next-is past participant epoch at list is =
    let s = state_of past in
    ap first_of is
    ∙ first-pulled s.live participant.state.epoch (epoch_of s) (length participant.state.taken)
    (participant.state.epoch == epoch_of s)

-- ---- what is drawn

-- an item that is there stands at its place, also as the one that is read with a default
there-at : {X : Type 0} (xs : List X) (n : ℕ) (d : X) → IsSome (slice_get xs n)
    → IfSome (slice_get xs n) (λ x. x ≡ slice_index_or xs n d)
there-at [] n d some = cc
there-at (x ∷ xs) zero d some = refl
there-at (x ∷ xs) (suc n) d some = there-at xs n d some

by-zero : {X : Type 0} (b : Bool) (o : Option X) (y : X) → IsSome (if b then None else o)
    → (IsSome o → IfSome o (λ x. x ≡ y)) → IfSome (if b then None else o) (λ x. x ≡ y)
by-zero true o y some is = cc
by-zero false o y some is = is some

pub numbered-is : {X : Type 0} (xs ys : List X) (number : ℕ) (x d : X)
    → x ≡ slice_index_or xs (number - 1) d → xs ≡ ys → IsSome (numbered ys number)
    → IfSome (numbered ys number) (λ y. y ≡ x)
numbered-is xs ys number x d read same some =
    subst (λ z. IfSome (numbered ys number) (λ y. y ≡ z))
    (sym (read ∙ ap (λ zs. slice_index_or zs (number - 1) d) same))
    (by-zero (number == 0) (slice_get ys (number - 1)) (slice_index_or ys (number - 1) d) some
    (there-at ys (number - 1) d))

-- what a client draws that is there, by its number
pub counts-of : (found : Option Participant) (past : Past) (participant : Participant)
    (instruction : Instruction) (draws draws' tiles tiles' : ℕ) → IsSome found
    → IfSome found (λ p. p ≡ participant)
    → CountsFew reach (exchange_due (exchange past participant) instruction) draws draws' tiles
    tiles'
    → CountsFew reach (option_map_or (λ p. exchange_due (exchange past p) instruction) found [])
    draws draws' tiles tiles'
counts-of None past participant instruction draws draws' tiles tiles' some same few = cc (some)
counts-of (Some p) past participant instruction draws draws' tiles tiles' some same few =
    subst (λ (due : List Draw). CountsFew reach due draws draws' tiles tiles')
    (ap (λ x. exchange_due (exchange past x) instruction) (sym same)) few

-- ---- worlds

-- the world is one after a call that succeeds
pub on-ok-world : {T E : Type 0} (r : Result T E) (new due : World) → IsWorld due
    → OnOk r (new ≡ due)
    → OnOk r (IsWorld new)
on-ok-world (Ok x) new due is same = subst IsWorld (sym same) is
on-ok-world (Err e) new due is same = same
