-- The messages on an uplink: which of them the session will answer.
use Rattle.std.proofs.Common.{◌≡◌, ℕ, ◌<◌, ◌≤◌, Bool, true, false, ◌&&◌, ◌||◌}
use Rattle.std.proofs.Common.{if◌then◌else◌, List, [], ◌∷◌, ◌++◌, refl, sym, ap, ◌∙◌, arith}
use Rattle.std.proofs.Common.{append_assoc, append-nil, map}
use Rattle.std.specs.List.{AllByRecursion}
use Rattle.std.proofs.lemmas.Bool.{eq-eqb, ne_eqb}
use Rattle.std.proofs.Math.Bool.{and-false, or-true}
use Rattle.dp_msg_draw.specs.declared.draw.Draw.{Draw}
use Rattle.dp_msg_meta.specs.declared.message.Control.TheVariants as control
use Rattle.dp_messages.specs.declared.message.Msg.{Msg}
use Rattle.dp_messages.specs.declared.message.Msg.TheVariants as msg
use Rattle.dp_messages.specs.Messages.{kind_of}
use Rattle.dp_messages.specs.Properties.{is_disconnect}
use Rattle.dp_snap.specs.Resets.{reset_begin, reset_messages}
use Rattle.dp_sim_laws.proofs.Events.{is_ack, is_send, sends_of, IsHigh}

-- the sends among the messages that a session hears while the epoch stays, from a connection that
-- has taken up the epoch or not
abbrev pub due : ℕ → Bool → List Msg → List Msg
due epoch ready [] = []
due epoch ready (m ∷ rest) =
    if is_disconnect m then []
    else sends_of ready m ++ due epoch (ready || is_ack epoch m) rest

-- what is said after them is a send that is heard, too
abbrev pub hears_more : ℕ → Bool → List Msg → Bool
hears_more epoch ready [] = ready
hears_more epoch ready (m ∷ rest) =
    if is_disconnect m then false else hears_more epoch (ready || is_ack epoch m) rest

-- an acknowledgement is of the epoch or one before, and a send has a kind from 32 on
abbrev pub MayStand : ℕ → Msg → Type 0
MayStand epoch (msg.Control (control.Ack other)) = other ≤ epoch
MayStand epoch m = IsHigh m

-- none is a Disconnect
abbrev pub HasNoEnd : List Msg → Type 0
HasNoEnd ms = AllByRecursion (λ m. is_disconnect m ≡ false) ms

-- ---- one message

pub stands-high : (epoch : ℕ) (m : Msg) → MayStand epoch m → IsHigh m
stands-high epoch (msg.Control (control.Ack other)) h = tt
stands-high epoch m h = h

pub stands-later : (epoch later : ℕ) (m : Msg) → epoch ≤ later → MayStand epoch m
    → MayStand later m
stands-later epoch later (msg.Control (control.Ack other)) le h = omega (arith, le, h)
stands-later epoch later m le h = h

-- what has a kind from 32 on is a send
pub high-send : (epoch : ℕ) (m : Msg) → 32 ≤ kind_of m
    → MayStand epoch m × (is_send m ≡ true) × (is_disconnect m ≡ false)
high-send epoch (msg.Control (control.Hello name)) high = absurd (omega arith)
high-send epoch (msg.Control m) high = absurd (omega arith)
high-send epoch (msg.Part command) high = absurd (omega arith)
high-send epoch m high = (high, refl, refl)

-- no acknowledgement of a later epoch stands on it
pub no-ack : (epoch later : ℕ) (m : Msg) → epoch < later → MayStand epoch m
    → is_ack later m ≡ false
no-ack epoch later (msg.Control (control.Ack other)) less h =
    ne_eqb other later (λ same. omega (arith, same, less, h))
no-ack epoch later m less h = refl

-- ---- all of them

pub all-later : (epoch later : ℕ) (ms : List Msg) → epoch ≤ later
    → AllByRecursion (MayStand epoch) ms → AllByRecursion (MayStand later) ms
all-later epoch later [] le h = tt
all-later epoch later (m ∷ ms) le h =
    (stands-later epoch later m le h.0, all-later epoch later ms le h.1)

pub all-push : (P : Msg → Type 0) (ms : List Msg) (m : Msg) → AllByRecursion P ms → P m
    → AllByRecursion P (ms ++ m ∷ [])
all-push P [] m h one = (one, tt)
all-push P (x ∷ ms) m h one = (h.0, all-push P ms m h.1 one)

-- the first message, which is no Disconnect
pub due-first : (epoch : ℕ) (ready : Bool) (m : Msg) (rest : List Msg) → is_disconnect m ≡ false
    → due epoch ready (m ∷ rest) ≡ sends_of ready m ++ due epoch (ready || is_ack epoch m) rest
due-first epoch ready m rest is =
    ap (λ b. if b then [] else sends_of ready m ++ due epoch (ready || is_ack epoch m) rest) is

pub hears-first : (epoch : ℕ) (ready : Bool) (m : Msg) (rest : List Msg) → is_disconnect m ≡ false
    → hears_more epoch ready (m ∷ rest) ≡ hears_more epoch (ready || is_ack epoch m) rest
hears-first epoch ready m rest is =
    ap (λ b. if b then false else hears_more epoch (ready || is_ack epoch m) rest) is

-- one more message, a send
pub due-push : (epoch : ℕ) (ready : Bool) (ms : List Msg) (m : Msg)
    → hears_more epoch ready ms ≡ true → is_send m ≡ true → is_disconnect m ≡ false
    → due epoch ready (ms ++ m ∷ []) ≡ due epoch ready ms ++ m ∷ []
due-push epoch ready [] m more send goes =
    due-first epoch ready m [] goes
    ∙ ap (λ b. sends_of b m ++ []) more ∙ ap (λ b. (if true && b then m ∷ [] else []) ++ []) send
due-push epoch ready (x ∷ ms) m more send goes =
    by_end (is_disconnect x) more
    (λ is. due-push epoch (ready || is_ack epoch x) ms m is send goes)
  where
    by_end : (b : Bool)
        → (if b then false else hears_more epoch (ready || is_ack epoch x) ms) ≡ true
        → (hears_more epoch (ready || is_ack epoch x) ms ≡ true
        → due epoch (ready || is_ack epoch x) (ms ++ m ∷ [])
        ≡ due epoch (ready || is_ack epoch x) ms ++ m ∷ [])
        → (if b then [] else sends_of ready x
        ++ due epoch (ready || is_ack epoch x) (ms ++ m ∷ []))
        ≡ (if b then [] else sends_of ready x ++ due epoch (ready || is_ack epoch x) ms)
        ++ m ∷ []
    by_end true is rest = cc
    by_end false is rest =
        ap (λ xs. sends_of ready x ++ xs) (rest is)
        ∙ sym (append_assoc (sends_of ready x) (due epoch (ready || is_ack epoch x) ms) (m ∷ []))

pub hears-push : (epoch : ℕ) (ready : Bool) (ms : List Msg) (m : Msg)
    → hears_more epoch ready ms ≡ true → is_disconnect m ≡ false
    → hears_more epoch ready (ms ++ m ∷ []) ≡ true
hears-push epoch ready [] m more goes =
    hears-first epoch ready m [] goes ∙ ap (λ b. b || is_ack epoch m) more
hears-push epoch ready (x ∷ ms) m more goes =
    by_end (is_disconnect x) more
    (λ is. hears-push epoch (ready || is_ack epoch x) ms m is goes)
  where
    by_end : (b : Bool)
        → (if b then false else hears_more epoch (ready || is_ack epoch x) ms) ≡ true
        → (hears_more epoch (ready || is_ack epoch x) ms ≡ true
        → hears_more epoch (ready || is_ack epoch x) (ms ++ m ∷ []) ≡ true)
        → (if b then false else hears_more epoch (ready || is_ack epoch x) (ms ++ m ∷ [])) ≡ true
    by_end true is rest = cc
    by_end false is rest = rest is

-- one more message, a Disconnect
pub due-end : (epoch : ℕ) (ready : Bool) (ms : List Msg) (m : Msg) → is_disconnect m ≡ true
    → due epoch ready (ms ++ m ∷ []) ≡ due epoch ready ms
due-end epoch ready [] m ends =
    ap (λ b. if b then [] else sends_of ready m ++ []) ends
due-end epoch ready (x ∷ ms) m ends =
    let next = ready || is_ack epoch x in
    ap (λ xs. if is_disconnect x then [] else sends_of ready x ++ xs)
    (due-end epoch next ms m ends)

-- ---- a reset

-- a message of a reset: no send, no acknowledgement and no Disconnect
pub record IsOfReset (m : Msg) : Type 0 where
  pub stands : (epoch : ℕ) → MayStand epoch m
  pub send : is_send m ≡ false
  pub endless : is_disconnect m ≡ false

parts-reset : (commands : List Draw) (rest : List Msg) → AllByRecursion IsOfReset rest
    → AllByRecursion IsOfReset (map msg.Part commands ++ rest)
parts-reset [] rest h = h
parts-reset (command ∷ commands) rest h = (
  record { stands = λ epoch. tt; send = refl; endless = refl },
  parts-reset commands rest h,
)

begin-reset : (keeps : Bool) (taken : ℕ) → IsOfReset (reset_begin keeps taken)
begin-reset true taken = record { stands = λ epoch. tt; send = refl; endless = refl }
begin-reset false taken = record { stands = λ epoch. tt; send = refl; endless = refl }

pub reset-messages : (keeps : Bool) (taken : ℕ) (commands : List Draw)
    → AllByRecursion IsOfReset (reset_messages (reset_begin keeps taken) commands)
reset-messages keeps taken commands = (
  begin-reset keeps taken,
  parts-reset commands (msg.Control control.ResetEnd ∷ [])
      (record { stands = λ epoch. tt; send = refl; endless = refl }, tt),
)

pub all-both : (P : Msg → Type 0) (ms more : List Msg) → AllByRecursion P ms
    → AllByRecursion P more → AllByRecursion P (ms ++ more)
all-both P [] more h k = k
all-both P (m ∷ ms) more h k = (h.0, all-both P ms more h.1 k)

pub all-reset : (P : Msg → Type 0) (ms : List Msg) → ((m : Msg) → IsOfReset m → P m)
    → AllByRecursion IsOfReset ms → AllByRecursion P ms
all-reset P [] is h = tt
all-reset P (m ∷ ms) is h = (is m h.0, all-reset P ms is h.1)

-- after what is said comes a reset
pub due-reset : (epoch : ℕ) (ready : Bool) (ms more : List Msg) → AllByRecursion IsOfReset more
    → due epoch ready (ms ++ more) ≡ due epoch ready ms
due-reset epoch ready [] [] h = refl
due-reset epoch ready [] (m ∷ more) h =
    due-first epoch ready m more h.0.endless
    ∙ ap (λ b. (if ready && b then m ∷ [] else []) ++ due epoch (ready || is_ack epoch m) more)
    h.0.send
    ∙ ap (λ b. (if b then m ∷ [] else []) ++ due epoch (ready || is_ack epoch m) more)
    (and-false ready)
    ∙ due-reset epoch (ready || is_ack epoch m) [] more h.1
due-reset epoch ready (m ∷ ms) more h =
    ap (λ xs. if is_disconnect m then [] else sends_of ready m ++ xs)
    (due-reset epoch (ready || is_ack epoch m) ms more h)

pub hears-reset : (epoch : ℕ) (ready : Bool) (ms more : List Msg) → AllByRecursion IsOfReset more
    → hears_more epoch ready ms ≡ true → hears_more epoch ready (ms ++ more) ≡ true
hears-reset epoch ready ms [] h hears =
    ap (hears_more epoch ready) (append-nil ms) ∙ hears
hears-reset epoch ready ms (m ∷ more) h hears =
    sym (ap (hears_more epoch ready) (append_assoc ms (m ∷ []) more))
    ∙ hears-reset epoch ready (ms ++ m ∷ []) more h.1
    (hears-push epoch ready ms m hears h.0.endless)

-- the acknowledgement of an epoch, if none stands on the uplink
pub due-ack : (epoch before : ℕ) (ms : List Msg) → before < epoch
    → AllByRecursion (MayStand before) ms
    → due epoch false (ms ++ msg.Control (control.Ack epoch) ∷ []) ≡ []
due-ack epoch before [] less h = refl
due-ack epoch before (x ∷ ms) less h =
    ap (λ b. if is_disconnect x then []
    else due epoch b (ms ++ msg.Control (control.Ack epoch) ∷ []))
    (no-ack before epoch x less h.0)
    ∙ ap (λ xs. if is_disconnect x then [] else xs) (due-ack epoch before ms less h.1)
    ∙ never (is_disconnect x)
  where
    never : (b : Bool) → (if b then (let none : List Msg = [] in none) else []) ≡ []
    never true = refl
    never false = refl

pub hears-ack : (epoch : ℕ) (ready : Bool) (ms : List Msg) → HasNoEnd ms
    → hears_more epoch ready (ms ++ msg.Control (control.Ack epoch) ∷ []) ≡ true
hears-ack epoch ready [] h =
    ap (λ b. ready || b) (eq-eqb epoch epoch refl) ∙ or-true ready
hears-ack epoch ready (x ∷ ms) h =
    hears-first epoch ready x (ms ++ msg.Control (control.Ack epoch) ∷ []) h.0
    ∙ hears-ack epoch (ready || is_ack epoch x) ms h.1
