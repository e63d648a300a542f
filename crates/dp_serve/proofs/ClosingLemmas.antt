-- Closing the connections that are open, one after another.
use Rattle.std.proofs.Common.{◌≡◌, ℕ, zero, suc, ◌+◌, ◌-◌, ◌<◌, ◌≤◌, Bool, true, false, cond}
use Rattle.std.proofs.Common.{List, [], ◌∷◌, length, Option, None, Some, is_some}
use Rattle.std.proofs.Common.{refl, sym, ap, ap₂, subst, ◌∙◌, ⊎_elim, arith, ◌||◌}
use Rattle.std.specs.Prelude.{slice_set, MatchBool}
use Rattle.std.specs.List.{filter, find, range_with_len}
use Rattle.std.proofs.lemmas.Bool.{cases_Bool}
use Rattle.std.proofs.lemmas.List.{length-set}
use Rattle.dp_lists.proofs.Numbered.{numbered-other}
use Rattle.dp_hall.specs.Logs.{left_by}
use Rattle.dp_epochs.specs.declared.connection.Connection.{Connection}
use Rattle.dp_epochs.specs.declared.event.Event.{Event}
use Rattle.dp_epochs.specs.declared.event.Event.TheVariants as event
use Rattle.dp_epochs.specs.Laws.{ShutBefore}
use Rattle.dp_epochs.specs.State.{State, after_event, closed_by, open_connection, open_in}
use Rattle.dp_epochs.specs.State.{next_open, stays, where_open}
use Rattle.dp_epochs.specs.declared.event.Reply.TheVariants as reply
use Rattle.std.specs.Option.{option_map_or}
use Rattle.dp_epochs.specs.Past.{Past, Step, kept, state_of}
use Rattle.dp_session_laws.specs.Logs.{ReplyOrMemory, LogEntry, IsSessionLog}
use Rattle.dp_session_laws.specs.Journals.{is_kept}
use Rattle.dp_session_laws.proofs.Steps.{Came, WasKept, WasEnded, WasFault, RanOut, step-came}
use Rattle.dp_serve.specs.Closings.{open_above, open_numbers, ClosesEach}
use Rattle.dp_serve.specs.Serving.{Left}

-- ---- numbers of a range that pass a test

-- the first that passes, and those after it
pub record IsFirst (p : ℕ → Bool) (low n k : ℕ) : Type 0 where
  pub above : low ≤ k
  pub below : k < low + n
  pub passes : p k ≡ true
  pub rest : filter p (range_with_len low n)
      ≡ k ∷ filter p (range_with_len (k + 1) (low + n - (k + 1)))

some-is : (a b : ℕ) → Some a ≡ Some b → a ≡ b
some-is a b e = cc

pub first-of : (p : ℕ → Bool) (low n k : ℕ) → find p (range_with_len low n) ≡ Some k
    → IsFirst p low n k
first-of p low zero k found = cc
first-of p low (suc n) k found =
    ⊎_elim (λ (here : p low ≡ true).
    let e : low ≡ k = some-is low k (sym (ap (λ b. cond b (Some low)
    (find p (range_with_len (low + 1) n))) here) ∙ found) in
    let left : low + suc n - (low + 1) ≡ n = omega arith in
    let after : filter p (range_with_len (low + 1) n)
    ≡ filter p (range_with_len (low + 1) (low + suc n - (low + 1))) =
    ap (λ m. filter p (range_with_len (low + 1) m)) (sym left) in
    subst (λ j. IsFirst p low (suc n) j) e (record {
      above = omega arith;
      below = omega arith;
      passes = here;
      rest =
          ap (λ b. cond b (low ∷ filter p (range_with_len (low + 1) n))
          (filter p (range_with_len (low + 1) n))) here
          ∙ ap (λ l. low ∷ l) after;
    }))
    (λ (other : p low ≡ false).
    let h = first-of p (low + 1) n k (sym (ap (λ b. cond b (Some low)
    (find p (range_with_len (low + 1) n))) other) ∙ found) in
    let left : low + 1 + n - (k + 1) ≡ low + suc n - (k + 1) = omega arith in
    record {
      above = omega (arith, h.above);
      below = omega (arith, h.below);
      passes = h.passes;
      rest =
          ap (λ b. cond b (low ∷ filter p (range_with_len (low + 1) n))
          (filter p (range_with_len (low + 1) n))) other
          ∙ h.rest
          ∙ ap (λ m. k ∷ filter p (range_with_len (k + 1) m)) left;
    })
    (cases_Bool (p low))

pub none-of : (p : ℕ → Bool) (low n : ℕ) → find p (range_with_len low n) ≡ None
    → filter p (range_with_len low n) ≡ []
none-of p low zero found = refl
none-of p low (suc n) found =
    ⊎_elim (λ (here : p low ≡ true).
    let e : Some low ≡ None = sym (ap (λ b. cond b (Some low)
    (find p (range_with_len (low + 1) n))) here) ∙ found in cc)
    (λ (other : p low ≡ false).
    ap (λ b. cond b (low ∷ filter p (range_with_len (low + 1) n))
    (filter p (range_with_len (low + 1) n))) other
    ∙ none-of p (low + 1) n (sym (ap (λ b. cond b (Some low)
    (find p (range_with_len (low + 1) n))) other) ∙ found))
    (cases_Bool (p low))

pub filter-agree : (p q : ℕ → Bool) (low n : ℕ) → ((k : ℕ) → low ≤ k → p k ≡ q k)
    → filter p (range_with_len low n) ≡ filter q (range_with_len low n)
filter-agree p q low zero same = refl
filter-agree p q low (suc n) same =
    ap (λ b. cond b (low ∷ filter p (range_with_len (low + 1) n))
    (filter p (range_with_len (low + 1) n)))
    (same low (omega arith))
    ∙ ap (λ xs. cond (q low) (low ∷ xs) xs)
    (filter-agree p q (low + 1) n (λ k from. same k (omega arith)))

-- ---- open connections

-- the first that is open above a number, and those after it
pub open-first : (cs : List Connection) (low conn : ℕ) → next_open cs low ≡ Some conn
    → open_above low cs ≡ conn ∷ open_above conn cs
open-first cs low conn found =
    let h = first-of (λ k. is_some (open_in cs k)) (low + 1) (length cs - low) conn found in
    let left : low + 1 + (length cs - low) - (conn + 1) ≡ length cs - conn =
    omega (arith, h.above, h.below) in
    h.rest
    ∙ ap (λ m. conn ∷ filter (λ k. is_some (open_in cs k)) (range_with_len (conn + 1) m)) left

pub open-none : (cs : List Connection) (low : ℕ) → next_open cs low ≡ None → open_above low cs ≡ []
open-none cs low found =
    none-of (λ k. is_some (open_in cs k)) (low + 1) (length cs - low) found

-- if one connection has become another, those above it that are open stay
set-above : (cs : List Connection) (conn : ℕ) (d : Connection) → 0 < conn
    → open_above conn (slice_set cs (conn - 1) d) ≡ open_above conn cs
set-above cs conn d above =
    ap (λ m. filter (λ k. is_some (open_in (slice_set cs (conn - 1) d) k))
    (range_with_len (conn + 1) (m - conn))) (length-set cs (conn - 1) d)
    ∙ filter-agree (λ k. is_some (open_in (slice_set cs (conn - 1) d) k))
    (λ k. is_some (open_in cs k)) (conn + 1) (length cs - conn)
    (λ k from. ap (λ found. is_some (where_open found))
    (numbered-other cs conn k d above (λ same. omega arith)))

-- after a connection was closed, those above it that are open are the same
closed-above : (s : State) (conn : ℕ) (found : Option Connection) → 0 < conn
    → open_above conn
    (option_map_or (closed_by s conn) found (stays s reply.Ignored)).state.connections
    ≡ open_above conn s.connections
closed-above s conn None above = refl
closed-above s conn (Some c) above = set-above s.connections conn _ above

pub record StepLaws : Type 0 where
  pub kept_leads : (past : Past) (e : Event) → ShutBefore past
      → state_of (kept past e) ≡ after_event (state_of past) e
  pub before : (past : Past) (log : List LogEntry) → ShutBefore past → IsSessionLog past log
      → ShutBefore (left_by past log)

pub step-before : StepLaws → (old : Past) (e : Event) (outcome : ReplyOrMemory) (new : Past)
    → ShutBefore old → Step old e outcome new → ShutBefore new
step-before laws old e outcome new sound h =
    laws.before old (record { by = []; event = e; outcome = outcome; left = new } ∷ []) sound
    (h, tt)

came-above : StepLaws → (old : Past) (conn : ℕ) (outcome : ReplyOrMemory) (new : Past) → 0 < conn
    → ShutBefore old → Came old (event.Close conn) outcome new → is_kept outcome ≡ true
    → open_above conn (state_of new).connections ≡ open_above conn (state_of old).connections
came-above laws old conn outcome new above sound (WasKept is after) went =
    ap (λ p. open_above conn (state_of p).connections) after
    ∙ ap (λ (s : State). open_above conn s.connections)
    (laws.kept_leads old (event.Close conn) sound)
    ∙ closed-above (state_of old) conn (open_connection (state_of old) conn) above
came-above laws old conn outcome new above sound (WasEnded is full h) went =
    let e : false ≡ true = sym (ap is_kept is) ∙ went in cc
came-above laws old conn outcome new above sound (WasFault count is h) went =
    let e : false ≡ true = sym (ap is_kept is) ∙ went in cc
came-above laws old conn outcome new above sound (RanOut error is after) went =
    let e : false ≡ true = sym (ap is_kept is) ∙ went in cc

-- ---- closing them

-- what is left to close
abbrev pub ToClose : Past → ℕ → Past → ℕ → Type 0
ToClose old low now last =
    (refusal : Option ReplyOrMemory) (new : Past)
    → ClosesEach now (open_above last (state_of now).connections) refusal new
    → ClosesEach old (open_above low (state_of old).connections) refusal new

each-first : (old now : Past) (conns : List ℕ) (conn : ℕ) (rest : List ℕ) → conns ≡ conn ∷ rest
    → (outcome : ReplyOrMemory) (refusal : Option ReplyOrMemory) (new : Past)
    → Step old (event.Close conn) outcome now
    → MatchBool (is_kept outcome) (ClosesEach now rest refusal new)
    ((refusal ≡ Some outcome) × (new ≡ now))
    → ClosesEach old conns refusal new
each-first old now conns conn rest is outcome refusal new step then =
    subst (λ l. ClosesEach old l refusal new) (sym is) (outcome, now, step, then)

-- one more was closed
pub close-more : StepLaws → (start : Past) (old : Past) (last conn : ℕ) (outcome : ReplyOrMemory)
    (new : Past) → ShutBefore old → ToClose start 0 old last
    → next_open (state_of old).connections last ≡ Some conn
    → Step old (event.Close conn) outcome new → is_kept outcome ≡ true → ToClose start 0 new conn
close-more laws start old last conn outcome new sound so found step went refusal end closes =
    let cs = (state_of old).connections in
    let first = first-of (λ k. is_some (open_in cs k)) (last + 1) (length cs - last) conn found in
    let same = came-above laws old conn outcome new (omega (arith, first.above)) sound
    (step-came old (event.Close conn) outcome new step) went in
    so refusal end (each-first old new (open_above last cs) conn (open_above conn cs)
    (open-first cs last conn found) outcome refusal end step
    (subst (λ b. MatchBool b (ClosesEach new (open_above conn cs) refusal end)
    ((refusal ≡ Some outcome) × (end ≡ new))) (sym went)
    (subst (λ l. ClosesEach new l refusal end) same closes)))

-- one was refused
pub close-refused : (start : Past) (old : Past) (last conn : ℕ) (outcome : ReplyOrMemory)
    (new : Past) → ToClose start 0 old last
    → next_open (state_of old).connections last ≡ Some conn
    → Step old (event.Close conn) outcome new → is_kept outcome ≡ false
    → ClosesEach start (open_numbers start) (Some outcome) new
close-refused start old last conn outcome new so found step refused =
    let cs = (state_of old).connections in
    so (Some outcome) new (each-first old new (open_above last cs) conn (open_above conn cs)
    (open-first cs last conn found) outcome (Some outcome) new step
    (subst (λ b. MatchBool b (ClosesEach new (open_above conn cs) (Some outcome) new)
    ((Some outcome ≡ Some outcome) × (new ≡ new))) (sym refused) (refl, refl)))

-- none is left
pub close-done : (start : Past) (old : Past) (last : ℕ) → ToClose start 0 old last
    → next_open (state_of old).connections last ≡ None
    → ClosesEach start (open_numbers start) None old
close-done start old last so found =
    so None old (subst (λ l. ClosesEach old l None old)
    (sym (open-none (state_of old).connections last found)) (refl, refl))

-- fewer are left each time
pub fewer-left : StepLaws → (old : Past) (last conn : ℕ) (outcome : ReplyOrMemory) (new : Past)
    → ShutBefore old → next_open (state_of old).connections last ≡ Some conn
    → Step old (event.Close conn) outcome new → is_kept outcome ≡ true
    → length (open_above conn (state_of new).connections)
    < length (open_above last (state_of old).connections)
fewer-left laws old last conn outcome new sound found step went =
    let cs = (state_of old).connections in
    let first = first-of (λ k. is_some (open_in cs k)) (last + 1) (length cs - last) conn found in
    let same = ap length (came-above laws old conn outcome new (omega (arith, first.above)) sound
    (step-came old (event.Close conn) outcome new step) went) in
    let more = ap length (open-first cs last conn found) in
    omega (arith, same, more)

-- ---- what is left

-- what is left with flags that are the same
pub with-flags : (rest : Left) (a b c d : Bool) → a ≡ c → b ≡ d
    → (record rest { memory = a; store = b }) ≡ (record rest { memory = c; store = d })
with-flags rest a b c d x y =
    ap₂ (λ (p q : Bool). record rest { memory = p; store = q }) x y

-- a flag that is raised, and one that is raised if the other is
pub raised : (a b r : Bool) → a ≡ true → r ≡ a → r ≡ a || b
raised a b r up same = same ∙ up ∙ ap (λ x. x || b) (sym up)

pub as-other : (a b r : Bool) → a ≡ false → r ≡ b → r ≡ a || b
as-other a b r down same = same ∙ ap (λ x. x || b) (sym down)
