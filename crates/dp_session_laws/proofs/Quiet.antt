-- Which connections are quiet after a log, and that a feed that has ended stays so.
use Rattle.std.proofs.Common.{◌≡◌, ◌⊎◌, ℕ, zero, suc, ◌+◌, ◌-◌, ◌<◌, ◌≤◌, ◌==◌, ◌||◌, Bool, true}
use Rattle.std.proofs.Common.{false, cond, if◌then◌else◌, is_some, List, [], ◌∷◌, ◌++◌, length}
use Rattle.std.proofs.Common.{get_or, Some}
use Rattle.std.proofs.Common.{Err, refl, sym, ap, subst, ◌∙◌, inl, inr, arith, alloc_error}
use Rattle.std.specs.Prelude.{Contains}
use Rattle.std.specs.List.{filter, list_any, range_with_len}
use Rattle.std.proofs.lemmas.Bool.{eq-eqb, eqb-true, or_cases, or_right}
use Rattle.std.proofs.lemmas.List.Elements.{All-contains, filter_passes}
use Rattle.std.proofs.lemmas.List.Folds.{list_any_at}
use Rattle.std.proofs.lemmas.List.FromFn.{length-range_with_len, get_or-range_with_len}
use Rattle.std.proofs.lemmas.Option.{slice_get_within}
use mathlib.Core.List.{IsPrefix}
use Rattle.dp_lists.proofs.Numbered.{number-found}
use Rattle.dp_hall.specs.Logs.{left_by}
use Rattle.dp_epochs.specs.declared.connection.Ending.{Ending}
use Rattle.dp_epochs.specs.declared.connection.Ending.TheVariants as ending
use Rattle.dp_epochs.specs.declared.connection.Connection.{Connection}
use Rattle.dp_epochs.specs.declared.event.Event.{Event}
use Rattle.dp_epochs.specs.declared.event.Event.TheVariants as event
use Rattle.dp_epochs.specs.State.{State, epoch_of, connection_of}
use Rattle.dp_epochs.specs.Past.{Past, quiet_with, quieted, state_of}
use Rattle.dp_epochs.specs.Laws.{ShutBefore}
use Rattle.dp_session_laws.specs.Growing.{EndsLater, GrowsInto}
use Rattle.dp_session_laws.specs.Feeds.{Segment, EndsWith, EndsWhere, IsGone}
use Rattle.dp_session_laws.specs.Logs.{ReplyOrMemory, LogEntry, IsSessionLog}
use Rattle.dp_session_laws.specs.Closings.{HasFailedClose}
use Rattle.dp_session_laws.proofs.Growth.{EpochLaws, step-goes, log-goes}
use Rattle.dp_session_laws.proofs.Pulls.{any-contains}
use Rattle.dp_session_laws.proofs.Steps.{Came, WasKept, WasEnded, WasFault, RanOut, step-came}

-- ---- lists

contains-cons : {X : Type 0} (y : X) (ys : List X) (x : X) → Contains (y ∷ ys) x
    → (y ≡ x) ⊎ Contains ys x
contains-cons y ys x (zero, within, is) = inl is
contains-cons y ys x (suc k, within, is) = inr (k, omega (arith, within), is)

contains-later : {X : Type 0} (y : X) (ys : List X) (x : X) → Contains ys x → Contains (y ∷ ys) x
contains-later y ys x h = (suc h.0, omega (arith, h.1), h.2)

-- a filter keeps what passes
filter-holds : {X : Type 0} (p : X → Bool) (xs : List X) (x : X) → p x ≡ true → Contains xs x
    → Contains (filter p xs) x
filter-holds p [] x passes h = absurd (omega (arith, h.1))
filter-holds {X} p (y ∷ ys) x passes h =
    by_head (p y) refl (contains-cons y ys x h) (filter-holds p ys x passes)
  where
    by_head : (b : Bool) → p y ≡ b → (y ≡ x) ⊎ Contains ys x
        → (Contains ys x → Contains (filter p ys) x)
        → Contains (cond b (y ∷ filter p ys) (filter p ys)) x
    by_head true is (inl same) more = (0, omega arith, same)
    by_head true is (inr later) more = contains-later y (filter p ys) x (more later)
    by_head false is (inl same) more =
        let wrong : true ≡ false = sym passes ∙ ap p (sym same) ∙ is in cc
    by_head false is (inr later) more = more later

range-contains : (n x : ℕ) → 0 < x → x ≤ n → Contains (range_with_len 1 n) x
range-contains n x above below =
    let at : x - 1 < n = omega (arith, above, below) in
    let is : get_or (range_with_len 1 n) (x - 1) x ≡ 1 + (x - 1) =
    get_or-range_with_len 1 n (x - 1) x at in
    (x - 1, omega (arith, at, length-range_with_len 1 n), omega (arith, is, above))

contains-any : (xs : List ℕ) (n : ℕ) → Contains xs n → list_any (λ other. other == n) xs ≡ true
contains-any xs n h =
    list_any_at (λ other. other == n) xs h.0 n h.1 (eq-eqb (get_or xs h.0 n) n h.2)

-- ---- a Close for which there was no memory

-- the connection that is closed, and those that are quiet
abbrev stays_quiet : ℕ → List ℕ → ℕ → Bool
stays_quiet conn quiet number = number == conn || list_any (λ other. other == number) quiet

quiet-holds : (s : State) (closed : ℕ) (quiet : List ℕ) (conn : ℕ) (c : Connection)
    → connection_of s conn ≡ Some c → Contains quiet conn
    → Contains (quiet_with s closed quiet) conn
quiet-holds s closed quiet conn c there h = by_given (is_some (connection_of s closed))
  where
    by_given : (b : Bool)
        → Contains (if b then filter (stays_quiet closed quiet)
        (range_with_len 1 (length s.connections)) else quiet) conn
    by_given true =
        let found = number-found s.connections conn c there in
        let within = slice_get_within s.connections (conn - 1) c found.1 in
        filter-holds (stays_quiet closed quiet) (range_with_len 1 (length s.connections)) conn
        (or_right (conn == closed) (list_any (λ other. other == conn) quiet)
        (contains-any quiet conn h))
        (range-contains (length s.connections) conn found.0 (omega (arith, found.0, within)))
    by_given false = h

quiet-had : (s : State) (closed : ℕ) (quiet : List ℕ) (conn : ℕ)
    → Contains (quiet_with s closed quiet) conn → Contains quiet conn ⊎ (conn ≡ closed)
quiet-had s closed quiet conn h = by_given (is_some (connection_of s closed)) h
  where
    by_test : (conn == closed ≡ true) ⊎ (list_any (λ other. other == conn) quiet ≡ true)
        → Contains quiet conn ⊎ (conn ≡ closed)
    by_test (inl same) = inr (eqb-true conn closed same)
    by_test (inr there) = inl (any-contains quiet conn there)

    by_given : (b : Bool)
        → Contains (if b then filter (stays_quiet closed quiet)
        (range_with_len 1 (length s.connections)) else quiet) conn
        → Contains quiet conn ⊎ (conn ≡ closed)
    by_given true h =
        by_test (or_cases (conn == closed) (list_any (λ other. other == conn) quiet)
        (All-contains (λ number. stays_quiet closed quiet number ≡ true)
        (filter (stays_quiet closed quiet) (range_with_len 1 (length s.connections))) conn
        (filter_passes (stays_quiet closed quiet) (range_with_len 1 (length s.connections))) h))
    by_given false h = inl h

quieted-holds : (old : Past) (e : Event) (conn : ℕ) (c : Connection)
    → connection_of (state_of old) conn ≡ Some c → Contains old.quiet conn
    → Contains (quieted old e).quiet conn
quieted-holds old (event.Open name registered) conn c there h = h
quieted-holds old (event.Say n m) conn c there h = h
quieted-holds old (event.Close n) conn c there h =
    quiet-holds (state_of old) n old.quiet conn c there h

quieted-had : (old : Past) (e : Event) (conn : ℕ) → Contains (quieted old e).quiet conn
    → Contains old.quiet conn ⊎ (e ≡ event.Close conn)
quieted-had old (event.Open name registered) conn h = inl h
quieted-had old (event.Say n m) conn h = inl h
quieted-had old (event.Close n) conn h = by_number (quiet-had (state_of old) n old.quiet conn h)
  where
    by_number : Contains old.quiet conn ⊎ (conn ≡ n)
        → Contains old.quiet conn ⊎ (event.Close n ≡ event.Close conn)
    by_number (inl quiet) = inl quiet
    by_number (inr same) = inr (ap (λ k. event.Close k) (sym same))

-- ---- a connection that is quiet stays so

came-holds : (old : Past) (e : Event) (outcome : ReplyOrMemory) (new : Past) (conn : ℕ)
    (c : Connection) → connection_of (state_of old) conn ≡ Some c → Came old e outcome new
    → Contains old.quiet conn → Contains new.quiet conn
came-holds old e outcome new conn c there (WasKept is after) h =
    subst (λ (p : Past). Contains p.quiet conn) (sym after) h
came-holds old e outcome new conn c there (WasEnded is full refused) h =
    subst (λ l. Contains l conn) (sym refused.quiet) h
came-holds old e outcome new conn c there (WasFault count is refused) h =
    subst (λ l. Contains l conn) (sym refused.quiet) h
came-holds old e outcome new conn c there (RanOut error is after) h =
    subst (λ (p : Past). Contains p.quiet conn) (sym after) (quieted-holds old e conn c there h)

log-holds : EpochLaws → (old : Past) (log : List LogEntry) (conn : ℕ) (c : Connection)
    → ShutBefore old → IsSessionLog old log → connection_of (state_of old) conn ≡ Some c
    → Contains old.quiet conn → Contains (left_by old log).quiet conn
log-holds laws old [] conn c before legal there h = h
log-holds laws old (act ∷ log) conn c before legal there h =
    let step = step-goes laws old act.event act.outcome act.left before legal.0 in
    let next = step.grows.connections conn c there in
    log-holds laws act.left log conn next.0 step.before legal.1 next.1
    (came-holds old act.event act.outcome act.left conn c there
    (step-came old act.event act.outcome act.left legal.0) h)

-- ---- a feed that has ended stays so

ends-with_later : (s t : State) (old new : Ending) (last : Segment) → epoch_of s ≤ epoch_of t
    → EndsLater s t old new → EndsWith s old last → EndsWith t new last
ends-with_later s t ending.Running new last more later ends = absurd ends
ends-with_later s t (ending.Left place) new last more later (inl there) =
    subst (λ e. EndsWith t e last) (sym later) (inl there)
ends-with_later s t (ending.Left place) new last more later (inr below) =
    subst (λ e. EndsWith t e last) (sym later) (inr (omega (arith, below, more)))
ends-with_later s t ending.Shut new last more later ends =
    subst (λ e. EndsWith t e last) (sym later) tt

ends-later : (s t : State) (conn : ℕ) (c : Connection) (last : Segment) → GrowsInto s t
    → connection_of s conn ≡ Some c → EndsWhere s (connection_of s conn) last
    → EndsWhere t (connection_of t conn) last
ends-later s t conn c last grows there ends =
    let next = grows.connections conn c there in
    subst (λ o. EndsWhere t o last) (sym next.1)
    (ends-with_later s t c.ending next.0.ending last grows.epochs next.2.ending
    (subst (λ o. EndsWhere s o last) there ends))

gone-log : EpochLaws → (old : Past) (log : List LogEntry) (conn : ℕ) (c : Connection)
    (last : Segment) → ShutBefore old → IsSessionLog old log
    → connection_of (state_of old) conn ≡ Some c → IsGone old conn last
    → IsGone (left_by old log) conn last
gone-log laws old log conn c last before legal there (inl quiet) =
    inl (log-holds laws old log conn c before legal there quiet)
gone-log laws old log conn c last before legal there (inr ends) =
    inr (ends-later (state_of old) (state_of (left_by old log)) conn c last
    (log-goes laws old log before legal).grows there ends)

gone-more : EpochLaws → (old : Past) (log more : List LogEntry) (conn : ℕ) (c : Connection)
    (last : Segment) → ShutBefore old → IsSessionLog old (log ++ more)
    → connection_of (state_of (left_by old log)) conn ≡ Some c
    → IsGone (left_by old log) conn last → IsGone (left_by old (log ++ more)) conn last
gone-more laws old [] more conn c last before legal there gone =
    gone-log laws old more conn c last before legal there gone
gone-more laws old (act ∷ log) more conn c last before legal there gone =
    let step = step-goes laws old act.event act.outcome act.left before legal.0 in
    gone-more laws act.left log more conn c last step.before legal.1 there gone

pub gone-later : EpochLaws → (old : Past) (log longer : List LogEntry) (conn : ℕ) (c : Connection)
    (last : Segment) → ShutBefore old → IsSessionLog old longer → IsPrefix log longer
    → connection_of (state_of (left_by old log)) conn ≡ Some c
    → IsGone (left_by old log) conn last → IsGone (left_by old longer) conn last
gone-later laws old log longer conn c last before legal p there gone =
    subst (λ l. IsGone (left_by old l) conn last) p.1
    (gone-more laws old log p.0 conn c last before (subst (IsSessionLog old) (sym p.1) legal)
    there gone)

-- ---- why a connection is quiet

came-had : (old : Past) (e : Event) (outcome : ReplyOrMemory) (new : Past) (conn : ℕ)
    → Came old e outcome new → Contains new.quiet conn
    → Contains old.quiet conn ⊎ ((e ≡ event.Close conn) × (outcome ≡ Err alloc_error))
came-had old e outcome new conn (WasKept is after) h =
    inl (subst (λ (p : Past). Contains p.quiet conn) after h)
came-had old e outcome new conn (WasEnded is full refused) h =
    inl (subst (λ l. Contains l conn) refused.quiet h)
came-had old e outcome new conn (WasFault count is refused) h =
    inl (subst (λ l. Contains l conn) refused.quiet h)
came-had old e outcome new conn (RanOut error is after) h =
    by_event (quieted-had old e conn (subst (λ (p : Past). Contains p.quiet conn) after h))
  where
    by_event : Contains old.quiet conn ⊎ (e ≡ event.Close conn)
        → Contains old.quiet conn ⊎ ((e ≡ event.Close conn) × (outcome ≡ Err alloc_error))
    by_event (inl quiet) = inl quiet
    by_event (inr close) = inr (close, is)

pub log-had : (old : Past) (log : List LogEntry) (conn : ℕ) → IsSessionLog old log
    → Contains (left_by old log).quiet conn → Contains old.quiet conn ⊎ HasFailedClose log conn
log-had old [] conn legal h = inl h
log-had old (act ∷ log) conn legal h = by_rest (log-had act.left log conn legal.1 h)
  where
    by_first : Contains old.quiet conn
        ⊎ ((act.event ≡ event.Close conn) × (act.outcome ≡ Err alloc_error))
        → Contains old.quiet conn ⊎ HasFailedClose (act ∷ log) conn
    by_first (inl quiet) = inl quiet
    by_first (inr failed) =
        inr (record { act = act; within = inl refl; event = failed.0; outcome = failed.1 })

    by_rest : Contains act.left.quiet conn ⊎ HasFailedClose log conn
        → Contains old.quiet conn ⊎ HasFailedClose (act ∷ log) conn
    by_rest (inl quiet) =
        by_first (came-had old act.event act.outcome act.left conn
        (step-came old act.event act.outcome act.left legal.0) quiet)
    by_rest (inr failed) =
        inr (record {
          act = failed.act;
          within = inr failed.within;
          event = failed.event;
          outcome = failed.outcome;
        })
