-- One more event, or one more Close that was refused, is one more happening at the end.
use Rattle.std.proofs.Common.{◌≡◌, ℕ, ◌+◌, ◌<◌, ◌≤◌, ◌==◌, false, cond, List, [], ◌∷◌, ◌++◌, length}
use Rattle.std.proofs.Common.{map, fold, All, refl, sym, ap, ◌∙◌, arith, append_assoc, append-nil}
use Rattle.std.specs.List.{filter}
use Rattle.std.proofs.lemmas.Bool.{eq-eqb, ne_eqb}
use Rattle.std.proofs.lemmas.List.{map-append}
use Rattle.std.proofs.lemmas.List.Sums.{fold_push}
use Rattle.std.proofs.lemmas.List.Elements.{filter-append, All-head, All-tail}
use Rattle.dp_epochs.specs.declared.event.Event.{Event}
use Rattle.dp_epochs.specs.declared.event.ShutAt.{ShutAt}
use Rattle.dp_epochs.specs.State.{first_state, after_event, after_shut}
use Rattle.dp_epochs.specs.Past.{Journalled, RefusedClose, shut_at, interleaved, after_item}
use Rattle.dp_epochs.specs.Past.{state_after}

-- none was refused at a later moment
none_at : (n : ℕ) (shut : List ShutAt) → All (λ s. s.n < n) shut → shut_at n shut ≡ []
none_at n [] before = refl
none_at n (s ∷ shut) before =
    let e : (s.n == n) ≡ false = ne_eqb s.n n (λ e. omega
    (arith, All-head (λ t. t.n < n) s shut before)) in
    ap (λ b. map (λ t. RefusedClose t.conn) (cond b (s ∷ filter (λ t. t.n == n) shut)
    (filter (λ t. t.n == n) shut))) e
    ∙ none_at n shut (All-tail (λ t. t.n < n) s shut before)

shut_at-push : (n : ℕ) (shut : List ShutAt) (s : ShutAt)
    → shut_at n (shut ++ s ∷ []) ≡ shut_at n shut ++ map (λ t. RefusedClose t.conn)
    (cond (s.n == n) (s ∷ []) [])
shut_at-push n shut s =
    ap (map (λ t. RefusedClose t.conn)) (filter-append (λ t. t.n == n) shut (s ∷ []))
    ∙ map-append (λ t. RefusedClose t.conn) (filter (λ t. t.n == n) shut)
    (cond (s.n == n) (s ∷ []) [])

-- a Close that is refused now is the last of this moment
shut_at-now : (n : ℕ) (shut : List ShutAt) (s : ShutAt) → s.n ≡ n
    → shut_at n (shut ++ s ∷ []) ≡ shut_at n shut ++ RefusedClose s.conn ∷ []
shut_at-now n shut s now =
    shut_at-push n shut s
    ∙ ap (λ b. shut_at n shut ++ map (λ t. RefusedClose t.conn) (cond b (s ∷ []) []))
    (eq-eqb s.n n now)

-- it is none of an earlier moment
shut_at-earlier : (n : ℕ) (shut : List ShutAt) (s : ShutAt) → n < s.n
    → shut_at n (shut ++ s ∷ []) ≡ shut_at n shut
shut_at-earlier n shut s later =
    shut_at-push n shut s
    ∙ ap (λ b. shut_at n shut ++ map (λ t. RefusedClose t.conn) (cond b (s ∷ []) []))
    (ne_eqb s.n n (λ e. omega arith))
    ∙ append-nil (shut_at n shut)

-- one more event is the last happening
interleaved-came : (n m : ℕ) (journal : List Event) (shut : List ShutAt) (e : Event)
    → m ≡ n + length journal
    → All (λ s. s.n ≤ m) shut → interleaved n (journal ++ e ∷ []) shut
    ≡ interleaved n journal shut ++ Journalled e ∷ []
interleaved-came n m [] shut e is before =
    ap (λ hs. shut_at n shut ++ (Journalled e ∷ hs)) (none_at (n + 1) shut
    (λ k d lt. omega (arith, before k d lt)))
interleaved-came n m (x ∷ journal) shut e is before =
    ap (λ hs. shut_at n shut ++ (Journalled x ∷ hs)) (interleaved-came (n + 1) m journal shut e
    (omega arith) before)
    ∙ sym (append_assoc (shut_at n shut) (Journalled x ∷ interleaved (n + 1) journal shut)
    (Journalled e ∷ []))

-- one more Close that is refused now is the last happening
interleaved-shut : (n : ℕ) (journal : List Event) (shut : List ShutAt) (s : ShutAt)
    → s.n ≡ n + length journal
    → interleaved n journal (shut ++ s ∷ []) ≡ interleaved n journal shut ++ RefusedClose s.conn
    ∷ []
interleaved-shut n [] shut s now = shut_at-now n shut s (omega arith)
interleaved-shut n (x ∷ journal) shut s now =
    ap (λ hs. hs ++ (Journalled x ∷ interleaved (n + 1) journal (shut ++ s ∷ [])))
    (shut_at-earlier n shut s (omega arith))
    ∙ ap (λ hs. shut_at n shut ++ (Journalled x ∷ hs)) (interleaved-shut (n + 1) journal shut s
    (omega arith))
    ∙ sym (append_assoc (shut_at n shut) (Journalled x ∷ interleaved (n + 1) journal shut)
    (RefusedClose s.conn ∷ []))

-- the state after one more event
pub state-came : (journal : List Event) (shut : List ShutAt) (e : Event)
    → All (λ s. s.n ≤ length journal) shut
    → state_after (journal ++ e ∷ []) shut ≡ after_event (state_after journal shut) e
state-came journal shut e before =
    ap (fold after_item first_state) (interleaved-came 0 (length journal) journal shut e
    (omega arith) before)
    ∙ fold_push after_item first_state (interleaved 0 journal shut) (Journalled e)

-- the state after one more Close that is refused
pub state-shut : (journal : List Event) (shut : List ShutAt) (conn : ℕ)
    → state_after journal (shut ++ record { conn = conn; n = length journal } ∷ [])
    ≡ after_shut (state_after journal shut) conn
state-shut journal shut conn =
    ap (fold after_item first_state) (interleaved-shut 0 journal shut
    (record { conn = conn; n = length journal }) (omega arith))
    ∙ fold_push after_item first_state (interleaved 0 journal shut) (RefusedClose conn)
