-- The quiet connections as flags, and as their numbers.
use Rattle.std.proofs.Common.{◌≡◌, ℕ, zero, suc, ◌+◌, ◌-◌, ◌<◌, ◌≤◌, ◌==◌, Bool, true, false, ◌&&◌}
use Rattle.std.proofs.Common.{◌||◌, cond, if◌then◌else◌, List, [], ◌∷◌, ◌++◌, length, get_or, set}
use Rattle.std.proofs.Common.{None, Some, is_some, refl, sym, ap, ◌∙◌, ⊎_elim, arith, append-nil}
use Rattle.std.proofs.Common.{length-append}
use Rattle.std.specs.List.{list_any, filter, slice_get, range_with_len}
use Rattle.std.proofs.lemmas.Bool.{cases_eq, cases_Bool, eq-eqb, ne_eqb}
use Rattle.std.proofs.lemmas.List.{get_or-set_other, get_or_append_left, set_past}
use Rattle.std.proofs.lemmas.List.Elements.{filter-append}
use Rattle.std.proofs.lemmas.Option.{slice_get_cases}
use Rattle.std.proofs.Math.Bool.{and-false}
use Rattle.std.proofs.Math.ListN.{length-set}
use Rattle.std.proofs.Math.Seq.{get_or-append_seam}
use Rattle.std.proofs.lemmas.Grind.{get_or-set_at}
use Rattle.dp_epochs.specs.declared.connection.Connection.{Connection}
use Rattle.dp_epochs.specs.declared.effect.Effect.{Effect}
use Rattle.dp_epochs.specs.declared.effect.Effect.TheVariants.{Joined}
use Rattle.dp_epochs.specs.State.{State}
use Rattle.dp_epochs.specs.Past.{quiet_with}
use Rattle.dp_history.specs.Users.{mark}
use Rattle.dp_history.proofs.Ranges.{find-first, find-none, filter-range_same, list_any-find}
use Rattle.dp_history.proofs.Ranges.{list_any-filter, both}
use Rattle.dp_commit.specs.Marks.{quiet_of, flagged, quiet_after}

-- a number of a range is among those that pass a test exactly if it passes
any-range : (p : ℕ → Bool) (low n conn : ℕ) → low ≤ conn → conn < low + n
    → list_any (λ other. other == conn) (filter p (range_with_len low n)) ≡ p conn
any-range p low n conn above below =
    list_any-filter (λ other. other == conn) p (range_with_len low n)
    ∙ list_any-find (λ other. p other && other == conn) (range_with_len low n)
    ∙ ⊎_elim (λ (passes : p conn ≡ true).
    ap is_some (find-first (λ other. p other && other == conn) low n conn above below
    (both passes (eq-eqb conn conn refl))
    (λ j from to. ap (λ b. p j && b) (ne_eqb j conn (λ e. omega arith)) ∙ and-false (p j)))
    ∙ sym passes)
    (λ (fails : p conn ≡ false).
    ap is_some (find-none (λ other. p other && other == conn) low n (λ j from to.
    ⊎_elim (λ (same : j ≡ conn). ap (λ b. b && j == conn) (ap p same ∙ fails))
    (λ (other : j ≡ conn → ⊥). ap (λ b. p j && b) (ne_eqb j conn other) ∙ and-false (p j))
    (cases_eq j conn)))
    ∙ sym fails)
    (cases_Bool (p conn))

-- the number of a connection that was given out is listed exactly if it is flagged
pub quiet-listed : (flags : List Bool) (conn : ℕ) → 0 < conn → conn ≤ length flags
    → list_any (λ other. other == conn) (quiet_of flags) ≡ mark flags (conn - 1)
quiet-listed flags conn above below =
    any-range (λ number. mark flags (number - 1)) 1 (length flags) conn above (omega arith)

range-more : (low n : ℕ) → range_with_len low (n + 1) ≡ range_with_len low n ++ (low + n) ∷ []
range-more low zero = ap (λ k. k ∷ []) (omega arith)
range-more low (suc n) =
    let e : suc n + 1 ≡ suc (n + 1) = omega arith in
    ap (range_with_len low) e
    ∙ ap (λ xs. low ∷ xs) (range-more (low + 1) n ∙ ap (λ k. range_with_len (low + 1) n ++ k ∷ [])
    (omega arith))

-- a connection that is added isn't quiet
quiet-adds : (flags : List Bool) → quiet_of (flags ++ false ∷ []) ≡ quiet_of flags
quiet-adds flags =
    let more = flags ++ false ∷ [] in
    let p : ℕ → Bool = λ number. mark more (number - 1) in
    let last : p (1 + length flags) ≡ false = at_end flags (1 + length flags - 1) (omega arith) in
    ap (λ n. filter p (range_with_len 1 n)) (length-append flags (false ∷ []))
    ∙ ap (filter p) (range-more 1 (length flags))
    ∙ filter-append p (range_with_len 1 (length flags)) ((1 + length flags) ∷ [])
    ∙ ap (λ b. filter p (range_with_len 1 (length flags)) ++ cond b ((1 + length flags) ∷ []) [])
    last
    ∙ append-nil (filter p (range_with_len 1 (length flags)))
    ∙ filter-range_same p (λ number. mark flags (number - 1)) 1 (length flags)
    (λ k from to. before flags (k - 1) (omega arith)) where
      before : (xs : List Bool) (k : ℕ) → k < length xs → mark (xs ++ false ∷ []) k ≡ mark xs k
      before xs k lt = get_or_append_left xs (false ∷ []) false k lt

      at_end : (xs : List Bool) (k : ℕ) → k ≡ length xs → mark (xs ++ false ∷ []) k ≡ false
      at_end xs k e = ap (λ i. mark (xs ++ false ∷ []) i) e ∙ get_or-append_seam xs false [] false

-- the quiet connections stay
pub quiet-stays : (effect : Effect) (flags : List Bool)
    → quiet_of (quiet_after effect flags) ≡ quiet_of flags
quiet-stays (Joined user next) flags = quiet-adds flags
quiet-stays effect flags = refl

abbrev with_it : State → List Bool → ℕ → List ℕ
with_it s flags conn =
    filter (λ number. number == conn || list_any (λ other. other == number) (quiet_of flags))
    (range_with_len 1 (length s.connections))

-- the numbers that are flagged then
flagged-is : (s : State) (flags : List Bool) (conn : ℕ) → length flags ≡ length s.connections
    → 0 < conn
    → conn ≤ length s.connections → quiet_of (set flags (conn - 1) true) ≡ with_it s flags conn
flagged-is s flags conn same above below =
    let now = set flags (conn - 1) true in
    ap (λ n. filter (λ number. mark now (number - 1)) (range_with_len 1 n))
    (length-set flags (conn - 1) true ∙ same)
    ∙ filter-range_same (λ number. mark now (number - 1))
    (λ number. number == conn || list_any (λ other. other == number) (quiet_of flags)) 1
    (length s.connections)
    (λ k from to.
    ⊎_elim (λ (this : k ≡ conn).
    get_or-set_at flags (conn - 1) (k - 1) true false (omega arith) (omega (arith, same))
    ∙ sym (ap (λ b. b || list_any (λ other. other == k) (quiet_of flags)) (eq-eqb k conn this)))
    (λ (other : k ≡ conn → ⊥).
    get_or-set_other flags (conn - 1) (k - 1) true false (λ e. other (omega arith))
    ∙ sym (quiet-listed flags k (omega arith) (omega (arith, same)))
    ∙ sym (ap (λ b. b || list_any (λ o. o == k) (quiet_of flags)) (ne_eqb k conn other)))
    (cases_eq k conn))

-- one more connection is quiet, if it was given out
pub quiet-flagged : (s : State) (flags : List Bool) (conn : ℕ) → length flags ≡ length s.connections
    → quiet_of (flagged flags conn) ≡ quiet_with s conn (quiet_of flags)
quiet-flagged s flags conn same =
    ⊎_elim (λ (none : conn ≡ 0).
    ap (λ b. quiet_of (if b then flags else set flags (conn - 1) true)) (eq-eqb conn 0 none)
    ∙ sym (ap (λ b. if is_some (if b then None else slice_get s.connections (conn - 1))
    then with_it s flags conn else quiet_of flags)
    (eq-eqb conn 0 none)))
    (λ (some : conn ≡ 0 → ⊥).
    ap (λ b. quiet_of (if b then flags else set flags (conn - 1) true)) (ne_eqb conn 0 some)
    ∙ ⊎_elim (λ (there : (x : Connection) × (conn - 1 < length s.connections)
    × (slice_get s.connections (conn - 1) ≡ Some x) × (get_or s.connections (conn - 1) x ≡ x)).
    flagged-is s flags conn same (omega arith) (omega (arith, there.1))
    ∙ sym (ap (λ o. if is_some o then with_it s flags conn else quiet_of flags) there.2))
    (λ (past : (length s.connections ≤ conn - 1) × (slice_get s.connections (conn - 1) ≡ None)).
    ap quiet_of (set_past flags (conn - 1) true (omega (arith, past.0, same)))
    ∙ sym (ap (λ o. if is_some o then with_it s flags conn else quiet_of flags) past.1))
    (slice_get_cases s.connections (conn - 1)).1
    ∙ sym (ap (λ b. if is_some (if b then None else slice_get s.connections (conn - 1))
    then with_it s flags conn else quiet_of flags)
    (ne_eqb conn 0 some)))
    (cases_eq conn 0)
