-- Connections that are open.
use Rattle.std.proofs.Common.{◌≡◌, ℕ, ◌+◌, ◌-◌, ◌<◌, ◌≤◌, Bool, true, false, if◌then◌else◌, List}
use Rattle.std.proofs.Common.{length, get_or, None, Some, is_some, refl, sym, ap, ◌∙◌, ⊎_elim}
use Rattle.std.proofs.Common.{arith}
use Rattle.std.specs.List.{slice_get}
use Rattle.std.proofs.lemmas.Bool.{ne_eqb}
use Rattle.std.proofs.lemmas.Option.{slice_get-get_or, slice_get_within}
use Rattle.dp_lists.proofs.Options.{cases_option}
use Rattle.dp_lists.proofs.Numbered.{number-found}
use Rattle.dp_epochs.specs.declared.connection.Connection.{Connection}
use Rattle.dp_epochs.specs.Connections.{is_open}
use Rattle.dp_epochs.specs.State.{open_in, where_open, connection_in}

open-some : (c : Connection) (b : Bool) → is_some (if b then Some c else None) ≡ b
open-some c true = refl
open-some c false = refl

-- whether the connection after `n` others is open
pub open-at : (cs : List Connection) (i : ℕ) (c : Connection) → slice_get cs i ≡ Some c
    → is_some (open_in cs (i + 1)) ≡ is_open c
open-at cs i c found =
    ap (λ b. is_some (where_open (if b then None else slice_get cs (i + 1 - 1))))
    (ne_eqb (i + 1) 0 (λ e. omega arith))
    ∙ ap (λ k. is_some (where_open (slice_get cs k))) (omega arith)
    ∙ ap (λ o. is_some (where_open o)) found
    ∙ open-some c (is_open c)

-- whether a connection is open, if a default stands for what is past the end
pub open-index : (cs : List Connection) (i : ℕ) (d : Connection) → i < length cs
    → is_some (open_in cs (i + 1)) ≡ is_open (get_or cs i d)
open-index cs i d within = open-at cs i (get_or cs i d) (slice_get-get_or cs i d within)

-- a connection that was given out has a number above 0, up to their count
pub given-out : (cs : List Connection) (conn : ℕ) → is_some (connection_in cs conn) ≡ true
    → (0 < conn) × (conn ≤ length cs)
given-out cs conn given =
    ⊎_elim (λ (no : connection_in cs conn ≡ None).
    let e : false ≡ true = sym (ap is_some no) ∙ given in cc)
    (λ (yes : (c : Connection) × (connection_in cs conn ≡ Some c)).
    let at = number-found cs conn yes.0 yes.1 in
    (at.0, omega (arith, slice_get_within cs (conn - 1) yes.0 at.1, at.0)))
    (cases_option (connection_in cs conn))
