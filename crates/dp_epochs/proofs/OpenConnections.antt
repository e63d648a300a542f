-- Open connections: which are found, and which stay so if one has become another.
use Rattle.std.proofs.Common.{◌≡◌, ◌⊎◌, ℕ, ◌-◌, true, false, if◌then◌else◌, List, Option, None}
use Rattle.std.proofs.Common.{Some, sym, ap, subst, ◌∙◌, ⊎_elim, inl, inr}
use Rattle.std.specs.Prelude.{slice_set}
use Rattle.std.proofs.lemmas.Bool.{cases_Bool, cases_eq}
use Rattle.dp_lists.specs.Numbered.{numbered}
use Rattle.dp_lists.proofs.Numbered.{number-found, numbered-other, numbered-same}
use Rattle.dp_epochs.specs.declared.connection.Connection.{Connection}
use Rattle.dp_epochs.specs.Connections.{is_open}
use Rattle.dp_epochs.specs.State.{where_open, open_in}

found-open : (found : Option Connection) (c : Connection) → where_open found ≡ Some c
    → (found ≡ Some c) × (is_open c ≡ true)
found-open None c h = cc
found-open (Some x) c h =
    ⊎_elim (λ (up : is_open x ≡ true).
    let e : Some x ≡ Some c = sym (ap (λ b. if b then Some x else None) up) ∙ h in
    let same : x ≡ c = cc in
    (e, subst (λ y. is_open y ≡ true) same up))
    (λ (shut : is_open x ≡ false).
    let e : None ≡ Some c = sym (ap (λ b. if b then Some x else None) shut) ∙ h in cc)
    (cases_Bool (is_open x))

-- a connection that was found open was given out, and is open
pub open_is_found : (cs : List Connection) (conn : ℕ) (c : Connection) → open_in cs conn ≡ Some c
    → (numbered cs conn ≡ Some c) × (is_open c ≡ true)
open_is_found cs conn c found = found-open (numbered cs conn) c found

-- a connection that was given out and is open is found open
pub found_is_open : (cs : List Connection) (conn : ℕ) (c : Connection) → numbered cs conn ≡ Some c
    → is_open c ≡ true → open_in cs conn ≡ Some c
found_is_open cs conn c found up = ap where_open found ∙ ap (λ b. if b then Some c else None) up

-- if an open connection has become another, the others stay open
pub other_stays_open : (cs : List Connection) (conn : ℕ) (c d : Connection) (n : ℕ) (x : Connection)
    → open_in cs conn ≡ Some c → (n ≡ conn → ⊥) → open_in cs n ≡ Some x
    → open_in (slice_set cs (conn - 1) d) n ≡ Some x
other_stays_open cs conn c d n x found ne is =
    let above = number-found cs conn c (open_is_found cs conn c found).0 in
    let h = open_is_found cs n x is in
    found_is_open (slice_set cs (conn - 1) d) n x (numbered-other cs conn n d above.0 ne ∙ h.0) h.1

-- and what is open then is the other, or was open
pub changed_is_open : (cs : List Connection) (conn : ℕ) (c d : Connection) (n : ℕ) (x : Connection)
    → open_in cs conn ≡ Some c → open_in (slice_set cs (conn - 1) d) n ≡ Some x
    → ((n ≡ conn) × (x ≡ d)) ⊎ (open_in cs n ≡ Some x)
changed_is_open cs conn c d n x found is =
    let there = (open_is_found cs conn c found).0 in
    let above = number-found cs conn c there in
    let h = open_is_found (slice_set cs (conn - 1) d) n x is in
    ⊎_elim (λ (same : n ≡ conn).
    let at : numbered (slice_set cs (conn - 1) d) conn ≡ Some x =
    subst (λ k. numbered (slice_set cs (conn - 1) d) k ≡ Some x) same h.0 in
    let e : Some d ≡ Some x = sym (numbered-same cs conn c d there) ∙ at in
    let it : x ≡ d = cc in
    inl (same, it))
    (λ (ne : n ≡ conn → ⊥).
    inr (found_is_open cs n x (sym (numbered-other cs conn n d above.0 ne) ∙ h.0) h.1))
    (cases_eq n conn)
