-- Where the first newline of a list of bytes stands.
use Rattle.std.proofs.Common.{◌≡◌, ◌≢◌, ℕ, ◌+◌, ◌-◌, ◌<◌, ◌≤◌, ◌==◌, inl, inr, Bool, true, not}
use Rattle.std.proofs.Common.{nat_lt, Some, None, List, [], ◌∷◌, length, take, drop, get_or, sym}
use Rattle.std.proofs.Common.{ap, ◌∙◌, subst, arith, length-drop, length-take, get_or-take}
use Rattle.std.proofs.Common.{get_or-drop}
use Rattle.std.specs.List.{All, position, position_or_len, prefix_len}
use Rattle.std.proofs.lemmas.Bool.{eqb-true, eqb-false, cases_lt, cases_Bool, cond-true, cond-false}
use Rattle.std.proofs.lemmas.Bool.{lt-ltb, not-true}
use Rattle.std.proofs.lemmas.List.Elements.{All-nil, All-cons}
use Rattle.std.proofs.lemmas.List.Quantifiers.{position-Some}
use Rattle.dp_lines.specs.Lines.{newline, Lacks}
use Rattle.dp_lines.specs.Taken.{IsScanned, IsEnd}

-- a byte of the scanned front is no newline
scanned_at : (bytes : List ℕ) (from : ℕ) → IsScanned bytes from → (k d : ℕ) → k < from
    → get_or bytes k d ≢ newline
scanned_at bytes from scanned k d below =
    let within : k < length (take from bytes) = omega (
      arith,
      length-take from bytes,
      scanned.within,
    ) in
    subst (λ (b : ℕ). b ≢ newline) (get_or-take from bytes k d below) (scanned.none k d within)

-- a byte at k, seen as one after the scanned front
after_at : (bytes : List ℕ) (from k d : ℕ) → from ≤ k
    → get_or (drop from bytes) (k - from) d ≡ get_or bytes k d
after_at bytes from k d above =
    let same : from + (k - from) ≡ k = omega arith in
    get_or-drop from bytes (k - from) d ∙ ap (λ (j : ℕ). get_or bytes j d) same

-- neither the scanned front nor what is searched after it holds a newline, up to `len`
none_up_to : (bytes : List ℕ) (from len : ℕ) → IsScanned bytes from → len ≤ length bytes
    → ((k d : ℕ) → k + from < len → get_or (drop from bytes) k d ≢ newline) → (k d : ℕ) → k < len
    → get_or bytes k d ≢ newline
none_up_to bytes from len scanned within after k d below = elim (cases_lt k from) [
  | inl prefix ↦ scanned_at bytes from scanned k d prefix
  | inr above ↦ subst (λ (b : ℕ). b ≢ newline) (after_at bytes from k d above)
      (after (k - from) d (omega arith))
]

-- the first newline after the scanned front is the first of all
pub found_end : (bytes : List ℕ) (from at : ℕ) → IsScanned bytes from
    → position (λ byte. byte == newline) (drop from bytes) ≡ Some at → IsEnd bytes (from + at)
found_end bytes from at scanned found =
    let parts = λ (d : ℕ). position-Some (λ byte. byte == newline) (drop from bytes) at d found in
    let within : from + at < length bytes = omega (arith, length-drop from bytes, (parts 0).0) in
    record {
      within = within;
      before =
          λ k d inside.
          let below : k < from + at = omega (arith, length-take (from + at) bytes) in
          subst (λ (b : ℕ). b ≢ newline) (sym (get_or-take (from + at) bytes k d below))
          (none_up_to bytes from (from + at) scanned (omega arith)
          (λ j e near. eqb-false _ _ ((parts e).2 j (omega arith))) k d below);
      at = sym (get_or-drop from bytes at 0) ∙ eqb-true _ _ (parts 0).1;
    }

-- if the prefix that passes is the whole list, all passes
all_pass : (test : ℕ → Bool) (xs : List ℕ) → length xs ≤ prefix_len test xs
    → All (λ x. test x ≡ true) xs
all_pass test [] whole = All-nil (λ x. test x ≡ true)
all_pass test (x ∷ xs) whole = elim (cases_Bool (test x)) [
  | inl passes ↦
      let longer = cond-true (test x) (1 + prefix_len test xs) 0 passes in
      All-cons (λ y. test y ≡ true) x xs passes (all_pass test xs (omega (arith, longer)))
  | inr fails ↦
      let none = cond-false (test x) (1 + prefix_len test xs) 0 fails in
      absurd (omega (arith, none))
]

-- if no position is found, the prefix without one is the whole list
none_found : (test : ℕ → Bool) (xs : List ℕ) → position test xs ≡ None
    → length xs ≤ position_or_len test xs
none_found test xs none = elim (cases_lt (position_or_len test xs) (length xs)) [
  | inl below ↦
      let found = cond-true (nat_lt (position_or_len test xs) (length xs))
      (Some (position_or_len test xs)) None (lt-ltb _ _ below) in
      absurd (cc (none, found))
  | inr above ↦ above
]

-- if none is found after the scanned front, there is none
pub found_none : (bytes : List ℕ) (from : ℕ) → IsScanned bytes from
    → position (λ byte. byte == newline) (drop from bytes) ≡ None → Lacks newline bytes
found_none bytes from scanned none =
    let pass = all_pass (λ byte. not (byte == newline)) (drop from bytes)
    (none_found (λ byte. byte == newline) (drop from bytes) none) in
    none_up_to bytes from (length bytes) scanned (omega arith)
    (λ k d near. eqb-false _ _ (not-true _ (pass k d (omega (arith, length-drop from bytes)))))
