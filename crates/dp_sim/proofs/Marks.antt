-- Histories and their marks, and the entry that comes next to a client.
use Rattle.std.proofs.Common.{◌≡◌, ◌⊎◌, ℕ, zero, suc, ◌<◌, ◌≤◌, ◌==◌, if◌then◌else◌}
use Rattle.std.proofs.Common.{List, [], ◌∷◌, ◌++◌, length, None, Some, refl, sym, ap, subst, ◌∙◌}
use Rattle.std.proofs.Common.{⊎_elim, inl, inr, arith}
use Rattle.std.specs.Prelude.{slice_index_or}
use Rattle.std.specs.List.{slice_get}
use Rattle.std.proofs.lemmas.Bool.{cases_eq, eq-eqb, ne_eqb}
use Rattle.dp_messages.specs.Properties.{marked}
use Rattle.dp_messages.specs.declared.message.Entry.{Entry}
use Rattle.dp_client.specs.Client as client
use Rattle.dp_client.specs.Taking.{IsUnderway, mark_due, TakesHere, TakesLater, EntriesAreTaken}
use Rattle.dp_epochs.specs.State.{State, epoch_of, history_of}
use Rattle.dp_epochs.specs.Laws.{HasNoMark, IsHistory, AreHistories}

-- the live history is that of the live epoch
pub live-is : (s : State) → history_of s (epoch_of s) ≡ s.live
live-is s = last_item s.ended s.live
  where
    last_item : (hs : List (List Entry)) (h : List Entry)
        → slice_index_or (hs ++ h ∷ []) (length hs) [] ≡ h
    last_item [] h = refl
    last_item (x ∷ hs) h = last_item hs h

unmarked-at : (xs : List Entry) (i : ℕ) (x : Entry) → HasNoMark xs → slice_get xs i ≡ Some x
    → marked x.msg ≡ None
unmarked-at [] i x h is = cc
unmarked-at (y ∷ xs) zero x h is = let same : y ≡ x = cc in subst (λ z. marked z.msg ≡ None) same
    h.0
unmarked-at (y ∷ xs) (suc i) x h is = unmarked-at xs i x h.1 is

-- the first entry of a history is its mark
mark-first : (epoch : ℕ) (live : List Entry) (x : Entry) → IsHistory epoch live
    → slice_get live 0 ≡ Some x → marked x.msg ≡ Some epoch
mark-first epoch [] x h is = absurd h
mark-first epoch (y ∷ live) x h is =
    let same : y ≡ x = cc in subst (λ z. marked z.msg ≡ Some epoch) same h.0

-- and no other entry is a mark
mark-none : (epoch : ℕ) (live : List Entry) (i : ℕ) (x : Entry) → IsHistory epoch live
    → slice_get live (suc i) ≡ Some x → marked x.msg ≡ None
mark-none epoch [] i x h is = absurd h
mark-none epoch (y ∷ live) i x h is = unmarked-at live i x h.1 is

-- so the entry after those taken is the mark that is due
mark-next : (epoch : ℕ) (live taken : List Entry) (x : Entry) → IsHistory epoch live
    → slice_get live (length taken) ≡ Some x → marked x.msg ≡ mark_due epoch taken
mark-next epoch live [] x h is = mark-first epoch live x h is
mark-next epoch live (y ∷ ys) x h is = mark-none epoch live (length ys) x h is

-- the next entry of a client of the live epoch
pub record NextHere (s : State) (c : client.State) (entry : Entry) : Type 0 where
  pub at : c.epoch ≡ epoch_of s
  pub there : slice_get s.live (length c.taken) ≡ Some entry
  pub takes : TakesHere c entry

-- and of one of an earlier epoch: the mark of the live one
pub record NextLater (s : State) (c : client.State) (entry : Entry) : Type 0 where
  pub less : c.epoch < epoch_of s
  pub there : slice_get s.live 0 ≡ Some entry
  pub takes : TakesLater c (epoch_of s) entry

pub next-either : EntriesAreTaken → (s : State) (c : client.State) (entry : Entry)
    → AreHistories s → IsUnderway c → c.epoch ≤ epoch_of s
    → slice_get s.live (if c.epoch == epoch_of s then length c.taken else 0) ≡ Some entry
    → NextHere s c entry ⊎ NextLater s c entry
next-either taking s c entry marked underway known is =
    let takes = taking c entry underway in
    let history : IsHistory (epoch_of s) s.live =
    subst (IsHistory (epoch_of s)) (live-is s) (marked (epoch_of s) (omega arith)) in
    ⊎_elim (λ (at : c.epoch ≡ epoch_of s).
    let there : slice_get s.live (length c.taken) ≡ Some entry =
    sym (ap (λ b. slice_get s.live (if b then length c.taken else 0))
    (eq-eqb c.epoch (epoch_of s) at)) ∙ is in
    let own : IsHistory c.epoch s.live = subst (λ k. IsHistory k s.live) (sym at) history in
    inl (record {
      at = at;
      there = there;
      takes = takes.here (mark-next c.epoch s.live c.taken entry own there);
    }))
    (λ (ne : c.epoch ≡ epoch_of s → ⊥).
    let less : c.epoch < epoch_of s = omega (arith, ne, known) in
    let there : slice_get s.live 0 ≡ Some entry =
    sym (ap (λ b. slice_get s.live (if b then length c.taken else 0))
    (ne_eqb c.epoch (epoch_of s) ne)) ∙ is in
    inr (record {
      less = less;
      there = there;
      takes = takes.later (epoch_of s) less (mark-first (epoch_of s) s.live entry history there);
    }))
    (cases_eq c.epoch (epoch_of s))
