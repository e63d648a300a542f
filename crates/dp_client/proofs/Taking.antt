-- What taking the entry that comes next makes of a client.
use Rattle.std.proofs.Common.{◌≡◌, ℕ, ◌<◌, ◌≤◌, ◌==◌, Bool, true, false, ◌&&◌}
use Rattle.std.proofs.Common.{if◌then◌else◌, List, [], ◌∷◌, ◌++◌, length, None, Some}
use Rattle.std.proofs.Common.{refl, sym, ap, ◌∙◌, ⊎_elim, arith}
use Rattle.std.specs.Prelude.{nat_lt}
use Rattle.std.proofs.lemmas.Bool.{cases_lt, eq-eqb, ne_eqb, le-ltb, and_from}
use Rattle.dp_messages.specs.declared.message.Entry.{Entry}
use Rattle.dp_messages.specs.Properties.{marked, carried_in}
use Rattle.dp_fork.specs.declared.own.Own.TheVariants.{Stranger}
use Rattle.dp_client.specs.Client.{State, is_first_mark, last_before, may_answer, is_own_answer}
use Rattle.dp_client.specs.Client.{answered, fork_after, took, took_at, taken_at}
use Rattle.dp_client.specs.Taking.{IsUnderway, mark_due, with_entry, with_mark, TakesHere}
use Rattle.dp_client.specs.Taking.{TakesLater, EntriesAreTaken}

last-false : (a b : Bool) → b ≡ false → (a && b) ≡ false
last-false true b is = is
last-false false b is = refl

-- a client that has taken nothing is in the epoch of its Welcome
first-joined : (s : State) → IsUnderway s → s.taken ≡ [] → s.joined_epoch ≡ s.epoch
first-joined s h none =
    ⊎_elim (λ (less : s.joined_epoch < s.epoch).
    absurd (omega (arith, h.entered less, ap length none)))
    (λ (more : s.epoch ≤ s.joined_epoch). omega (arith, more, h.began))
    (cases_lt s.joined_epoch s.epoch)

base-stays : (s : State) (entry : Entry) → IsUnderway s
    → last_before (with_entry s entry) ≡ last_before s
base-stays s entry h = by_taken s.taken refl
  where
    by_taken : (taken : List Entry) → s.taken ≡ taken
        → (if s.epoch == s.joined_epoch then s.joined_at else carried_in (s.taken ++ entry ∷ []))
        ≡ (if s.epoch == s.joined_epoch then s.joined_at else carried_in s.taken)
    by_taken [] is =
        let same : (s.epoch == s.joined_epoch) ≡ true =
        eq-eqb s.epoch s.joined_epoch (sym (first-joined s h is)) in
        ap (λ b. if b then s.joined_at else carried_in (s.taken ++ entry ∷ [])) same
        ∙ sym (ap (λ b. if b then s.joined_at else carried_in s.taken) same)
    by_taken (x ∷ xs) is =
        ap (λ ys. if s.epoch == s.joined_epoch then s.joined_at
        else carried_in (ys ++ entry ∷ [])) is
        ∙ sym (ap (λ ys. if s.epoch == s.joined_epoch then s.joined_at else carried_in ys) is)

-- the mark of the epoch of the Welcome
first-taken : (s : State) (entry : Entry) → IsUnderway s → s.taken ≡ []
    → marked entry.msg ≡ Some s.epoch → TakesHere s entry
first-taken s entry h none mark =
    let empty : length s.taken ≡ 0 = ap length none in
    let first : is_first_mark s s.epoch ≡ true =
    and_from (length s.taken == 0) (s.epoch == s.joined_epoch) (eq-eqb (length s.taken) 0 empty)
    (eq-eqb s.epoch s.joined_epoch (sym (first-joined s h none))) in
    let strange : is_own_answer s entry ≡ false =
    last-false (entry.user == s.user && may_answer entry.msg)
    (nat_lt (last_before s) (length s.taken))
    (le-ltb (last_before s) (length s.taken) (omega (arith, empty))) in
    let one : State = record s { taken = entry ∷ [] } in
    let other : State = record s { taken = entry ∷ []; fork = [] } in
    let is : took s entry ≡ one =
    ap (λ m. took_at m s entry) mark ∙ ap (λ b. if b then one else other) first in
    let more : with_entry s entry ≡ one =
    ap (λ b. record s {
      taken = s.taken ++ entry ∷ [];
      fork = fork_after (if b then answered s.fork entry.msg else Stranger) s.fork;
    }) strange
    ∙ ap (λ taken. record s { taken = taken ++ entry ∷ [] }) none in
    record {
      took = is ∙ sym more;
      ack = ap (λ m. (taken_at m s).ack) mark ∙ ap (λ b. if b then None else Some s.epoch) first;
      stays = base-stays s entry h;
    }

here-taken : (s : State) (entry : Entry) (taken : List Entry) → IsUnderway s → s.taken ≡ taken
    → marked entry.msg ≡ mark_due s.epoch taken → TakesHere s entry
here-taken s entry [] h is mark = first-taken s entry h is mark
here-taken s entry (x ∷ xs) h is mark = record {
  took = ap (λ m. took_at m s entry) mark;
  ack = ap (λ m. (taken_at m s).ack) mark;
  stays = base-stays s entry h;
}

later-taken : (s : State) (epoch : ℕ) (entry : Entry) → IsUnderway s → s.epoch < epoch
    → marked entry.msg ≡ Some epoch → TakesLater s epoch entry
later-taken s epoch entry h less mark =
    let other : is_first_mark s epoch ≡ false =
    last-false (length s.taken == 0) (epoch == s.joined_epoch)
    (ne_eqb epoch s.joined_epoch (λ same. omega (arith, same, less, h.began))) in
    let one : State = record s { taken = entry ∷ [] } in
    record {
      took = ap (λ m. took_at m s entry) mark
          ∙ ap (λ b. if b then one else with_mark s epoch entry) other;
      ack = ap (λ m. (taken_at m s).ack) mark ∙ ap (λ b. if b then None else Some epoch) other;
    }

pub entries-taken : EntriesAreTaken
entries-taken s entry h = record {
  here = λ mark. here-taken s entry s.taken h refl mark;
  later = λ epoch less mark. later-taken s epoch entry h less mark;
}
