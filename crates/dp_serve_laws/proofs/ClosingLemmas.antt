-- What closing the connections that are open leaves, and if the store failed in a session that
-- was served after that.
use Rattle.std.proofs.Common.{if◌then◌else◌}
use Rattle.std.proofs.Common.{◌≡◌, ◌⊎◌, ℕ, Bool, true, false, ◌||◌, List, [], ◌∷◌, ◌++◌}
use Rattle.std.proofs.Common.{Option, None, Some, Ok, Err, refl, sym, ap, subst, ◌∙◌, ⊎_elim, inl}
use Rattle.std.proofs.Common.{inr, map, append-nil, append_assoc}
use Rattle.std.specs.Prelude.{MatchBool}
use Rattle.std.specs.List.{list_any}
use Rattle.std.proofs.lemmas.Bool.{cases_Bool}
use Rattle.dp_io.specs.Faults.{Rose}
use Rattle.dp_hall.specs.Logs.{left_by}
use Rattle.dp_hall.specs.Names.{IsIn}
use Rattle.dp_epochs.specs.declared.event.Event.{Event}
use Rattle.dp_epochs.specs.declared.event.Event.TheVariants as event
use Rattle.dp_epochs.specs.declared.event.Reply.TheVariants as reply
use Rattle.dp_epochs.specs.Effects.{EventsHaveEffects}
use Rattle.dp_epochs.specs.Laws.{ShutBefore}
use Rattle.dp_epochs.specs.Past.{Past, Step}
use Rattle.dp_session_laws.specs.Logs.{ReplyOrMemory, LogEntry, IsSessionLog}
use Rattle.dp_session_laws.specs.Journals.{HasBroken, is_kept}
use Rattle.dp_session_laws.proofs.JournalLemmas.{Sound, Same, First, sound-step, log-adds}
use Rattle.dp_session_laws.proofs.JournalLemmas.{broken-log, broken-step, log-broke}
use Rattle.dp_link_run.specs.Links.{is_store_fault, has_store_fault}
use Rattle.dp_link_run.specs.Talking.{is_last_store_fault}
use Rattle.dp_crew.specs.Runs.{acts_of}
use Rattle.dp_serve.specs.Serving.{Seen, Part, Left, Serves, IsPart}
use Rattle.dp_serve.specs.Closings.{ClosesEach, ServesOn, open_numbers}
use Rattle.dp_serve_laws.proofs.ServingLemmas.{part-from, seat-in}

-- ---- closings

-- what the rest of a closing is, by whether the Close was kept
abbrev pub Then : Past → List ℕ → Option ReplyOrMemory → Past → ReplyOrMemory → Bool → Type 0
Then next conns refusal new outcome b =
    MatchBool b (ClosesEach next conns refusal new) ((refusal ≡ Some outcome) × (new ≡ next))

-- after a fault the session stays so
broken-closes : (old : Past) (conns : List ℕ) (refusal : Option ReplyOrMemory) (new : Past) (k : ℕ)
    → old.first_fault ≡ Some k → ClosesEach old conns refusal new
    → (new.first_fault ≡ Some k) × (new.count ≡ old.count)
broken-closes old [] refusal new k broken h =
    (ap (λ (p : Past). p.first_fault) h.1 ∙ broken, ap (λ (p : Past). p.count) h.1)
broken-closes old (conn ∷ conns) refusal new k broken (outcome, next, step, onward) =
    let s = broken-step old (event.Close conn) outcome next k broken step in
    let r = by (is_kept outcome) (λ more. broken-closes next conns refusal new k s.0 more) s.0
    onward in (r.0, r.1 ∙ s.1)
  where
    by : (b : Bool) → (ClosesEach next conns refusal new
        → (new.first_fault ≡ Some k) × (new.count ≡ next.count)) → next.first_fault ≡ Some k
        → Then next conns refusal new outcome b
        → (new.first_fault ≡ Some k) × (new.count ≡ next.count)
    by true rest fault more = rest more
    by false rest fault last =
        (ap (λ (p : Past). p.first_fault) last.1 ∙ fault, ap (λ (p : Past). p.count) last.1)

then-broken : (next : Past) (conns : List ℕ) (refusal : Option ReplyOrMemory) (new : Past)
    (outcome : ReplyOrMemory) (b : Bool) (k : ℕ) → next.first_fault ≡ Some k
    → Then next conns refusal new outcome b
    → (new.first_fault ≡ Some k) × (new.count ≡ next.count)
then-broken next conns refusal new outcome true k fault more =
    broken-closes next conns refusal new k fault more
then-broken next conns refusal new outcome false k fault last =
    (ap (λ (p : Past). p.first_fault) last.1 ∙ fault, ap (λ (p : Past). p.count) last.1)

not-store : (outcome : ReplyOrMemory) → ((k : ℕ) → outcome ≡ Ok (reply.StoreFault k) → ⊥)
    → is_store_fault outcome ≡ false
not-store (Ok (reply.StoreFault count)) other = absurd (other count refl)
not-store (Ok answer) other = refl
not-store (Err error) other = refl

-- a put failed in the closings, which was counted; or none did
abbrev pub Came : Past → Option ReplyOrMemory → Past → Type 0
Came old refusal new =
    HasBroken old new
    ⊎ ((new.first_fault ≡ None) × (new.count ≡ old.count)
    × (is_last_store_fault refusal ≡ false))

later : (old next new : Past) (refusal : Option ReplyOrMemory) → next.count ≡ old.count
    → Came next refusal new → Came old refusal new
later old next new refusal same (inl broken) = inl (record {
  count = broken.count;
  fault = broken.fault;
  rose = subst (λ n. Rose n new.count) same broken.rose;
})
later old next new refusal same (inr none) = inr (none.0, none.1 ∙ same, none.2)

pub closes-came : EventsHaveEffects → (old : Past) (conns : List ℕ)
    (refusal : Option ReplyOrMemory) (new : Past) → old.first_fault ≡ None
    → ClosesEach old conns refusal new → Came old refusal new
closes-came effects old [] refusal new none h = inr (
  ap (λ (p : Past). p.first_fault) h.1 ∙ none,
  ap (λ (p : Past). p.count) h.1,
  ap is_last_store_fault h.0,
)
closes-came effects old (conn ∷ conns) refusal new none (outcome, next, step, onward) =
    by (is_kept outcome) (λ fault more. closes-came effects next conns refusal new fault more)
    (sound-step effects old (event.Close conn) outcome next none step) onward
  where
    by : (b : Bool) → (next.first_fault ≡ None → ClosesEach next conns refusal new
        → Came next refusal new) → Sound old outcome next → Then next conns refusal new outcome b
        → Came old refusal new
    by b rest (First k fault rose) some =
        let h = then-broken next conns refusal new outcome b k fault some in
        inl (record {
          count = k;
          fault = h.0;
          rose = subst (λ n. Rose old.count n) (sym h.1) rose;
        })
    by true rest (Same fault count other) more = later old next new refusal count (rest fault more)
    by false rest (Same fault count other) last = inr (
      ap (λ (p : Past). p.first_fault) last.1 ∙ fault,
      ap (λ (p : Past). p.count) last.1 ∙ count,
      ap is_last_store_fault last.0 ∙ not-store outcome other,
    )

-- what a Close adds to the journal, by whether it was kept
step-journal : EventsHaveEffects → (old : Past) (e : Event) (outcome : ReplyOrMemory) (new : Past)
    → Step old e outcome new
    → ((is_kept outcome ≡ true) × (new.journal ≡ old.journal ++ e ∷ []))
    ⊎ ((is_kept outcome ≡ false) × (new.journal ≡ old.journal))
step-journal effects old e outcome new h =
    let adds = log-adds effects old
    (record { by = []; event = e; outcome = outcome; left = new } ∷ []) (h, tt) in
    ⊎_elim
    (λ (yes : is_kept outcome ≡ true).
    inl (yes, adds ∙ ap (λ b. old.journal ++ (if b then e ∷ [] else [])) yes))
    (λ (no : is_kept outcome ≡ false).
    inr (
      no,
      adds ∙ ap (λ b. old.journal ++ (if b then e ∷ [] else [])) no
          ∙ append-nil old.journal,
    ))
    (cases_Bool (is_kept outcome))

-- the first connections of these were closed, and all of them if none was refused
abbrev pub ClosedFirst : Past → List ℕ → Option ReplyOrMemory → Past → Type 0
ClosedFirst start conns refusal closed =
    (done more : List ℕ) × (conns ≡ done ++ more)
    × (closed.journal ≡ start.journal ++ map event.Close done) × (refusal ≡ None → more ≡ [])

pub closes-journal : EventsHaveEffects → (old : Past) (conns : List ℕ)
    (refusal : Option ReplyOrMemory) (new : Past) → ClosesEach old conns refusal new
    → ClosedFirst old conns refusal new
closes-journal effects old [] refusal new h =
    ([], [], refl, ap (λ (p : Past). p.journal) h.1 ∙ sym (append-nil old.journal), (λ x. refl))
closes-journal effects old (conn ∷ conns) refusal new (outcome, next, step, onward) =
    by (λ more. closes-journal effects next conns refusal new more)
    (step-journal effects old (event.Close conn) outcome next step)
  where
    by : (ClosesEach next conns refusal new → ClosedFirst next conns refusal new)
        → ((is_kept outcome ≡ true) × (next.journal ≡ old.journal ++ event.Close conn ∷ []))
        ⊎ ((is_kept outcome ≡ false) × (next.journal ≡ old.journal))
        → ClosedFirst old (conn ∷ conns) refusal new
    by closed (inl kept) =
        let rest = closed
        (subst (Then next conns refusal new outcome) kept.0 onward) in (
          conn ∷ rest.0,
          rest.1,
          ap (λ l. conn ∷ l) rest.2,
          rest.3 ∙ ap (λ l. l ++ map event.Close rest.0) kept.1
              ∙ append_assoc old.journal (event.Close conn ∷ []) (map event.Close rest.0),
          rest.4,
        )
    by closed (inr not) =
        let last = subst (Then next conns refusal new outcome) not.0 onward in (
          [],
          conn ∷ conns,
          refl,
          ap (λ (p : Past). p.journal) last.1 ∙ not.1 ∙ sym (append-nil old.journal),
          (λ none. let wrong : None ≡ Some outcome = sym none ∙ last.0 in cc),
        )

-- it stays as sound as it was
pub closes-sound : ((past : Past) (log : List LogEntry) → ShutBefore past → IsSessionLog past log
    → ShutBefore (left_by past log)) → (old : Past) (conns : List ℕ)
    (refusal : Option ReplyOrMemory) (new : Past) → ShutBefore old
    → ClosesEach old conns refusal new → ShutBefore new
closes-sound before old [] refusal new sound h = subst ShutBefore (sym h.1) sound
closes-sound before old (conn ∷ conns) refusal new sound (outcome, next, step, onward) =
    by (is_kept outcome) (λ went more. closes-sound before next conns refusal new went more)
    (before old (record {
      by = [];
      event = event.Close conn;
      outcome = outcome;
      left = next;
    } ∷ []) sound (step, tt)) onward
  where
    by : (b : Bool) → (ShutBefore next → ClosesEach next conns refusal new → ShutBefore new)
        → ShutBefore next → Then next conns refusal new outcome b → ShutBefore new
    by true rest went more = rest went more
    by false rest went last = subst ShutBefore (sym last.1) went

-- ---- an act in which the store failed

any-in : {X : Type 0} (p : X → Bool) (xs : List X) → list_any p xs ≡ true
    → (x : X) × IsIn x xs × (p x ≡ true)
any-in p [] h = cc
any-in p (x ∷ xs) h = ⊎_elim
    (λ (here : p x ≡ true). (x, inl refl, here))
    (λ (other : p x ≡ false).
    let more = any-in p xs (sym (ap (λ b. b || list_any p xs) other) ∙ h) in
    (more.0, inr more.1, more.2))
    (cases_Bool (p x))

is-fault : (outcome : ReplyOrMemory) → is_store_fault outcome ≡ true
    → (k : ℕ) × (outcome ≡ Ok (reply.StoreFault k))
is-fault (Ok (reply.StoreFault count)) h = (count, refl)
is-fault (Ok answer) h = cc
is-fault (Err error) h = cc

module _ {W R T : Type 0} (see : Seen W R T) (start : Past) (most : ℕ) (old new : List W)
    (left : Left) (served : Serves see start most old new left) where
  fault-in : left.store ≡ true
      → (act : LogEntry) × IsIn act served.log × ((k : ℕ) × (act.outcome ≡ Ok (reply.StoreFault k)))
  fault-in raised =
      let some = any-in (λ (part : Part W R T). has_store_fault (acts_of part.runs)) served.parts
      (sym served.store ∙ raised) in
      let part = some.0 in
      let act = any-in (λ (act : LogEntry). is_store_fault act.outcome) (acts_of part.runs)
      some.2 in
      let is = part-from (IsPart see (left_by start served.log) served.log most left.memory
      left.wire) 0 served.parts part served.each some.1 in
      let own = seat-in part.name served.log act.0
      (subst (IsIn act.0) (sym is.1.1) act.1) in
      (act.0, own.0, is-fault act.0.outcome act.2)

  serves-broke : EventsHaveEffects → start.first_fault ≡ None → left.store ≡ true
      → Rose start.count left.count
  serves-broke effects none raised =
      let act = fault-in raised in
      let h = log-broke effects start served.log act.0 act.2.0 none served.legal act.1 act.2.1 in
      subst (λ n. Rose start.count n) (sym served.count) h.rose

-- ---- of both

or-false : (a b : Bool) → b ≡ false → (a || b) ≡ true → a ≡ true
or-false true b none h = refl
or-false false b none h = let wrong : false ≡ true = sym none ∙ h in cc

module _ {W R T : Type 0} (see : Seen W R T) (start : Past) (most : ℕ) (old new : List W)
    (left : Left) (on : ServesOn see start most old new left) where
  pub store-broke : EventsHaveEffects → start.first_fault ≡ None → left.store ≡ true
      → Rose start.count left.count
  store-broke effects none raised =
      by (closes-came effects start (open_numbers start) on.refusal on.closed none on.closes)
    where
      counts : left.count ≡ on.rest.count
      counts = ap (λ (l : Left). l.count) on.left_is

      by : Came start on.refusal on.closed → Rose start.count left.count
      by (inl broken) =
          let stays = broken-log on.closed on.serves.log broken.count broken.fault
          on.serves.legal in
          subst (λ n. Rose start.count n) (sym (counts ∙ on.serves.count ∙ stays.1)) broken.rose
      by (inr sound) =
          let flag = or-false on.rest.store (is_last_store_fault on.refusal) sound.2
          (sym (ap (λ (l : Left). l.store) on.left_is) ∙ raised) in
          let rose = serves-broke see on.closed most old new on.rest on.serves effects sound.0
          flag in
          subst (λ n. Rose start.count n) (sym counts)
          (subst (λ n. Rose n on.rest.count) sound.1 rose)
