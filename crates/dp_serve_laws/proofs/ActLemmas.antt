-- The entries of a log by a name, and the kept events of a connection.
use Rattle.std.proofs.Common.{◌≡◌, ℕ, Bool, true, false, if◌then◌else◌, List, [], ◌∷◌, ◌++◌}
use Rattle.std.proofs.Common.{Ok, Err, refl, sym, ap, subst, ◌∙◌, inl, inr, flat_map}
use Rattle.std.specs.List.{filter}
use Rattle.dp_hall.specs.declared.view.Entry.{Entry}
use Rattle.dp_hall.specs.Logs.{is_same_name, entries_by}
use Rattle.dp_hall.specs.Names.{IsIn, AreDistinct}
use Rattle.dp_hall.proofs.ListLemmas.{same_self, same_is, is_not, distinct_both}
use Rattle.dp_epochs.specs.declared.event.Event.{Event}
use Rattle.dp_epochs.specs.declared.event.Reply.{Reply}
use Rattle.dp_epochs.specs.declared.event.Reply.TheVariants as reply
use Rattle.dp_session_laws.specs.Logs.{ReplyOrMemory, LogEntry}
use Rattle.dp_session_laws.specs.Journals.{is_kept, kept_events, kept_reply, kept_replies}
use Rattle.dp_serve_laws.specs.Acts.{is_of, is_about, acts_about, events_about}
use Rattle.dp_serve_laws.proofs.ListLemmas.{in-flat, apart, distinct-prefix, distinct-back}

-- ---- entries by a name

module _ {E O M : Type 0} where
  -- an entry by the name is one of the log
  pub in-entries : (name : List ℕ) (log : List (Entry E O M)) (e : Entry E O M)
      → IsIn e (entries_by name log) → IsIn e log × (name ≡ e.by)
  in-entries name [] e h = absurd h
  in-entries name (x ∷ log) e h =
      by_name (is_same_name x.by name) refl (in-entries name log e) h
    where
      later : IsIn e log × (name ≡ e.by) → IsIn e (x ∷ log) × (name ≡ e.by)
      later found = (inr found.0, found.1)

      by_name : (b : Bool) → is_same_name x.by name ≡ b
          → (IsIn e (entries_by name log) → IsIn e log × (name ≡ e.by))
          → IsIn e (if b then x ∷ entries_by name log else entries_by name log)
          → IsIn e (x ∷ log) × (name ≡ e.by)
      by_name true same rest (inl is) = (
        inl is,
        sym (ap (λ (a : Entry E O M). a.by) is ∙ same_is x.by name same),
      )
      by_name true same rest (inr k) = later (rest k)
      by_name false same rest k = later (rest k)

  -- an entry of the log is one of those by its name
  pub entries-in : (log : List (Entry E O M)) (e : Entry E O M) → IsIn e log
      → IsIn e (entries_by e.by log)
  entries-in [] e h = absurd h
  entries-in (x ∷ log) e (inl is) =
      subst (λ b. IsIn e (if b then x ∷ entries_by e.by log else entries_by e.by log))
      (sym (ap (λ (a : Entry E O M). is_same_name a.by e.by) (sym is) ∙ same_self e.by)) (inl is)
  entries-in (x ∷ log) e (inr h) = by_name (is_same_name x.by e.by) (entries-in log e h)
    where
      by_name : (b : Bool) → IsIn e (entries_by e.by log)
          → IsIn e (if b then x ∷ entries_by e.by log else entries_by e.by log)
      by_name true rest = inr rest
      by_name false rest = rest

  -- if all that passes is by the name, it is what passes of the entries by it
  pub filter-entries : (p : Entry E O M → Bool) (name : List ℕ) (log : List (Entry E O M))
      → ((e : Entry E O M) → IsIn e log → p e ≡ true → e.by ≡ name)
      → filter p log ≡ filter p (entries_by name log)
  filter-entries p name [] only = refl
  filter-entries p name (x ∷ log) only =
      by_test (p x) (is_same_name x.by name) refl refl
      (filter-entries p name log (λ e h. only e (inr h)))
    where
      first : (b : Bool) → p x ≡ b
          → (if b then x ∷ filter p (entries_by name log) else filter p (entries_by name log))
          ≡ filter p (x ∷ entries_by name log)
      first b pass =
          ap (λ c. if c then x ∷ filter p (entries_by name log)
          else filter p (entries_by name log)) (sym pass)

      by_test : (b same : Bool) → p x ≡ b → is_same_name x.by name ≡ same
          → filter p log ≡ filter p (entries_by name log)
          → (if b then x ∷ filter p log else filter p log)
          ≡ filter p (if same then x ∷ entries_by name log else entries_by name log)
      by_test true true pass is rest = ap (λ l. x ∷ l) rest ∙ first true pass
      by_test false true pass is rest = rest ∙ first false pass
      by_test true false pass is rest =
          absurd (is_not (is_same_name x.by name)
          (ap (λ n. is_same_name n name) (only x (inl refl) pass) ∙ same_self name) is)
      by_test false false pass is rest = rest

  -- if all that a log gives is distinct, so is what the entries by a name give
  pub distinct-entries : {A : Type 0} (f : Entry E O M → List A) (name : List ℕ)
      (log : List (Entry E O M)) → AreDistinct (flat_map f log)
      → AreDistinct (flat_map f (entries_by name log))
  distinct-entries f name [] d = d
  distinct-entries f name (x ∷ log) d =
      by_name (is_same_name x.by name)
      (distinct-entries f name log (distinct-back (f x) (flat_map f log) d))
    where
      by_name : (b : Bool) → AreDistinct (flat_map f (entries_by name log))
          → AreDistinct (flat_map f (if b then x ∷ entries_by name log else entries_by name log))
      by_name true rest =
          distinct_both (f x) (flat_map f (entries_by name log))
          (distinct-prefix (f x) (flat_map f log) d) rest
          (λ a own later.
          let found = in-flat f a (entries_by name log) later in
          apart f a x found.0 log d own (in-entries name log found.0 found.1).0 found.2)
      by_name false rest = rest

-- ---- kept events

-- whether an act of which that came is kept, and what is kept of the reply
data Keeping (o : ReplyOrMemory) : Type 0 where
  Dropped : is_kept o ≡ false → kept_reply o ≡ [] → Keeping o
  Kept : (answer : Reply) → o ≡ Ok answer → is_kept o ≡ true → kept_reply o ≡ answer ∷ []
      → Keeping o

keeping : (o : ReplyOrMemory) → Keeping o
keeping (Ok reply.Ended) = Dropped refl refl
keeping (Ok (reply.StoreFault count)) = Dropped refl refl
keeping (Ok answer) = Kept answer refl refl refl
keeping (Err error) = Dropped refl refl

-- one act and then the others
module _ (conn : ℕ) (act : LogEntry) (log : List LogEntry) where
  -- the events of the others that are of the connection, and those of their acts that are
  abbrev of_log : List Event
  of_log = events_about conn (kept_events log) (kept_replies log)

  abbrev of_acts : List Event
  of_acts = kept_events (acts_about conn log)

  -- these events, and before them that of the act if it counts
  abbrev with_event : Bool → List Event → List Event
  with_event b events = if b then act.event ∷ events else events

  abbrev with_act : Bool → List LogEntry
  with_act b = if b then act ∷ acts_about conn log else acts_about conn log

  dropped : is_kept act.outcome ≡ false → (b : Bool) → of_acts ≡ kept_events (with_act b)
  dropped is true = ap (λ k. with_event k of_acts) (sym is)
  dropped is false = refl

  kept : is_kept act.outcome ≡ true → of_log ≡ of_acts → (b : Bool)
      → with_event b of_log ≡ kept_events (with_act b)
  kept is rest true = ap (λ l. act.event ∷ l) rest ∙ ap (λ k. with_event k of_acts) (sym is)
  kept is rest false = rest

  one-more : Keeping act.outcome → of_log ≡ of_acts
      → events_about conn (kept_events (act ∷ log)) (kept_replies (act ∷ log))
      ≡ kept_events (acts_about conn (act ∷ log))
  one-more (Dropped is none) rest =
      ap (λ k. events_about conn (with_event k (kept_events log)) (kept_replies (act ∷ log))) is
      ∙ ap (λ l. events_about conn (kept_events log) (l ++ kept_replies log)) none
      ∙ rest
      ∙ dropped is (is_about conn act)
  one-more (Kept answer same is one) rest =
      ap (λ k. events_about conn (with_event k (kept_events log)) (kept_replies (act ∷ log))) is
      ∙ ap (λ l. events_about conn (act.event ∷ kept_events log) (l ++ kept_replies log)) one
      ∙ ap (λ o. with_event (is_of conn act.event o) of_log) (sym same)
      ∙ kept is rest (is_about conn act)

-- the kept events that are of the connection are those of its acts
pub kept-about : (conn : ℕ) (log : List LogEntry)
    → events_about conn (kept_events log) (kept_replies log) ≡ kept_events (acts_about conn log)
kept-about conn [] = refl
kept-about conn (act ∷ log) = one-more conn act log (keeping act.outcome) (kept-about conn log)
