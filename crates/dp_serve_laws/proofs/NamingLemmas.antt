-- Lists of acts, each of whose events names a connection that an act before it gave out.
use Rattle.std.proofs.Common.{◌⊎◌, ℕ, Bool, true, false, if◌then◌else◌, List, [], ◌∷◌, ◌++◌}
use Rattle.std.proofs.Common.{refl, subst, inl, inr, flat_map}
use Rattle.std.specs.Prelude.{⊤}
use Rattle.dp_hall.specs.Logs.{is_same_name, entries_by}
use Rattle.dp_hall.specs.Names.{IsIn}
use Rattle.dp_hall.proofs.ListLemmas.{same_self}
use Rattle.dp_messages.specs.Messages.{HasSpelling}
use Rattle.dp_epochs.specs.declared.event.Event.{Event}
use Rattle.dp_epochs.specs.declared.event.Event.TheVariants.{Open, Say, Close}
use Rattle.dp_session_laws.specs.Logs.{LogEntry}
use Rattle.dp_session_laws.specs.Closings.{given_by}

-- P holds of the connection that the event names, if it names one, and its message has a spelling
abbrev pub Names : (ℕ → Type 0) → Event → Type 0
Names P (Open name registered) = ⊤
Names P (Say conn m) = P conn × HasSpelling m
Names P (Close conn) = P conn

-- P holds of the connection, or the act gave it out
abbrev pub OrGiven : (ℕ → Type 0) → LogEntry → ℕ → Type 0
OrGiven P act conn = P conn ⊎ IsIn conn (given_by act.outcome)

-- each event names a connection of which P holds, or that an act before it gave out
abbrev pub NamesAfter : (ℕ → Type 0) → List LogEntry → Type 0
NamesAfter P [] = ⊤
NamesAfter P (act ∷ acts) = Names P act.event × NamesAfter (OrGiven P act) acts

names-weaker : (P Q : ℕ → Type 0) → ((c : ℕ) → P c → Q c) → (e : Event) → Names P e → Names Q e
names-weaker P Q weaker (Open name registered) h = tt
names-weaker P Q weaker (Say conn m) h = (weaker conn h.0, h.1)
names-weaker P Q weaker (Close conn) h = weaker conn h

or-weaker : (P Q : ℕ → Type 0) → ((c : ℕ) → P c → Q c) → (act : LogEntry) (c : ℕ)
    → OrGiven P act c → OrGiven Q act c
or-weaker P Q weaker act c (inl p) = inl (weaker c p)
or-weaker P Q weaker act c (inr given) = inr given

pub after-weaker : (P Q : ℕ → Type 0) → ((c : ℕ) → P c → Q c) → (acts : List LogEntry)
    → NamesAfter P acts → NamesAfter Q acts
after-weaker P Q weaker [] h = tt
after-weaker P Q weaker (act ∷ acts) h = (
  names-weaker P Q weaker act.event h.0,
  after-weaker (OrGiven P act) (OrGiven Q act) (or-weaker P Q weaker act) acts h.1,
)

pub after-both : (P : ℕ → Type 0) (xs ys : List LogEntry) → NamesAfter P xs → NamesAfter P ys
    → NamesAfter P (xs ++ ys)
after-both P [] ys h k = k
after-both P (x ∷ xs) ys h k = (
  h.0,
  after-both (OrGiven P x) xs ys h.1 (after-weaker P (OrGiven P x) (λ c p. inl p) ys k),
)

-- lists of acts, one after another
pub after-flat : {X : Type 0} (P : ℕ → Type 0) (f : X → List LogEntry) (xs : List X)
    → ((x : X) → IsIn x xs → NamesAfter P (f x)) → NamesAfter P (flat_map f xs)
after-flat P f [] each = tt
after-flat P f (x ∷ xs) each =
    after-both P (f x) (flat_map f xs) (each x (inl refl))
    (after-flat P f xs (λ y h. each y (inr h)))

-- acts all of which name a connection of which P holds
pub after-all : (P : ℕ → Type 0) (acts : List LogEntry)
    → ((act : LogEntry) → IsIn act acts → Names P act.event) → NamesAfter P acts
after-all P [] each = tt
after-all P (act ∷ acts) each = (
  each act (inl refl),
  after-all (OrGiven P act) acts
      (λ a h. names-weaker P (OrGiven P act) (λ c p. inl p) a.event (each a (inr h))),
)

-- if that is so of the acts by each name, it is so of a whole log
pub after-merged : (P : ℕ → Type 0) (log : List LogEntry)
    → ((act : LogEntry) → IsIn act log → NamesAfter P (entries_by act.by log)) → NamesAfter P log
after-merged P [] each = tt
after-merged P (act ∷ log) each =
    (first, after-merged (OrGiven P act) log (λ a h. later a (each a (inr h))))
  where
    first : Names P act.event
    first =
        let own : NamesAfter P (act ∷ entries_by act.by log) =
        subst (λ b. NamesAfter P (if b then act ∷ entries_by act.by log
        else entries_by act.by log)) (same_self act.by) (each act (inl refl)) in
        own.0

    by_name : (b : Bool) (acts : List LogEntry) → NamesAfter P (if b then act ∷ acts else acts)
        → NamesAfter (OrGiven P act) acts
    by_name true acts h = h.1
    by_name false acts h = after-weaker P (OrGiven P act) (λ c p. inl p) acts h

    later : (a : LogEntry) → NamesAfter P (entries_by a.by (act ∷ log))
        → NamesAfter (OrGiven P act) (entries_by a.by log)
    later a h = by_name (is_same_name act.by a.by) (entries_by a.by log) h
