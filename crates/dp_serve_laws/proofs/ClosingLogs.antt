-- The closings of connections that were open, as a log.
use Rattle.std.proofs.Common.{◌≡◌, ℕ, ◌+◌, ◌-◌, Bool, true, false, if◌then◌else◌, List, [], ◌∷◌}
use Rattle.std.proofs.Common.{◌++◌}
use Rattle.std.proofs.Common.{length, Option, None, Some, refl, sym, ap, subst, ◌∙◌, ⊎_elim, inl}
use Rattle.std.proofs.Common.{inr}
use Rattle.std.specs.Prelude.{is_some}
use Rattle.std.specs.List.{filter, range_with_len}
use Rattle.std.proofs.lemmas.Bool.{cases_Bool}
use Rattle.dp_hall.specs.Logs.{left_by}
use Rattle.dp_hall.specs.Names.{IsIn}
use Rattle.dp_epochs.specs.declared.connection.Connection.{Connection}
use Rattle.dp_epochs.specs.declared.event.Event.TheVariants as event
use Rattle.dp_epochs.specs.State.{connection_of, open_in, where_open}
use Rattle.dp_epochs.specs.Past.{Past, state_of}
use Rattle.dp_session_laws.specs.Logs.{ReplyOrMemory, LogEntry, IsSessionLog}
use Rattle.dp_session_laws.specs.Journals.{is_kept}
use Rattle.dp_serve.specs.Closings.{ClosesEach, open_numbers}
use Rattle.dp_serve_laws.proofs.ClosingLemmas.{Then}
use Rattle.dp_serve_laws.proofs.GivenLemmas.{IsGivenOut}
use Rattle.dp_serve_laws.proofs.NamingLemmas.{Names, NamesAfter, after-all}

-- ---- one log after another

pub legal-both : (past : Past) (xs ys : List LogEntry) → IsSessionLog past xs
    → IsSessionLog (left_by past xs) ys → IsSessionLog past (xs ++ ys)
legal-both past [] ys h k = k
legal-both past (x ∷ xs) ys h k = (h.0, legal-both x.left xs ys h.1 k)

pub left-both : (past : Past) (xs ys : List LogEntry)
    → left_by past (xs ++ ys) ≡ left_by (left_by past xs) ys
left-both past [] ys = refl
left-both past (x ∷ xs) ys = left-both x.left xs ys

-- ---- closings

-- a log of Closes of these connections that leads from one session to another
pub record ClosingLog (old : Past) (conns : List ℕ) (new : Past) : Type 0 where
  pub log : List LogEntry
  pub legal : IsSessionLog old log
  pub left_is : left_by old log ≡ new
  pub closes : (act : LogEntry) → IsIn act log
      → (conn : ℕ) × IsIn conn conns × (act.event ≡ event.Close conn)

pub closes-log : (old : Past) (conns : List ℕ) (refusal : Option ReplyOrMemory) (new : Past)
    → ClosesEach old conns refusal new → ClosingLog old conns new
closes-log old [] refusal new h =
    record { log = []; legal = tt; left_is = sym h.1; closes = λ act none. absurd none }
closes-log old (conn ∷ conns) refusal new (outcome, next, step, onward) =
    by (is_kept outcome) (λ more. closes-log next conns refusal new more) onward
  where
    act : LogEntry
    act = record { by = []; event = event.Close conn; outcome = outcome; left = next }

    each : (log : List LogEntry)
        → ((a : LogEntry) → IsIn a log → (c : ℕ) × IsIn c conns × (a.event ≡ event.Close c))
        → (a : LogEntry) → IsIn a (act ∷ log)
        → (c : ℕ) × IsIn c (conn ∷ conns) × (a.event ≡ event.Close c)
    each log rest a (inl e) = (conn, inl refl, ap (λ (x : LogEntry). x.event) e)
    each log rest a (inr h) = let r = rest a h in (r.0, inr r.1, r.2)

    by : (b : Bool) → (ClosesEach next conns refusal new → ClosingLog next conns new)
        → Then next conns refusal new outcome b → ClosingLog old (conn ∷ conns) new
    by true rest more =
        let r = rest more in
        record {
          log = act ∷ r.log;
          legal = (step, r.legal);
          left_is = r.left_is;
          closes = each r.log r.closes;
        }
    by false rest last = record {
      log = act ∷ [];
      legal = (step, tt);
      left_is = sym last.1;
      closes = each [] (λ a none. absurd none);
    }

-- ---- connections that are open

in-filter : (p : ℕ → Bool) (n : ℕ) (ns : List ℕ) → IsIn n (filter p ns) → p n ≡ true
in-filter p n [] h = absurd h
in-filter p n (m ∷ ns) h =
    ⊎_elim
    (λ (pass : p m ≡ true). passing pass (in-filter p n ns)
    (subst (λ b. IsIn n (if b then m ∷ filter p ns else filter p ns)) pass h))
    (λ (other : p m ≡ false). in-filter p n ns
    (subst (λ b. IsIn n (if b then m ∷ filter p ns else filter p ns)) other h))
    (cases_Bool (p m))
  where
    passing : p m ≡ true → (IsIn n (filter p ns) → p n ≡ true) → IsIn n (m ∷ filter p ns)
        → p n ≡ true
    passing pass rest (inl e) = ap p e ∙ pass
    passing pass rest (inr k) = rest k

there : (found : Option Connection) → is_some (where_open found) ≡ true → is_some found ≡ true
there None h = h
there (Some connection) h = refl

-- they were given out
open-given : (past : Past) (conn : ℕ) → IsIn conn (open_numbers past) → IsGivenOut past conn
open-given past conn h =
    there (connection_of (state_of past) conn)
    (in-filter (λ n. is_some (open_in (state_of past).connections n)) conn
    (range_with_len (0 + 1) (length (state_of past).connections - 0)) h)

pub closes-names : (old new : Past) (closing : ClosingLog old (open_numbers old) new)
    → NamesAfter (IsGivenOut old) closing.log
closes-names old new closing =
    after-all (IsGivenOut old) closing.log (λ act h.
    let close = closing.closes act h in
    subst (Names (IsGivenOut old)) (sym close.2) (open-given old close.0 close.1))
