-- What the store of a server holds, and which events are of a link's connection.
use Rattle.std.proofs.Common.{◌≡◌, ◌⊎◌, ℕ, List, sym, ap, subst, inl, inr, Option, Some}
use Rattle.std.specs.Prelude.{IfSome, map, string_bytes}
use Rattle.std.specs.declared.string.String.{String}
use Rattle.dp_epochs.specs.Past.{Past}
use Rattle.dp_epochs.specs.Resumed.{AreRowsOf}
use Rattle.dp_hall.specs.Names.{IsIn}
use Rattle.dp_serve.specs.Closings.{ServesOn}
use Rattle.dp_serve.specs.Serving.{Left}
use Rattle.dp_serve_laws.specs.Acts.{KeepsActs}
use Rattle.dp_serve_laws.specs.Stored.{HoldRows, IsResumed}
use Rattle.dp_serve.specs.declared.report.LinkReport.{LinkReport}
use Rattle.dp_commands.specs.Commands.{AskForLocal, HasLink, HasWires}
use Rattle.dp_endings.specs.declared.ending.Ending.{Ending}
use Rattle.dp_commands.specs.Effects.{Effects, KeepsNothing, Wires, served_wires}
use Rattle.dp_app.specs.Kinds.{EndsWords}
use Rattle.dp_commands.specs.Servers.{NotResumed, ServedOn}
use Rattle.dp_app.specs.Stores.{HoldsKept}
use Rattle.dp_app.proofs.Ends.{OneCommand, of-each}

-- the law of what a store holds, of such wires
abbrev pub RowsLaw : {W R T : Type 0} → Wires W R T → Type 0
RowsLaw {W} see =
    (start : Past) (most : ℕ) (old new : List W) (left : Left) → IsResumed start
    → ServesOn (served_wires see) start most old new left
    → IfSome left.known (HoldRows start.count left.count left.journal)

-- the law of the events of a link's connection, of such wires
abbrev pub ActsLaw : {W R T : Type 0} → Wires W R T → Type 0
ActsLaw {W} see =
    (start : Past) (most : ℕ) (old new : List W) (left : Left) (report : LinkReport) (conn : ℕ)
    → IsResumed start → ServesOn (served_wires see) start most old new left
    → IsIn report left.reports → report.conn ≡ Some conn
    → KeepsActs (served_wires see).link start.known report conn left.journal left.shut

module _ {A W R T : Type 0} (see : Wires W R T) (words : List (String A)) (e : Effects W) where
  -- ---- a session that was served

  module _ (conns : Option ℕ) (ending : Ending) (h : ServedOn see conns e ending) where
    known-is : h.start.known ≡ e.store.held
    known-is = ap (λ (p : Past). p.known) h.resumes

    is-resumed : IsResumed h.start
    is-resumed = record {
      rows = subst (λ k. IfSome k (λ rows. AreRowsOf rows h.start.journal)) (sym known-is) h.rows;
      shut = ap (λ (p : Past). p.shut) h.resumes;
      unbroken = ap (λ (p : Past). p.first_fault) h.resumes;
    }

    rows-held : RowsLaw see → HoldsKept e.store e.kept
    rows-held law =
        inl (subst (λ (n : ℕ). IfSome e.store.held_now
        (HoldRows n e.store.puts_now e.kept.journal)) (ap (λ (p : Past). p.count) h.resumes)
        (law h.start _ e.old e.new _ is-resumed h.serves))

    acts-kept : ActsLaw see → (report : LinkReport) (conn : ℕ) → IsIn report e.kept.reports
        → report.conn ≡ Some conn
        → KeepsActs (served_wires see).link e.store.held report conn e.kept.journal e.kept.shut
    acts-kept law report conn within is =
        subst (λ k. KeepsActs (served_wires see).link k report conn e.kept.journal e.kept.shut)
        known-is (law h.start _ e.old e.new _ report conn is-resumed h.serves within is)

  -- ---- the clauses

  resumed-or-not : RowsLaw see → (conns : Option ℕ) (ending : Ending)
      → ServedOn see conns e ending ⊎ NotResumed e ending → HoldsKept e.store e.kept
  resumed-or-not law conns ending (inl h) = rows-held conns ending h law
  resumed-or-not law conns ending (inr not) = inr (not.held, not.stays.nothing)

  -- words that ask for something else have no wires of a server
  local-never : OneCommand → AskForLocal words → HasWires words e.old → ⊥
  local-never one asks has =
      let same = one (map string_bytes words) _ _ asks.1 has.3 in absurd (cc (same))

  link-never : OneCommand → HasLink words e.old → HasWires words e.old → ⊥
  link-never one link has =
      let same = one (map string_bytes words) _ _ link.0.2 has.3 in absurd (cc (same))

  pub rows-kept : OneCommand → RowsLaw see
      → ((HasWires words e.old → ⊥) → e.store.held_now ≡ e.store.held)
      → (ending : Ending) → EndsWords see words e ending → HoldsKept e.store e.kept
  rows-kept one law stays ending h =
      of-each see words e (λ all. inr (all.store.held, all.stays.nothing))
      (λ asks local. inr (stays (local-never one asks), local.nothing))
      (λ has kept. inr (stays (link-never one has), kept))
      (λ has conns end runs. resumed-or-not law conns end runs.served) ending h

  none-named : KeepsNothing e.kept → {P : Type 0} → (report : LinkReport)
      → IsIn report e.kept.reports → P
  none-named none report within = absurd (subst (IsIn report) none.2 within)

  served-or-not : ActsLaw see → (conns : Option ℕ) (ending : Ending)
      → ServedOn see conns e ending ⊎ NotResumed e ending → (report : LinkReport) (conn : ℕ)
      → IsIn report e.kept.reports → report.conn ≡ Some conn
      → KeepsActs (served_wires see).link e.store.held report conn e.kept.journal e.kept.shut
  served-or-not law conns ending (inl h) = acts-kept conns ending h law
  served-or-not law conns ending (inr not) =
      λ report conn within is. none-named not.stays.nothing report within

  pub connections : ActsLaw see → (ending : Ending) → EndsWords see words e ending
      → (report : LinkReport) (conn : ℕ) → IsIn report e.kept.reports → report.conn ≡ Some conn
      → KeepsActs (served_wires see).link e.store.held report conn e.kept.journal e.kept.shut
  connections law ending h =
      of-each see words e
      (λ all report conn within is. none-named all.stays.nothing report within)
      (λ asks local report conn within is. none-named local.nothing report within)
      (λ has kept report conn within is. none-named kept report within)
      (λ has conns end runs. served-or-not law conns end runs.served) ending h
