-- What a crew served and what closing the hall left are a session that was served.
use Rattle.std.proofs.Common.{◌≡◌, ℕ, List, ◌++◌, sym, ap, subst₂, ◌∙◌}
use Rattle.dp_hall.specs.Logs.{left_by}
use Rattle.dp_epochs.specs.Past.{Past, Step}
use Rattle.dp_session_laws.specs.Logs.{LogEntry, IsSessionLog}
use Rattle.dp_session_laws.specs.Journals.{kept_events}
use Rattle.dp_crew.specs.declared.flags.Flags.{Flags}
use Rattle.dp_crew.specs.Parts.{EachFrom, ServesAll}
use Rattle.dp_serve.specs.declared.report.LinkReport.{LinkReport}
use Rattle.dp_serve.specs.Works.{session_rules}
use Rattle.dp_serve.specs.Serving.{Seen, sight, IsPart, Left, Serves}

module _ {W R T : Type 0} (see : Seen W R T) (start : Past) (most : ℕ) where
  -- what is left beside the wires, by the links that were served
  pub serves-of : (journals : (past : Past) (log : List LogEntry) → IsSessionLog past log
      → (left_by past log).journal ≡ past.journal ++ kept_events log)
      → (session last : Past) (old new wires : List W) (reports : List LinkReport) (flags : Flags)
      (left : Left) → start ≡ session → wires ≡ new
      → ServesAll (session_rules see.link) Step (sight see) start last most old new reports flags
      → left.journal ≡ last.journal → left.shut ≡ last.shut → left.known ≡ last.known
      → left.count ≡ last.count → left.read_faults ≡ last.read_faults
      → left.reports ≡ reports → left.memory ≡ flags.memory → left.store ≡ flags.fault
      → left.wire ≡ flags.wire → Serves see session most old wires left
  serves-of journals session last old new wires reports flags left is same s journal closed known
      count read_faults reports_are memory store wire =
      subst₂ (λ p l. Serves see p most old l left) is (sym same) served
    where
      served : Serves see start most old new left
      served = record {
        log = s.log;
        legal = s.legal;
        parts = s.parts;
        before = s.before;
        after = s.after;
        each =
            subst₂ (λ m w. EachFrom (IsPart see (left_by start s.log) s.log most m w) 0 s.parts)
            (sym memory) (sym wire) s.each;
        others = s.others;
        names = s.names;
        journal = journal ∙ ap (λ (p : Past). p.journal) s.left ∙ journals start s.log s.legal;
        shut = closed ∙ ap (λ (p : Past). p.shut) s.left;
        known = known ∙ ap (λ (p : Past). p.known) s.left;
        count = count ∙ ap (λ (p : Past). p.count) s.left;
        read_faults = read_faults ∙ ap (λ (p : Past). p.read_faults) s.left;
        reports = reports_are ∙ s.reports_are;
        store = store ∙ s.fault;
        wire = λ e. let h = s.wire (sym wire ∙ e) in (h.0, h.1, (h.2.0, e));
      }
