-- No two links that were served gave out one connection, so its acts are those of its link.
use Rattle.std.proofs.Common.{◌≡◌, ℕ, ◌+◌, true, List, [], ◌∷◌, map, Option, None}
use Rattle.std.proofs.Common.{Some, sym, ap, subst, ◌∙◌, inl, inr, flat_map, option_to_list}
use Rattle.std.specs.List.{filter}
use Rattle.dp_hall.specs.Logs.{left_by}
use Rattle.dp_hall.specs.Names.{IsIn, AreDistinct}
use Rattle.dp_hall.proofs.ListLemmas.{distinct_both}
use Rattle.dp_epochs.specs.Past.{Past}
use Rattle.dp_session_laws.specs.Logs.{LogEntry}
use Rattle.dp_session_laws.specs.Closings.{given_by, given_out}
use Rattle.dp_serve.specs.declared.report.LinkReport.{LinkReport}
use Rattle.dp_link_run.specs.Links.{LinkBy}
use Rattle.dp_serve.specs.Links.{IsLink}
use Rattle.dp_crew.specs.Runs.{acts_of}
use Rattle.dp_serve.specs.Works.{LinkRun, IsRun}
use Rattle.dp_crew.specs.Parts.{EachFrom, acts_by, names_of}
use Rattle.dp_serve.specs.Serving.{Seen, Part, Left, Serves, IsPart}
use Rattle.dp_crew.specs.Parts.{reports_of}
use Rattle.dp_serve_laws.specs.Acts.{is_about, acts_about}
use Rattle.dp_serve_laws.specs.Reported.{reported, runs_of}
use Rattle.dp_serve_laws.proofs.ListLemmas.{all-in, option-is, option-in, option-distinct, in-flat}
use Rattle.dp_serve_laws.proofs.ListLemmas.{flat-in, apart, distinct-back, distinct-one, one-source}
use Rattle.dp_serve_laws.proofs.ListLemmas.{distinct-fewer, flat-same, flat-flat, filter_map-map}
use Rattle.dp_serve_laws.proofs.ListLemmas.{filter_map-flat, filter-all, filter-one}
use Rattle.dp_serve_laws.proofs.ActLemmas.{in-entries, entries-in, filter-entries}
use Rattle.dp_serve_laws.proofs.ActLemmas.{distinct-entries}
use Rattle.dp_serve_laws.proofs.RunLemmas.{AreAboutOne, GivesItsOwn, one-all, served-one, link-own}

-- ---- the connections of a link

module _ {R T : Type 0} where
  -- those that its acts gave out
  abbrev run_gives : LinkRun R T → List ℕ
  run_gives run = given_out run.acts

  -- that which its report names, if it names one
  abbrev run_names : LinkRun R T → List ℕ
  run_names run = option_to_list run.report.conn

-- ---- the acts of a seat

-- what an act gave out
abbrev act_gives : LogEntry → List ℕ
act_gives act = given_by act.outcome

pub seat-in : (name : Option (List ℕ)) (log : List LogEntry) (act : LogEntry)
    → IsIn act (acts_by name log)
    → IsIn act log × (name ≡ Some act.by)
seat-in None log act h = absurd h
seat-in (Some name) log act h =
    let found = in-entries name log act h in (found.0, ap Some found.1)

seat-distinct : (name : Option (List ℕ)) (log : List LogEntry) → AreDistinct (given_out log)
    → AreDistinct (given_out (acts_by name log))
seat-distinct None log d = tt
seat-distinct (Some name) log d = distinct-entries act_gives name log d

module _ {W R T : Type 0} where
  pub part-from : (P : ℕ → Part W R T → Type 0) (who : ℕ) (parts : List (Part W R T))
      (part : Part W R T) → EachFrom P who parts → IsIn part parts → (n : ℕ) × P n part
  part-from P who [] part all h = absurd h
  part-from P who (first ∷ parts) part all (inl e) = (who, subst (P who) (sym e) all.0)
  part-from P who (first ∷ parts) part all (inr h) = part-from P (who + 1) parts part all.1 h

  -- the connections that the seats of parts gave out in a log
  seats-distinct : (log : List LogEntry) (parts : List (Part W R T)) → AreDistinct (given_out log)
      → AreDistinct (names_of parts)
      → AreDistinct (flat_map (λ part. given_out (acts_by part.name log)) parts)
  seats-distinct log [] d names = tt
  seats-distinct log (part ∷ parts) d names =
      distinct_both (given_out (acts_by part.name log))
      (flat_map (λ part. given_out (acts_by part.name log)) parts) (seat-distinct part.name log d)
      (seats-distinct log parts d (distinct-back (option_to_list part.name) (names_of parts) names))
      (λ c here later.
      let other = in-flat (λ part. given_out (acts_by part.name log)) c parts later in
      let one = in-flat act_gives c (acts_by part.name log) here in
      let two = in-flat act_gives c (acts_by other.0.name log) other.2 in
      let by_one = seat-in part.name log one.0 one.1 in
      let by_two = seat-in other.0.name log two.0 two.1 in
      let same : one.0 ≡ two.0 =
      one-source act_gives c one.0 two.0 log d by_one.0 by_two.0 one.2 two.2 in
      apart (λ part. option_to_list part.name) one.0.by part other.0 parts names
      (option-in one.0.by part.name by_one.1) other.1
      (option-in one.0.by other.0.name
      (by_two.1 ∙ ap (λ (act : LogEntry). Some act.by) (sym same))))

  reported-are : (parts : List (Part W R T))
      → reported (reports_of parts) ≡ flat_map run_names (runs_of parts)
  reported-are parts =
      filter_map-flat (λ (report : LinkReport). report.conn)
      (λ (part : Part W R T). map (λ run. run.report) part.runs) parts
      ∙ flat-same (λ (part : Part W R T). reported (map (λ run. run.report) part.runs))
      (λ (part : Part W R T). flat_map run_names part.runs) parts
      (λ part h. filter_map-map (λ (report : LinkReport). report.conn)
      (λ (run : LinkRun R T). run.report) part.runs)
      ∙ sym (flat-flat (λ (part : Part W R T). part.runs) run_names parts)

-- ---- a session that was served

module _ {W R T : Type 0} (see : Seen W R T) (start : Past) (most : ℕ) (old new : List W)
    (left : Left) (served : Serves see start most old new left) where
  pub part-is : (part : Part W R T) → IsIn part served.parts
      → (who : ℕ) × IsPart see (left_by start served.log) served.log most left.memory left.wire who
      part
  part-is part h =
      part-from (IsPart see (left_by start served.log) served.log most left.memory left.wire) 0
      served.parts part served.each h

  pub acts-are : (part : Part W R T) → IsIn part served.parts
      → acts_by part.name served.log ≡ acts_of part.runs
  acts-are part h = (part-is part h).1.1

  pub run-is : (part : Part W R T) (run : LinkRun R T) → IsIn part served.parts → IsIn run part.runs
      → IsLink (left_by start served.log) run.report run.acts (see.link run.given)
      (see.link run.back)
  run-is part run h k =
      let is = part-is part h in
      (all-in (IsRun see.link (left_by start served.log) is.0) part.runs run is.1.0.each k).link

  module _ (distinct : AreDistinct (given_out served.log)) where
    -- the acts of a link are acts of the seat of its part
    run-acts : (part : Part W R T) (run : LinkRun R T) (act : LogEntry) → IsIn part served.parts
        → IsIn run part.runs → IsIn act run.acts
        → IsIn act served.log × (part.name ≡ Some act.by)
    run-acts part run act h k own =
        seat-in part.name served.log act
        (subst (IsIn act) (sym (acts-are part h))
        (flat-in (λ (r : LinkRun R T). r.acts) act run part.runs k own))

    run-own : (part : Part W R T) (run : LinkRun R T) → IsIn part served.parts
        → IsIn run part.runs → GivesItsOwn run.acts
    run-own part run h k =
        link-own (left_by start served.log) run.report.conn run.report.up_end run.report.down_end
        run.acts (see.link run.given) (see.link run.back) (run-is part run h k)

    -- a link whose report names a connection
    run-one : (part : Part W R T) (run : LinkRun R T) (conn : ℕ) → IsIn part served.parts
        → IsIn run part.runs → run.report.conn ≡ Some conn → AreAboutOne conn run.acts
    run-one part run conn h k is =
        served-one (left_by start served.log) conn run.report.up_end run.report.down_end run.acts
        (see.link run.given) (see.link run.back)
        (subst (λ o. LinkBy (left_by start served.log) o run.report.up_end run.report.down_end
        run.acts (see.link run.given) (see.link run.back)) is (run-is part run h k))

    -- the connections that the links gave out, part by part, and one link after another
    parts-distinct : AreDistinct (flat_map (λ (part : Part W R T). flat_map run_gives part.runs)
        served.parts)
    parts-distinct =
        subst AreDistinct
        (flat-same (λ (part : Part W R T). given_out (acts_by part.name served.log))
        (λ (part : Part W R T). flat_map run_gives part.runs) served.parts
        (λ part h. ap given_out (acts-are part h)
        ∙ flat-flat (λ (run : LinkRun R T). run.acts) act_gives part.runs))
        (seats-distinct served.log served.parts distinct served.names)

    runs-distinct : AreDistinct (flat_map run_gives (runs_of served.parts))
    runs-distinct =
        subst AreDistinct
        (sym (flat-flat (λ (part : Part W R T). part.runs) run_gives served.parts))
        parts-distinct

    -- the log gave out each connection that a report names
    pub conn-given : (run : LinkRun R T) (conn : ℕ) → IsIn run (runs_of served.parts)
        → run.report.conn ≡ Some conn → IsIn conn (given_out served.log)
    conn-given run conn h is =
        let found = in-flat (λ (part : Part W R T). part.runs) run served.parts h in
        let one = run-one found.0 run conn found.1 found.2 is in
        let act = in-flat act_gives conn run.acts one.given in
        let own = run-acts found.0 run act.0 found.1 found.2 act.1 in
        flat-in act_gives conn act.0 served.log own.0 act.2

    pub reports-distinct : AreDistinct (reported left.reports)
    reports-distinct =
        subst AreDistinct (sym (ap reported served.reports ∙ reported-are served.parts))
        (distinct-fewer run_gives run_names (runs_of served.parts)
        (λ run h. option-distinct run.report.conn)
        (λ run c h named.
        let found = in-flat (λ (part : Part W R T). part.runs) run served.parts h in
        (run-one found.0 run c found.1 found.2 (option-is c run.report.conn named)).given)
        runs-distinct)

    -- a link of a part, whose report names a connection
    module _ (part : Part W R T) (run : LinkRun R T) (conn : ℕ) (of : IsIn part served.parts)
        (own : IsIn run part.runs) (is : run.report.conn ≡ Some conn) where
      one : AreAboutOne conn run.acts
      one = run-one part run conn of own is

      -- each act of the connection is by the seat of the part
      by-seat : (act : LogEntry) → IsIn act served.log → is_about conn act ≡ true
          → part.name ≡ Some act.by
      by-seat act h about =
          let other = in-flat (λ (p : Part W R T). option_to_list p.name) act.by served.parts
          (served.others act h) in
          let acted : IsIn act (acts_of other.0.runs) =
          subst (IsIn act)
          (ap (λ n. acts_by n served.log) (sym (option-is act.by other.0.name other.2))
          ∙ acts-are other.0 other.1) (entries-in served.log act h) in
          let link = in-flat (λ (r : LinkRun R T). r.acts) act other.0.runs acted in
          let same : link.0 ≡ run =
          one-source run_gives conn link.0 run (runs_of served.parts) runs-distinct
          (flat-in (λ (p : Part W R T). p.runs) link.0 other.0 served.parts other.1 link.1)
          (flat-in (λ (p : Part W R T). p.runs) run part served.parts of own)
          (run-own other.0 link.0 other.1 link.1 conn act link.2 about) one.given in
          (run-acts part run act of own
          (subst (λ (r : LinkRun R T). IsIn act r.acts) same link.2)).1

      -- so they are the acts of the link
      link-acts : acts_about conn served.log ≡ run.acts
      link-acts =
          let opening = in-flat act_gives conn run.acts one.given in
          let name_is = (run-acts part run opening.0 of own opening.1).1 in
          filter-entries (is_about conn) opening.0.by served.log
          (λ act h about. let e = sym (by-seat act h about) ∙ name_is in cc (e))
          ∙ ap (filter (is_about conn))
          (ap (λ n. acts_by n served.log) (sym name_is) ∙ acts-are part of)
          ∙ filter-one (is_about conn) (λ (r : LinkRun R T). r.acts) run_gives conn part.runs run
          (λ r act k acted about. run-own part r of k conn act acted about)
          (distinct-one (λ (p : Part W R T). flat_map run_gives p.runs) part served.parts
          parts-distinct of) own one.given
          ∙ filter-all (is_about conn) run.acts (one-all conn run.acts one)

    pub acts-of : (run : LinkRun R T) (conn : ℕ) → IsIn run (runs_of served.parts)
        → run.report.conn ≡ Some conn → acts_about conn served.log ≡ run.acts
    acts-of run conn h is =
        let found = in-flat (λ (part : Part W R T). part.runs) run served.parts h in
        link-acts found.0 run conn found.1 found.2 is
