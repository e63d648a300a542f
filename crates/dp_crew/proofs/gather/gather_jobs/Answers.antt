use Rattle.std.proofs.Common.{◌≡◌, ◌++◌, List, ap, arith, IfSome, length, length-append, refl, Some}
use Rattle.std.proofs.Common.{[], ◌∷◌, ◌∙◌, ◌+◌}
use Rattle.std.proofs.lemmas.List.{nil_from_length}
use Rattle.std.proofs.lemmas.List.Elements.{All-pop}
use Rattle.dp_hall.specs.Calls.{IsOf}
use Rattle.dp_crew.specs.Gathering.{all_reports}
use Rattle.dp_crew.proofs.ReportLemmas.{all_reports-more}
use Rattle.dp_crew.proofs.GatherLemmas.{gathered-none, gathered-more, gathered-all}
use Rattle.dp_crew.proofs.gather.gather_jobs.Goals as goal

-- how long a list with one element more is
one_more : {A : Type 0} (xs ys : List A) (x : A) → ys ≡ xs ++ x ∷ [] → length ys ≡ length xs + 1
one_more xs ys x e = ap (λ l. length l) e ∙ length-append xs (x ∷ [])

pub jobs-init : goal.jobs-init
jobs-init g c =
    let no_wires = ap (λ l. length l) c.requires.empty.0 in
    let no_lists = ap (λ l. length l) c.requires.empty.1 in
    record {
      of = c.requires.of;
      jobs = c.requires.seats;
      wires_room = omega (arith, c.requires.room.0, c.args.wires.now.ok, no_wires);
      lists_room = omega (arith, c.requires.room.1, c.args.lists.now.ok, no_lists);
      gathered = λ v olds made most first small were_made ran.
          gathered-none g.S.Reporting.rules _ c.args.hall.now most v c.args.seat.now.view
          olds made c.args.jobs.now.items c.args.wires.now.items
          (all_reports c.args.lists.now.items) _ first
          were_made ran c.requires.empty.0 (ap all_reports c.requires.empty.1) refl refl;
    }

pub jobs-preserved : goal.jobs-preserved
jobs-preserved g c =
    let h = c.jobs.invariant in
    let cut = c.in-Some.ensures.items in
    let job = c.in-Some.job in
    let took = c.take_in.ensures in
    let wires = one_more c.jobs.wires.items c.take_in.new.wires.items job.wire took.wires in
    let lists = one_more c.jobs.lists.items c.take_in.new.lists.items job.worked.reports
    took.lists in
    record {
      of = took.of;
      jobs =
          (All-pop (λ j. IfSome j.seat (IsOf c.args.hall.now)) c.jobs.jobs.items
          c.pop.new.self.items (Some job) cut h.jobs).0;
      wires_room = omega (
        arith,
        c.in-Some.ensures.len,
        took.room.0,
        h.wires_room,
        wires,
        c.jobs.wires.ok,
        c.take_in.new.wires.ok,
      );
      lists_room = omega (
        arith,
        c.in-Some.ensures.len,
        took.room.1,
        h.lists_room,
        lists,
        c.jobs.lists.ok,
        c.take_in.new.lists.ok,
      );
      gathered = λ v olds made most first small were_made ran.
          gathered-more g.S.Reporting.rules _ c.args.hall.now most
          g.M.Machine.may_step c.reports_go_on.ensures v c.jobs.seat.view
          c.take_in.new.seat.view olds
          c.jobs.jobs.items c.pop.new.self.items job c.jobs.wires.items c.take_in.new.wires.items
          (all_reports c.jobs.lists.items) (all_reports c.take_in.new.lists.items) c.jobs.flags
          c.take_in.new.flags c.requires.begins took.legal small
          took.flags took.joins cut took.wires
          (all_reports-more c.jobs.lists.items c.take_in.new.lists.items job.worked.reports
          took.lists)
          (h.gathered v olds made most first small were_made ran);
    }

pub returns-clause-gathers : goal.returns-clause-gathers
returns-clause-gathers g c v olds made most first small were_made ran =
    gathered-all g.S.Reporting.rules _ c.args.hall.now most v c.jobs.seat.view olds
    c.jobs.jobs.items
    c.jobs.wires.items (all_reports c.jobs.lists.items) c.jobs.flags
    (nil_from_length c.jobs.jobs.items
    (omega (arith, c.in_default.ensures.cases.0, c.jobs.jobs.ok)))
    (c.jobs.invariant.gathered v olds made most first small were_made ran)
