use Rattle.std.proofs.Common.{◌≡◌, ◌∙◌, ◌+◌, ◌*◌, List, ap, arith, length, subst}
use Rattle.std.proofs.lemmas.List.Elements.{All-same}
use Rattle.dp_paint.specs.Jobs.{AreOnGrid, IsDone, IsJobFor, TileWork}
use Rattle.dp_paint.proofs.Made.{band_done, lent_back, ran_done}
use Rattle.dp_paint.proofs.workers.band_painted.Goals as goal

pub write_jobs-requires : goal.write_jobs-requires
write_jobs-requires g c =
    let made = c.in_ok-work.ensures.made in
    let old = c.args.grid.now in
    let now = c.in_ok-work.work.grid in
    let jobs = c.in_ok-work.work.jobs in
    let ran = c.par_each.new.jobs in
    let next = c.args.top * 64 + 512 in
    let long : jobs.len ≡ length jobs.items = omega (arith, jobs.ok) in
    let back = lent_back jobs.items ran jobs.len
    (c.par_each.ensures.as_many ∙ ap length c.deref_mut.ensures.value) long in
    All-same (IsDone now) _ ran back
    (ran_done next old now c.deref_mut.result.now ran made.cols made.rows
    c.par_each.ensures.as_many c.par_each.ensures.each_ran
    (All-same (IsJobFor next old) c.deref_mut.result.now jobs.items c.deref_mut.ensures.value
    made.each))

pub returns-clause-painted : goal.returns-clause-painted
returns-clause-painted g c =
    let now = c.in_ok-work.work.grid in
    let jobs = c.in_ok-work.work.jobs in
    let ran = c.par_each.new.jobs in
    let long : jobs.len ≡ length jobs.items = omega (arith, jobs.ok) in
    let back = lent_back jobs.items ran jobs.len
    (c.par_each.ensures.as_many ∙ ap length c.deref_mut.ensures.value) long in
    band_done _ c.args.top c.args.grid.now now c.in_ok-painted.painted jobs.items
    c.deref_mut.result.now ran c.deref_mut.ensures.value c.known.ensures
    c.in_ok-work.ensures.made c.par_each.ensures.as_many c.par_each.ensures.each_ran
    (subst (λ (l : List TileWork). AreOnGrid l now c.in_ok-painted.painted) back
    c.in_ok-painted.ensures)
