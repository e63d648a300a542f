use Rattle.std.proofs.Common.{Ok, refl, sym, ap, subst, ◌∙◌, length}
use Rattle.std.proofs.lemmas.List.{take_all}
use Rattle.std.proofs.lemmas.Option.{slice_get_read}
use Rattle.std.proofs.lemmas.Result.{err_from_is_err_and}
use Rattle.dp_session.specs.Resuming.{ReadsPage}
use Rattle.dp_session.proofs.ResumeLemmas.{page-none, page-more, page-fails}
use Rattle.dp_session.proofs.resume.read_page.Goals as goal

pub loop-row-init : goal.loop-row-init
loop-row-init c = page-none c.args.tables.now c.args.page.now

pub read_one-requires : goal.read_one-requires
read_one-requires c = ap (λ x. x.shut) c.loop-row.invariant.2 ∙ c.requires

pub loop-row-preserved : goal.loop-row-preserved
loop-row-preserved c =
    page-more c.rows_go_on.ensures c.args.tables.now c.loop-row.tables c.read_one.new.tables
    c.args.page.now c.loop-row.row-index c.row-item.result c.loop-row-test.true
    (sym c.row-item.is) c.loop-row.invariant c.in_ok-read_one.ensures

pub returns-in_err-read_one : goal.returns-in_err-read_one
returns-in_err-read_one c =
    let page = c.args.page.now in
    let p = err_from_is_err_and c.from_residual.result c.from_residual.ensures.1 in
    rw (p.1, p.2) (page-fails c.args.tables.now c.loop-row.tables c.read_one.new.tables page
    c.loop-row.row-index c.row-item.result c.in_err-read_one.field-0.0 c.loop-row-test.true
    (slice_get_read page (length page) c.loop-row.row-index c.row-item.result refl
    c.loop-row-test.true c.row-item.is) c.loop-row.invariant c.in_err-read_one.ensures)

pub returns : goal.returns
returns c =
    subst (λ rows. ReadsPage c.args.tables.now rows (Ok tt) c.loop-row.tables)
    (take_all c.loop-row.row-index c.args.page.now c.loop-row-test.false) c.loop-row.invariant
