use Rattle.std.proofs.Common.{◌<◌, Ok, sym, subst, arith, length}
use Rattle.std.proofs.lemmas.Result.{err_from_is_err_and}
use Rattle.dp_keeper.specs.Store.{IsPage}
use Rattle.dp_session.proofs.ResumeLemmas.{on-more, on-bad}
use Rattle.dp_session.proofs.resume.read_on.Goals as goal

pub returns-in_err-read_page-clause-rows : goal.returns-in_err-read_page-clause-rows
returns-in_err-read_page-clause-rows g c =
    let known = g.K.Keeper.held c.args.keeper.now in
    let t = c.args.tables.now in
    let rows = c.as_slice-rows.result.now in
    let p = err_from_is_err_and c.from_residual.result c.from_residual.ensures.1 in
    let is : IsPage known (length t.journal) 512 (Ok rows) =
    subst (λ page. IsPage known (length t.journal) 512 (Ok page)) (sym c.as_slice-rows.ensures)
    (subst (λ n. IsPage known n 512 (Ok c.in-Ok.page)) c.events.ensures c.in-Ok.ensures.page) in
    rw (p.1, p.2) (on-bad c.rows_go_on.ensures known t c.read_page.new.tables rows
    c.in_err-read_page.field-0.0 c.requires is c.in_err-read_page.ensures)

pub returns-clause-rows : goal.returns-clause-rows
returns-clause-rows g c =
    let known = g.K.Keeper.held c.args.keeper.now in
    let t = c.args.tables.now in
    let rows = c.as_slice-rows.result.now in
    let is : IsPage known (length t.journal) 512 (Ok rows) =
    subst (λ page. IsPage known (length t.journal) 512 (Ok page)) (sym c.as_slice-rows.ensures)
    (subst (λ n. IsPage known n 512 (Ok c.in-Ok.page)) c.events.ensures c.in-Ok.ensures.page) in
    let some : 0 < length rows = grind (arith, c.is_empty.ensures, c.if-is_empty.false) in
    on-more c.rows_go_on.ensures known t c.read_page.new.tables rows c.requires is some
    c.in_ok-read_page.ensures
