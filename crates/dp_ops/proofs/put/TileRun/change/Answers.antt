use Rattle.std.proofs.Common.{◌≡◌, ◌≤◌, ◌-◌, ◌∙◌, sym, arith}
use Rattle.std.proofs.Common.{ap}
use Rattle.dp_ops.proofs.Puts.{has_corner, put_becomes, put_stays}
use Rattle.dp_ops.proofs.Puts as puts
use Rattle.dp_ops.proofs.put.TileRun.change.Goals as goal

pub returns-then-not-has : goal.returns-then-not-has
returns-then-not-has c = λ color col after below pixels count plain.
    let r = c.args.self in
    let row = c.args.row in
    let here : col ≡ c.args.left = omega (arith, c.if-left-last.true, after, below) in
    put_stays r c.args.content.now col row pixels
    (ap (λ k. puts.has r.width r.height r.col r.row r.repeat k row) here
    ∙ sym (has_corner r.width r.height r.col r.row r.repeat c.args.left row)
    ∙ sym c.has.ensures ∙ c.if-not-has.true) count

pub returns-in-Some : goal.returns-in-Some
returns-in-Some c = λ color col after below pixels count plain.
    let r = c.args.self in
    let row = c.args.row in
    let last : col ≤ c.args.right - 1 = omega (arith, below) in
    let all = c.has_all.ensures c.if-not-has_all.false col after last in
    put_becomes r c.args.content.now col row pixels c.in-Some.p c.in-Some.ensures
    (sym (has_corner r.width r.height r.col r.row r.repeat col row) ∙ all.0) all.1 all.2
