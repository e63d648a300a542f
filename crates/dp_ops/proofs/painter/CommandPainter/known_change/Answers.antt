use Rattle.std.proofs.Common.{◌≡◌, ◌∙◌, refl, sym, rules}
use Rattle.dp_ops.proofs.Plain.{fill_becomes, fill_keeps, keeps_tile}
use Rattle.dp_ops.proofs.painter.CommandPainter.known_change.Goals as goal

pub returns-then-eq : goal.returns-then-eq
returns-then-eq c = λ col after below pixels count plain.
    let p = c.args.self.now in
    let f = c.in-FillRect in
    let same : c.filled_color-after.result ≡ c.args.color = search rules in
    keeps_tile p.width p.height p.command.now col c.args.row pixels c.args.color count
    (plain c.args.color refl)
    (fill_keeps p.width p.height p.command.now f.layer f.mode f.x f.y f.w f.h f.source
    c.args.color f.is (sym c.filled_color-after.ensures ∙ same))

pub returns-then-is_row_within : goal.returns-then-is_row_within
returns-then-is_row_within c = λ col after below pixels count plain.
    let p = c.args.self.now in
    let f = c.in-FillRect in
    fill_becomes p.width p.height p.command.now f.layer f.mode f.x f.y f.w f.h f.source col
    c.args.row c.args.color c.filled_color-after.result pixels f.is
    (c.is_row_within.ensures c.if-is_row_within.true col after below) c.filled_color-after.ensures
    (plain c.args.color refl)
