use Rattle.std.proofs.Common.{◌∙◌, ap, sym, arith}
use Rattle.dp_acl.specs.Table.{Kept, kept_rule}
use Rattle.dp_acl.specs.Inside.{kept_of}
use Rattle.dp_acl.proofs.PaintLemmas.{may-by_kept}
use Rattle.dp_acl.proofs.rights.Rights.may_paint.Goals as goal

pub returns-in-Some : goal.returns-in-Some
returns-in-Some c = λ history stands.
    let layer = c.args.layer in
    c.lets_paint.ensures history stands
    ∙ may-by_kept history c.args.user layer (kept_of c.in-Some.rule.now).rule
    (sym (c.is_locked.ensures history stands) ∙ c.if-is_locked.false)
    (c.in-Some.ensures ∙ ap (λ (k : Kept). kept_rule k.rules layer) c.self.view_is
    ∙ stands.rules layer (omega arith))
    (omega arith) (stands.ids layer (omega arith))
