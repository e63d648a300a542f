use Rattle.std.proofs.Common.{◌≡◌, ap, sym, ◌∙◌, refl, Bor, Option, None, Some}
use Rattle.std.specs.Prelude.{is_some, option_copied}
use Rattle.dp_layers.specs.Inside.{held_by}
use Rattle.dp_layers.proofs.Holding.{value_content, value_paint}
use Rattle.dp_layers.proofs.tree.Tree.content.Goals as goal

some_copied : {X : Type 0} (o : Option (Bor X)) → is_some o ≡ is_some (option_copied o)
some_copied None = refl
some_copied (Some x) = refl

pub returns-clause-value : goal.returns-clause-value
returns-clause-value g c =
    c.held_by.ensures ∙ ap (λ cs. held_by cs c.args.id) c.deref.ensures.value
    ∙ sym (value_content c.self.inside.contents.items c.self.inside.rows c.self.invariant
    c.args.self.now c.self.view_is c.args.id)

pub returns-clause-paint : goal.returns-clause-paint
returns-clause-paint g c =
    some_copied c.held_by.result ∙ ap is_some c.held_by.ensures
    ∙ ap (λ cs. is_some (held_by cs c.args.id)) c.deref.ensures.value
    ∙ value_paint c.self.inside.contents.items c.self.inside.rows c.self.invariant c.args.self.now
    c.self.view_is c.args.id
