use Rattle.std.proofs.Common.{◌==◌, ap, sym, ◌∙◌, inr}
use Rattle.std.specs.Prelude.{is_some, position}
use Rattle.dp_layers.specs.declared.held.Held.{Held}
use Rattle.dp_layers.proofs.Holding.{value_content, value_paint, held_at, held_none, filled_inside}
use Rattle.dp_layers.proofs.Holding.{filled_rows, lent_same}
use Rattle.dp_layers.proofs.tree.Tree.content_mut.Goals as goal

pub returns-in_err-place : goal.returns-in_err-place
returns-in_err-place g c =
    let t = c.self.inside in
    let none = held_none t.contents.items c.args.id
    (ap (position (λ (held : Held g.row.X.Denot). held.id == c.args.id)) (sym c.deref.ensures.value)
    ∙ sym c.place_of_held.ensures ∙ c.in_err-place.was) in
    rw c.from_residual.ensures (
      ap inr c.self.view_is,
      record {
        writes_back = tt;
        value = sym (value_content t.contents.items t.rows c.self.invariant c.args.self.now
            c.self.view_is c.args.id ∙ none);
        paint = ap is_some (sym none)
            ∙ value_paint t.contents.items t.rows c.self.invariant c.args.self.now c.self.view_is
            c.args.id;
      },
    )

pub invariant_of-self-lent : goal.invariant_of-self-lent
invariant_of-self-lent g c =
    let t = c.self.inside in
    let found = ap (position (λ (held : Held g.row.X.Denot). held.id == c.args.id))
    (sym c.deref.ensures.value) ∙ sym c.place_of_held.ensures ∙ c.in_ok-place.was in
    filled_inside t.contents.items t.rows c.self.invariant c.args.id c.in_ok-place.place
    c.index_mut-held.result.now found c.index_mut-held.ensures.value

pub returns : goal.returns
returns g c =
    let t = c.self.inside in
    let held = c.index_mut-held.result.now in
    let found = ap (position (λ (held : Held g.row.X.Denot). held.id == c.args.id))
    (sym c.deref.ensures.value) ∙ sym c.place_of_held.ensures ∙ c.in_ok-place.was in
    let at = held_at t.contents.items t.rows c.self.invariant c.args.id c.in_ok-place.place held
    found c.index_mut-held.ensures.value in (
      lent_same _ _ _ (λ w. filled_rows t.contents.items t.rows c.self.invariant c.args.id
          c.in_ok-place.place held found c.index_mut-held.ensures.value w c.args.self.now
          c.self.view_is),
      record {
        writes_back = tt;
        value = sym (value_content t.contents.items t.rows c.self.invariant c.args.self.now
            c.self.view_is c.args.id ∙ at);
        paint = ap is_some (sym at)
            ∙ value_paint t.contents.items t.rows c.self.invariant c.args.self.now c.self.view_is
            c.args.id;
      },
    )
