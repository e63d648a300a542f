use Rattle.std.proofs.Common.{ap, sym, ◌∙◌}
use Rattle.std.specs.Prelude.{is_some, position}
use Rattle.std.proofs.lemmas.Bool.{false≢true}
use Rattle.dp_layers.specs.Layers.{has_id}
use Rattle.dp_layers.proofs.Places.{find_none, put_placed}
use Rattle.dp_layers.proofs.changes.insert_after.Goals as goal

pub unreachable-requires : goal.unreachable-requires
unreachable-requires c =
    false≢true (sym (ap is_some (find_none (has_id c.args.id) c.args.rows.now.items
    (ap (position (has_id c.args.id)) (sym c.deref.ensures.value) ∙ sym c.place_of.ensures
    ∙ c.in_default.is))) ∙ c.requires.present)

pub returns : goal.returns
returns c =
    c.insert.ensures.items
    ∙ rw (
      c.in_default-insert.is,
      c.place_after-to.ensures.place,
      c.deref-2.ensures.value,
      c.remove-row.ensures.items,
    )
    (put_placed c.args.rows.now.items c.args.id c.args.above c.in-Some.from c.remove-row.result
    c.requires.distinct
    (ap (position (has_id c.args.id)) (sym c.deref.ensures.value) ∙ sym c.place_of.ensures
    ∙ c.in-Some.is)
    c.remove-row.ensures.value c.requires.place)
