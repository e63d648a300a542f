use Rattle.std.proofs.Common.{ap, ◌∙◌, [], map}
use Rattle.std.proofs.lemmas.Result.{IfOk-weaker}
use Rattle.dp_board.specs.Joins.{is_join_drawn}
use Rattle.dp_board.proofs.TableLemmas.{map-joins_from}
use Rattle.dp_board.proofs.flags.drawn_flags.Goals as goal

pub returns : goal.returns
returns g c =
    let acts = c.args.acts.now in
    let read = c.in_ok-table.ensures in
    IfOk-weaker c.flags_of.result _ _ (λ flags are. are
    ∙ ap (λ done. map (is_join_drawn done) c.deref-2.result.now) c.deref.ensures.value
    ∙ ap (λ joins. map (is_join_drawn c.in_ok-done.done.items) joins)
    (c.deref-2.ensures.value ∙ read.joins)
    ∙ map-joins_from c.args.depth acts [] acts c.in_ok-table.table c.in_ok-done.done.items
    read.strokes c.in_ok-done.ensures.same read.in_range) c.flags_of.ensures
