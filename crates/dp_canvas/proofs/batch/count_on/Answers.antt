use Rattle.std.proofs.Common.{◌∷◌, [], ◌++◌, ◌<◌, ◌∙◌, length, take, ap, sym, subst, arith}
use Rattle.std.specs.Prelude.{All}
use Rattle.std.proofs.lemmas.List.{take_more}
use Rattle.std.proofs.lemmas.List.Elements.{All-push}
use Rattle.dp_msg_draw.specs.declared.draw.Draw.{Draw}
use Rattle.dp_canvas.specs.Batches.{PaintsOn}
use Rattle.dp_canvas.proofs.batch.count_on.Goals as goal

pub commands-preserved : goal.commands-preserved
commands-preserved c =
    let ops = c.args.ops.now in
    let n = c.commands.count in
    let op = c.index-ops-count.result in
    let inside : n < length ops = c.commands-test.true in
    record {
      within = omega (arith, inside);
      on =
          subst (All (PaintsOn c.args.layer))
          (sym (take_more ops n op inside
          ∙ ap (λ (d : Draw). take n ops ++ d ∷ []) (sym c.index-ops-count.is)))
          (All-push (PaintsOn c.args.layer) (take n ops) op c.commands.invariant.on
          (c.paints_on.ensures c.if-paints_on.true));
    }
