use Rattle.std.proofs.Common.{ap, sym, subst, refl, Ok, Err, ◌∙◌}
use Rattle.std.specs.Prelude.{Result, OnOk, OnErr}
use Rattle.std.proofs.lemmas.Result.{on_ok_weaker, on_err_weaker}
use Rattle.dp_layers.specs.Rows.{with_content}
use Rattle.dp_pixels.specs.Commands.{pixels_after}
use Rattle.dp_plain.proofs.Rows.{filled_same}
use Rattle.dp_plain.proofs.Holds.{fit_found, held_filled}
use Rattle.dp_layered.proofs.Views.{painted_none, painted_some}
use Rattle.dp_layered.proofs.trees.paint_content.Goals as goal

either_way : {T E P Q Z : Type 0} (r : Result T E) → OnOk r P → OnErr r Q → (P → Z) → (Q → Z) → Z
either_way (Ok x) ok err left right = left ok
either_way (Err e) ok err left right = right err

pub returns-in-None-clause-ok : goal.returns-in-None-clause-ok
returns-in-None-clause-ok g c =
    painted_none (g.C.LayerPixels.pixels c.args.width c.args.height) c.args.tree.now
    c.requires.held.tree c.args.id
    (pixels_after c.args.width c.args.height c.args.command.now) (sym c.in-None.ensures.value)

pub paint-requires-clause-fits : goal.paint-requires-clause-fits
paint-requires-clause-fits g c =
    fit_found (g.C.LayerPixels.fits c.args.width c.args.height) c.args.tree.now c.args.id
    c.in-Some.content.now c.requires.held.each (sym c.in-Some.ensures.value)

pub returns-in-Some-clause-held : goal.returns-in-Some-clause-held
returns-in-Some-clause-held g c =
    let fits = g.C.LayerPixels.fits in
    let new = c.paint.new.self in
    held_filled fits c.args.width c.args.height c.args.tree.now
    (with_content c.args.tree.now c.args.id new) c.requires.held c.trees_stay_trees.ensures.filled
    c.args.id new (sym c.in-Some.ensures.paint)
    (either_way c.paint.result c.paint.ensures.fits c.paint.ensures.err (λ ok. ok)
    (λ same. subst (fits c.args.width c.args.height) (sym same)
    (fit_found (fits c.args.width c.args.height) c.args.tree.now c.args.id c.in-Some.content.now
    c.requires.held.each (sym c.in-Some.ensures.value))))
    refl

pub returns-in-Some-clause-ok : goal.returns-in-Some-clause-ok
returns-in-Some-clause-ok g c =
    on_ok_weaker c.paint.result
    (painted_some (g.C.LayerPixels.pixels c.args.width c.args.height) c.args.tree.now
    c.requires.held.tree c.args.id (pixels_after c.args.width c.args.height c.args.command.now)
    c.in-Some.content.now c.paint.new.self (sym c.in-Some.ensures.value))
    c.paint.ensures.pixels

pub returns-in-Some-clause-err : goal.returns-in-Some-clause-err
returns-in-Some-clause-err g c =
    on_err_weaker c.paint.result
    (λ same. ap (with_content c.args.tree.now c.args.id) same
    ∙ filled_same c.args.tree.now c.args.id c.in-Some.content.now
    c.requires.held.tree.layers.distinct (sym c.in-Some.ensures.value))
    c.paint.ensures.err
