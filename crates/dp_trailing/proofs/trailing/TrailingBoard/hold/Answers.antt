use Rattle.std.proofs.Common.{◌+◌, ◌≤◌, [], ◌∷◌, ◌++◌, length, subst, sym}
use Rattle.std.specs.Prelude.{Result, Ok, Err, OnOk}
use Rattle.std.proofs.lemmas.Result.{on_ok_weaker}
use Rattle.dp_savepoints.specs.Kept.{commands_among}
use Rattle.dp_trailing.specs.Trailing.{Trails}
use Rattle.dp_trailing.proofs.TrailingLemmas.{Trails-with_act, few-with_act, held-apart}
use Rattle.dp_trailing.proofs.trailing.TrailingBoard.hold.Goals as goal

-- two facts of an `Ok` give a third
on_ok_both : {T E P Q R : Type 0} (r : Result T E) → (P → Q → R) → OnOk r P → OnOk r Q → OnOk r R
on_ok_both (Ok x) f p q = f p q
on_ok_both (Err e) f p q = tt

pub returns-clause-trails : goal.returns-clause-trails
returns-clause-trails g c =
    let draw = g.B.Board.drawn in
    let t = c.args.self.now in
    let a = c.args.act in
    on_ok_both c.push.result (λ known held blank depth acts trails.
    subst (Trails draw blank depth (acts ++ a ∷ [])) (sym held)
    (Trails-with_act c.stroke_laws.ensures draw t a known blank depth acts trails))
    c.push.ensures.known c.push.ensures.held

pub returns-clause-apart : goal.returns-clause-apart
returns-clause-apart g c =
    let draw = g.B.Board.drawn in
    let t = c.args.self.now in
    let a = c.args.act in
    on_ok_both c.push.result (λ known held board blank depth acts trails.
    subst (λ t. Trails draw blank depth (acts ++ a ∷ []) (record t { board = board })) (sym held)
    (Trails-with_act c.stroke_laws.ensures draw (record t { board = board }) a
    (held-apart t a board known) blank depth acts trails))
    c.push.ensures.known c.push.ensures.held

pub returns-clause-few : goal.returns-clause-few
returns-clause-few g c =
    let t = c.args.self.now in
    on_ok_weaker c.push.result (λ held.
    subst (λ now. length (commands_among now.kept) ≤ length (commands_among t.kept) + 1)
    (sym held) (few-with_act c.args.act t)) c.push.ensures.held
