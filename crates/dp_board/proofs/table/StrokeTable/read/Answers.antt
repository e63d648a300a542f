use Rattle.std.proofs.Common.{◌≡◌, ◌+◌, ◌<◌, ◌++◌, ◌∷◌, [], ap, sym, ◌∙◌, take, length, subst}
use Rattle.std.specs.List.{All}
use Rattle.std.proofs.lemmas.List.Elements.{All-push, All-nil}
use Rattle.std.proofs.lemmas.List.{take_all, drop_all, append-nil}
use Rattle.dp_board.specs.Joins.{joins_from}
use Rattle.dp_board.specs.Table.{HasStrokes}
use Rattle.dp_board.proofs.TableLemmas.{HasStrokes-push, joins_from-step, take-step}
use Rattle.dp_board.proofs.table.StrokeTable.read.Goals as goal

pub loop-act-init : goal.loop-act-init
loop-act-init g c = record {
  in_range = All-nil (λ act. act.user < 256);
  position = ap (λ s. s.position) (c.in_ok-table.ensures.empty 0);
  strokes = λ user small. c.in_ok-table.ensures.empty user;
  joins = ap (λ js. js ++ joins_from c.args.depth [] c.args.acts.now) c.in_ok-joins.ensures.items;
}

pub loop-act-preserved : goal.loop-act-preserved
loop-act-preserved g c =
    let xs = c.args.acts.now in
    let i = c.loop-act.act-index in
    let a = c.act-item.result in
    let was = c.loop-act.invariant in
    let old = c.loop-act.table in
    let inside : i < length xs = c.loop-act-test.true in
    let taken : take (i + 1) xs ≡ take i xs ++ a ∷ [] = take-step xs i a inside c.act-item.is in
    record {
      in_range = subst (All (λ act. act.user < 256)) (sym taken)
          (All-push (λ act. act.user < 256) (take i xs) a was.in_range c.join_of.ensures.user);
      position = c.in_ok-add.ensures.position ∙ ap (λ n. n + 1) was.position;
      strokes = subst (λ before. HasStrokes c.args.depth before c.add.new.self) (sym taken)
          (HasStrokes-push c.args.depth (take i xs) a old c.add.new.self was.strokes
          c.in_ok-add.ensures.strokes);
      joins = joins_from-step c.args.depth xs i a old c.loop-act.joins.items c.push.new.self.items
          c.join_of.result _ inside c.act-item.is was.strokes c.join_of.ensures.user
          c.join_of.ensures.value c.in_ok-push.ensures.items was.joins;
    }

pub returns-clause-strokes : goal.returns-clause-strokes
returns-clause-strokes g c =
    let all = take_all c.loop-act.act-index c.args.acts.now c.loop-act-test.false in
    subst (λ before. HasStrokes c.args.depth before c.loop-act.table) all
    c.loop-act.invariant.strokes

pub returns-clause-joins : goal.returns-clause-joins
returns-clause-joins g c =
    let acts = c.args.acts.now in
    let joins = c.loop-act.joins.items in
    let none = drop_all c.loop-act.act-index acts c.loop-act-test.false in
    sym (append-nil joins) ∙ ap (λ rest. joins ++ joins_from c.args.depth
    (take c.loop-act.act-index acts) rest) (sym none) ∙ c.loop-act.invariant.joins

pub returns-clause-in_range : goal.returns-clause-in_range
returns-clause-in_range g c =
    let all = take_all c.loop-act.act-index c.args.acts.now c.loop-act-test.false in
    subst (All (λ act. act.user < 256)) all c.loop-act.invariant.in_range
