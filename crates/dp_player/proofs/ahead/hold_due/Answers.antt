use Rattle.std.proofs.Common.{◌∙◌, List, [], ◌∷◌, ◌++◌, subst, sym}
use Rattle.std.specs.Prelude.{Option, ℕ}
use Rattle.std.proofs.lemmas.Result.{IfOk-weaker}
use Rattle.dp_messages.specs.declared.message.Entry.{Entry}
use Rattle.dp_player.specs.Ahead.{board_after, on_board}
use Rattle.dp_viewer.specs.Reading.{AreDue, TrailsShown}
use Rattle.dp_viewer.proofs.Showing.{first_of-due, first_of-past, AreDue-push}
use Rattle.dp_player.proofs.ahead.hold_due.Goals as goal

pub returns-then-take_due-clause-shown : goal.returns-then-take_due-clause-shown
returns-then-take_due-clause-shown c =
    IfOk-weaker c.hold.result _ _ (λ marked held at all on are trails.
    let first = first_of-due at c.args.due.now all c.args.entry are
    (sym c.take_due.ensures.value ∙ c.if-take_due.true) in
    subst (λ (es : List Entry).
    TrailsShown (on_board (board_after marked on c.hold.new.board) c.hold.new.board) es)
    (sym first.1)
    (held all on (subst (λ (es : List Entry). TrailsShown (on_board on c.args.board.now) es) first.0
    trails)))
    c.hold.ensures

pub returns-else-take_due-clause-shown : goal.returns-else-take_due-clause-shown
returns-else-take_due-clause-shown c = λ at all on are trails.
    subst (λ (es : List Entry). TrailsShown (on_board on c.args.board.now) es)
    (sym (first_of-past at c.args.due.now all c.args.entry are
    (sym c.take_due.ensures.value ∙ c.if-take_due.false))) trails

pub returns-then-take_due-clause-left : goal.returns-then-take_due-clause-left
returns-then-take_due-clause-left c = λ at all are.
    subst (λ (due : Option ℕ). AreDue at (all ++ c.args.entry ∷ []) due)
    (sym c.take_due.ensures.left) (AreDue-push at c.args.due.now all c.args.entry are)

pub returns-else-take_due-clause-left : goal.returns-else-take_due-clause-left
returns-else-take_due-clause-left c = λ at all are.
    subst (λ (due : Option ℕ). AreDue at (all ++ c.args.entry ∷ []) due)
    (sym c.take_due.ensures.left) (AreDue-push at c.args.due.now all c.args.entry are)
