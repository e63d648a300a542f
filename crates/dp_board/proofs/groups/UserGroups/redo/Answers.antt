use Rattle.std.proofs.Common.{◌++◌, ◌∷◌, [], ap, sym, ◌∙◌, get_or}
use Rattle.std.specs.List.{remove}
use Rattle.dp_board.specs.Strokes.{is_eligible}
use Rattle.dp_board.proofs.RedoLemmas.{redo-Some, redo-None}
use Rattle.dp_board.proofs.groups.UserGroups.redo.Goals as goal

pub returns-in_ok-push : goal.returns-in_ok-push
returns-in_ok-push c =
    let g = c.args.self.now in
    let place = c.in-Some.place in
    let group = c.index.result.now in
    let done = ap (λ h. h.done) c.self.view_is in
    let undone = ap (λ h. h.undone) c.self.view_is in
    redo-Some (is_eligible c.args.window.now) g place group c.push.new.self.items
    c.remove.new.self.items (sym c.in-Some.ensures.value)
    (c.index.ensures ∙ ap (λ xs. get_or xs place group) undone)
    (c.in_ok-push.ensures.items ∙ ap (λ xs. xs ++ group ∷ []) done)
    (c.remove.ensures.items ∙ ap (λ xs. remove xs place) undone)

pub returns-in_default : goal.returns-in_default
returns-in_default c = redo-None (is_eligible c.args.window.now) c.args.self.now
    (sym c.in_default.ensures.value)
