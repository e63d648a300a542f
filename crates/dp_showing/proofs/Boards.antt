-- What is drawn on a board that shows another one is drawn on that.
use Rattle.std.proofs.Common.{◌≡◌, List, [], ◌∷◌, refl, ap, ◌∙◌}
use Rattle.std.specs.List.{fold}

-- a board that shows another shows it after these operations, too
pub fold-shows : {B C Op : Type 0} (show : B → C) (f : B → Op → B) (g : C → Op → C)
    → ((board : B) (op : Op) → show (f board op) ≡ g (show board) op) → (ops : List Op) (board : B)
    → show (fold f board ops) ≡ fold g (show board) ops
fold-shows show f g each [] board = refl
fold-shows show f g each (op ∷ ops) board =
    fold-shows show f g each ops (f board op) ∙ ap (λ b. fold g b ops) (each board op)
