use Rattle.std.proofs.Common.{◌≡◌, ◌∙◌, Bor, Option, None, Some, refl, subst, sym}
use Rattle.std.specs.Prelude.{option_copied, IfSome}
use Rattle.dp_plain.specs.Board.{Board}
use Rattle.dp_plain.proofs.Holds.{fit_found}
use Rattle.dp_layered.proofs.layered.LayeredBoard.content.Goals as goal

-- what holds of each content holds of the one that is lent
if_lent : {X : Type 0} (P : X → Type 0) (o : Option (Bor X))
    → ((x : X) → option_copied o ≡ Some x → P x) → IfSome o (λ lent. P lent.now)
if_lent P None all = tt
if_lent P (Some lent) all = all lent.now refl

pub returns-clause-fits : goal.returns-clause-fits
returns-clause-fits g c =
    let inside = c.self.inside in
    subst
    (λ (board : Board). IfSome c.content.result
    (λ content. g.C.LayerPixels.fits board.width board.height content.now)) c.self.view_is
    (if_lent (g.C.LayerPixels.fits inside.width inside.height) c.content.result
    (λ x is. fit_found (g.C.LayerPixels.fits inside.width inside.height) inside.tree c.args.id x
    c.self.invariant.each (sym c.content.ensures.value ∙ is)))
