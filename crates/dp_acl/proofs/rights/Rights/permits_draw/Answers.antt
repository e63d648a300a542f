use Rattle.std.proofs.Common.{◌&&◌, nat_le, ◌∙◌, ap, sym}
use Rattle.dp_msg_meta.specs.declared.message.Tiers.{Tiers}
use Rattle.dp_acl.specs.Rights.{tier_of, may_paint}
use Rattle.dp_acl.specs.Permitted.{permits_draw}
use Rattle.dp_acl.specs.Table.{Kept}
use Rattle.dp_acl.proofs.rights.Rights.permits_draw.Goals as goal

pub returns-in-PutImage : goal.returns-in-PutImage
returns-in-PutImage c = λ history stands.
    c.may_paint_by.ensures history stands
    ∙ ap (λ t. may_paint history c.args.user c.in-PutImage.layer
    && nat_le (tier_of history c.args.user) t)
    (ap (λ (k : Kept). k.tiers.image) c.self.view_is ∙ ap (λ (t : Tiers). t.image) stands.tiers)
    ∙ ap (permits_draw history c.args.user) (sym c.in-PutImage.is)

pub returns-in-FillRect : goal.returns-in-FillRect
returns-in-FillRect c = λ history stands.
    c.may_paint.ensures history stands ∙ ap (permits_draw history c.args.user)
    (sym c.in-FillRect.is)

pub returns-in-PutTile : goal.returns-in-PutTile
returns-in-PutTile c = λ history stands.
    c.may_paint_by-in-PutTile.ensures history stands
    ∙ ap (λ t. may_paint history c.args.user c.in-PutTile.layer
    && nat_le (tier_of history c.args.user) t)
    (ap (λ (k : Kept). k.tiers.image) c.self.view_is ∙ ap (λ (t : Tiers). t.image) stands.tiers)
    ∙ ap (permits_draw history c.args.user) (sym c.in-PutTile.is)

pub returns-in-DabsRound : goal.returns-in-DabsRound
returns-in-DabsRound c = λ history stands.
    c.may_paint-in-DabsRound.ensures history stands
    ∙ ap (permits_draw history c.args.user) (sym c.in-DabsRound.is)

pub returns-in-DabsSquare : goal.returns-in-DabsSquare
returns-in-DabsSquare c = λ history stands.
    c.may_paint-in-DabsSquare.ensures history stands
    ∙ ap (permits_draw history c.args.user) (sym c.in-DabsSquare.is)

pub returns-in-MoveRect : goal.returns-in-MoveRect
returns-in-MoveRect c = λ history stands.
    c.may_paint_by-in-MoveRect.ensures history stands
    ∙ ap (λ t. may_paint history c.args.user c.in-MoveRect.layer
    && nat_le (tier_of history c.args.user) t)
    (ap (λ (k : Kept). k.tiers.move_) c.self.view_is ∙ ap (λ (t : Tiers). t.move_) stands.tiers)
    ∙ ap (permits_draw history c.args.user) (sym c.in-MoveRect.is)
