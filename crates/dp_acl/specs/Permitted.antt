-- Which messages a user may send.
use Rattle.std.specs.Prelude.{ℕ, Bool, true, false, not, ◌&&◌, ◌||◌, ◌==◌, if◌then◌else◌, List}
use Rattle.dp_msg_draw.specs.declared.draw.Draw.{Draw}
use Rattle.dp_msg_draw.specs.declared.draw.Draw.TheVariants as draw
use Rattle.dp_msg_meta.specs.declared.message.Control.{Control}
use Rattle.dp_msg_meta.specs.declared.message.Control.TheVariants as control
use Rattle.dp_msg_meta.specs.declared.message.Meta.{Meta}
use Rattle.dp_msg_meta.specs.declared.message.Meta.TheVariants as meta
use Rattle.dp_messages.specs.declared.message.Msg.{Msg}
use Rattle.dp_messages.specs.declared.message.Msg.TheVariants as msg
use Rattle.dp_messages.specs.declared.message.Entry.{Entry}
use Rattle.dp_acl.specs.Rights.{is_operator, is_locked, has_feature, may_paint, may_edit_layer}
use Rattle.dp_acl.specs.Rights.{creator_of}

-- Messages of a link. A reset is an operator's; whether a connection may send them now is the
-- session's to say, and of the others it alone says it.
abbrev pub permits_control : List Entry → ℕ → Control → Bool
permits_control history user (control.Hello name) = false
permits_control history user (control.Disconnect reason) = true
permits_control history user (control.Ping pong) = true
permits_control history user (control.Ack epoch) = true
permits_control history user (control.Welcome version welcomed epoch at) = false
permits_control history user control.ResetBegin = is_operator history user
permits_control history user control.ResetEnd = is_operator history user
permits_control history user (control.ResetFrom at) = is_operator history user

-- Messages about users and rights. Join, Leave, ResetMark and Filtered are the server's alone.
abbrev pub permits_meta : List Entry → ℕ → Meta → Bool
permits_meta history user (meta.Join registered name) = false
permits_meta history user meta.Leave = false
permits_meta history user (meta.Owners ids) = is_operator history user
permits_meta history user (meta.Chat text) = true
permits_meta history user (meta.Trusted ids) = is_operator history user
permits_meta history user (meta.ResetMark epoch carried) = false
permits_meta history user (meta.Laser x y) = has_feature history user (λ tiers. tiers.laser)
permits_meta history user (meta.MovePointer x y) = true
permits_meta history user (meta.UserAcl ids) = is_operator history user
permits_meta history user (meta.LayerAcl layer locked tier ids) =
    is_operator history user || creator_of layer == user
permits_meta history user (meta.FeatureTiers tiers) = is_operator history user
permits_meta history user (meta.Filtered kind) = false
permits_meta history user (meta.UndoDepth depth) = is_operator history user

-- Commands.
abbrev pub permits_draw : List Entry → ℕ → Draw → Bool
permits_draw history user (draw.CanvasResize top right bottom left) =
    not (is_locked history user) && has_feature history user (λ tiers. tiers.resize)
permits_draw history user (draw.LayerCreate id parent group title) = may_edit_layer history user id
permits_draw history user (draw.LayerAttr id opacity mode hidden) = may_edit_layer history user id
permits_draw history user (draw.LayerTitle id title) = may_edit_layer history user id
permits_draw history user (draw.LayerMove id parent above) = may_edit_layer history user id
permits_draw history user (draw.LayerDelete id) = may_edit_layer history user id
permits_draw history user (draw.PutImage layer mode x y w h colors) =
    may_paint history user layer && has_feature history user (λ tiers. tiers.image)
permits_draw history user (draw.FillRect layer mode x y w h color) = may_paint history user layer
permits_draw history user (draw.PutTile layer col row repeat content) =
    may_paint history user layer && has_feature history user (λ tiers. tiers.image)
permits_draw history user (draw.Background color) =
    not (is_locked history user) && has_feature history user (λ tiers. tiers.background)
permits_draw history user (draw.DabsRound layer x y r g b mode dabs) =
    may_paint history user layer
permits_draw history user (draw.DabsSquare layer x y r g b mode dabs) =
    may_paint history user layer
permits_draw history user (draw.MoveRect layer sx sy w h tx ty) =
    may_paint history user layer && has_feature history user (λ tiers. tiers.move_)

-- undoing one's own strokes (target 0 is the sender), or another's
abbrev pub permits_undo : List Entry → ℕ → ℕ → Bool
permits_undo history user target =
    if target == 0 || target == user
    then not (is_locked history user) && has_feature history user (λ tiers. tiers.undo)
    else is_operator history user

-- the user may send the message after the history of the epoch
abbrev pub permitted : List Entry → ℕ → Msg → Bool
permitted history user (msg.Control m) = permits_control history user m
permitted history user (msg.Meta m) = permits_meta history user m
permitted history user (msg.Part command) = is_operator history user
permitted history user msg.Point = not (is_locked history user)
permitted history user (msg.Undo target redo) = permits_undo history user target
permitted history user (msg.Draw command) = permits_draw history user command
permitted history user (msg.Opaque kind body) = true
