-- Two messages that compare as equal, field by field, are equal, and no others do.
use Rattle.std.proofs.Common.{◌≡◌, arith}
use Rattle.std.specs.Bool.{Decides}
use Rattle.std.proofs.lemmas.Bool.{false≢true}
use Rattle.std.proofs.lemmas.Bool.Decides.{Decides-int_eq}
use Rattle.std.proofs.lemmas.Slice.Eq.{bytes_eq-Decides}
use Rattle.dp_msg_meta.specs.declared.message.Control.{Control}
use Rattle.dp_msg_meta.specs.declared.message.Control.TheVariants.{Hello, Disconnect, Ping, Ack}
use Rattle.dp_msg_meta.specs.declared.message.Control.TheVariants.{Welcome, ResetBegin, ResetEnd}
use Rattle.dp_msg_meta.specs.declared.message.Control.TheVariants.{ResetFrom}
use Rattle.dp_msg_meta.specs.declared.message.Meta.{Meta}
use Rattle.dp_msg_meta.specs.declared.message.Meta.TheVariants.{Join, Leave, Owners, Chat, Trusted}
use Rattle.dp_msg_meta.specs.declared.message.Meta.TheVariants.{ResetMark, Laser, MovePointer}
use Rattle.dp_msg_meta.specs.declared.message.Meta.TheVariants.{UserAcl, LayerAcl, FeatureTiers}
use Rattle.dp_msg_meta.specs.declared.message.Meta.TheVariants.{Filtered, UndoDepth}
use Rattle.dp_msg_meta.specs.declared.message.Tiers.{Tiers}
use Rattle.dp_msg_meta.specs.contracts.message.TiersPartialEq.TheImpl as tiers
use Rattle.dp_msg_meta.specs.Equality.{same_control, same_meta}

pub controls_compare : (a b : Control) → Decides (same_control a b) (a ≡ b)
controls_compare (Hello name) (Hello name') = grind (arith, bytes_eq-Decides name name')
controls_compare (Disconnect reason) (Disconnect reason') = grind arith
controls_compare (Ping pong) (Ping pong') = grind arith
controls_compare (Ack epoch) (Ack epoch') = grind arith
controls_compare (Welcome version user epoch at) (Welcome version' user' epoch' at') = grind arith
controls_compare ResetBegin ResetBegin = grind arith
controls_compare ResetEnd ResetEnd = grind arith
controls_compare (ResetFrom at) (ResetFrom at') = grind arith
controls_compare a b = (λ e. absurd (false≢true e), λ e. absurd (cc))

tiers_compare : (a b : Tiers) → Decides (tiers.ghosts.eq a b) (a ≡ b)
tiers_compare a b = grind arith

pub metas_compare : (a b : Meta) → Decides (same_meta a b) (a ≡ b)
metas_compare (Join registered name) (Join registered' name') =
    grind (arith, bytes_eq-Decides name name')
metas_compare Leave Leave = grind arith
metas_compare (Owners ids) (Owners ids') = grind (arith, bytes_eq-Decides ids ids')
metas_compare (Chat text) (Chat text') = grind (arith, bytes_eq-Decides text text')
metas_compare (Trusted ids) (Trusted ids') = grind (arith, bytes_eq-Decides ids ids')
metas_compare (ResetMark epoch carried) (ResetMark epoch' carried') = grind arith
metas_compare (Laser x y) (Laser x' y') = grind (arith, Decides-int_eq)
metas_compare (MovePointer x y) (MovePointer x' y') = grind (arith, Decides-int_eq)
metas_compare (UserAcl ids) (UserAcl ids') = grind (arith, bytes_eq-Decides ids ids')
metas_compare (LayerAcl layer locked tier ids) (LayerAcl layer' locked' tier' ids') = grind
    (arith, bytes_eq-Decides ids ids')
metas_compare (FeatureTiers t) (FeatureTiers u) = grind (arith, tiers_compare t u)
metas_compare (Filtered filtered) (Filtered filtered') = grind arith
metas_compare (UndoDepth depth) (UndoDepth depth') = grind arith
metas_compare a b = (λ e. absurd (false≢true e), λ e. absurd (cc))
