-- The test of two messages says exactly whether they are equal.
use Rattle.std.proofs.Common.{◌≡◌, ℕ, Bool, true, List, refl, ap, subst, ◌∙◌}
use Rattle.std.specs.Prelude.{◌↔◌, bytes_eq}
use Rattle.std.specs.Bool.{Decides, ◌==◌, beq}
use Rattle.std.specs.Cmp.{booleans_Decides}
use Rattle.std.proofs.lemmas.Bool.{false≢true, eqb-true, and_parts}
use Rattle.std.proofs.lemmas.Bool.Decides.{Decides-eqb}
use Rattle.std.proofs.lemmas.Slice.Eq.{bytes_eq-Decides}
use Rattle.dp_msg_draw.specs.declared.draw.Draw.{Draw}
use Rattle.dp_msg_draw.specs.Equality.{same_draw}
use Rattle.dp_msg_meta.specs.declared.message.Control.{Control}
use Rattle.dp_msg_meta.specs.declared.message.Meta.{Meta}
use Rattle.dp_msg_meta.specs.Equality.{same_control, same_meta}
use Rattle.dp_messages.specs.declared.message.Msg.{Msg}
use Rattle.dp_messages.specs.declared.message.Msg.TheVariants as msg
use Rattle.dp_messages.specs.Equality.{same_message}

-- what the layers below say of the tests of parts
pub record PartTests : Type 0 where
  pub control : (m n : Control) → (same_control m n ≡ true) ↔ (m ≡ n)
  pub meta : (m n : Meta) → (same_meta m n ≡ true) ↔ (m ≡ n)
  pub draw : (m n : Draw) → (same_draw m n ≡ true) ↔ (m ≡ n)

message_again : PartTests → (m : Msg) → same_message m m ≡ true
message_again t (msg.Control m) = (t.control m m).1 refl
message_again t (msg.Meta m) = (t.meta m m).1 refl
message_again t (msg.Part m) = (t.draw m m).1 refl
message_again t msg.Point = refl
message_again t (msg.Undo target redo) = rw ((Decides-eqb target target).1 refl)
    ((booleans_Decides redo redo).1 refl)
message_again t (msg.Draw m) = (t.draw m m).1 refl
message_again t (msg.Opaque kind body) = rw ((Decides-eqb kind kind).1 refl)
    ((bytes_eq-Decides body body).1 refl)

message_is : PartTests → (m n : Msg) → same_message m n ≡ true → m ≡ n
message_is t (msg.Control m) (msg.Control n) e = ap (λ (c : Control). msg.Control c)
    ((t.control m n).0 e)
message_is t (msg.Meta m) (msg.Meta n) e = ap (λ (c : Meta). msg.Meta c) ((t.meta m n).0 e)
message_is t (msg.Part m) (msg.Part n) e = ap (λ (c : Draw). msg.Part c) ((t.draw m n).0 e)
message_is t msg.Point msg.Point e = refl
message_is t (msg.Undo target redo) (msg.Undo target' redo') e =
    let both = and_parts (target == target') (beq redo redo') e in
    ap (λ (n : ℕ). msg.Undo n redo) (eqb-true target target' both.0)
    ∙ ap (λ (b : Bool). msg.Undo target' b) ((booleans_Decides redo redo').0 both.1)
message_is t (msg.Draw m) (msg.Draw n) e = ap (λ (c : Draw). msg.Draw c) ((t.draw m n).0 e)
message_is t (msg.Opaque kind body) (msg.Opaque kind' body') e =
    let both = and_parts (kind == kind') (bytes_eq body body') e in
    ap (λ (n : ℕ). msg.Opaque n body) (eqb-true kind kind' both.0)
    ∙ ap (λ (b : List ℕ). msg.Opaque kind' b) ((bytes_eq-Decides body body').0 both.1)
message_is t m n e = absurd (false≢true e)

pub same_message_decides : PartTests → (m n : Msg) → Decides (same_message m n) (m ≡ n)
same_message_decides t m n = (
  message_is t m n,
  λ e. subst (λ (k : Msg). same_message m k ≡ true) e
      (message_again t m),
)
