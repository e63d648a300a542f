-- The kinds of messages, by variant: each variant has kinds of its own.
use Rattle.std.proofs.Common.{◌≡◌, ◌≢◌, ℕ, ◌≤◌, List, inl, inr, subst, arith, lit≤}
use Rattle.std.specs.Prelude.{⊤}
use Rattle.dp_msg_draw.specs.declared.draw.Draw.{Draw}
use Rattle.dp_msg_draw.specs.declared.draw.Draw.TheVariants.{CanvasResize}
use Rattle.dp_msg_draw.specs.Limits.{IsDrawKind}
use Rattle.dp_msg_draw.specs.Payloads.{draw_kind, SpellsDraw}
use Rattle.dp_msg_meta.specs.declared.message.Control.{Control}
use Rattle.dp_msg_meta.specs.declared.message.Meta.{Meta}
use Rattle.dp_msg_meta.specs.Payloads.{IsControlKind, SpellsControl, IsMetaKind, SpellsMeta}
use Rattle.dp_messages.specs.declared.message.Msg.{Msg}
use Rattle.dp_messages.specs.declared.message.Msg.TheVariants as msg
use Rattle.dp_messages.specs.Messages.{IsListedKind, Spells}

-- what the layers below say of kinds
pub record KindLaws : Type 0 where
  pub control : (m : Control) (kind : ℕ) (payload : List ℕ) → SpellsControl kind payload m
      → IsControlKind kind
  pub meta : (m : Meta) (kind : ℕ) (payload : List ℕ) → SpellsMeta kind payload m → IsMetaKind kind
  pub draw : (m : Draw) (kind : ℕ) (payload : List ℕ) → SpellsDraw kind payload m → IsDrawKind kind

pub to_control : (kind : ℕ) (payload : List ℕ) (m : Control) → Spells kind payload (msg.Control m)
    → SpellsControl kind payload m
to_control kind payload m s = record { kind = s.kind; payload = s.payload; spelled = s.spelled }

pub to_meta : (kind : ℕ) (payload : List ℕ) (m : Meta) → Spells kind payload (msg.Meta m)
    → SpellsMeta kind payload m
to_meta kind payload m s = record { kind = s.kind; payload = s.payload; spelled = s.spelled }

pub to_draw : (kind : ℕ) (payload : List ℕ) (m : Draw) → Spells kind payload (msg.Draw m)
    → SpellsDraw kind payload m
to_draw kind payload m s = record { kind = s.kind; payload = s.payload; spelled = s.spelled }

-- a variant's kinds lie apart from the others
abbrev pub InRange : Msg → ℕ → Type 0
InRange (msg.Control m) kind = (kind ≤ 8) × (kind ≢ 6)
InRange (msg.Meta m) kind = (32 ≤ kind) × (kind ≤ 70)
InRange (msg.Part command) kind = kind ≡ 6
InRange msg.Point kind = kind ≡ 128
InRange (msg.Undo target redo) kind = kind ≡ 255
InRange (msg.Draw command) kind = (129 ≤ kind) × (kind ≤ 152)
InRange (msg.Opaque k body) kind = ⊤

pub control_range : (kind : ℕ) → IsControlKind kind → (kind ≤ 8) × (kind ≢ 6)
control_range kind (inl low) = (omega arith, λ e. omega (arith, e))
control_range kind (inr high) = (omega arith, λ e. omega (arith, e))

pub meta_range : (kind : ℕ) → IsMetaKind kind → (32 ≤ kind) × (kind ≤ 70)
meta_range kind (inl low) = (omega arith, omega arith)
meta_range kind (inr high) = (omega arith, omega arith)

draw_bounds : (m : Draw) → (129 ≤ draw_kind m) × (draw_kind m ≤ 152)
draw_bounds (CanvasResize top right bottom left) = (lit≤ tt, lit≤ tt)
draw_bounds _ = (lit≤ tt, lit≤ tt)

pub in_range : KindLaws → (kind : ℕ) (payload : List ℕ) (m : Msg) → Spells kind payload m
    → InRange m kind
in_range laws kind payload (msg.Control m) s = control_range kind
    (laws.control m kind payload (to_control kind payload m s))
in_range laws kind payload (msg.Meta m) s = meta_range kind
    (laws.meta m kind payload (to_meta kind payload m s))
in_range laws kind payload (msg.Draw command) s = let b = draw_bounds command in
    (omega (arith, s.kind, b.0), omega (arith, s.kind, b.1))
in_range laws kind payload (msg.Opaque k body) s = tt
in_range laws kind payload _ s = s.kind

-- the message is of a variant of listed kinds
abbrev pub IsOfListed : Msg → Type 0
IsOfListed (msg.Opaque kind body) = ⊥
IsOfListed _ = ⊤

pub listed : KindLaws → (kind : ℕ) (payload : List ℕ) (m : Msg) → IsOfListed m
    → Spells kind payload m → IsListedKind kind
listed laws kind payload (msg.Control m) is s = inl (laws.control m kind payload
    (to_control kind payload m s))
listed laws kind payload (msg.Meta m) is s = inr (inr (inl
    (laws.meta m kind payload (to_meta kind payload m s))))
listed laws kind payload (msg.Part command) is s = inr (inl s.kind)
listed laws kind payload msg.Point is s = inr (inr (inr (inl s.kind)))
listed laws kind payload (msg.Undo target redo) is s = inr (inr (inr (inr (inr s.kind))))
listed laws kind payload (msg.Draw command) is s = inr (inr
    (inr (inr (inl (laws.draw command kind payload (to_draw kind payload command s))))))
listed laws kind payload (msg.Opaque k body) is s = absurd is

-- a kind that isn't listed is that of no message of a listed variant
pub not_listed : KindLaws → (kind : ℕ) (payload : List ℕ) (k : ℕ) (body : List ℕ) (m : Msg)
    → IsOfListed m →
    Spells kind payload (msg.Opaque k body) → Spells kind payload m → ⊥
not_listed laws kind payload k body m is s t = s.spelled.0.1
    (subst IsListedKind s.kind (listed laws kind payload m is t))
