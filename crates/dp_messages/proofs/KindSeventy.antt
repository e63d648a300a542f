-- Frames of the first profile: which message a payload lifts to.
use Rattle.std.proofs.Common.{◌≡◌, ◌≢◌, ℕ, ◌≤◌, ◌==◌, List, length, inl, inr}
use Rattle.std.proofs.Common.{refl, sym, ◌∙◌, ap, subst, arith, lit≤}
use Rattle.std.proofs.lemmas.Bool.{cond-false, ne_eqb}
use Rattle.dp_messages.specs.declared.message.Msg.{Msg}
use Rattle.dp_messages.specs.declared.message.Msg.TheVariants as msg
use Rattle.dp_messages.specs.Messages.{IsListedKind, Spells, lifted_kind}
use Rattle.dp_messages.proofs.KindRanges.{KindLaws, InRange, in_range}

-- kind 71 isn't listed
unlisted : IsListedKind 71 → ⊥
unlisted (inl (inl low)) = omega (arith, low)
unlisted (inl (inr high)) = omega (arith, high.1)
unlisted (inr (inl part)) = omega (arith, part)
unlisted (inr (inr (inl (inl low)))) = omega (arith, low.1)
unlisted (inr (inr (inl (inr high)))) = omega (arith, high.1)
unlisted (inr (inr (inr (inl point)))) = omega (arith, point)
unlisted (inr (inr (inr (inr (inl (inl a)))))) = omega (arith, a.0)
unlisted (inr (inr (inr (inr (inl (inr (inl b))))))) = omega (arith, b.0)
unlisted (inr (inr (inr (inr (inl (inr (inr (inl c)))))))) = omega (arith, c.0)
unlisted (inr (inr (inr (inr (inl (inr (inr (inr (inl d))))))))) = omega (arith, d.0)
unlisted (inr (inr (inr (inr (inl (inr (inr (inr (inr e))))))))) = omega (arith, e)
unlisted (inr (inr (inr (inr (inr undo))))) = omega (arith, undo)

-- what is spelled by kind 71 is opaque
pub is_opaque : KindLaws → (payload : List ℕ) (m : Msg) → Spells 71 payload m
    → (m ≡ msg.Opaque 71 payload) × (length payload ≤ 65535)
is_opaque laws payload (msg.Opaque kind body) s = (
  ap (λ k. msg.Opaque k body) (sym s.kind) ∙ ap (msg.Opaque 71) (sym s.payload),
  omega (arith, ap length s.payload, s.spelled.2),
)
is_opaque laws payload m s =
    let here : InRange m 71 = in_range laws 71 payload m s in absurd (omega arith)

pub opaque_is : (payload : List ℕ) (m : Msg)
    → (m ≡ msg.Opaque 71 payload) × (length payload ≤ 65535) → Spells 71 payload m
opaque_is payload m is =
    subst (Spells 71 payload) (sym is.0)
    (record {
      kind = refl;
      payload = refl;
      spelled = ((lit≤ tt, unlisted), lit≤ tt, is.1);
    })

pub other_kind : (kind : ℕ) → kind ≢ 70 → lifted_kind kind ≡ kind
other_kind kind other = cond-false (kind == 70) 71 kind (ne_eqb kind 70 other)
