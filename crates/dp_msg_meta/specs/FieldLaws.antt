-- The bytes of a tier, of a depth, and of the tiers of all features, say which they are, whatever
-- follows.
use Rattle.std.proofs.Common.{◌≡◌, ℕ, ◌^◌, ◌<◌, ◌≤◌, List, ◌++◌, ap}
use Rattle.dp_fields.specs.Fields.{one_byte}
use Rattle.dp_fields.specs.FieldLaws.{IsField}
use Rattle.dp_msg_meta.specs.declared.fields.Tier.{Tier}
use Rattle.dp_msg_meta.specs.declared.fields.Depth.{Depth}
use Rattle.dp_msg_meta.specs.declared.message.Tiers.{Tiers}
use Rattle.dp_msg_meta.specs.Payloads.{tier_bytes, AreTiers}

abbrev made_tier : ℕ → Tier
made_tier n = record { 0 = n }

one_tier : (x y : Tier) (s t : List ℕ) → x.0 ≤ 3 → y.0 ≤ 3
    → one_byte x.0 ++ s ≡ one_byte y.0 ++ t → (x ≡ y) × (s ≡ t)
one_tier x y s t fx fy e = let n : x.0 ≡ y.0 = cc in (ap made_tier n, cc)

pub tier_field : IsField (λ (t : Tier). one_byte t.0) (λ (t : Tier). t.0 ≤ 3)
tier_field = record { one = one_tier }

abbrev made_depth : ℕ → Depth
made_depth n = record { 0 = n }

one_depth : (x y : Depth) (s t : List ℕ) → (1 ≤ x.0) × (x.0 < 2 ^ 8) → (1 ≤ y.0) × (y.0 < 2 ^ 8)
    → one_byte x.0 ++ s ≡ one_byte y.0 ++ t → (x ≡ y) × (s ≡ t)
one_depth x y s t fx fy e = let n : x.0 ≡ y.0 = cc in (ap made_depth n, cc)

pub depth_field : IsField (λ (d : Depth). one_byte d.0) (λ (d : Depth). (1 ≤ d.0) × (d.0 < 2 ^ 8))
depth_field = record { one = one_depth }

abbrev made_tiers : ℕ → ℕ → ℕ → ℕ → ℕ → ℕ → ℕ → ℕ → Tiers
made_tiers image move_ resize background edit_layers own_layers laser undo = record {
  image = image;
  move_ = move_;
  resize = resize;
  background = background;
  edit_layers = edit_layers;
  own_layers = own_layers;
  laser = laser;
  undo = undo;
}

one_tiers : (x y : Tiers) (s t : List ℕ) → AreTiers x → AreTiers y
    → tier_bytes x ++ s ≡ tier_bytes y ++ t → (x ≡ y) × (s ≡ t)
one_tiers x y s t fx fy e =
    let made : made_tiers x.image x.move_ x.resize x.background x.edit_layers x.own_layers x.laser
    x.undo
    ≡ made_tiers y.image y.move_ y.resize y.background y.edit_layers y.own_layers y.laser
    y.undo = cc in
    (made, cc)

pub tiers_field : IsField tier_bytes AreTiers
tiers_field = record { one = one_tiers }
