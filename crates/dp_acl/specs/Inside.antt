-- The rules as the code holds them.
use Rattle.std.specs.Prelude.{◌≡◌, ℕ, ◌<◌, ◌≤◌, List, length, slice_index_or, All}
use Rattle.dp_acl.specs.declared.rules.Rule.{Rule}
use Rattle.dp_acl.specs.Table.{KeptRule}
use Rattle.dp_acl.specs.Marks.{marked}

-- the rule of a layer, with the ids that are marked
abbrev pub kept_of : Rule → KeptRule
kept_of r = record {
  layer = r.layer;
  rule = record { locked = r.locked; tier = r.tier; ids = marked r.ids };
}

-- the layers of the rules rise strictly
abbrev pub LayersRise : List Rule → Type 0
LayersRise rules = (i j : ℕ) (d : Rule) → i < j → j < length rules
    → (slice_index_or rules i d).layer < (slice_index_or rules j d).layer

-- The layers rise, so each has one rule. No rule has more ids than a message holds.
pub record AreRules (rules : List Rule) : Type 0 where
  pub rise : LayersRise rules
  pub layers : All (λ r. r.layer < 65536) rules
  pub short : All (λ r. length (marked r.ids) ≤ 255) rules

-- the rule at the place is of the layer
pub record IsPlaceOf (rules : List Rule) (layer place : ℕ) : Type 0 where
  pub within : place < length rules
  pub same : (d : Rule) → (slice_index_or rules place d).layer ≡ layer

-- no rule is of the layer, and one would stand at the place
pub record IsGapFor (rules : List Rule) (layer place : ℕ) : Type 0 where
  pub small : layer < 65536
  pub within : place ≤ length rules
  pub below : (k : ℕ) (d : Rule) → k < place → (slice_index_or rules k d).layer < layer
  pub above : (k : ℕ) (d : Rule) → place ≤ k → k < length rules
      → layer < (slice_index_or rules k d).layer
