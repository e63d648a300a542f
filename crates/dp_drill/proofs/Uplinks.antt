-- What a client's uplink makes of a flow.
use Rattle.std.proofs.Common.{◌≡◌, ℕ, zero, suc, ◌-◌, ◌<◌, true, false, List, [], ◌∷◌, ◌++◌}
use Rattle.std.proofs.Common.{length, Option, None, Some, is_some, refl, sym, ap, ap₂, ◌∙◌}
use Rattle.std.specs.Prelude.{slice_index_or, slice_set}
use Rattle.std.specs.List.{slice_get}
use Rattle.std.specs.Option.{option_map_or}
use Rattle.std.proofs.lemmas.Option.{slice_get_within}
use Rattle.dp_lists.specs.Numbered.{numbered}
use Rattle.dp_lists.proofs.Numbered.{number-found}
use Rattle.dp_messages.specs.declared.message.Msg.{Msg}
use Rattle.dp_epochs.specs.declared.event.Event.TheVariants as event
use Rattle.dp_epochs.specs.Past.{Past, sure_step}
use Rattle.dp_schedule.specs.declared.action.Action.TheVariants.{Join, Act}
use Rattle.dp_schedule.specs.declared.action.Instruction.{Instruction}
use Rattle.dp_schedule.specs.declared.action.Instruction.TheVariants.{Say, Up}
use Rattle.dp_drill.specs.Flow.{Flow, flow_after, instructed, sent}
use Rattle.dp_drill.proofs.Follows.{set-same}

there : {X : Type 0} (o : Option X) → is_some o ≡ true → (x : X) × (o ≡ Some x)
there None some = cc
there (Some x) some = (x, refl)

at-index : {X : Type 0} (xs : List X) (i : ℕ) (x d : X) → slice_get xs i ≡ Some x
    → slice_index_or xs i d ≡ x
at-index [] i x d is = cc
at-index (y ∷ xs) zero x d is = cc
at-index (y ∷ xs) (suc i) x d is = at-index xs i x d is

module _ (f : Flow) (client : ℕ) where
  -- there is no such client
  pub absent : (i : Instruction) → is_some (numbered f.uplinks client) ≡ false
      → flow_after f (Act client i) ≡ f
  unfolding flow_after
  absent i none = by (numbered f.uplinks client) none
    where
      by : (o : Option (List Msg)) → is_some o ≡ false
          → option_map_or (instructed f client i) o f ≡ f
      by None none = refl
      by (Some uplink) none = cc

  -- there is one
  module _ (some : is_some (numbered f.uplinks client) ≡ true) where
    abbrev uplink : List Msg
    uplink = (there (numbered f.uplinks client) some).0

    found : numbered f.uplinks client ≡ Some uplink
    found = (there (numbered f.uplinks client) some).1

    at : slice_get f.uplinks (client - 1) ≡ Some uplink
    at = (number-found f.uplinks client uplink found).1

    pub within : client - 1 < length f.uplinks
    within = slice_get_within f.uplinks (client - 1) uplink at

    module _ (old : List Msg) (is : old ≡ slice_index_or f.uplinks (client - 1) old) where
      same : old ≡ uplink
      same = is ∙ at-index f.uplinks (client - 1) uplink old at

      acts : (i : Instruction) → flow_after f (Act client i) ≡ instructed f client i old
      unfolding flow_after
      acts i = ap (λ o. option_map_or (instructed f client i) o f) found
          ∙ ap (instructed f client i) (sym same)

      pub said-made : (m : Msg) (new : List Msg) → new ≡ old ++ m ∷ []
          → record f { uplinks = slice_set f.uplinks (client - 1) new }
          ≡ flow_after f (Act client (Say m))
      said-made m new is_new =
          ap (λ u. record f { uplinks = slice_set f.uplinks (client - 1) u }) is_new
          ∙ sym (acts (Say m))

      pub sent-made : (m : Msg) (new : List Msg) (past : Past) → old ≡ m ∷ new
          → past ≡ sure_step f.past (event.Say client m)
          → record { past = past; uplinks = slice_set f.uplinks (client - 1) new }
          ≡ flow_after f (Act client Up)
      sent-made m new past popped stepped =
          ap (λ p. record { past = p; uplinks = slice_set f.uplinks (client - 1) new }) stepped
          ∙ sym (acts Up ∙ ap (sent f client) popped)

      pub none-made : (new : List Msg) → old ≡ [] → new ≡ []
          → record f { uplinks = slice_set f.uplinks (client - 1) new }
          ≡ flow_after f (Act client Up)
      none-made new empty left =
          ap (λ u. record f { uplinks = slice_set f.uplinks (client - 1) u })
          (left ∙ sym empty ∙ same)
          ∙ ap (λ us. record f { uplinks = us })
          (set-same f.uplinks (client - 1) uplink at)
          ∙ sym (acts Up ∙ ap (sent f client) empty)

pub joined-made : (f : Flow) (name : List ℕ) (past : Past) (uplinks : List (List Msg))
    → past ≡ sure_step f.past (event.Open name false) → uplinks ≡ f.uplinks ++ [] ∷ []
    → record { past = past; uplinks = uplinks } ≡ flow_after f (Join name false)
unfolding flow_after
joined-made f name past uplinks stepped added =
    ap₂ (λ p us. record { past = p; uplinks = us }) stepped added
