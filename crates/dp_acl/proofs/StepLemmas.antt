-- What is kept after one more entry stands for the longer history.
use Rattle.std.proofs.Common.{◌≡◌, ℕ, ◌<◌, ◌==◌, Bool, true, false, if◌then◌else◌}
use Rattle.std.proofs.Common.{List, [], ◌∷◌, ◌++◌, All, Option, Some, None, IfSome}
use Rattle.std.proofs.Common.{rules, refl, sym, ap, subst, ◌∙◌}
use Rattle.std.specs.Option.{option_map, option_or}
use Rattle.dp_msg_meta.specs.declared.message.Meta.{Meta}
use Rattle.dp_msg_meta.specs.declared.message.Meta.TheVariants.{LayerAcl}
use Rattle.dp_messages.specs.declared.message.Msg.{Msg}
use Rattle.dp_messages.specs.declared.message.Msg.TheVariants as msg
use Rattle.dp_messages.specs.declared.message.Entry.{Entry}
use Rattle.dp_acl.specs.LookBack as said
use Rattle.dp_acl.specs.LookBack.{lists, LayerRule, layer_rule}
use Rattle.dp_acl.specs.Rights.{is_listed, rule_of}
use Rattle.dp_acl.specs.Table.{Kept, KeptRule, Mark, kept_rule, rule_in_order, StandsFor}
use Rattle.dp_acl.specs.Marks.{marked}
use Rattle.dp_acl.specs.Step.{meta_entry, listed_after, IsKeptAfter}
use Rattle.dp_acl.proofs.PushLemmas.{joined-push, listed-push, registered-push, all_locked-push}
use Rattle.dp_acl.proofs.PushLemmas.{tiers-push, depth-push, rule-push}
use Rattle.dp_acl.proofs.IdLemmas.{marked-in_order}

map-or : {X Y : Type 0} (f : X → Y) (o p : Option X)
    → option_map f (option_or o p) ≡ option_or (option_map f o) (option_map f p)
map-or f None p = refl
map-or f (Some x) p = refl

some-or : {X : Type 0} (P : X → Type 0) (o p : Option X) → IfSome o P → IfSome p P
    → IfSome (option_or o p) P
some-or P None p left right = right
some-or P (Some x) p left right = left

module _ (before after : Kept) (history : List Entry) (e : Entry)
    (step : IsKeptAfter before e after) (stands : StandsFor before history) where
  listed-step : (ids : Msg → Option (List ℕ)) (old new : List Bool)
      → Mark new (listed_after before e (ids e.msg) old) → Mark old (is_listed ids history)
      → Mark new (is_listed ids (history ++ e ∷ []))
  listed-step ids old new marks was user low =
      rw (marks user low, stands.joined user low, was user low, listed-push ids user history e) refl

  -- what is kept after the entry stands for the history with it
  pub stands-push : StandsFor after (history ++ e ∷ [])
  stands-push = record {
    joined = λ user low. cc (
      step.joined user low,
      stands.joined user low,
      joined-push history e user,
    );
    operators = listed-step said.owners before.operators after.operators step.operators
        stands.operators;
    trusted = listed-step said.trusted before.trusted after.trusted step.trusted stands.trusted;
    registered = λ user low. cc (
      step.registered user low,
      stands.registered user low,
      registered-push history e user,
    );
    all_locked = cc (step.all_locked, stands.all_locked, all_locked-push history e);
    lock_listed = listed-step said.locked_users before.lock_listed after.lock_listed
        step.lock_listed
        stands.lock_listed;
    tiers = cc (step.tiers, stands.tiers, tiers-push history e);
    depth = cc (step.depth, stands.depth, depth-push history e);
    rules = λ layer small. cc (
      step.rules layer small,
      stands.rules layer small,
      map-or rule_in_order (layer_rule layer e.msg) (rule_of history layer),
      rule-push history e layer,
    );
    ids = λ layer small. subst (λ o. IfSome o (λ rule. All (λ id. id < 256) rule.ids))
        (sym (rule-push history e layer))
        (some-or (λ rule. All (λ id. id < 256) rule.ids) (layer_rule layer e.msg)
        (rule_of history layer)
        (step.ids layer small) (stands.ids layer small));
  }

-- a message that is not about rights changes nothing
pub kept-other : (kept : Kept) (user : ℕ) (m : Msg) → ((meta : Meta) → m ≡ msg.Meta meta → ⊥)
    → IsKeptAfter kept (record { user = user; msg = m }) kept
kept-other kept user (msg.Meta meta) other = absurd (other meta refl)
kept-other kept user _ other = search rules

-- how much memory is spared doesn't matter
pub stands-room : (kept : Kept) (room : ℕ) (history : List Entry) → StandsFor kept history
    → StandsFor (record kept { room = room }) history
stands-room kept room history stands = record {
  joined = stands.joined;
  operators = stands.operators;
  trusted = stands.trusted;
  registered = stands.registered;
  all_locked = stands.all_locked;
  lock_listed = stands.lock_listed;
  tiers = stands.tiers;
  depth = stands.depth;
  rules = stands.rules;
  ids = stands.ids;
}

put-cases : (b : Bool) (rule : LayerRule) (o : Option LayerRule)
    → (if b then Some (rule_in_order rule) else o)
    ≡ option_or (option_map rule_in_order (if b then Some rule else None)) o
put-cases true rule o = refl
put-cases false rule o = refl

ids-cases : (b : Bool) (rule : LayerRule) → All (λ id. id < 256) rule.ids
    → IfSome (if b then Some rule else None) (λ r. All (λ id. id < 256) r.ids)
ids-cases true rule bytes = bytes
ids-cases false rule bytes = tt

-- a rule with the ids that are marked is what a LayerAcl says
pub kept-rule : (before : Kept) (rules : List KeptRule) (room user layer : ℕ) (locked : Bool)
    (tier : ℕ)
    (ids : List ℕ) (marks : List Bool) → Mark marks (lists ids) → All (λ id. id < 256) ids
    → ((other : ℕ) → kept_rule rules other
    ≡ (if layer == other then Some (record { locked = locked; tier = tier; ids = marked marks })
    else kept_rule before.rules other))
    → IsKeptAfter before (meta_entry user (LayerAcl layer locked tier ids))
    (record before { rules = rules; room = room })
kept-rule before rules room user layer locked tier ids marks same bytes put = record {
  joined = λ u low. refl;
  operators = λ u low. refl;
  trusted = λ u low. refl;
  registered = λ u low. refl;
  all_locked = refl;
  lock_listed = λ u low. refl;
  tiers = refl;
  depth = refl;
  rules = λ other small. put other
      ∙ ap (λ xs. if layer == other then Some (record { locked = locked; tier = tier; ids = xs })
      else kept_rule before.rules other) (marked-in_order marks ids same)
      ∙ put-cases (layer == other) (record { locked = locked; tier = tier; ids = ids })
      (kept_rule before.rules other);
  ids = λ other small. ids-cases (layer == other) (record
      { locked = locked; tier = tier; ids = ids }) bytes;
}
