use Rattle.std.proofs.Common.{◌≡◌, ◌∙◌, ◌++◌, ◌∷◌, [], ◌≤◌, ap, sym, subst, arith, length, map}
use Rattle.std.proofs.Common.{if◌then◌else◌}
use Rattle.std.specs.Prelude.{option_to_list}
use Rattle.std.specs.List.{filter}
use Rattle.std.specs.Option.{option_map}
use Rattle.dp_msg_meta.specs.Fields.{RiseFrom}
use Rattle.dp_msg_meta.specs.declared.message.Meta.TheVariants.{Owners, Trusted, UserAcl}
use Rattle.dp_msg_meta.specs.declared.message.Meta.TheVariants.{FeatureTiers, UndoDepth}
use Rattle.dp_acl.specs.contracts.rights.Rights.{the_view}
use Rattle.dp_acl.specs.Table.{Kept, StandsFor, mark_of}
use Rattle.dp_acl.specs.RuleTable.{acl_of}
use Rattle.dp_acl.proofs.CarryLemmas.{length-filter_le, locks-short, carried-kept, six-pushed}
use Rattle.dp_acl.proofs.CarryLemmas.{same-start}
use Rattle.dp_acl.proofs.rights.Rights.carry.Goals as goal

pub from_vec-requires : goal.from_vec-requires
from_vec-requires c =
    let present = c.as_slice-present.result.now in
    let few : length present ≤ 255 =
    subst (λ xs. length xs ≤ 255) (sym c.as_slice-present.ensures.value)
    c.as_slice-present.ensures.short in
    omega (
      arith,
      ap length c.in_ok-owners.ensures,
      length-filter_le (mark_of c.self.inside.operators) present,
      c.in_ok-owners.owners.ok.0,
    )

pub from_vec-requires-2 : goal.from_vec-requires-2
from_vec-requires-2 c =
    let present = c.as_slice-present.result.now in
    let few : length present ≤ 255 =
    subst (λ xs. length xs ≤ 255) (sym c.as_slice-present.ensures.value)
    c.as_slice-present.ensures.short in
    omega (
      arith,
      ap length c.in_ok-trusted.ensures,
      length-filter_le (mark_of c.self.inside.trusted) present,
      c.in_ok-trusted.trusted.ok.0,
    )

pub from_vec-requires-3 : goal.from_vec-requires-3
from_vec-requires-3 c =
    let present = c.as_slice-present.result.now in
    let rise : RiseFrom 1 present = subst (RiseFrom 1) (sym c.as_slice-present.ensures.value)
    c.requires in
    locks-short c.in_ok-locks.locks.items c.args.self.now.all_locked c.args.self.now.lock_listed
    present
    c.in_ok-locks.ensures rise c.in_ok-locks.locks.ok.0

pub returns : goal.returns
returns c = λ history stands.
    let present = c.args.present.now in
    let slice = c.as_slice-present.result.now in
    let same : slice ≡ present = c.as_slice-present.ensures.value in
    let kept = the_view c.self.inside in
    let depth_is : c.carry_depth.new.metas.items ≡ c.push-4.new.self.items
    ++ option_to_list (option_map UndoDepth c.self.inside.depth) =
    c.in_ok-carry_depth.ensures
    ∙ ap (λ (k : Kept). c.push-4.new.self.items ++ option_to_list (option_map UndoDepth k.depth))
    (sym c.self.view_is) in
    let stands' = subst (λ (k : Kept). StandsFor k history) (sym c.self.view_is) stands in
    six-pushed c.in_ok-metas.metas.items c.push.new.self.items c.push-2.new.self.items
    c.push-3.new.self.items
    c.push-4.new.self.items c.carry_depth.new.metas.items c.carry.new.metas.items
    (Owners c.from_vec.result) (Trusted c.from_vec-2.result) (UserAcl c.from_vec-3.result)
    (FeatureTiers c.self.inside.tiers) (option_to_list (option_map UndoDepth c.self.inside.depth))
    (map acl_of c.self.inside.rules.rules)
    c.in_ok-metas.ensures.items c.in_ok-push.ensures.items c.in_ok-push-2.ensures.items
    c.in_ok-push-3.ensures.items c.in_ok-push-4.ensures.items
    depth_is c.in_ok-carry.ensures.carried
    ∙ same-start c.from_vec.result (filter (mark_of kept.operators) present)
    c.from_vec-2.result (filter (mark_of kept.trusted) present)
    c.from_vec-3.result
    ((if kept.all_locked then 0 ∷ [] else []) ++ filter (mark_of kept.lock_listed) present)
    (FeatureTiers c.self.inside.tiers ∷ (option_to_list (option_map UndoDepth c.self.inside.depth)
    ++ map acl_of c.self.inside.rules.rules))
    (c.from_vec.ensures ∙ c.in_ok-owners.ensures ∙ ap (filter (mark_of kept.operators)) same)
    (c.from_vec-2.ensures ∙ c.in_ok-trusted.ensures ∙ ap (filter (mark_of kept.trusted)) same)
    (c.from_vec-3.ensures ∙ c.in_ok-locks.ensures
    ∙ ap (λ (k : Kept). (if k.all_locked then 0 ∷ [] else [])
    ++ filter (mark_of k.lock_listed) slice)
    (sym c.self.view_is)
    ∙ ap (λ ids. (if kept.all_locked then 0 ∷ [] else []) ++ filter (mark_of kept.lock_listed) ids)
    same)
    ∙ carried-kept kept history present stands' c.requires c.in_ok-carry.ensures.rise
