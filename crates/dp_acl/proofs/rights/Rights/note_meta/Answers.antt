use Rattle.std.proofs.Common.{◌∙◌, ap, sym, subst}
use Rattle.dp_msg_meta.specs.declared.message.Meta.TheVariants.{Owners, Trusted, UserAcl}
use Rattle.dp_acl.specs.Step.{meta_entry, IsKeptAfter}
use Rattle.dp_acl.proofs.rights.Rights.note_meta.Goals as goal

pub returns-in-Join-clause-kept : goal.returns-in-Join-clause-kept
returns-in-Join-clause-kept c =
    subst (λ m. IsKeptAfter c.args.self.now (meta_entry c.args.user m) c.note_join.new.self)
    (sym c.in-Join.is)
    (c.note_join.ensures.kept c.in-Join.name)

pub returns-in-Owners-clause-kept : goal.returns-in-Owners-clause-kept
returns-in-Owners-clause-kept c =
    subst (λ m. IsKeptAfter c.args.self.now (meta_entry c.args.user m) c.note_owners.new.self)
    (ap Owners c.as_slice.ensures.value ∙ sym c.in-Owners.is)
    (c.note_owners.ensures.kept c.args.user)

pub returns-in-Trusted-clause-kept : goal.returns-in-Trusted-clause-kept
returns-in-Trusted-clause-kept c =
    subst (λ m. IsKeptAfter c.args.self.now (meta_entry c.args.user m) c.note_trusted.new.self)
    (ap Trusted c.as_slice-in-Trusted.ensures.value ∙ sym c.in-Trusted.is)
    (c.note_trusted.ensures.kept c.args.user)

pub returns-in-UserAcl-clause-kept : goal.returns-in-UserAcl-clause-kept
returns-in-UserAcl-clause-kept c =
    subst (λ m. IsKeptAfter c.args.self.now (meta_entry c.args.user m) c.note_locks.new.self)
    (ap UserAcl c.as_slice-in-UserAcl.ensures.value ∙ sym c.in-UserAcl.is)
    (c.note_locks.ensures.kept c.args.user)

pub returns-in-LayerAcl-clause-kept : goal.returns-in-LayerAcl-clause-kept
returns-in-LayerAcl-clause-kept c =
    subst (λ m. IsKeptAfter c.args.self.now (meta_entry c.args.user m) c.note_rule.new.self)
    (sym c.in-LayerAcl.is) (c.note_rule.ensures.kept c.args.user)

pub returns-in-FeatureTiers-clause-kept : goal.returns-in-FeatureTiers-clause-kept
returns-in-FeatureTiers-clause-kept c =
    subst (λ m. IsKeptAfter c.args.self.now (meta_entry c.args.user m) c.note_tiers.new.self)
    (sym c.in-FeatureTiers.is) (c.note_tiers.ensures.kept c.args.user)

pub returns-in-UndoDepth-clause-kept : goal.returns-in-UndoDepth-clause-kept
returns-in-UndoDepth-clause-kept c =
    subst (λ m. IsKeptAfter c.args.self.now (meta_entry c.args.user m) c.note_depth.new.self)
    (sym c.in-UndoDepth.is)
    (c.note_depth.ensures.kept c.args.user)
