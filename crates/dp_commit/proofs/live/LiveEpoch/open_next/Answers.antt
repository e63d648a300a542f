use Rattle.std.proofs.Common.{◌≡◌, ◌+◌, ◌∷◌, [], length, map, sym, ap, subst, ◌∙◌, All, arith, IfOk}
use Rattle.std.specs.List.{filter}
use Rattle.std.proofs.lemmas.List.Elements.{All-drop}
use Rattle.dp_msg_meta.specs.Fields.{RiseFrom}
use Rattle.dp_acl.specs.Carried.{carried}
use Rattle.dp_msg_meta.specs.declared.message.Meta.TheVariants.{ResetMark}
use Rattle.dp_acl.specs.Opening.{goes_over, server_entry}
use Rattle.dp_epochs.specs.State.{epoch_of, kept_by}
use Rattle.dp_history.specs.Items.{entry_in, IsIn}
use Rattle.dp_history.specs.Openings.{Holds}
use Rattle.dp_commit.specs.Opened.{with_rest}
use Rattle.dp_commit.specs.Tables.{seen_in}
use Rattle.dp_commit.proofs.StateLemmas.{live-length}
use Rattle.dp_commit.proofs.ResetLemmas.{present-is, opens-whole, after-fits, kept-is, kept-short}
use Rattle.dp_commit.proofs.live.LiveEpoch.open_next.Goals as goal

pub carry-requires : goal.carry-requires
carry-requires c =
    subst (RiseFrom 1) (sym (present-is c.requires.of.0 _ c.requires.of.1))
    (c.present_users_rise.ensures c.requires.of.0)

pub count_kept-kept-requires : goal.count_kept-kept-requires
count_kept-kept-requires c =
    subst (All (IsIn c.args.journal.now)) (sym c.kept_items.ensures)
    (All-drop (IsIn c.args.journal.now) _ c.args.self.now.history.items c.requires.of.1.said)

pub count_after-after-requires : goal.count_after-after-requires
count_after-after-requires c =
    let s = c.requires.of.0 in
    let are = c.requires.of.1 in
    let J = c.args.journal.now in
    let t = seen_in J c.args.roster.now c.args.sending.now c.args.self.now in
    let kept : c.count_kept-kept.result ≡ length (kept_by s.stream s.live) =
    c.count_kept-kept.ensures
    ∙ ap (λ xs. length (filter (λ e. goes_over e.msg) (map (entry_in J) xs)))
    c.kept_items.ensures
    ∙ ap length (kept-is s t are) in
    omega (
      arith,
      after-fits s t are c.openings.ensures.short _ _
          (c.in_ok-over.ensures.users ∙ ap length (present-is s t are))
          (c.in_ok-over.ensures.metas s.live are.stands
          ∙ ap (carried s.live) (present-is s t are)),
      c.len.ensures,
      c.len-2.ensures,
      c.in_ok-over.over.1.ok.0,
      c.args.sending.now.parts.ok.0,
      kept,
      kept-short s t are,
      live-length s t are,
      c.requires.short,
    )

pub open_with-requires-clause-joined : goal.open_with-requires-clause-joined
open_with-requires-clause-joined c = λ user above below up.
    (c.requires.of.1.joined user above below up).some

pub returns : goal.returns
returns c = λ s are.
    let J = c.args.journal.now in
    let t = seen_in J c.args.roster.now c.args.sending.now c.args.self.now in
    let metas = c.in_ok-over.over.1 in
    let kept : c.count_kept-kept.result ≡ length (kept_by s.stream s.live) =
    c.count_kept-kept.ensures
    ∙ ap (λ xs. length (filter (λ e. goes_over e.msg) (map (entry_in J) xs)))
    c.kept_items.ensures
    ∙ ap length (kept-is s t are) in
    let users = c.in_ok-over.ensures.users ∙ ap length (present-is s t are) in
    let carried_are = c.in_ok-over.ensures.metas s.live are.stands
    ∙ ap (carried s.live) (present-is s t are) in
    let after = c.count_after-after.result in
    let first : c.mark-first.result ≡ server_entry (ResetMark (epoch_of s + 1) after) =
    c.mark-first.ensures ∙ ap (λ n. server_entry (ResetMark (n + 1) after)) are.epoch in
    subst (λ entries. IfOk c.open_with.result (λ o. Holds J o entries))
    (ap (λ e. with_rest s (e ∷ []) metas.items) first
    ∙ opens-whole s t are c.in_ok-over.over.0 after metas.items users carried_are
    (omega (
      arith,
      c.count_after-after.ensures,
      c.len.ensures,
      c.len-2.ensures,
      metas.ok.0,
      c.args.sending.now.parts.ok.0,
      kept,
    )))
    (rw c.deref.ensures.value at (c.open_with.ensures s are))
