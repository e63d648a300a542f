use Rattle.std.proofs.Common.{◌≡◌, ◌∷◌, [], map, sym, ap, subst, ◌∙◌, All}
use Rattle.std.proofs.lemmas.List.Elements.{All-drop}
use Rattle.std.specs.List.{filter}
use Rattle.dp_acl.specs.Opening.{goes_over}
use Rattle.dp_epochs.specs.State.{kept_by}
use Rattle.dp_history.specs.Items.{entry_in, IsIn}
use Rattle.dp_history.specs.Openings.{Holds}
use Rattle.dp_commit.specs.Tables.{seen_in}
use Rattle.dp_commit.proofs.ReadLemmas.{ok-of}
use Rattle.dp_commit.proofs.ResetLemmas.{rest-is, kept-is}
use Rattle.dp_commit.proofs.live.LiveEpoch.open_with.Goals as goal

pub add_carried-requires-clause-said : goal.add_carried-requires-clause-said
add_carried-requires-clause-said c =
    subst (All (IsIn c.args.journal.now)) (sym c.kept_items-items.ensures)
    (All-drop (IsIn c.args.journal.now) _ c.args.self.now.history.items c.requires.said)

pub returns-in-Ok : goal.returns-in-Ok
returns-in-Ok c = λ s are.
    let J = c.args.journal.now in
    let t = seen_in J c.args.roster.now c.args.sending.now c.args.self.now in
    let items = c.kept_items-items.result.now in
    let history = c.args.first ∷ [] in
    let kept : filter (λ e. goes_over e.msg) (map (entry_in J) items) ≡ kept_by s.stream s.live =
    ap (λ xs. filter (λ e. goes_over e.msg) (map (entry_in J) xs)) c.kept_items-items.ensures
    ∙ kept-is s t are in
    let carried = rw c.deref.ensures.value at
    (ok-of c.add_carried.result _ _ c.in-Ok.is c.add_carried.ensures) in
    subst (Holds J c.add_carried.new.opening) (rest-is s t are history c.args.metas.now _ kept)
    (carried history s.live are.joined are.reset.said (c.in_ok-opening.ensures J))
