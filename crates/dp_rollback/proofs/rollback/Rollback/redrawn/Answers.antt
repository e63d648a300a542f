use Rattle.std.proofs.Common.{◌≡◌, ℕ, ◌-◌, ◌<◌, ◌≤◌, ◌∙◌, ap, drop, refl, subst, sym, true, false}
use Rattle.std.proofs.Common.{arith, length}
use Rattle.std.specs.Prelude.{is_some}
use Rattle.std.proofs.lemmas.Bool.{false≢true}
use Rattle.std.specs.List.{Contains}
use Rattle.std.specs.List.Sorted.{IsNonDecreasing}
use Rattle.std.specs.Vec.{vec_len}
use Rattle.dp_board.specs.Strokes.{is_among}
use Rattle.dp_board.specs.Table.{oldest_in}
use Rattle.dp_savepoints.specs.Saves.{points_of}
use Rattle.dp_savepoints.proofs.RunLemmas.{slice-from, IsRun-begins}
use Rattle.dp_rollback.proofs.RunLemmas.{IsRedrawn-run, CountsFew-from}
use Rattle.dp_savepoints.proofs.RunLemmas.{reach-within, CountsFew-none}
use Rattle.dp_rollback.proofs.rollback.Rollback.redrawn.Goals as goal

pub overflow_sub-kept : goal.overflow_sub-kept
overflow_sub-kept g c =
    let inside = c.self.inside in
    let group = c.args.mark.group in
    let keeps = c.self.invariant.2 in
    let reach = subst (λ o. oldest_in o.table ≤ group) (sym c.self.view_is) c.requires.reach in
    let before = subst (λ o. group < o.table.position) (sym c.self.view_is) c.requires.before in
    omega (
      arith,
      keeps.up_to_end,
      keeps.begins,
      reach,
      before,
      inside.kept.ok.0,
      ap length c.deref-3.ensures.value,
    )

pub slice_bounds-kept-start : goal.slice_bounds-kept-start
slice_bounds-kept-start g c =
    let inside = c.self.inside in
    let group = c.args.mark.group in
    let keeps = c.self.invariant.2 in
    let reach = subst (λ o. oldest_in o.table ≤ group) (sym c.self.view_is) c.requires.reach in
    let before = subst (λ o. group < o.table.position) (sym c.self.view_is) c.requires.before in
    omega (
      arith,
      keeps.up_to_end,
      keeps.begins,
      reach,
      before,
      inside.kept.ok.0,
      ap length c.deref-3.ensures.value,
    )

pub returns-in_err-share-clause-counts : goal.returns-in_err-share-clause-counts
returns-in_err-share-clause-counts g c =
    CountsFew-none g.B.Board.weight _ _ _ _ _ c.share.ensures.no_draw c.share.ensures.no_tile

pub finish-requires-clause-rising : goal.finish-requires-clause-rising
finish-requires-clause-rising g c =
    let saved = c.self.invariant.2.saved in
    subst IsNonDecreasing (sym (ap points_of c.deref-4.ensures.value ∙ saved.same)) saved.rising

pub finish-requires-clause-within : goal.finish-requires-clause-within
finish-requires-clause-within g c =
    let inside = c.self.inside in
    let group = c.args.mark.group in
    let keeps = c.self.invariant.2 in
    let from : ℕ = group - inside.base in
    reach-within _ inside.kept.items _ _ inside.table.position (oldest_in inside.table) inside.base
    (vec_len inside.kept) group
    (slice-from c.deref-3.result.now inside.kept.items from from c.deref-3.ensures.value refl)
    inside.kept.ok.0 keeps.up_to_end keeps.begins
    (subst (λ o. oldest_in o.table ≤ group) (sym c.self.view_is) c.requires.reach)
    (ap points_of c.deref-4.ensures.value ∙ keeps.saved.same) keeps.saved.before

pub returns-clause-made : goal.returns-clause-made
returns-clause-made g c =
    let inside = c.self.inside in
    let r = c.args.self.now in
    let mark = c.args.mark in
    let kept_is = slice-from c.deref-3.result.now inside.kept.items (mark.group - inside.base)
    (mark.group - inside.base) c.deref-3.ensures.value refl
    ∙ ap (λ o. drop (mark.group - o.base) o.kept) c.self.view_is in
    let run = IsRun-begins g.B.Board.drawn _ c.in-Some.from.now.board _ refl
    (c.in_ok-share.ensures.same ∙ c.deref-2.ensures ∙ ap (λ s. s.board) c.from.view_is) in
    IsRedrawn-run g.B.Board.drawn r mark _ c.in-Some.from.now _ _ _ kept_is
    (c.deref-4.ensures.value ∙ ap (λ o. o.saves) c.self.view_is)
    (subst (λ xs. Contains xs c.in-Some.from.now)
    (c.deref.ensures.value ∙ ap (λ o. o.saves) c.self.view_is) c.in-Some.ensures.found.1)
    c.in-Some.ensures.found.0
    (c.in_ok-board.ensures.redrawn c.in-Some.from.now.board run)

pub returns-clause-counts : goal.returns-clause-counts
returns-clause-counts g c =
    let inside = c.self.inside in
    let r = c.args.self.now in
    let mark = c.args.mark in
    let kept_is = slice-from c.deref-3.result.now inside.kept.items (mark.group - inside.base)
    (mark.group - inside.base) c.deref-3.ensures.value refl
    ∙ ap (λ o. drop (mark.group - o.base) o.kept) c.self.view_is in
    CountsFew-from g.B.Board.weight r mark _ c.args.draws.now _ _ c.args.tiles.now _ _ kept_is
    c.share.ensures.no_draw c.share.ensures.no_tile c.finish.ensures.counts

pub returns-in_err-board-clause-counts : goal.returns-in_err-board-clause-counts
returns-in_err-board-clause-counts g c =
    let inside = c.self.inside in
    let r = c.args.self.now in
    let mark = c.args.mark in
    let kept_is = slice-from c.deref-3.result.now inside.kept.items (mark.group - inside.base)
    (mark.group - inside.base) c.deref-3.ensures.value refl
    ∙ ap (λ o. drop (mark.group - o.base) o.kept) c.self.view_is in
    CountsFew-from g.B.Board.weight r mark _ c.args.draws.now _ _ c.args.tiles.now _ _ kept_is
    c.share.ensures.no_draw c.share.ensures.no_tile c.finish.ensures.counts

pub unreachable-requires : goal.unreachable-requires
unreachable-requires g c =
    let group = c.args.mark.group in
    let wrong : false ≡ true = sym (ap is_some c.in_default.is) ∙ c.save_at.ensures.among
    ∙ ap (λ xs. is_among (points_of xs) group) c.deref.ensures.value
    ∙ ap (λ xs. is_among xs group) c.self.invariant.2.saved.same
    ∙ ap (λ o. is_among o.table.window.points group) c.self.view_is
    ∙ c.requires.among in
    absurd (false≢true wrong)
