-- Lines that are steps are a prefix of those that the input comes to.
use Rattle.std.proofs.Common.{◌≡◌, ℕ, ◌⊎◌, inl, inr, List, [], ◌∷◌, ◌++◌, refl, sym, ap, ◌∙◌, subst}
use Rattle.std.specs.Prelude.{Option}
use Rattle.dp_board.specs.Counts.{CountsFew}
use Rattle.dp_io.specs.Streams.{GrowsByPrefix}
use Rattle.dp_lines.specs.declared.line.Line.{Line}
use Rattle.dp_lines.specs.Ends.{LinesEnd, AllDone, BadLine, TooLong, LinesComeTo, AreSteps, seen}
use Rattle.dp_msg_draw.specs.declared.draw.Draw.{Draw}
use Rattle.dp_pixels.specs.Feet.{reach}
use Rattle.dp_schedule.specs.declared.action.Action.{Action}
use Rattle.dp_screen.proofs.Leads.{counts_first}
use Rattle.dp_sim.specs.Due.{action_due, schedule_due}
use Rattle.dp_sim.specs.Report.{printed, along, report}
use Rattle.dp_sim.specs.World.{first_world, world_after}
use Rattle.dp_world_lines.specs.Schedule.{AskFor, IsStep, WorldComesTo}
use Rattle.dp_line_machine.specs.Counters.{Counters}
use Rattle.dp_line_machine.specs.Limits.{lines_limit}
use Rattle.dp_world_lines.specs.Draws.{DrawsFor}
use Rattle.dp_world.specs.RunEnds.{HasBegunOf}
use Rattle.dp_io.proofs.Prefixes.{grows_within}
use Rattle.dp_world_lines.proofs.Called.{OneAction}
use Rattle.dp_world_lines.proofs.Reports.{Begins, along-append, asked_prefix}

-- the first list goes on after the second
record Beyond (xs us vs : List Line) : Type 0 where
  first : Line
  more : List Line
  after : List Line
  longer : xs ≡ us ++ first ∷ more
  next : vs ≡ first ∷ after

-- of two prefixes of a list one is a prefix of the other
two_prefixes : (xs ys us vs : List Line) → xs ++ ys ≡ us ++ vs
    → ((more : List Line) × (us ≡ xs ++ more)) ⊎ Beyond xs us vs
two_prefixes [] ys us vs same = inl (us, refl)
two_prefixes (x ∷ xs) ys [] vs same = inr record {
  first = x;
  more = xs;
  after = xs
      ++ ys;
  longer = refl;
  next = sym same;
}
two_prefixes (x ∷ xs) ys (u ∷ us) vs same =
    let head : x ≡ u = cc (same) in
    let tail : xs ++ ys ≡ us ++ vs = cc (same) in
    elim (two_prefixes xs ys us vs tail) [
      | inl (more, is) ↦ inl (
        more,
        ap (λ (l : Line). l ∷ us) (sym head)
            ∙ ap (λ (ls : List Line). x ∷ ls) is,
      )
      | inr b ↦ inr record {
        first = b.first;
        more = b.more;
        after = b.after;
        longer = ap (λ (l : Line). l ∷ xs) head ∙ ap (λ (ls : List Line). u ∷ ls) b.longer;
        next = b.next;
      }
    ]

-- lines that are seen and are steps are the first of those that the input comes to
pub first_of_done : (bytes : List ℕ) (done after others : List Line) (end : LinesEnd)
    → seen lines_limit bytes ≡ done ++ after → AreSteps IsStep done
    → LinesComeTo IsStep lines_limit bytes others end
    → (more : List Line) × (others ≡ done ++ more)
first_of_done bytes done after others AllDone whole steps (few, all, are) = (after, all ∙ whole)
first_of_done bytes done after others TooLong whole steps (many, all, are) = (after, all ∙ whole)
first_of_done bytes done after others (BadLine n) whole steps stops =
    elim (two_prefixes done after others (stops.line ∷ stops.after) (sym whole ∙ stops.next)) [
      | inl prefix ↦ prefix
      | inr b ↦
          let line : b.first ≡ stops.line = cc (b.next) in
          let longer : done ≡ others ++ stops.line ∷ b.more =
          b.longer ∙ ap (λ (l : Line). others ++ l ∷ b.more) line in
          absurd (stops.bad (steps others stops.line b.more longer))
    ]

module _ (one : OneAction) (bytes : List ℕ) (old now : Option (List ℕ)) (c : Counters)
    (begun : HasBegunOf (seen lines_limit bytes) old now c) (done : List Line)
    (actions : List Action) (end : LinesEnd) where
  -- so what they ask for is a prefix of what the input asks for
  begun_first : WorldComesTo bytes done actions end → Begins begun.has.actions actions
  begun_first (comes, asked) =
      let first = begun.has in
      let prefix = first_of_done bytes begun.begun begun.after done end begun.parts first.steps
      comes in
      asked_prefix one begun.begun prefix.0 first.actions actions first.asked
      (subst (λ (ls : List Line). AskFor ls actions) prefix.1 asked)

  -- a prefix of their report is one of the report that the input is due
  pub begun_due : WorldComesTo bytes done actions end → GrowsByPrefix old now (report actions)
  begun_due comes =
      let first = begun.has in
      let begins = begun_first comes in
      subst (GrowsByPrefix old now)
      (sym (ap report begins.whole ∙ along-append printed first_world first.actions begins.rest))
      (grows_within old now (report first.actions) (along printed (world_after first.actions)
      begins.rest) first.text)

  -- and what they may draw is a prefix of what the input may draw
  pub begun_draws : WorldComesTo bytes done actions end → DrawsFor actions c
  begun_draws comes =
      let first = begun.has in
      let begins = begun_first comes in
      subst (λ (due : List Draw). CountsFew reach due c.draws c.draws_now c.tiles c.tiles_now)
      (sym (ap schedule_due begins.whole
      ∙ along-append action_due first_world first.actions begins.rest))
      (counts_first reach (schedule_due first.actions) (along action_due
      (world_after first.actions) begins.rest) c.draws c.draws_now c.tiles c.tiles_now
      first.counts)
