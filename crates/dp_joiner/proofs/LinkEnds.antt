-- What the ends of one link tell of the lines that wait at them.
use Rattle.std.proofs.Common.{◌≡◌, ◌⊎◌, inl, inr, ℕ, true, false, List, refl, sym, ap, ◌∙◌}
use Rattle.dp_lines.specs.declared.run_end.RunEnd.{RunEnd}
use Rattle.dp_lines.specs.declared.run_end.RunEnd.TheVariants as run
use Rattle.dp_messages.specs.declared.message.Entry.{Entry}
use Rattle.dp_schedule.specs.declared.join_action.JoinAction.{JoinAction}
use Rattle.dp_join_link.specs.declared.stops.LinkCause.{LinkCause}
use Rattle.dp_join_link.specs.declared.stops.LinkCause.TheVariants as cause
use Rattle.dp_joiner.specs.Joining.{Joining, Goes, Waits, joined}
use Rattle.dp_join_link.specs.Given.{is_closed}
use Rattle.dp_join_link.specs.Links.{BeginsWith, EndsLink, LinkComesTo}
use Rattle.dp_join_link.proofs.Given.{closed-longer}
use Rattle.dp_join_link.proofs.Prefixes.{Laws, begin_alike, within_all}
use Rattle.dp_joiner.proofs.Unique.{joined_closed, joined_goes}

-- what the layers below say of a link
pub record LinkLaws : Type 0 where
  pub frames : Laws
  pub entries : (link : List ℕ) (es ds : List Entry) (end other : RunEnd)
      → LinkComesTo link es end → LinkComesTo link ds other → es ≡ ds
  pub end : (link : List ℕ) (es ds : List Entry) (end other : RunEnd)
      → LinkComesTo link es end → LinkComesTo link ds other → end ≡ other

-- what two ends of one link tell of the lines that wait at them
pub record EndsAlike (name : List ℕ) (actions : List JoinAction) (es ds : List Entry)
    (why other : LinkCause) : Type 0 where
  pub progress : joined name actions es ≡ joined name actions ds
  pub cause : why ≡ other

-- two ends that come of disconnects
both_closed : LinkLaws → (name : List ℕ) (actions : List JoinAction) (link : List ℕ)
    (es ds : List Entry) → BeginsWith link es → is_closed es ≡ true
    → BeginsWith link ds → is_closed ds ≡ true
    → joined name actions es ≡ joined name actions ds
both_closed laws name actions link es ds begins closed begins_too closed_too =
    elim (begin_alike laws.frames link es ds begins begins_too) [
      | inl first ↦ sym (joined_closed name actions es ds closed first)
      | inr first ↦ joined_closed name actions ds es closed_too first
    ]

-- a Disconnect is none of all the entries of a link if none of them is one
not_closed : LinkLaws → (link : List ℕ) (es ds : List Entry) (end : RunEnd)
    → BeginsWith link es → is_closed es ≡ true → LinkComesTo link ds end
    → is_closed ds ≡ false → ⊥
not_closed laws link es ds end begins closed comes still =
    let first = within_all laws.frames link es ds end begins comes in
    let too : is_closed ds ≡ true =
    ap is_closed first.whole ∙ closed-longer es first.rest closed in
    cc (sym still ∙ too)

-- the cause that comes of an end of the bytes
pub by_end : RunEnd → LinkCause
by_end (run.BadMessage n) = cause.BadMessage n
by_end run.Long = cause.Long
by_end end = cause.Closed

-- it was closed
pub record IsClosed (link : List ℕ) (es : List Entry) (why : LinkCause) : Type 0 where
  pub begins : BeginsWith link es
  pub closed : is_closed es ≡ true
  pub is : why ≡ cause.Closed

-- its bytes came to an end
pub record IsEnded (link : List ℕ) (es : List Entry) (why : LinkCause) : Type 0 where
  pub still : is_closed es ≡ false
  pub end : RunEnd
  pub comes : LinkComesTo link es end
  pub is : why ≡ by_end end

pub ends_by : (link : List ℕ) (es : List Entry) (why : LinkCause) → EndsLink link es why
    → IsClosed link es why ⊎ IsEnded link es why
unfolding by_end
ends_by link es cause.Closed (inl (begins, closed)) =
    inl (record { begins = begins; closed = closed; is = refl })
ends_by link es cause.Closed (inr (inl (still, comes))) =
    inr (record { still = still; end = run.Done; comes = comes; is = refl })
ends_by link es cause.Closed (inr (inr (still, n, comes))) =
    inr (record { still = still; end = run.Truncated n; comes = comes; is = refl })
ends_by link es (cause.BadMessage n) (still, comes) =
    inr (record { still = still; end = run.BadMessage n; comes = comes; is = refl })
ends_by link es cause.Long (still, comes) =
    inr (record { still = still; end = run.Long; comes = comes; is = refl })

pub ends_same : LinkLaws → (name : List ℕ) (actions : List JoinAction) (link : List ℕ)
    (es ds : List Entry) (why other : LinkCause)
    → IsClosed link es why ⊎ IsEnded link es why → IsClosed link ds other ⊎ IsEnded link ds other
    → EndsAlike name actions es ds why other
ends_same laws name actions link es ds why other (inl a) (inl b) = record {
  progress = both_closed laws name actions link es ds a.begins a.closed b.begins b.closed;
  cause = a.is ∙ sym b.is;
}
ends_same laws name actions link es ds why other (inl a) (inr b) =
    absurd (not_closed laws link es ds b.end a.begins a.closed b.comes b.still)
ends_same laws name actions link es ds why other (inr a) (inl b) =
    absurd (not_closed laws link ds es a.end b.begins b.closed a.comes a.still)
ends_same laws name actions link es ds why other (inr a) (inr b) = record {
  progress =
      ap (joined name actions) (laws.entries link es ds a.end b.end a.comes b.comes);
  cause = a.is ∙ ap by_end (laws.end link es ds a.end b.end a.comes b.comes) ∙ sym b.is;
}

-- if lines wait at an end of the link, they aren't all done over other entries of it
pub waits_not_goes : LinkLaws → (name : List ℕ) (actions : List JoinAction) (link : List ℕ)
    (es ds : List Entry) (waiting j : Joining) (left : List Entry)
    (why : LinkCause) → joined name actions es ≡ Waits waiting
    → IsClosed link es why ⊎ IsEnded link es why
    → BeginsWith link ds → joined name actions ds ≡ Goes j left → ⊥
waits_not_goes laws name actions link es ds waiting j left why waits (inl a) begins goes =
    elim (begin_alike laws.frames link es ds a.begins begins) [
      | inl first ↦ cc (sym waits ∙ sym (joined_closed name actions es ds a.closed first) ∙ goes)
      | inr first ↦ cc (sym waits ∙ (joined_goes name actions ds es j left first goes).1)
    ]
waits_not_goes laws name actions link es ds waiting j left why waits (inr a) begins goes =
    let first = within_all laws.frames link ds es a.end begins a.comes in
    cc (sym waits ∙ (joined_goes name actions ds es j left first goes).1)
