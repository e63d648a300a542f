-- The jobs of workers: as they are made, and as they ran.
use Rattle.std.proofs.Common.{◌≡◌, ℕ, suc, ◌+◌, ◌-◌, ◌<◌, List, [], ◌∷◌, ◌++◌, length, reverse}
use Rattle.std.proofs.Common.{get_or, All, IfSome, Option, None, Some, refl, sym, ap, subst, ◌∙◌}
use Rattle.std.proofs.Common.{arith, subst₂}
use mathlib.Core.List.{reverse_aux}
use Rattle.std.proofs.lemmas.List.{length-reverse, get_or-reverse}
use Rattle.std.proofs.lemmas.List.Elements.{All-cons, All-nil}
use Rattle.dp_hall.specs.declared.view.View.{View}
use Rattle.dp_hall.specs.Calls.{HallValue, SeatValue, IsOf}
use Rattle.dp_crew.specs.declared.worked.Worked.{Worked}
use Rattle.dp_crew.specs.Runs.{Rules}
use Rattle.dp_crew.specs.Parts.{Sight}
use Rattle.dp_crew.specs.Jobs.{JobValue, MadeSeat, MadeJobs, WorksOnSeat, RanJob, RanJobs}

-- ---- making

-- the last wires were taken, and their jobs were made
pub record MadeSoFar {W P E O M : Type 0} (hall : HallValue M) (v w : View E O M)
    (wires left : List W)
    (jobs : List (JobValue W P E O M)) : Type 0 where
  pub done : List W
  pub are : wires ≡ left ++ done
  pub made : MadeJobs hall v w (length left) done (reverse jobs)

-- ---- running

module _ {W P E O M R T : Type 0} (rules : Rules P E O M R T) (see : Sight W R T)
    (hall : HallValue M) (most : ℕ) where
  -- each job ran, if the job at each place did
  pub ran-each : (olds news : List (JobValue W P E O M)) → length news ≡ length olds
      → ((i : ℕ) (d : JobValue W P E O M) → i < length olds
      → RanJob rules see hall most (get_or olds i d) (get_or news i d))
      → RanJobs rules see hall most olds news
  ran-each [] [] same each = tt
  ran-each [] (new ∷ news) same each = absurd (omega arith)
  ran-each (old ∷ olds) [] same each = absurd (omega arith)
  ran-each (old ∷ olds) (new ∷ news) same each = (
    each 0 old (omega arith),
    ran-each olds news (omega arith) (λ i d inside. each (suc i) d (omega (arith, inside))),
  )

  pub ran-at : (a b x y : JobValue W P E O M) → a ≡ x → b ≡ y → RanJob rules see hall most a b
      → RanJob rules see hall most x y
  ran-at a b x y before after h = subst₂ (RanJob rules see hall most) before after h

  pub ran-same : (olds news xs ys : List (JobValue W P E O M)) → olds ≡ xs → news ≡ ys
      → RanJobs rules see hall most olds news → RanJobs rules see hall most xs ys
  ran-same olds news xs ys before after h = subst₂ (RanJobs rules see hall most) before after h

  ran-onto : (olds news us bs : List (JobValue W P E O M)) → RanJobs rules see hall most olds news
      → RanJobs rules see hall most us bs
      → RanJobs rules see hall most (reverse_aux olds us) (reverse_aux news bs)
  ran-onto [] [] us bs h rest = rest
  ran-onto [] (new ∷ news) us bs h rest = absurd h
  ran-onto (old ∷ olds) [] us bs h rest = absurd h
  ran-onto (old ∷ olds) (new ∷ news) us bs h rest =
      ran-onto olds news (old ∷ us) (new ∷ bs) h.1 (h.0, rest)

  pub ran-reverse : (olds news : List (JobValue W P E O M)) → RanJobs rules see hall most olds news
      → RanJobs rules see hall most (reverse olds) (reverse news)
  ran-reverse olds news h = ran-onto olds news [] [] h tt

  ran-seat : (old new : JobValue W P E O M) → RanJob rules see hall most old new
      → IfSome new.seat (IsOf hall)
  ran-seat old new h = by_seat old.seat new.seat h.works
    where
      by_seat : (before after : Option (SeatValue E O M))
          → WorksOnSeat rules see hall most old new before after → IfSome after (IsOf hall)
      by_seat None None r = tt
      by_seat None (Some after) r = absurd (cc (r.0))
      by_seat (Some given) None r = absurd r
      by_seat (Some given) (Some after) r = r.0

  -- the seats stay the hall's
  pub ran-of : (olds news : List (JobValue W P E O M)) → RanJobs rules see hall most olds news
      → All (λ job. IfSome job.seat (IsOf hall)) news
  ran-of [] [] h = All-nil (λ job. IfSome job.seat (IsOf hall))
  ran-of [] (new ∷ news) h = absurd h
  ran-of (old ∷ olds) [] h = absurd h
  ran-of (old ∷ olds) (new ∷ news) h =
      All-cons (λ job. IfSome job.seat (IsOf hall)) new news (ran-seat old new h.0)
      (ran-of olds news h.1)

-- ---- of the jobs that were made

made-seat : {P E O M : Type 0} (hall : HallValue M) (v w : View E O M) (worked : Worked P)
    (seat : Option (SeatValue E O M))
    → MadeSeat hall v w seat worked → IfSome seat (IsOf hall)
made-seat hall v w worked None h = tt
made-seat hall v w worked (Some seat) h = h.0

module _ {W P E O M : Type 0} (hall : HallValue M) where
  made-each : (v w : View E O M) (who : ℕ) (wires : List W) (jobs : List (JobValue W P E O M))
      → MadeJobs hall v w who wires jobs → All (λ job. IfSome job.seat (IsOf hall)) jobs
  made-each v w who [] [] h = All-nil (λ job. IfSome job.seat (IsOf hall))
  made-each v w who [] (job ∷ jobs) h = absurd h
  made-each v w who (wire ∷ wires) [] h = absurd h
  made-each v w who (wire ∷ wires) (job ∷ jobs) h =
      All-cons (λ j. IfSome j.seat (IsOf hall)) job jobs
      (made-seat hall h.0 w job.worked job.seat h.2.seat) (made-each v h.0 (who + 1) wires jobs h.1)

  -- the seats are the hall's
  pub made-of : (v w : View E O M) (wires : List W) (jobs : List (JobValue W P E O M))
      → MadeJobs hall v w 0 wires (reverse jobs) → All (λ job. IfSome job.seat (IsOf hall)) jobs
  made-of v w wires jobs h = λ k d inside.
      let all = made-each v w 0 wires (reverse jobs) h in
      let back : k < length (reverse jobs) = omega (arith, inside, length-reverse jobs) in
      let place : length jobs - 1 - k < length (reverse jobs) = omega (
        arith,
        inside,
        length-reverse jobs,
      ) in
      subst (λ (job : JobValue W P E O M). IfSome job.seat (IsOf hall))
      (get_or-reverse jobs (length jobs - 1 - k) d (omega (arith, inside))
      ∙ ap (λ n. get_or jobs n d) (omega (arith, inside)))
      (all (length jobs - 1 - k) d place)

  made-count : (v w : View E O M) (who : ℕ) (wires : List W) (jobs : List (JobValue W P E O M))
      → MadeJobs hall v w who wires jobs → length jobs ≡ length wires
  made-count v w who [] [] h = refl
  made-count v w who [] (job ∷ jobs) h = absurd h
  made-count v w who (wire ∷ wires) [] h = absurd h
  made-count v w who (wire ∷ wires) (job ∷ jobs) h =
      ap suc (made-count v h.0 (who + 1) wires jobs h.1)

  -- as many as there are wires
  pub made-length : (v w : View E O M) (wires : List W) (jobs : List (JobValue W P E O M))
      → MadeJobs hall v w 0 wires (reverse jobs) → length jobs ≡ length wires
  made-length v w wires jobs h =
      sym (length-reverse jobs) ∙ made-count v w 0 wires (reverse jobs) h
