-- The jobs of workers: how they are made, and what becomes of them.
use Rattle.std.specs.Prelude.{◌≡◌, ℕ, ◌+◌, false, true, List, [], ◌∷◌, Option, None, Some, ⊤}
use Rattle.dp_hall.specs.declared.view.View.{View}
use Rattle.dp_hall.specs.Calls.{HallValue, SeatValue, IsOf, SplitsInto}
use Rattle.dp_crew.specs.declared.worked.Worked.{Worked}
use Rattle.dp_crew.specs.Runs.{Rules, Works}
use Rattle.dp_crew.specs.Parts.{Sight}

-- what contracts see of a job
pub record JobValue (W P E O M : Type 0) : Type 0 where
  pub who : ℕ
  pub wire : W
  pub seat : Option (SeatValue E O M)
  pub worked : Worked P

module _ {P E O M : Type 0} where
  -- a seat for the job was split off, or memory ran out
  abbrev pub MadeSeat : HallValue M → View E O M → View E O M → Option (SeatValue E O M) → Worked P
      → Type 0
  MadeSeat hall v w None worked = (w ≡ v) × (worked.memory ≡ true)
  MadeSeat hall v w (Some seat) worked =
      IsOf hall seat × SplitsInto v w seat.view × (worked.memory ≡ false)

-- the job of the wire was made
pub record MadeJob {W P E O M : Type 0} (hall : HallValue M) (v w : View E O M) (wire : W) (who : ℕ)
    (job : JobValue W P E O M) : Type 0 where
  pub who_is : job.who ≡ who
  pub wire_is : job.wire ≡ wire
  pub seat : MadeSeat hall v w job.seat job.worked
  pub reports : job.worked.reports.items ≡ []
  pub fault : job.worked.fault ≡ false
  pub wires : job.worked.wire ≡ false

module _ {W P E O M : Type 0} where
  -- the jobs of these wires, numbered from this number on, were made, the last one first
  abbrev pub MadeJobs : HallValue M → View E O M → View E O M → ℕ → List W
      → List (JobValue W P E O M) → Type 0
  MadeJobs hall v w who [] [] = w ≡ v
  MadeJobs hall v w who [] (job ∷ jobs) = ⊥
  MadeJobs hall v w who (wire ∷ wires) [] = ⊥
  MadeJobs hall v w who (wire ∷ wires) (job ∷ jobs) =
      (u : View E O M) × MadeJobs hall v u (who + 1) wires jobs × MadeJob hall u w wire who job

module _ {W P E O M R T : Type 0} where
  -- what becomes of the seat and of the wire of a job
  abbrev pub WorksOnSeat : Rules P E O M R T → Sight W R T → HallValue M → ℕ → JobValue W P E O M
      → JobValue W P E O M → Option (SeatValue E O M) → Option (SeatValue E O M) → Type 0
  WorksOnSeat rules see hall most old new None seat =
      (seat ≡ None) × (new.wire ≡ old.wire) × (new.worked ≡ old.worked)
  WorksOnSeat rules see hall most old new (Some before) None = ⊥
  WorksOnSeat rules see hall most old new (Some before) (Some after) =
      IsOf hall after
      × Works rules hall.start old.who most before.view after.view (see.links old.wire)
      (see.links new.wire) (see.faults old.wire) (see.faults new.wire) new.worked

-- the job's worker worked, if it has a seat
pub record RanJob {W P E O M R T : Type 0} (rules : Rules P E O M R T) (see : Sight W R T)
    (hall : HallValue M) (most : ℕ) (old new : JobValue W P E O M) : Type 0 where
  pub who : new.who ≡ old.who
  pub works : WorksOnSeat rules see hall most old new old.seat new.seat

module _ {W P E O M R T : Type 0} where
  -- each job ran
  abbrev pub RanJobs : Rules P E O M R T → Sight W R T → HallValue M → ℕ
      → List (JobValue W P E O M) → List (JobValue W P E O M) → Type 0
  RanJobs rules see hall most [] [] = ⊤
  RanJobs rules see hall most [] (job ∷ jobs) = ⊥
  RanJobs rules see hall most (job ∷ jobs) [] = ⊥
  RanJobs rules see hall most (old ∷ olds) (new ∷ news) =
      RanJob rules see hall most old new × RanJobs rules see hall most olds news
