-- What is gathered from the jobs of workers before the hall is closed.
use Rattle.std.specs.Prelude.{◌≡◌, ◌⊎◌, ℕ, ◌≤◌, ◌*◌, ◌-◌, ◌^◌, true, List, [], length, map, Option}
use Rattle.std.specs.Prelude.{None, Some, Vec}
use Rattle.std.specs.List.{flat_map, list_any}
use Rattle.dp_hall.specs.declared.view.Entry.{Entry}
use Rattle.dp_hall.specs.declared.view.View.{View}
use Rattle.dp_hall.specs.Calls.{SeatValue, JoinsInto}
use Rattle.dp_hall.specs.Laws.{AllBackBut}
use Rattle.dp_hall.specs.Logs.{left_by}
use Rattle.dp_hall.specs.Names.{IsIn, AreDistinct}
use Rattle.dp_crew.specs.declared.flags.Flags.{Flags}
use Rattle.dp_crew.specs.Runs.{Rules, acts_of, has_fault}
use Rattle.dp_crew.specs.Parts.{Sight, Part, Fits, HasFailed, EachFrom, names_of, reports_of}

-- the reports of these lists, one list after another
abbrev pub all_reports : {P Z : Type 0} → List (Vec P Z) → List P
all_reports lists = flat_map (λ list. list.items) lists

-- the seat of this name, if there is one, was joined with these acts
abbrev pub HasJoined : {E O M : Type 0} → View E O M → Option (List ℕ) → List (Entry E O M) → Type 0
HasJoined v None acts = acts ≡ []
HasJoined v (Some name) acts = IsIn (name, acts) v.olds

module _ {W P E O M R T : Type 0} where
  -- the part of a worker whose seat was joined
  abbrev pub IsJoined : Rules P E O M R T → Sight W R T → M → View E O M → ℕ → Flags → ℕ
      → Part W P E O M R T → Type 0
  IsJoined rules see start v most flags who part =
      Fits rules see (left_by start v.seen) most flags.memory flags.wire who part
      × HasJoined v part.name (acts_of part.runs)

-- The seats of jobs were joined into the one that began, which acted nothing. Those of these names
-- are still out.
pub record Gathers {W P E O M R T : Type 0} (rules : Rules P E O M R T) (see : Sight W R T)
    (start : M) (most : ℕ) (v : View E O M) (out : List (List ℕ)) (old new : List W)
    (reports : List P) (flags : Flags) : Type 0 where
  pub parts : List (Part W P E O M R T)
  pub before : map (λ part. part.wire) parts ≡ old
  pub after : map (λ part. part.now) parts ≡ new
  pub each : EachFrom (IsJoined rules see start v most flags) 0 parts
  pub reports_are : reports ≡ reports_of parts
  pub few : length reports ≤ length parts * (2 ^ 32 - 1)
  pub others : (o : List ℕ × List (Entry E O M)) → IsIn o v.olds
      → IsIn o.0 (names_of parts) ⊎ (o.1 ≡ [])
  pub names : AreDistinct (names_of parts)
  pub name : v.name ≡ []
  pub mine : v.mine ≡ []
  pub back : AllBackBut out v
  pub fault : flags.fault ≡ list_any (λ part. has_fault rules (acts_of part.runs)) parts
  pub wire : flags.wire ≡ true
      → (part : Part W P E O M R T) × IsIn part parts × HasFailed see flags.wire part

-- the seat of a job, if it has one, was joined into another
abbrev pub JoinsSeat : {E O M : Type 0} → View E O M → Option (SeatValue E O M) → View E O M
    → Type 0
JoinsSeat v None w = w ≡ v
JoinsSeat v (Some seat) w = JoinsInto v seat.view w

-- a seat that has seen nothing and acted nothing, and from which none was split
pub record IsFirst {E O M : Type 0} (v : View E O M) : Type 0 where
  pub name : v.name ≡ []
  pub mine : v.mine ≡ []
  pub olds : v.olds ≡ []
  pub back : AllBackBut [] v
