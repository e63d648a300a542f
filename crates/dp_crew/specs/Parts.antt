-- What the workers of a hall do, wire by wire.
use Rattle.std.specs.Prelude.{◌≡◌, ◌⊎◌, ℕ, ◌+◌, ◌≤◌, Bool, true, List, [], ◌∷◌, length, map}
use Rattle.std.specs.Prelude.{Option, None, Some, ⊤, option_to_list}
use Rattle.std.specs.List.{AllByRecursion, flat_map, list_any, range_with_len}
use Rattle.dp_io.specs.Faults.{Rose}
use Rattle.dp_wire.specs.Links.{Links, WhereKnown}
use Rattle.dp_hall.specs.declared.view.Entry.{Entry}
use Rattle.dp_hall.specs.Logs.{IsLegal, left_by, entries_by}
use Rattle.dp_hall.specs.Names.{IsIn, AreDistinct}
use Rattle.dp_crew.specs.declared.flags.Flags.{Flags}
use Rattle.dp_crew.specs.Runs.{Rules, LinkRun, HandsOver, NoneToCome, acts_of, has_fault}

-- what contracts see of a wire: its links, if they are known, and how often it has failed
pub record Sight (W R T : Type 0) : Type 0 where
  pub links : W → Option (Links R T)
  pub faults : W → ℕ

-- A worker's part: its wire as it was and as it is, the name of its seat, and the links that it
-- served. It has no seat if none could be made for it.
pub record Part (W P E O M R T : Type 0) : Type 0 where
  pub wire : W
  pub now : W
  pub name : Option (List ℕ)
  pub runs : List (LinkRun P E O M R T)

-- the acts of a log by the seat of this name, if there is one
abbrev pub acts_by : {E O M : Type 0} → Option (List ℕ) → List (Entry E O M) → List (Entry E O M)
acts_by None log = []
acts_by (Some name) log = entries_by name log

module _ {W P E O M R T : Type 0} where
  -- the wire failed in this part, and it was noted
  abbrev pub HasFailed : Sight W R T → Bool → Part W P E O M R T → Type 0
  HasFailed see noted part =
      Rose (see.faults part.wire) (see.faults part.now) × (noted ≡ true)

  -- The part of the worker of this number, by the machine that was left. Each link went as its
  -- report tells. It served `most` links or all that were to come, unless memory ran out or its
  -- wire failed.
  pub record Fits (rules : Rules P E O M R T) (see : Sight W R T) (last : M) (most : ℕ)
      (memory wire : Bool) (who : ℕ) (part : Part W P E O M R T) : Type 0 where
    pub each : AllByRecursion (rules.is_run last who) part.runs
    pub numbers :
        map (λ run. rules.number run.report) part.runs ≡ range_with_len 0 (length part.runs)
    pub links : WhereKnown (see.links part.wire) (HandsOver part.runs) (see.links part.now)
    pub few : length part.runs ≤ most
    pub all :
        ((length part.runs ≡ most) ⊎ NoneToCome (see.links part.wire) (see.links part.now))
        ⊎ (memory ≡ true)
        ⊎ HasFailed see wire part
    pub faults : (see.faults part.now ≡ see.faults part.wire) ⊎ HasFailed see wire part
    pub ran_out : list_any rules.ran_out part.runs ≡ true → memory ≡ true

  -- its part fits, and the acts of its seat in the log are those of its links, in order and no
  -- others
  abbrev pub IsPart : Rules P E O M R T → Sight W R T → M → List (Entry E O M) → ℕ → Bool → Bool
      → ℕ → Part W P E O M R T → Type 0
  IsPart rules see last log most memory wire who part =
      Fits rules see last most memory wire who part
      × (acts_by part.name log ≡ acts_of part.runs)

  -- so is each of the parts, numbered from this number on
  abbrev pub EachFrom : (ℕ → Part W P E O M R T → Type 0) → ℕ → List (Part W P E O M R T) → Type 0
  EachFrom is who [] = ⊤
  EachFrom is who (part ∷ parts) = is who part × EachFrom is (who + 1) parts

  -- the reports of the parts, one part after another
  abbrev pub reports_of : List (Part W P E O M R T) → List P
  reports_of parts = flat_map (λ part. map (λ run. run.report) part.runs) parts

  -- the names of the seats
  abbrev pub names_of : List (Part W P E O M R T) → List (List ℕ)
  names_of parts = flat_map (λ part. option_to_list part.name) parts

-- Workers have served the links of these wires: one legal log of the machine, in which each act is
-- of one worker's part. The flags are raised only with their causes.
pub record ServesAll {W P E O M R T : Type 0} (rules : Rules P E O M R T)
    (may : M → E → O → M → Type 0) (see : Sight W R T) (start last : M) (most : ℕ)
    (old new : List W) (reports : List P) (flags : Flags) : Type 0 where
  pub log : List (Entry E O M)
  pub legal : IsLegal may start log
  pub left : last ≡ left_by start log
  pub parts : List (Part W P E O M R T)
  pub before : map (λ part. part.wire) parts ≡ old
  pub after : map (λ part. part.now) parts ≡ new
  pub each :
      EachFrom (IsPart rules see (left_by start log) log most flags.memory flags.wire) 0 parts
  pub others : (act : Entry E O M) → IsIn act log → IsIn act.by (names_of parts)
  pub names : AreDistinct (names_of parts)
  pub reports_are : reports ≡ reports_of parts
  pub fault : flags.fault ≡ list_any (λ part. has_fault rules (acts_of part.runs)) parts
  pub wire : flags.wire ≡ true
      → (part : Part W P E O M R T) × IsIn part parts × HasFailed see flags.wire part
