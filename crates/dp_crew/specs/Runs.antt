-- What a worker does with the links of a wire, on a seat of a machine's hall.
use Rattle.std.specs.Prelude.{◌≡◌, ◌⊎◌, ℕ, ◌-◌, ◌^◌, ◌≤◌, Bool, true, false, List, [], ◌++◌, length}
use Rattle.std.specs.Prelude.{map, ◌+◌, Option, unwrap_or}
use Rattle.std.specs.List.{AllByRecursion, flat_map, list_any, range_with_len}
use mathlib.Core.List.{IsPrefix}
use Rattle.dp_io.specs.Faults.{Rose}
use Rattle.dp_wire.specs.Links.{Links, WhereKnown}
use Rattle.dp_hall.specs.declared.view.Entry.{Entry}
use Rattle.dp_hall.specs.declared.view.View.{View}
use Rattle.dp_hall.specs.Laws.{AllBackBut}
use Rattle.dp_hall.specs.Logs.{IsLegal, left_by}
use Rattle.dp_crew.specs.declared.service.Served.{Served}
use Rattle.dp_crew.specs.declared.worked.Worked.{Worked}

-- how many links are served at most, by the number in the words
abbrev pub most_links : Option ℕ → ℕ
most_links conns = unwrap_or conns (2 ^ 32 - 1)

-- a link that was served: its report, its acts, and the pair as it was handed out and as it was
-- handed back
pub record LinkRun (P E O M R T : Type 0) : Type 0 where
  pub report : P
  pub acts : List (Entry E O M)
  pub given : R × T
  pub back : R × T

-- What a service does with a link.
pub record Rules (P E O M R T : Type 0) : Type 1 where
  -- the hall may begin with this machine
  pub begins : M → Type 0
  -- the link went as the report of this worker tells, by the machine that was left
  pub is_run : M → ℕ → LinkRun P E O M R T → Type 0
  -- the number of the link among those of its wire
  pub number : P → ℕ
  -- memory ran out while the link was served
  pub ran_out : LinkRun P E O M R T → Bool
  -- an act with this outcome is a fault
  pub is_fault : O → Bool

module _ {P E O M R T : Type 0} where
  -- what is told of a link is so of each longer log
  abbrev pub GoesOn : Rules P E O M R T → (M → E → O → M → Type 0) → Type 0
  GoesOn rules may =
      (start : M) (log longer : List (Entry E O M)) (who : ℕ) (run : LinkRun P E O M R T)
      → rules.begins start → IsLegal may start longer → IsPrefix log longer
      → rules.is_run (left_by start log) who run → rules.is_run (left_by start longer) who run

  -- one of the acts is a fault
  abbrev pub has_fault : Rules P E O M R T → List (Entry E O M) → Bool
  has_fault rules acts = list_any (λ act. rules.is_fault act.outcome) acts

  -- the acts of the links, one link after another
  abbrev pub acts_of : List (LinkRun P E O M R T) → List (Entry E O M)
  acts_of runs = flat_map (λ run. run.acts) runs

  -- the links were the next ones to come, were handed out, and were handed back
  pub record HandsOver (runs : List (LinkRun P E O M R T)) (old new : Links R T) : Type 0 where
    pub came : old.to_come ≡ map (λ run. run.given) runs ++ new.to_come
    pub given : new.given ≡ old.given ++ map (λ run. run.given) runs
    pub back : new.back ≡ old.back ++ map (λ run. run.back) runs

-- in the end none is to come, if that is known
abbrev pub NoneToCome : {R T : Type 0} → Option (Links R T) → Option (Links R T) → Type 0
NoneToCome old new = WhereKnown old (λ a b. b.to_come ≡ []) new

-- the wire's count of faults rose if a worker says that its wire failed, and else it stays
abbrev pub FaultMatchesWire : Bool → ℕ → ℕ → Type 0
FaultMatchesWire true before now = Rose before now
FaultMatchesWire false before now = now ≡ before

module _ {E O M : Type 0} where
  -- The seat acted these acts. Seats that it made and that acted nothing were joined into it, and
  -- each that was out before is out or back.
  pub record WorksOn (v : View E O M) (acts : List (Entry E O M)) (w : View E O M) : Type 0 where
    pub name : w.name ≡ v.name
    pub mine : w.mine ≡ v.mine ++ acts
    pub seen : IsPrefix v.seen w.seen
    pub known : v.known ≤ w.known
    pub idle : List (List ℕ)
    pub olds : w.olds ≡ v.olds ++ map (λ n. (n, [])) idle
    pub made : w.made ≡ v.made ++ idle
    pub back : (out : List (List ℕ)) → AllBackBut out v → AllBackBut out w

-- the link of this number among those of its wire was served: its acts, its report, and what came
-- of it
pub record ServesLink {P E O M R T : Type 0} (rules : Rules P E O M R T) (last : M) (who link : ℕ)
    (v w : View E O M) (given : R × T) (served : Served R T P) : Type 0 where
  pub acts : List (Entry E O M)
  pub goes : WorksOn v acts w
  pub run : rules.is_run last who (record {
    report = served.report;
    acts = acts;
    given = given;
    back = (served.rx, served.tx);
  })
  pub number : rules.number served.report ≡ link
  pub memory : served.memory ≡ rules.ran_out (record {
    report = served.report;
    acts = acts;
    given = given;
    back = (served.rx, served.tx);
  })
  pub fault : served.fault ≡ has_fault rules acts

-- A worker has served these links, numbered from 0, one after another. Memory ran out only if it
-- says so, and one of its acts is a fault exactly if it says so.
pub record HasServed {P E O M R T : Type 0} (rules : Rules P E O M R T) (start : M) (who : ℕ)
    (v w : View E O M) (old new : Option (Links R T)) (before now : ℕ) (worked : Worked P)
    (runs : List (LinkRun P E O M R T)) : Type 0 where
  pub reports : worked.reports.items ≡ map (λ run. run.report) runs
  pub numbers : map (λ run. rules.number run.report) runs ≡ range_with_len 0 (length runs)
  pub each : AllByRecursion (rules.is_run (left_by start w.seen) who) runs
  pub goes : WorksOn v (acts_of runs) w
  pub links : WhereKnown old (HandsOver runs) new
  pub memory : list_any rules.ran_out runs ≡ true → worked.memory ≡ true
  pub fault : worked.fault ≡ has_fault rules (acts_of runs)
  pub wire : FaultMatchesWire worked.wire before now

-- What a worker did on all its links. They are as many as it may serve, or all that were to come,
-- unless its wire failed or memory ran out.
pub record Works {P E O M R T : Type 0} (rules : Rules P E O M R T) (start : M) (who most : ℕ)
    (v w : View E O M) (old new : Option (Links R T)) (before now : ℕ) (worked : Worked P)
    : Type 0 where
  pub runs : List (LinkRun P E O M R T)
  pub served : HasServed rules start who v w old new before now worked runs
  pub few : length runs ≤ most
  pub all : worked.wire ≡ false → worked.memory ≡ false
      → (length runs ≡ most) ⊎ NoneToCome old new

-- ---- parts of it

-- it has served n links, and its wire hasn't failed
pub record ServedSoFar {P E O M R T : Type 0} (rules : Rules P E O M R T) (start : M) (who n : ℕ)
    (v w : View E O M) (old new : Option (Links R T)) (before now : ℕ) (worked : Worked P)
    : Type 0 where
  pub runs : List (LinkRun P E O M R T)
  pub served : HasServed rules start who v w old new before now worked runs
  pub count : length runs ≡ n
  pub going : worked.wire ≡ false

-- by whether it goes on: one more, or none, and then it has a cause to end
abbrev pub ServesNext : {P E O M R T : Type 0} → Bool → Rules P E O M R T → M → ℕ → ℕ → View E O M
    → View E O M → Option (Links R T) → Option (Links R T) → ℕ → ℕ → Worked P → Type 0
ServesNext true rules start who n v w old new before now worked =
    ServedSoFar rules start who (n + 1) v w old new before now worked
ServesNext {P} {E} {O} {M} {R} {T} false rules start who n v w old new before now worked =
    (runs : List (LinkRun P E O M R T))
    × HasServed rules start who v w old new before now worked runs
    × (length runs ≡ n)
    × (worked.wire ≡ false → worked.memory ≡ false → NoneToCome old new)
