-- A link whose bytes are added to a counter.
use Rattle.std.specs.Prelude.{◌≡◌, ℕ, Bool, true, false, List, length, Result, Ok, Err, ⊤}
use Rattle.std.specs.declared.alloc.AllocError.{AllocError}
use Rattle.std.specs.List.{list_any}
use Rattle.dp_hall.specs.declared.view.Entry.{Entry}
use Rattle.dp_hall.specs.declared.view.View.{View}
use Rattle.dp_hall.specs.Laws.{Continues}
use Rattle.dp_crew.specs.Runs.{LinkRun, Rules}

-- what came of a byte
abbrev pub Came : Type 0
Came = Result ℕ AllocError

-- memory ran out
abbrev pub ran_out : Came → Bool
ran_out (Ok sum) = false
ran_out (Err error) = true

module _ {M : Type 0} where
  abbrev pub any_ran_out : List (Entry ℕ Came M) → Bool
  any_ran_out acts = list_any (λ act. ran_out act.outcome) acts

  -- so many bytes were acted, and memory ran out exactly if that is so
  pub record Adds (v : View ℕ Came M) (count : ℕ) (memory : Bool) (w : View ℕ Came M)
      : Type 0 where
    pub acts : List (Entry ℕ Came M)
    pub goes : Continues v acts w
    pub count_is : count ≡ length acts
    pub memory_is : memory ≡ any_ran_out acts

-- what a report tells of a link: its worker, its number, and how many bytes it said
pub record Told (Report : Type 0) : Type 0 where
  pub worker : Report → ℕ
  pub link : Report → ℕ
  pub count : Report → ℕ

module _ {M Report R T : Type 0} where
  -- the report of this worker's link counts its acts
  pub record IsCounted (told : Told Report) (last : M) (who : ℕ)
      (run : LinkRun Report ℕ Came M R T) : Type 0 where
    pub worker : told.worker run.report ≡ who
    pub count : told.count run.report ≡ length run.acts

  abbrev pub count_rules : Told Report → Rules Report ℕ Came M R T
  count_rules told = record {
    begins = λ counter. ⊤;
    is_run = IsCounted told;
    number = told.link;
    ran_out = λ run. any_ran_out run.acts;
    is_fault = λ outcome. false;
  }
