-- What is told of the links that a session's server serves.
use Rattle.std.specs.Prelude.{◌≡◌, ℕ, Bool}
use Rattle.dp_epochs.specs.Past.{Past}
use Rattle.dp_epochs.specs.Laws.{ShutBefore}
use Rattle.dp_epochs.specs.declared.event.Event.{Event}
use Rattle.dp_session_laws.specs.Logs.{ReplyOrMemory}
use Rattle.dp_crew.specs.Runs as crew
use Rattle.dp_serve.specs.declared.report.LinkReport.{LinkReport}
use Rattle.dp_link_run.specs.Links.{LinkState, ran_out, is_store_fault}
use Rattle.dp_serve.specs.Links.{IsLink}

-- a link that was served: its report, its acts, and the pair as it was handed out and as it was
-- handed back
abbrev pub LinkRun : Type 0 → Type 0 → Type 0
LinkRun R T = crew.LinkRun LinkReport Event ReplyOrMemory Past R T

module _ {R T : Type 0} where
  -- the link went as the report of this worker tells
  pub record IsRun (see : R × T → LinkState) (past : Past) (who : ℕ) (run : LinkRun R T)
      : Type 0 where
    pub worker : run.report.worker ≡ who
    pub link : IsLink past run.report run.acts (see run.given) (see run.back)

  -- memory ran out while the link was served
  abbrev pub run_ran_out : LinkRun R T → Bool
  run_ran_out run = ran_out run.report.up_end run.report.down_end run.acts

  -- what is told of links, if contracts see this of each
  abbrev pub session_rules : (R × T → LinkState)
      → crew.Rules LinkReport Event ReplyOrMemory Past R T
  session_rules see = record {
    begins = ShutBefore;
    is_run = IsRun see;
    number = λ report. report.link;
    ran_out = run_ran_out;
    is_fault = is_store_fault;
  }
