-- A link is served by being greeted and by talking.
use Rattle.std.proofs.Common.{◌≡◌, ℕ, ◌||◌, Bool, true, false, List, [], ◌∷◌, ◌++◌}
use Rattle.std.proofs.Common.{Option, None, Some, Ok, Err, refl, sym, ap, subst, ◌∙◌, inl}
use Rattle.std.specs.Io.KnownBytes.{IsAtEnd}
use mathlib.Core.List.{IsPrefix}
use Rattle.dp_split.specs.Stream.{Stream}
use Rattle.dp_hall.specs.Calls.{SplitsInto, JoinsInto}
use Rattle.dp_hall.specs.Laws.{AllBackBut, Continues, Rejoins}
use Rattle.dp_hall.specs.Logs.{left_by}
use Rattle.dp_epochs.specs.State.{State}
use Rattle.dp_epochs.specs.Past.{Past, Step, state_of}
use Rattle.dp_epochs.specs.Laws.{ShutBefore}
use Rattle.dp_session_laws.specs.Growing.{GrowsInto}
use Rattle.dp_session_laws.specs.Logs.{IsSessionLog}
use Rattle.dp_session_laws.specs.Feeds.{Segment, IsFeed, IsGone}
use Rattle.dp_epochs.specs.declared.event.Event.TheVariants.{Close}
use Rattle.dp_link.specs.declared.ends.Greeting.{Greeting}
use Rattle.dp_link.specs.declared.ends.GreetEnd.{GreetEnd}
use Rattle.dp_link.specs.declared.ends.GreetEnd.TheVariants as greet
use Rattle.dp_link.specs.declared.ends.UpEnd.{UpEnd}
use Rattle.dp_link.specs.declared.ends.UpEnd.TheVariants as up
use Rattle.dp_link.specs.declared.ends.DownEnd.{DownEnd}
use Rattle.dp_link.specs.declared.ends.DownEnd.TheVariants as down
use Rattle.dp_link.specs.declared.up.UpRun.{UpRun}
use Rattle.dp_link.specs.Acts.{SeatView, ActsOnce, last_outcome}
use Rattle.dp_session_laws.specs.Logs.{ReplyOrMemory, LogEntry}
use Rattle.dp_link.specs.Answers.{opened_as}
use Rattle.dp_link.specs.Hello.{Greets, FaultMatchesHello}
use Rattle.dp_link.specs.Saying.{AreSays, FaultMatchesUp, counted}
use Rattle.dp_link.specs.Sending.{Sends, FaultMatchesDown}
use Rattle.dp_link_run.specs.declared.link.LinkEnd.{LinkEnd}
use Rattle.dp_serve.specs.declared.report.LinkReport.{LinkReport}
use Rattle.dp_link_run.specs.Links.{LinkState, LinkBy, IsServed, is_up_memory}
use Rattle.dp_serve.specs.Links.{IsLink}
use Rattle.dp_link_run.specs.Links.{is_down_memory, is_failed, is_store_fault, has_failed}
use Rattle.dp_link_run.specs.Links.{has_store_fault}
use Rattle.dp_link_run.specs.Talking.{WasServed, Talks, Pumps, is_store_end, is_last_failed}
use Rattle.dp_link_run.specs.Talking.{is_last_store_fault}
use Rattle.dp_crew.specs.Runs.{GoesOn, ServesLink}
use Rattle.dp_serve.specs.Works.{session_rules}
use Rattle.dp_link.proofs.PageLemmas.{appends-none, grows-all}
use Rattle.std.proofs.KnownBytes.{Consumes-nil}
use Rattle.dp_link_run.proofs.FlagLemmas.{greet-flags, says-flags}
use Rattle.dp_crew.proofs.SeatLemmas.{works-both, works-calls, works-pair}
use Rattle.dp_link_run.proofs.LinkLemmas.{FeedLaws, sends-later}

-- the link as its report tells, of a longer log
pub link-later : FeedLaws → (start : Past) (log longer : List LogEntry) (report : LinkReport)
    (acts : List LogEntry) (before after : LinkState) → ShutBefore start
    → IsSessionLog start longer → IsPrefix log longer
    → IsLink (left_by start log) report acts before after
    → IsLink (left_by start longer) report acts before after
link-later laws start log longer report acts before after shut legal begins h =
    by_conn report.conn h
  where
    by_conn : (o : Option ℕ)
        → LinkBy (left_by start log) o report.up_end report.down_end acts before after
        → LinkBy (left_by start longer) o report.up_end report.down_end acts before after
    by_conn None k = k
    by_conn (Some conn) k = record {
      name = k.name;
      first = k.first;
      stream = k.stream;
      unread = k.unread;
      read_is = k.read_is;
      hello = k.hello;
      place = k.place;
      opening = k.opening;
      greeting = k.greeting;
      conn_is = k.conn_is;
      opened = k.opened;
      says = k.says;
      close = k.close;
      are = k.are;
      acts_are = k.acts_are;
      taken = k.taken;
      welcomed = k.welcomed;
      sends =
          sends-later laws start log longer conn k.taken after.held report.down_end shut legal
          begins k.sends;
      reads = k.reads;
      writes = k.writes;
      at_end = k.at_end;
    }

module _ {R T : Type 0} (see : R × T → LinkState) where
  -- what is told of a link is so of each longer log
  pub session-goes-on : FeedLaws → GoesOn (session_rules see) Step
  session-goes-on laws start log longer who run shut legal begins h = record {
    worker = h.worker;
    link =
        link-later laws start log longer run.report run.acts (see run.given) (see run.back) shut
        legal begins h.link;
  }

  -- a link that was served, with its report
  pub session-serves : (past : Past) (who link : ℕ) (v w : SeatView) (end : LinkEnd)
      (given : R × T) (rx : R) (tx : T) → WasServed past v w end (see given) (see (rx, tx))
      → ServesLink (session_rules see) past who link v w given (record {
        rx = rx;
        tx = tx;
        report = record {
          worker = who;
          link = link;
          conn = end.conn;
          up_end = end.up;
          down_end = end.down;
        };
        memory = end.memory;
        fault = end.store;
      })
  session-serves past who link v w end given rx tx h = record {
    acts = h.acts;
    goes = h.goes;
    run = record { worker = refl; link = h.link };
    number = refl;
    memory = h.memory;
    fault = h.store;
  }
