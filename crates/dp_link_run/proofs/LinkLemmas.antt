-- A link is served by being greeted and by talking.
use Rattle.std.proofs.Common.{◌≡◌, ℕ, ◌||◌, Bool, true, false, List, [], ◌∷◌, ◌++◌}
use Rattle.std.proofs.Common.{Option, None, Some, Ok, Err, refl, sym, ap, subst, ◌∙◌, inl}
use Rattle.std.specs.Io.KnownBytes.{IsAtEnd}
use mathlib.Core.List.{IsPrefix}
use Rattle.dp_split.specs.Stream.{Stream}
use Rattle.dp_hall.specs.Calls.{SplitsInto, JoinsInto}
use Rattle.dp_hall.specs.Laws.{AllBackBut, Continues, Rejoins}
use Rattle.dp_hall.specs.Logs.{left_by}
use Rattle.dp_epochs.specs.State.{State}
use Rattle.dp_epochs.specs.Past.{Past, Step, state_of}
use Rattle.dp_epochs.specs.Laws.{ShutBefore}
use Rattle.dp_session_laws.specs.Growing.{GrowsInto}
use Rattle.dp_session_laws.specs.Logs.{IsSessionLog}
use Rattle.dp_session_laws.specs.Feeds.{Segment, IsFeed, IsGone}
use Rattle.dp_epochs.specs.declared.event.Event.TheVariants.{Close}
use Rattle.dp_link.specs.declared.ends.Greeting.{Greeting}
use Rattle.dp_link.specs.declared.ends.GreetEnd.{GreetEnd}
use Rattle.dp_link.specs.declared.ends.GreetEnd.TheVariants as greet
use Rattle.dp_link.specs.declared.ends.UpEnd.{UpEnd}
use Rattle.dp_link.specs.declared.ends.UpEnd.TheVariants as up
use Rattle.dp_link.specs.declared.ends.DownEnd.{DownEnd}
use Rattle.dp_link.specs.declared.ends.DownEnd.TheVariants as down
use Rattle.dp_link.specs.declared.up.UpRun.{UpRun}
use Rattle.dp_link.specs.Acts.{SeatView, ActsOnce, last_outcome}
use Rattle.dp_session_laws.specs.Logs.{ReplyOrMemory, LogEntry}
use Rattle.dp_link.specs.Answers.{opened_as}
use Rattle.dp_link.specs.Hello.{Greets, FaultMatchesHello}
use Rattle.dp_link.specs.Saying.{AreSays, FaultMatchesUp, counted}
use Rattle.dp_link.specs.Sending.{Sends, FaultMatchesDown}
use Rattle.dp_link_run.specs.declared.link.LinkEnd.{LinkEnd}
use Rattle.dp_link_run.specs.Links.{LinkState, LinkBy, IsServed, is_up_memory}
use Rattle.dp_link_run.specs.Links.{is_down_memory, is_failed, is_store_fault, has_failed}
use Rattle.dp_link_run.specs.Links.{has_store_fault}
use Rattle.dp_link_run.specs.Talking.{WasServed, Talks, Pumps, is_store_end, is_last_failed}
use Rattle.dp_link_run.specs.Talking.{is_last_store_fault}
use Rattle.dp_crew.specs.Runs.{GoesOn, ServesLink}
use Rattle.dp_link.proofs.PageLemmas.{appends-none, grows-all}
use Rattle.std.proofs.KnownBytes.{Consumes-nil}
use Rattle.dp_link_run.proofs.FlagLemmas.{greet-flags, says-flags}
use Rattle.dp_crew.proofs.SeatLemmas.{works-both, works-calls, works-pair}

-- what the crate below says of logs and feeds
pub record FeedLaws : Type 0 where
  pub grows : (past : Past) (log longer : List LogEntry) → ShutBefore past
      → IsSessionLog past longer → IsPrefix log longer
      → GrowsInto (state_of (left_by past log)) (state_of (left_by past longer))
  pub feeds : (s t : State) (conn : ℕ) (segments : List Segment)
      → GrowsInto s t → IsFeed s conn segments → IsFeed t conn segments
  pub gone : (past : Past) (log longer : List LogEntry) (conn : ℕ) (earlier : List Segment)
      (last : Segment) → ShutBefore past → IsSessionLog past longer → IsPrefix log longer
      → IsFeed (state_of (left_by past log)) conn (earlier ++ last ∷ [])
      → IsGone (left_by past log) conn last → IsGone (left_by past longer) conn last

-- what was sent of one session is sent of a later one
pub sends-later : FeedLaws → (start : Past) (log longer : List LogEntry) (conn : ℕ)
    (held taken : Option (List ℕ)) (end : DownEnd) → ShutBefore start
    → IsSessionLog start longer → IsPrefix log longer
    → Sends (left_by start log) conn held taken end
    → Sends (left_by start longer) conn held taken end
sends-later laws start log longer conn held taken end shut legal begins s = record {
  earlier = s.earlier;
  last = s.last;
  feed =
      laws.feeds (state_of (left_by start log)) (state_of (left_by start longer)) conn
      (s.earlier ++ s.last ∷ []) (laws.grows start log longer shut legal begins) s.feed;
  took = s.took;
  gone = λ e.
      laws.gone start log longer conn s.earlier s.last shut legal begins s.feed (s.gone e);
}

-- ---- greeted

-- the counts after a greeting are those before it
spoken : (end : UpEnd) (before now after : ℕ) → now ≡ before → FaultMatchesUp end now after
    → FaultMatchesUp end before after
spoken end before now after same h = subst (λ n. FaultMatchesUp end n after) same h

sent : (end : DownEnd) (before now after : ℕ) → now ≡ before → FaultMatchesDown end now after
    → FaultMatchesDown end before after
sent end before now after same h = subst (λ n. FaultMatchesDown end n after) same h

-- the Open of a greeting raises no flag
opened-flags : (acts says : List LogEntry) (opening : LogEntry) (greeting : Greeting)
    → acts ≡ opening ∷ [] → opening.outcome ≡ Ok (opened_as greeting)
    → (has_failed (acts ++ says) ≡ has_failed says)
    × (has_store_fault (acts ++ says) ≡ has_store_fault says)
opened-flags acts says opening greeting is outcome = (
  ap (λ l. has_failed (l ++ says)) is ∙ ap (λ o. is_failed o || has_failed says) outcome,
  ap (λ l. has_store_fault (l ++ says)) is
      ∙ ap (λ o. is_store_fault o || has_store_fault says) outcome,
)

-- A painter was greeted and talked.
pub served-link : (past : Past) (u v w : SeatView) (before mid after : LinkState)
    (stream : Stream) (greeting : Greeting) (end : LinkEnd)
    → ((out : List (List ℕ)) → AllBackBut out u → AllBackBut out v)
    → Greets u v before.left mid.left before.held mid.held stream (Ok greeting)
    → FaultMatchesHello {T = Greeting} (Ok greeting) before.read_faults mid.read_faults
    before.write_faults mid.write_faults
    → Talks past v w greeting stream end mid after
    → WasServed past u w end before after
served-link past u v w before mid after stream greeting end back h fault t =
    let opens = h.by.3.0 in
    let flags = opened-flags h.acts t.says opens.0 greeting opens.1 opens.2.outcome_is in
    let served : IsServed past greeting.conn end.up end.down (h.acts ++ t.says) before after =
    record {
      name = h.by.0;
      first = h.read;
      stream = stream;
      unread = mid.left;
      read_is = h.read_is;
      hello = h.by.1;
      place = h.by.2;
      opening = opens.0;
      greeting = greeting;
      conn_is = refl;
      opened = opens.2;
      says = t.says;
      close = t.close;
      are = t.are;
      acts_are = ap (λ l. l ++ t.says) opens.1;
      taken = mid.held;
      welcomed = h.by.3.1;
      sends = t.sends;
      reads =
          spoken end.up before.read_faults mid.read_faults after.read_faults fault.0 t.reads;
      writes =
          sent end.down before.write_faults mid.write_faults after.write_faults fault.1 t.writes;
      at_end = t.at_end;
    } in
    record {
      acts = h.acts ++ t.says;
      goes = works-both u v w h.acts t.says (works-calls u v h.acts back h.goes) t.goes;
      link =
          subst (λ o. LinkBy past o end.up end.down (h.acts ++ t.says) before after) (sym t.conn)
          served;
      memory =
          t.memory
          ∙ ap (λ b. is_up_memory end.up || is_down_memory end.down || b) (sym flags.0);
      store = t.store ∙ sym flags.1;
    }

-- ---- not greeted

or-middle : (a b : Bool) → a || b ≡ a || false || b
or-middle true b = refl
or-middle false b = refl

pub refused-link : (past : Past) (u v : SeatView) (before after : LinkState) (stream : Stream)
    (end : GreetEnd) (last : Option ReplyOrMemory) (result : LinkEnd)
    → ((out : List (List ℕ)) → AllBackBut out u → AllBackBut out v)
    → ((h : Greets u v before.left after.left before.held after.held stream (Err end))
    × (last_outcome h.acts ≡ last))
    → FaultMatchesHello {T = Greeting} (Err end) before.read_faults after.read_faults
    before.write_faults after.write_faults
    → (end ≡ greet.End → IsAtEnd after.left)
    → result.conn ≡ None → result.up ≡ up.NotGreeted end → result.down ≡ down.NotGreeted
    → result.memory ≡ is_up_memory (up.NotGreeted end) || is_last_failed last
    → result.store ≡ is_last_store_fault last
    → WasServed past u v result before after
refused-link past u v before after stream end last result back (h, is) fault at_end conn up_is
    down_is memory store =
    let flags = greet-flags end h.read stream h.acts before.held after.held h.by in
    let refused : LinkBy past None (up.NotGreeted end) down.NotGreeted h.acts before after = (
      refl,
      record {
        read = h.read;
        stream = stream;
        read_is = h.read_is;
        by = h.by;
        fault = fault;
        at_end = at_end;
      },
    ) in
    let link : LinkBy past result.conn result.up result.down h.acts before after =
    subst (λ o. LinkBy past o result.up result.down h.acts before after) (sym conn)
    (subst (λ e. LinkBy past None e result.down h.acts before after) (sym up_is)
    (subst (λ d. LinkBy past None (up.NotGreeted end) d h.acts before after) (sym down_is)
    refused)) in
    let failed : has_failed h.acts ≡ is_last_failed last =
    flags.memory ∙ ap is_last_failed is in
    record {
      acts = h.acts;
      goes = works-calls u v h.acts back h.goes;
      link = link;
      memory =
          memory
          ∙ ap (λ b. is_up_memory (up.NotGreeted end) || b) (sym failed)
          ∙ or-middle (is_up_memory (up.NotGreeted end)) (has_failed h.acts)
          ∙ ap (λ e. is_up_memory e || false || has_failed h.acts) (sym up_is)
          ∙ ap (λ d. is_up_memory result.up || is_down_memory d || has_failed h.acts)
          (sym down_is);
      store = store ∙ sym (flags.store ∙ ap is_last_store_fault is);
    }

-- ---- talking

-- both pumps ran
pub talks-pumped : FeedLaws → (start : Past) (v stays given w : SeatView) (greeting : Greeting)
    (stream : Stream) (before after : LinkState) (down : DownEnd) (run : UpRun) (end : LinkEnd)
    → ShutBefore start
    → ((out : List (List ℕ)) → AllBackBut out v → AllBackBut out w)
    → ((first second one two both : SeatView) (xs ys : List LogEntry)
    → SplitsInto v first second → Continues first xs one → Continues second ys two
    → JoinsInto one two both → Rejoins v xs ys both)
    → SplitsInto v stays given
    → Pumps start stays given w greeting.conn stream before after down run
    → end.conn ≡ Some greeting.conn → end.up ≡ run.end → end.down ≡ down
    → end.memory ≡ is_up_memory run.end || is_down_memory down || is_failed run.close
    → end.store ≡ is_store_end run.end || is_store_fault run.close
    → Talks (left_by start w.seen) v w greeting stream end before after
talks-pumped laws start v stays given w greeting stream before after down run end shut back rejoins
    splits p conn up_is down_is memory store =
    let says = p.says in
    let rejoined =
    rejoins stays given p.one p.two w says.acts [] splits says.goes p.waits p.joins in
    let flags =
    says-flags before.left after.left stream greeting.conn run.end run.close says.acts says.are in
    let sends =
    sends-later laws start p.two.seen w.seen greeting.conn before.held after.held down shut
    p.legal p.joins.second p.sends in
    record {
      says = says.acts;
      close = run.close;
      goes = works-pair v w says.acts back rejoined;
      conn = conn;
      are =
          subst (λ e. AreSays before.left after.left stream greeting.conn e run.close says.acts)
          (sym up_is) says.are;
      sends =
          subst (λ d. Sends (left_by start w.seen) greeting.conn before.held after.held d)
          (sym down_is) sends;
      reads = subst (λ e. FaultMatchesUp e before.read_faults after.read_faults) (sym up_is)
          p.reads;
      writes =
          subst (λ d. FaultMatchesDown d before.write_faults after.write_faults) (sym down_is)
          p.writes;
      at_end = λ e. p.at_end (sym up_is ∙ e);
      memory =
          memory
          ∙ sym (flags.0 (is_down_memory down))
          ∙ ap (λ e. is_up_memory e || is_down_memory down || has_failed says.acts) (sym up_is)
          ∙ ap (λ d. is_up_memory end.up || is_down_memory d || has_failed says.acts)
          (sym down_is);
      store =
          store ∙ sym flags.1;
    }

-- the painter left at once
pub talks-left : (start : Past) (v w : SeatView) (greeting : Greeting) (stream : Stream)
    (before : LinkState) (close : ReplyOrMemory) (end : LinkEnd)
    → ((out : List (List ℕ)) → AllBackBut out v → AllBackBut out w)
    → IsFeed (state_of (left_by start w.seen)) greeting.conn
    (record { epoch = greeting.epoch; entries = [] } ∷ [])
    → ActsOnce v (Close greeting.conn) close w
    → end.conn ≡ Some greeting.conn → end.up ≡ up.Memory → end.down ≡ down.Memory
    → end.memory ≡ is_up_memory up.Memory || is_down_memory down.Memory || is_failed close
    → end.store ≡ is_store_end up.Memory || is_store_fault close
    → Talks (left_by start w.seen) v w greeting stream end before before
talks-left start v w greeting stream before close end back feed once conn up_is down_is memory
    store =
    let acts = once.act ∷ [] in
    let are : AreSays before.left before.left stream greeting.conn up.Memory close acts =
    record {
      read = [];
      messages = [];
      rest = counted stream [];
      says = [];
      close = once.act;
      read_is = Consumes-nil before.left;
      heard = record { frames = []; each = tt; spelled = tt; whole = refl };
      acts_are = refl;
      closes = once.is;
      said = inl tt;
      rests = tt;
    } in
    let flags =
    says-flags before.left before.left stream greeting.conn up.Memory close acts are in
    let sends : Sends (left_by start w.seen) greeting.conn before.held before.held down.Memory =
    record {
      earlier = [];
      last = record { epoch = greeting.epoch; entries = [] };
      feed = feed;
      took = grows-all before.held before.held [] (appends-none before.held);
      gone = λ e. cc (e);
    } in
    record {
      says = acts;
      close = close;
      goes = works-calls v w acts back once.goes;
      conn = conn;
      are =
          subst (λ e. AreSays before.left before.left stream greeting.conn e close acts)
          (sym up_is) are;
      sends =
          subst (λ d. Sends (left_by start w.seen) greeting.conn before.held before.held d)
          (sym down_is) sends;
      reads = subst (λ e. FaultMatchesUp e before.read_faults before.read_faults) (sym up_is) refl;
      writes =
          subst (λ d. FaultMatchesDown d before.write_faults before.write_faults) (sym down_is)
          refl;
      at_end = λ e. let wrong : up.Memory ≡ up.End = sym up_is ∙ e in cc (wrong);
      memory =
          memory
          ∙ sym (flags.0 (is_down_memory down.Memory))
          ∙ ap (λ e. is_up_memory e || is_down_memory down.Memory || has_failed acts) (sym up_is)
          ∙ ap (λ d. is_up_memory end.up || is_down_memory d || has_failed acts) (sym down_is);
      store = store ∙ sym flags.1;
    }
