-- Pages of a feed.
use Rattle.std.proofs.Common.{◌≡◌, ℕ, ◌+◌, List, [], ◌∷◌, ◌++◌, length, Option, None}
use Rattle.std.proofs.Common.{Some}
use Rattle.std.proofs.Common.{Result, Ok, Err, refl, sym, ap, subst, ◌∙◌, inl, inr, append-nil}
use Rattle.std.specs.Io.KnownBytes.{Appends}
use Rattle.dp_io.specs.Streams.{GrowsByPrefix}
use mathlib.Core.List.{IsPrefix}
use Rattle.dp_messages.specs.declared.message.Entry.{Entry}
use Rattle.dp_hall.specs.Logs.{IsLegal, left_by}
use Rattle.dp_hall.specs.Names.{IsIn}
use Rattle.dp_hall.specs.Calls.{IsSound}
use Rattle.dp_hall.specs.Laws.{Continues}
use Rattle.dp_epochs.specs.declared.event.Query.TheVariants.{Pull}
use Rattle.dp_epochs.specs.declared.event.Answer.TheVariants.{Entries, Gone}
use Rattle.dp_epochs.specs.declared.event.Answer.{Answer}
use Rattle.dp_epochs.specs.State.{State}
use Rattle.dp_epochs.specs.Past.{Past, Step, state_of}
use Rattle.dp_epochs.specs.Pull.{answered}
use Rattle.dp_history.specs.Frames.{frames_of}
use Rattle.dp_history.specs.declared.page.Page.{Page}
use Rattle.dp_history.specs.Pages.{AnswersBy, IsPage}
use Rattle.dp_session_laws.specs.Growing.{GrowsInto}
use Rattle.dp_session_laws.specs.Logs.{IsSessionLog, HasOpened}
use Rattle.dp_session_laws.specs.Feeds.{Segment, IsFeed, feed_entries, IsGone, PullsOn}
use Rattle.dp_link.specs.declared.ends.DownEnd.{DownEnd}
use Rattle.dp_link.specs.declared.ends.DownEnd.TheVariants as down
use Rattle.dp_link.specs.declared.pages.Cursor.{Cursor}
use Rattle.dp_link.specs.Acts.{SeatView}
use Rattle.dp_session_laws.specs.Logs.{LogEntry}
use Rattle.dp_link.specs.Sending.{session_of, Sends, SentTo, SendsPage, WritesPage}
use Rattle.dp_link.proofs.PageLemmas.{appends-none, appends-then, grows-all, grows-then}
use Rattle.dp_link.proofs.PageLemmas.{frames-then}

-- ---- what a seat has seen

-- what a seat has seen is legal from the hall's start
pub seen-legal : (start : Past) (w : SeatView) → w.start ≡ Some start → IsSound Step w
    → IsSessionLog start w.seen
seen-legal start w is sound =
    let both : Some sound.legal.0 ≡ Some start = sym sound.legal.1 ∙ is in
    let one : sound.legal.0 ≡ start = cc in
    subst (λ (m : Past). IsLegal Step m w.seen) one sound.legal.2

in-longer : (act : LogEntry) (xs ys : List LogEntry) → IsIn act xs → IsIn act (xs ++ ys)
in-longer act [] ys h = absurd h
in-longer act (x ∷ xs) ys (inl e) = inl e
in-longer act (x ∷ xs) ys (inr h) = inr (in-longer act xs ys h)

-- an Open that was seen is seen later
pub opened-later : (xs ys : List LogEntry) (conn user epoch at : ℕ) → IsPrefix xs ys
    → HasOpened xs conn user epoch at → HasOpened ys conn user epoch at
opened-later xs ys conn user epoch at p h = record {
  act = h.act;
  within = subst (λ (l : List LogEntry). IsIn h.act l) p.1 (in-longer h.act xs p.0 h.within);
  answer = h.answer;
}

-- ---- a feed up to a cursor

pub sent-later : (old new : Past) (conn : ℕ) (held taken : Option (List ℕ)) (cursor : Cursor)
    → ((s t : State) (conn : ℕ) (segments : List Segment) → GrowsInto s t
    → IsFeed s conn segments → IsFeed t conn segments)
    → GrowsInto (state_of old) (state_of new) → SentTo old conn held taken cursor
    → SentTo new conn held taken cursor
sent-later old new conn held taken cursor goes_on grows h = record {
  earlier = h.earlier;
  last = h.last;
  feed =
      goes_on (state_of old) (state_of new) conn (h.earlier ++ h.last ∷ []) grows h.feed;
  epoch_is = h.epoch_is;
  at_is = h.at_is;
  took = h.took;
}

pub sent-first : (past : Past) (conn epoch : ℕ) (held : Option (List ℕ)) (cursor : Cursor)
    → IsFeed (state_of past) conn (record { epoch = epoch; entries = [] } ∷ [])
    → cursor.epoch ≡ epoch → cursor.at ≡ 0 → SentTo past conn held held cursor
sent-first past conn epoch held cursor feed epoch_is at_is = record {
  earlier = [];
  last = record { epoch = epoch; entries = [] };
  feed = feed;
  epoch_is = epoch_is;
  at_is = at_is;
  took = appends-none held;
}

pub sends-so-far : (past : Past) (conn : ℕ) (held taken : Option (List ℕ)) (cursor : Cursor)
    → SentTo past conn held taken cursor → Sends past conn held taken down.Memory
sends-so-far past conn held taken cursor h = record {
  earlier = h.earlier;
  last = h.last;
  feed = h.feed;
  took =
      grows-all held taken (frames_of (feed_entries (h.earlier ++ h.last ∷ []))) h.took;
  gone = λ is. cc;
}

pub sends-gone : (past : Past) (conn : ℕ) (held taken : Option (List ℕ)) (cursor : Cursor)
    → (h : SentTo past conn held taken cursor) → IsGone past conn h.last
    → Sends past conn held taken down.Gone
sends-gone past conn held taken cursor h gone = record {
  earlier = h.earlier;
  last = h.last;
  feed = h.feed;
  took = h.took;
  gone = λ is. gone;
}

-- the query at the cursor is the one at the end of the feed
pub at-cursor : (past : Past) (conn most : ℕ) (held taken : Option (List ℕ)) (cursor : Cursor)
    (answer : Answer) → (h : SentTo past conn held taken cursor)
    → answer ≡ answered past (Pull conn cursor.epoch cursor.at most)
    → answered past (Pull conn h.last.epoch (length h.last.entries) most) ≡ answer
at-cursor past conn most held taken cursor answer h is =
    ap (λ k. answered past (Pull conn k (length h.last.entries) most)) (sym h.epoch_is)
    ∙ ap (λ k. answered past (Pull conn cursor.epoch k most)) (sym h.at_is) ∙ sym is

-- ---- a page

-- the frames with those of a page after them
page-frames : (s : State) (conn : ℕ) (earlier : List Segment) (last : Segment) (epoch at : ℕ)
    (list : List Entry) → (p : PullsOn s conn earlier last epoch at list)
    → frames_of (feed_entries (p.before ++ p.next ∷ []))
    ≡ frames_of (feed_entries (earlier ++ last ∷ [])) ++ frames_of list
page-frames s conn earlier last epoch at list p =
    ap frames_of p.entries ∙ frames-then (feed_entries (earlier ++ last ∷ [])) list

page-sent : (past : Past) (conn : ℕ) (held taken later : Option (List ℕ)) (old new : Cursor)
    (epoch at : ℕ) (list : List Entry) → (h : SentTo past conn held taken old)
    → PullsOn (state_of past) conn h.earlier h.last epoch at list
    → Appends taken later (frames_of list) → new.epoch ≡ epoch → new.at ≡ at + length list
    → SentTo past conn held later new
page-sent past conn held taken later old new epoch at list h p took epoch_is at_is = record {
  earlier = p.before;
  last = p.next;
  feed = p.feed;
  epoch_is = epoch_is ∙ sym p.epoch_is;
  at_is = at_is ∙ sym p.count;
  took =
      subst (λ (l : List ℕ). Appends held later l)
      (sym (page-frames (state_of past) conn h.earlier h.last epoch at list p))
      (appends-then held taken later (frames_of (feed_entries (h.earlier ++ h.last ∷ [])))
      (frames_of list) h.took took);
}

-- the first bytes of a page were written
page-cut : (past : Past) (conn : ℕ) (held taken later : Option (List ℕ)) (old : Cursor)
    (epoch at : ℕ) (list : List Entry) → (h : SentTo past conn held taken old)
    → (p : PullsOn (state_of past) conn h.earlier h.last epoch at list)
    → GrowsByPrefix taken later (frames_of list)
    → GrowsByPrefix held later (frames_of (feed_entries (p.before ++ p.next ∷ [])))
page-cut past conn held taken later old epoch at list h p took =
    let first : List ℕ = frames_of (feed_entries (h.earlier ++ h.last ∷ [])) in
    grows-then held taken later first (frames_of list) []
    (frames_of (feed_entries (p.before ++ p.next ∷ []))) h.took took
    (page-frames (state_of past) conn h.earlier h.last epoch at list p
    ∙ sym (append-nil (first ++ frames_of list)))

pub sends-page : {T : Type 0} (result : Result T DownEnd) (past : Past) (conn : ℕ)
    (held taken later : Option (List ℕ)) (old new : Cursor) (epoch at : ℕ) (list : List Entry)
    → (h : SentTo past conn held taken old)
    → PullsOn (state_of past) conn h.earlier h.last epoch at list
    → WritesPage result taken later epoch at list new
    → SendsPage past conn held later new result
sends-page (Ok more) past conn held taken later old new epoch at list h p w =
    page-sent past conn held taken later old new epoch at list h p w.0 w.1 w.2
sends-page (Err down.WriteFault) past conn held taken later old new epoch at list h p w = record {
  earlier = p.before;
  last = p.next;
  feed = p.feed;
  took = page-cut past conn held taken later old epoch at list h p w;
  gone = λ is. cc;
}
sends-page (Err down.Memory) past conn held taken later old new epoch at list h p w = record {
  earlier = p.before;
  last = p.next;
  feed = p.feed;
  took = page-cut past conn held taken later old epoch at list h p w;
  gone = λ is. cc;
}
sends-page (Err down.Gone) past conn held taken later old new epoch at list h p w = absurd w
sends-page (Err down.NotGreeted) past conn held taken later old new epoch at list h p w = absurd w

-- what a Pull at the cursor may be answered, as frames
abbrev pub PageAt : Past → ℕ → Cursor → Option Page → List ℕ → Type 0
PageAt past conn cursor page frames =
    IsPage (λ most. answered past (Pull conn cursor.epoch cursor.at most)) page frames

page-answer : {T : Type 0} (result : Result T DownEnd) (past : Past) (conn most : ℕ)
    (held taken later : Option (List ℕ)) (old new : Cursor) (page : Page) (frames : List ℕ)
    (answer : Answer)
    → ((epoch at : ℕ) (list : List Entry) (h : SentTo past conn held taken old)
    → answered past (Pull conn h.last.epoch (length h.last.entries) most) ≡ Entries epoch at list
    → PullsOn (state_of past) conn h.earlier h.last epoch at list)
    → SentTo past conn held taken old
    → answer ≡ answered past (Pull conn old.epoch old.at most)
    → AnswersBy answer (Some page) frames
    → ((list : List Entry) → page.count ≡ length list → frames ≡ frames_of list
    → WritesPage result taken later page.epoch page.at list new)
    → SendsPage past conn held later new result
page-answer result past conn most held taken later old new page frames Gone goes h is by writes =
    absurd by
page-answer result past conn most held taken later old new page frames (Entries epoch at list) goes
    h is by writes =
    sends-page result past conn held taken later old new epoch at list h
    (goes epoch at list h (at-cursor past conn most held taken old (Entries epoch at list) h is))
    (subst (λ e. WritesPage result taken later e at list new) by.0
    (subst (λ a. WritesPage result taken later page.epoch a list new) by.1
    (writes list by.2 by.3)))

-- a page of frames was written, or its first bytes
pub page-goes : {T : Type 0} (result : Result T DownEnd) (past : Past) (conn : ℕ)
    (held taken later : Option (List ℕ)) (old new : Cursor) (page : Page) (frames : List ℕ)
    → ((earlier : List Segment) (last : Segment) (most epoch at : ℕ) (list : List Entry)
    → IsFeed (state_of past) conn (earlier ++ last ∷ [])
    → answered past (Pull conn last.epoch (length last.entries) most) ≡ Entries epoch at list
    → PullsOn (state_of past) conn earlier last epoch at list)
    → SentTo past conn held taken old → PageAt past conn old (Some page) frames
    → ((list : List Entry) → page.count ≡ length list → frames ≡ frames_of list
    → WritesPage result taken later page.epoch page.at list new)
    → SendsPage past conn held later new result
page-goes result past conn held taken later old new page frames goes_on h is writes =
    page-answer result past conn is.0 held taken later old new page frames
    (answered past (Pull conn old.epoch old.at is.0))
    (λ epoch at list s. goes_on s.earlier s.last is.0 epoch at list s.feed)
    h refl is.1 writes

gone-answer : (answer : Answer) (frames : List ℕ) → AnswersBy answer None frames
    → answer ≡ Gone
gone-answer Gone frames by = refl
gone-answer (Entries epoch at list) frames by = absurd by

-- nothing more is to come
pub page-gone : (past : Past) (conn : ℕ) (held taken : Option (List ℕ)) (cursor : Cursor)
    (frames : List ℕ)
    → ((most : ℕ) (earlier : List Segment) (last : Segment)
    → IsFeed (state_of past) conn (earlier ++ last ∷ [])
    → answered past (Pull conn last.epoch (length last.entries) most) ≡ Gone
    → IsGone past conn last)
    → SentTo past conn held taken cursor → PageAt past conn cursor None frames
    → Sends past conn held taken down.Gone
page-gone past conn held taken cursor frames ends h is =
    sends-gone past conn held taken cursor h
    (ends is.0 h.earlier h.last h.feed (at-cursor past conn is.0 held taken cursor Gone h
    (sym (gone-answer (answered past (Pull conn cursor.epoch cursor.at is.0)) frames is.1))))

-- ---- views that differ in what they know

pub seen-same : (start : Past) (v w : SeatView) (n : ℕ) → w ≡ record v { known = n }
    → session_of start w ≡ session_of start v
seen-same start v w n is = ap (λ (x : SeatView). left_by start x.seen) is

pub opened-same : (v w : SeatView) (n conn user epoch at : ℕ) → w ≡ record v { known = n }
    → HasOpened v.seen conn user epoch at → HasOpened w.seen conn user epoch at
opened-same v w n conn user epoch at is h =
    subst (λ (l : List LogEntry). HasOpened l conn user epoch at)
    (sym (ap (λ (x : SeatView). x.seen) is)) h

pub known-goes : (v w : SeatView) (n : ℕ) → w ≡ record v { known = n }
    → Continues v [] (record v { known = n }) → Continues v [] w
known-goes v w n is h = subst (λ (x : SeatView). Continues v [] x) (sym is) h

pub sent-same : (start : Past) (v w : SeatView) (n conn : ℕ) (held taken : Option (List ℕ))
    (cursor : Cursor) → w ≡ record v { known = n }
    → SentTo (session_of start v) conn held taken cursor
    → SentTo (session_of start w) conn held taken cursor
sent-same start v w n conn held taken cursor is h =
    subst (λ (p : Past). SentTo p conn held taken cursor) (sym (seen-same start v w n is)) h
