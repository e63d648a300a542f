-- Frames of which those of some entries are kept, a segment after the other.
use Rattle.std.proofs.Common.{◌≡◌, ℕ, zero, suc, ◌+◌, ◌-◌, ◌<◌, ◌≤◌, min, List, [], ◌∷◌, ◌++◌}
use Rattle.std.proofs.Common.{length, take, drop, get_or, map, refl, sym, ap, subst, ◌∙◌, arith}
use Rattle.std.proofs.Common.{append_assoc, append-nil, length-append, take-append-drop}
use Rattle.std.proofs.Common.{drop-drop, Result, Ok, Err, true, false}
use Rattle.std.specs.Result.{IsErr}
use Rattle.std.proofs.Math.Seq.{take-add, drop-append_seam}
use Rattle.std.proofs.lemmas.List.{drop_more, drop_all, take_all, drop-map}
use Rattle.std.proofs.lemmas.List.{length-drop, length-map}
use Rattle.std.proofs.lemmas.List.Elements.{filter-append}
use Rattle.dp_messages.specs.declared.message.Entry.{Entry}
use Rattle.dp_messages.specs.Messages.{entry_bytes}
use Rattle.dp_acl.specs.Opening.{goes_over}
use Rattle.dp_epochs.specs.declared.event.Event.{Event}
use Rattle.dp_history.specs.declared.item.HistoryItem.{HistoryItem}
use Rattle.dp_frame_log.specs.Frames.{Frames, Log, AreFramesOf, AreSealedOf, AreLogOf}
use Rattle.dp_history.specs.Frames.{AreWritten}
use Rattle.dp_frame_log.specs.Frames.{frames_of}
use Rattle.dp_history.specs.Items.{entry_in}
use Rattle.dp_history.specs.declared.frames.HistoryFrames.{HistoryFrames}
use Rattle.dp_history.specs.Made.{AreKept, AreMadeOf, WereKept, going_over}
use Rattle.dp_frame_log.proofs.LogLemmas.{ends-count, next-segment}
use Rattle.dp_history.proofs.MadeLemmas.{drop-both, none-written, written-on}

going-append : (xs ys : List Entry) → going_over (xs ++ ys) ≡ going_over xs ++ going_over ys
going-append xs ys = filter-append (λ (e : Entry). goes_over e.msg) xs ys

-- ---- what was kept

-- what was kept of it was written
pub were-written : {T E : Type 0} (result : Result T E) (log : Log) (entries : List Entry)
    → WereKept result log entries → AreWritten log entries
were-written (Ok done) log entries kept =
    record { written = entries; rest = []; of = kept; all = sym (append-nil entries) }
were-written (Err e) log entries kept = kept

-- if memory ran out, those of the first entries were written
pub kept-first : {T E : Type 0} (result : Result T E) (log : Log) (entries : List Entry)
    → IsErr result → AreWritten log entries → WereKept result log entries
kept-first (Ok done) log entries bad are = let e : false ≡ true = bad in cc
kept-first (Err e) log entries bad are = are

-- ---- one frame more

-- the frame of an entry
pub frame-of : (entries : List Entry) (at : ℕ) (entry : Entry) → at < length entries
    → get_or entries at entry ≡ entry → frames_of (take 1 (drop at entries)) ≡ entry_bytes entry
frame-of entries at entry within is =
    ap (λ xs. frames_of (take 1 xs))
    (drop_more entries at entry within ∙ ap (λ e. e ∷ drop (at + 1) entries) is)
    ∙ append-nil (entry_bytes entry)

-- what goes over, with one entry more
pub going-next : (entries : List Entry) (first at : ℕ) (entry : Entry) → first ≤ at
    → at < length entries → get_or entries at entry ≡ entry
    → going_over (take (at + 1 - first) (drop first entries))
    ≡ going_over (take (at - first) (drop first entries)) ++ going_over (entry ∷ [])
going-next entries first at entry from within is =
    let k = at - first in
    let more : at + 1 - first ≡ k + 1 = omega (arith, from) in
    let on : first + k ≡ at = omega (arith, from) in
    let next : take 1 (drop k (drop first entries)) ≡ entry ∷ [] =
    ap (take 1) (drop-drop k first entries ∙ ap (λ n. drop n entries) on
    ∙ drop_more entries at entry within)
    ∙ ap (λ e. e ∷ []) is in
    ap (λ n. going_over (take n (drop first entries))) more
    ∙ ap going_over (take-add k 1 (drop first entries))
    ∙ ap (λ xs. going_over (take k (drop first entries) ++ xs)) next
    ∙ going-append (take k (drop first entries)) (entry ∷ [])

-- ---- a segment

-- how many items it has
pub segment-count : (frames : Frames) (journal : List Event) (items : List HistoryItem)
    (mine more : List Entry) (n m count : ℕ) → n ≡ length frames.ends → m ≡ length items
    → count ≡ min n m → AreFramesOf frames mine → map (entry_in journal) items ≡ mine ++ more
    → count ≡ length mine
segment-count frames journal items mine more n m count n_is m_is is of all =
    omega (
      arith,
      n_is,
      m_is,
      is,
      ends-count frames mine of,
      ap length all,
      length-append mine more,
      length-map items (entry_in journal),
    )

-- from a place on that doesn't stand after the end
first-is : (skip : ℕ) (entries : List Entry)
    → drop (min skip (length entries)) entries ≡ drop skip entries
first-is zero entries =
    let none : min zero (length entries) ≡ 0 = omega arith in ap (λ n. drop n entries) none
first-is (suc skip) [] =
    let none : min (suc skip) zero ≡ 0 = omega arith in
    let nil : List Entry = [] in ap (λ n. drop n nil) none
first-is (suc skip) (entry ∷ entries) =
    let less : min (suc skip) (suc (length entries)) ≡ suc (min skip (length entries)) = omega
    arith in
    ap (λ n. drop n (entry ∷ entries)) less ∙ first-is skip entries

-- all of them were looked at
pub segment-kept : (log : Log) (before mine : List Entry) (skip first count : ℕ)
    → count ≡ length mine → first ≡ min skip count
    → AreLogOf log (before ++ going_over (take (count - first) (drop first mine)))
    → AreLogOf log (before ++ going_over (drop skip mine))
segment-kept log before mine skip first count long is are =
    let from : first ≡ min skip (length mine) = is ∙ ap (min skip) long in
    subst (λ xs. AreLogOf log (before ++ going_over xs))
    (take_all (count - first) (drop first mine) (omega (arith, long, length-drop first mine))
    ∙ ap (λ n. drop n mine) from ∙ first-is skip mine) are

-- the first of them were looked at
pub segment-begun : (log : Log) (before mine : List Entry) (skip first count k : ℕ)
    → count ≡ length mine → first ≡ min skip count
    → AreLogOf log (before ++ going_over (take k (drop first mine)))
    → AreWritten log (before ++ going_over (drop skip mine))
segment-begun log before mine skip first count k long is are =
    let from : first ≡ min skip (length mine) = is ∙ ap (min skip) long in
    let whole : drop skip mine ≡ take k (drop first mine) ++ drop k (drop first mine) =
    sym (first-is skip mine) ∙ ap (λ n. drop n mine) (sym from)
    ∙ sym (take-append-drop k (drop first mine)) in
    record {
      written = before ++ going_over (take k (drop first mine));
      rest = going_over (drop k (drop first mine));
      of = are;
      all = ap (λ xs. before ++ going_over xs) whole
          ∙ ap (λ xs. before ++ xs)
          (going-append (take k (drop first mine)) (drop k (drop first mine)))
          ∙ sym (append_assoc before (going_over (take k (drop first mine)))
          (going_over (drop k (drop first mine))));
    }

-- ---- segments

-- what goes over of two parts
pub going-both : (skip : ℕ) (entries before rest : List Entry) → entries ≡ before ++ rest
    → going_over (drop skip entries)
    ≡ going_over (drop skip before) ++ going_over (drop (skip - length before) rest)
going-both skip entries before rest all =
    ap (λ xs. going_over (drop skip xs)) all
    ∙ ap going_over (drop-both skip before rest)
    ∙ going-append (drop skip before) (drop (skip - length before) rest)

-- Segments were passed, and the frames in them that go over were kept. The others are those of the
-- first items that are left.
pub record Passed (journal : List Event) (sealed : List Frames) (left : List HistoryItem)
    (skip from : ℕ) (kept : Log) (entries more : List Entry) : Type 0 where
  pub before : List Entry
  pub todo : List Entry
  pub all : entries ≡ before ++ todo
  pub of : AreSealedOf sealed todo
  pub items : map (entry_in journal) left ≡ todo ++ more
  pub done : AreLogOf kept (going_over (drop skip before))
  pub further : from ≡ skip - length before

-- none was passed
pub passed-first : (journal : List Event) (sealed : List Frames) (left : List HistoryItem)
    (skip : ℕ) (kept : Log) (entries more : List Entry) → AreLogOf kept []
    → AreSealedOf sealed entries → map (entry_in journal) left ≡ entries ++ more
    → Passed journal sealed left skip skip kept entries more
passed-first journal sealed left skip kept entries more none of items = record {
  before = [];
  todo = entries;
  all = refl;
  of = of;
  items = items;
  done = subst (λ xs. AreLogOf kept (going_over xs)) (sym (drop_all skip nil (omega arith))) none;
  further = omega arith;
} where
  nil : List Entry
  nil = []

-- what is looked at next
pub record Next (journal : List Event) (one : Frames) (others : List Frames)
    (left : List HistoryItem) (p_todo more : List Entry) : Type 0 where
  pub mine : List Entry
  pub rest : List Entry
  pub of : AreFramesOf one mine
  pub sealed : AreSealedOf others rest
  pub all : p_todo ≡ mine ++ rest
  pub items : map (entry_in journal) left ≡ mine ++ (rest ++ more)

pub next-of : (journal : List Event) (sealed : List Frames) (i : ℕ) (one : Frames)
    (left : List HistoryItem) (todo more : List Entry) → i < length sealed
    → get_or sealed i one ≡ one → AreSealedOf (drop i sealed) todo
    → map (entry_in journal) left ≡ todo ++ more
    → Next journal one (drop (i + 1) sealed) left todo more
next-of journal sealed i one left todo more within is of items =
    let n = next-segment sealed i one todo within is of in
    record {
      mine = n.0;
      rest = n.1;
      of = n.2;
      sealed = n.3;
      all = n.4;
      items = items ∙ ap (λ xs. xs ++ more) n.4 ∙ append_assoc n.0 n.1 more;
    }

-- one more was passed
pub passed-next : (journal : List Event) (sealed : List Frames) (i : ℕ) (one : Frames)
    (left later : List HistoryItem) (skip from then count : ℕ) (kept new : Log)
    (entries more : List Entry) → i < length sealed → get_or sealed i one ≡ one
    → (p : Passed journal (drop i sealed) left skip from kept entries more)
    → count ≡ length one.ends → later ≡ drop count left → then ≡ from - count
    → ((before mine rest : List Entry) → AreLogOf kept before → AreFramesOf one mine
    → map (entry_in journal) left ≡ mine ++ rest
    → AreLogOf new (before ++ going_over (drop from mine)))
    → Passed journal (drop (i + 1) sealed) later skip then new entries more
passed-next journal sealed i one left later skip from then count kept new entries more within is p
    count_is later_is then_is keeps =
    let n = next-of journal sealed i one left p.todo more within is p.of p.items in
    let long : count ≡ length n.mine = count_is ∙ ends-count one n.mine n.of in
    record {
      before = p.before ++ n.mine;
      todo = n.rest;
      all = p.all ∙ ap (λ xs. p.before ++ xs) n.all ∙ sym (append_assoc p.before n.mine n.rest);
      of = n.sealed;
      items = ap (map (entry_in journal)) later_is ∙ sym (drop-map (entry_in journal) count left)
          ∙ ap (drop count) n.items ∙ ap (λ k. drop k (n.mine ++ (n.rest ++ more))) long
          ∙ drop-append_seam n.mine (n.rest ++ more);
      done = subst (AreLogOf new)
          (ap (λ k. going_over (drop skip p.before) ++ going_over (drop k n.mine)) p.further
          ∙ sym (going-both skip (p.before ++ n.mine) p.before n.mine refl))
          (keeps (going_over (drop skip p.before)) n.mine (n.rest ++ more) p.done n.of n.items);
      further = omega (arith, then_is, p.further, long, length-append p.before n.mine);
    }

-- memory ran out in one
pub passed-err : {T E U F : Type 0} (r : Result T E) (q : Result U F) (journal : List Event)
    (sealed : List Frames) (i : ℕ) (one : Frames) (left : List HistoryItem) (skip from : ℕ)
    (kept new : Log) (entries more : List Entry) → IsErr r → i < length sealed
    → get_or sealed i one ≡ one
    → (p : Passed journal (drop i sealed) left skip from kept entries more)
    → ((before mine rest : List Entry) → AreLogOf kept before → AreFramesOf one mine
    → map (entry_in journal) left ≡ mine ++ rest
    → WereKept q new (before ++ going_over (drop from mine)))
    → WereKept r new (going_over (drop skip entries))
passed-err r q journal sealed i one left skip from kept new entries more bad within is p keeps =
    let n = next-of journal sealed i one left p.todo more within is p.of p.items in
    let first = going_over (drop skip p.before) ++ going_over (drop from n.mine) in
    let whole : going_over (drop skip entries) ≡ first
    ++ going_over (drop (skip - length (p.before ++ n.mine)) n.rest) =
    going-both skip entries (p.before ++ n.mine) n.rest
    (p.all ∙ ap (λ xs. p.before ++ xs) n.all ∙ sym (append_assoc p.before n.mine n.rest))
    ∙ ap (λ xs. xs ++ going_over (drop (skip - length (p.before ++ n.mine)) n.rest))
    (going-both skip (p.before ++ n.mine) p.before n.mine refl
    ∙ ap (λ k. going_over (drop skip p.before) ++ going_over (drop k n.mine)) (sym p.further)) in
    kept-first r new (going_over (drop skip entries)) bad
    (subst (AreWritten new) (sym whole)
    (written-on new first (going_over (drop (skip - length (p.before ++ n.mine)) n.rest))
    (were-written q new first
    (keeps (going_over (drop skip p.before)) n.mine (n.rest ++ more) p.done n.of n.items))))

-- all were passed
pub passed-all : (journal : List Event) (sealed : List Frames) (i : ℕ) (left : List HistoryItem)
    (skip from : ℕ) (kept : Log) (entries more : List Entry) → length sealed ≤ i
    → Passed journal (drop i sealed) left skip from kept entries more
    → AreLogOf kept (going_over (drop skip entries))
passed-all journal sealed i left skip from kept entries more end p =
    let none : p.todo ≡ [] =
    subst (λ xs. AreSealedOf xs p.todo) (drop_all i sealed end) p.of in
    subst (λ xs. AreLogOf kept (going_over (drop skip xs)))
    (sym (p.all ∙ ap (λ xs. p.before ++ xs) none ∙ append-nil p.before)) p.done

-- ---- a log

-- the last segment after the others
pub log-kept : {T E : Type 0} (r : Result T E) (log : Log) (skip before : ℕ)
    (written first rest : List Entry) → written ≡ first ++ rest → before ≡ length first
    → WereKept r log (going_over (drop skip first) ++ going_over (drop (skip - before) rest))
    → WereKept r log (going_over (drop skip written))
log-kept r log skip before written first rest all long =
    subst (WereKept r log)
    (ap (λ n. going_over (drop skip first) ++ going_over (drop (skip - n) rest)) long
    ∙ sym (going-both skip written first rest all))

-- memory ran out before it
pub log-begun : {T E U F : Type 0} (r : Result T E) (q : Result U F) (log : Log) (skip : ℕ)
    (written first rest : List Entry) → written ≡ first ++ rest → IsErr r
    → WereKept q log (going_over (drop skip first))
    → WereKept r log (going_over (drop skip written))
log-begun r q log skip written first rest all bad kept =
    kept-first r log (going_over (drop skip written)) bad
    (subst (AreWritten log) (sym (going-both skip written first rest all))
    (written-on log (going_over (drop skip first))
    (going_over (drop (skip - length first) rest))
    (were-written q log (going_over (drop skip first)) kept)))

-- what goes over from a place on, of what comes before the others and of those
going-split : (history : List Entry) (base at : ℕ)
    → going_over (drop at history)
    ≡ going_over (take (base - at) (drop at history))
    ++ going_over (drop (at - base) (drop base history))
going-split history base at =
    let k = base - at in
    let same : at + k ≡ base + (at - base) = omega arith in
    ap going_over (sym (take-append-drop k (drop at history)))
    ∙ filter-append (λ (e : Entry). goes_over e.msg) (take k (drop at history))
    (drop k (drop at history))
    ∙ ap (λ xs. going_over (take k (drop at history)) ++ going_over xs)
    (drop-drop k at history ∙ ap (λ n. drop n history) same
    ∙ sym (drop-drop (at - base) base history))

-- the frames of those that go over are made of the history that they end
pub made-of-kept : {T E : Type 0} (result : Result T E) (old new : HistoryFrames)
    (history before : List Entry) (at count length_is : ℕ)
    → (are : AreMadeOf old history) → AreKept result old at are.rest.written new
    → count ≡ length (going_over (drop (at - old.base) (drop old.base history)))
    → length_is ≡ length (before ++ going_over (drop at history))
    → new.base ≡ length_is - count
    → AreMadeOf new (before ++ going_over (drop at history))
made-of-kept result old new history before at count length_is are kept count_is long base =
    let skip = at - old.base in
    let mine = going_over (drop skip (drop old.base history)) in
    let own = before ++ going_over (take (old.base - at) (drop at history)) in
    let parts : before ++ going_over (drop at history) ≡ own ++ mine =
    ap (λ xs. before ++ xs) (going-split history old.base at)
    ∙ sym (append_assoc before (going_over (take (old.base - at) (drop at history))) mine) in
    let front : new.base ≡ length own = omega
    (arith, base, long, count_is, ap length parts, length-append own mine) in
    let written = going_over (drop skip are.rest.written) in
    let left = going_over (drop (skip - length are.rest.written) are.rest.rest) in
    let mine_is : mine ≡ written ++ left =
    ap (λ xs. going_over (drop skip xs)) are.rest.all
    ∙ ap going_over (drop-both skip are.rest.written are.rest.rest)
    ∙ filter-append (λ (e : Entry). goes_over e.msg) (drop skip are.rest.written)
    (drop (skip - length are.rest.written) are.rest.rest) in
    let there : drop new.base (own ++ mine) ≡ mine =
    ap (λ n. drop n (own ++ mine)) front ∙ drop-append_seam own mine in
    subst (AreMadeOf new) (sym parts) (record {
      within = omega (arith, front, length-append own mine);
      front = none-written new.front (take new.base (own ++ mine)) kept.none;
      rest = subst (AreWritten new.rest) (sym (there ∙ mine_is))
          (written-on new.rest written left (were-written result new.rest written kept.kept));
    })
