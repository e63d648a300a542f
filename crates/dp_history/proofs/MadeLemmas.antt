-- The frames that were made of a history, and those of them that are kept.
use Rattle.std.proofs.Common.{◌≡◌, ℕ, zero, suc, ◌+◌, ◌-◌, ◌<◌, ◌≤◌, true, false}
use Rattle.std.proofs.Common.{List, [], ◌∷◌, ◌++◌, length, take, drop, get_or, map, nat_lt}
use Rattle.std.proofs.Common.{if◌then◌else◌, refl, sym, ap, subst, ◌∙◌, arith, ⊎_elim}
use Rattle.std.proofs.Common.{append_assoc, length-append, length-drop, length-take}
use Rattle.std.proofs.Common.{drop-drop, take-take}
use Rattle.std.proofs.Common.{Result, Ok, Err, IfOk, lt-ltb, le-ltb}
use Rattle.std.proofs.lemmas.Bool.{cases_Bool, ltb-false}
use Rattle.std.proofs.lemmas.List.{drop-take, take-append-le, drop-append-le}
use Rattle.std.proofs.lemmas.List.{get_or-map, length-map, get_or_append_left}
use Rattle.dp_messages.specs.declared.message.Entry.{Entry}
use Rattle.dp_epochs.specs.declared.event.Event.{Event}
use Rattle.dp_history.specs.declared.item.HistoryItem.{HistoryItem}
use Rattle.dp_history.specs.declared.frames.HistoryFrames.{HistoryFrames}
use Rattle.dp_frame_log.specs.Frames.{Log, AreLogOf, frame_count, frames_of}
use Rattle.dp_history.specs.Frames.{AreWritten}
use Rattle.dp_history.specs.Items.{entry_in}
use Rattle.dp_history.specs.Made.{AreMadeOf, made_at}
use Rattle.dp_frame_log.proofs.LogLemmas.{frames-count}

-- ---- lists

pub drop-both : {X : Type 0} (n : ℕ) (xs ys : List X)
    → drop n (xs ++ ys) ≡ drop n xs ++ drop (n - length xs) ys
drop-both zero xs ys =
    let none : zero ≡ zero - length xs = omega arith in ap (λ k. xs ++ drop k ys) none
drop-both (suc n) [] ys = let all : suc n ≡ suc n - zero = omega arith in ap (λ k. drop k ys) all
drop-both (suc n) (x ∷ xs) ys =
    let less : n - length xs ≡ suc n - suc (length xs) = omega arith in
    drop-both n xs ys ∙ ap (λ k. drop n xs ++ drop k ys) less

-- ---- frames that were made

-- a part of what was made of the first entries
pub front-part : (written rest history : List Entry) (base at count : ℕ)
    → take base history ≡ written ++ rest → at + count ≤ length written
    → take count (drop at written) ≡ take count (drop at history)
front-part written rest history base at count all within =
    let short : length written ≤ base = omega
    (arith, ap length all, length-append written rest, length-take base history) in
    let whole : take (at + count) written ≡ take (at + count) history =
    sym (take-append-le (at + count) written rest within) ∙ ap (take (at + count)) (sym all)
    ∙ take-take (at + count) base history (omega (arith, within, short)) in
    sym (drop-take at count written) ∙ ap (drop at) whole ∙ drop-take at count history

-- a part of what was made of the others
pub rest-part : (written rest history : List Entry) (base at count : ℕ)
    → drop base history ≡ written ++ rest → base ≤ at → at - base + count ≤ length written
    → take count (drop (at - base) written) ≡ take count (drop at history)
rest-part written rest history base at count all above within =
    let k = at - base in
    let on : base + k ≡ at = omega (arith, above) in
    sym (drop-take k count written)
    ∙ ap (drop k) (sym (take-append-le (k + count) written rest within)
    ∙ ap (take (k + count)) (sym all))
    ∙ drop-take k count (drop base history)
    ∙ ap (take count) (drop-drop k base history ∙ ap (λ n. drop n history) on)

-- there are as many entries
pub made-within : (frames : HistoryFrames) (history : List Entry) (at : ℕ)
    → AreMadeOf frames history → 0 < made_at frames at → at + made_at frames at ≤ length history
made-within frames history at are some =
    ⊎_elim (λ (before : nat_lt at frames.base ≡ true).
    let is : made_at frames at ≡ frame_count frames.front - at = ap (λ b.
    if b then frame_count frames.front - at else frame_count frames.rest - (at - frames.base))
    before in
    omega (
      arith,
      is,
      some,
      frames-count frames.front are.front.written are.front.of,
      ap length are.front.all,
      length-append are.front.written are.front.rest,
      length-take frames.base history,
    ))
    (λ (after : nat_lt at frames.base ≡ false).
    let is : made_at frames at ≡ frame_count frames.rest - (at - frames.base) = ap (λ b.
    if b then frame_count frames.front - at else frame_count frames.rest - (at - frames.base))
    after in
    omega (
      arith,
      is,
      some,
      ltb-false at frames.base after,
      frames-count frames.rest are.rest.written are.rest.of,
      ap length are.rest.all,
      length-append are.rest.written are.rest.rest,
      length-drop frames.base history,
    ))
    (cases_Bool (nat_lt at frames.base))

-- how many are asked for stand before the end
pub front-fits : (frames : HistoryFrames) (at most : ℕ) → at < frames.base → 0 < most
    → most ≤ made_at frames at → at + most ≤ frame_count frames.front
front-fits frames at most before some within =
    let is : made_at frames at ≡ frame_count frames.front - at = ap (λ b.
    if b then frame_count frames.front - at else frame_count frames.rest - (at - frames.base))
    (lt-ltb at frames.base before) in
    omega (arith, is, some, within)

pub rest-fits : (frames : HistoryFrames) (at most : ℕ) → frames.base ≤ at → 0 < most
    → most ≤ made_at frames at → at - frames.base + most ≤ frame_count frames.rest
rest-fits frames at most after some within =
    let is : made_at frames at ≡ frame_count frames.rest - (at - frames.base) = ap (λ b.
    if b then frame_count frames.front - at else frame_count frames.rest - (at - frames.base))
    (le-ltb at frames.base after) in
    omega (arith, is, some, within)

-- frames that were put are those of the history
pub put-front : {E : Type 0} (r : Result ℕ E) (frames : HistoryFrames) (at most : ℕ)
    (new : List ℕ) → at + most ≤ frame_count frames.front → IfOk r (λ count. count ≤ most)
    → IfOk r (λ count. (entries : List Entry) → AreLogOf frames.front entries
    → new ≡ frames_of (take count (drop at entries)))
    → IfOk r (λ count. (history : List Entry) → AreMadeOf frames history
    → new ≡ frames_of (take count (drop at history)))
put-front (Ok count) frames at most new fits few put = λ history are.
    let front = are.front in
    put front.written front.of
    ∙ ap frames_of
    (front-part front.written front.rest history frames.base at count front.all
    (omega (arith, few, fits, frames-count frames.front front.written front.of)))
put-front (Err e) frames at most new fits few put = put

pub put-rest : {E : Type 0} (r : Result ℕ E) (frames : HistoryFrames) (at most : ℕ)
    (new : List ℕ) → frames.base ≤ at → at - frames.base + most ≤ frame_count frames.rest
    → IfOk r (λ count. count ≤ most)
    → IfOk r (λ count. (entries : List Entry) → AreLogOf frames.rest entries
    → new ≡ frames_of (take count (drop (at - frames.base) entries)))
    → IfOk r (λ count. (history : List Entry) → AreMadeOf frames history
    → new ≡ frames_of (take count (drop at history)))
put-rest (Ok count) frames at most new after fits few put = λ history are.
    let rest = are.rest in
    put rest.written rest.of
    ∙ ap frames_of
    (rest-part rest.written rest.rest history frames.base at count rest.all after
    (omega (arith, few, fits, frames-count frames.rest rest.written rest.of)))
put-rest (Err e) frames at most new after fits few put = put

-- no frame is one of a history
pub none-written : (frames : Log) (history : List Entry) → AreLogOf frames []
    → AreWritten frames history
none-written frames history none =
    record { written = []; rest = history; of = none; all = refl }

-- what is written of a history is so of a longer one
pub written-on : (frames : Log) (history more : List Entry) → AreWritten frames history
    → AreWritten frames (history ++ more)
written-on frames history more are = record {
  written = are.written;
  rest = are.rest ++ more;
  of = are.of;
  all = ap (λ xs. xs ++ more) are.all ∙ append_assoc are.written are.rest more;
}

-- what was made of a history was made of a longer one
pub made-on : (frames : HistoryFrames) (history more : List Entry) → AreMadeOf frames history
    → AreMadeOf frames (history ++ more)
made-on frames history more are = record {
  within = omega (arith, are.within, length-append history more);
  front = subst (AreWritten frames.front)
      (sym (take-append-le frames.base history more are.within)) are.front;
  rest = subst (AreWritten frames.rest)
      (sym (drop-append-le frames.base history more are.within))
      (written-on frames.rest (drop frames.base history) more are.rest);
}

-- ---- frames that are kept

-- the entry of a frame that was made
pub entry-of-frame : (journal : List Event) (items : List HistoryItem) (written rest : List Entry)
    (at : ℕ) (item : HistoryItem) → map (entry_in journal) items ≡ written ++ rest
    → at < length written → get_or items at item ≡ item
    → get_or written at (entry_in journal item) ≡ entry_in journal item
entry-of-frame journal items written rest at item all within is =
    let e = entry_in journal item in
    let inside : at < length items = omega (
      arith,
      within,
      ap length all,
      length-append written rest,
      length-map items (entry_in journal),
    )
    in
    sym (get_or_append_left written rest e at within) ∙ ap (λ xs. get_or xs at e) (sym all)
    ∙ get_or-map (entry_in journal) items at item e inside
    ∙ ap (entry_in journal) is
