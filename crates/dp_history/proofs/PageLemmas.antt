-- Pages of a history, and the frames of its first entries.
use Rattle.std.proofs.Common.{◌≡◌, ℕ, ◌+◌, ◌<◌, ◌≤◌, max, List, ◌∷◌, length, [], map, take}
use Rattle.std.proofs.Common.{drop, append-nil, Some, Result, Ok, Err, IfOk, sym, ap, ◌∙◌, arith}
use Rattle.std.specs.List.{slice_get}
use Rattle.std.proofs.lemmas.List.{drop-map, drop-take, take-take}
use Rattle.std.proofs.lemmas.List.{length-drop, length-take-le}
use Rattle.dp_messages.specs.declared.message.Entry.{Entry}
use Rattle.dp_messages.specs.Messages.{entry_bytes}
use Rattle.dp_epochs.specs.declared.event.Event.{Event}
use Rattle.dp_epochs.specs.Pull.{page}
use Rattle.dp_history.specs.declared.frames.HistoryFrames.{HistoryFrames}
use Rattle.dp_history.specs.declared.item.HistoryItem.{HistoryItem}
use Rattle.dp_frame_log.specs.Frames.{frames_of}
use Rattle.dp_history.specs.Items.{entry_in}
use Rattle.dp_history.specs.Made.{AreMadeOf}
use Rattle.dp_history.specs.Pages.{IsPageOf}
use Rattle.dp_history.proofs.ItemLemmas.{drop-at}

-- ---- a page of one entry

pub page-of-one : (journal : List Event) (items : List HistoryItem) (at : ℕ) (item : HistoryItem)
    (new : List ℕ) → slice_get items at ≡ Some item → new ≡ entry_bytes (entry_in journal item)
    → IsPageOf (map (entry_in journal) items) at 1 new
page-of-one journal items at item new found put =
    let f = entry_in journal in
    let d = drop-at items at item found in
    let one : page at 1 (map f items) ≡ f item ∷ [] =
    ap (take 1) (drop-map f at items) ∙ ap (λ xs. take 1 (map f xs)) d.1 in (
      1,
      sym (ap length one),
      put ∙ (sym (append-nil (entry_bytes (f item))) ∙ sym (ap frames_of one)),
    )

-- ---- pages of frames that are there

-- entries that stand before the end of both a prefix and its list
page-of-prefix : (live : List Entry) (end at count : ℕ) → at + count ≤ length live
    → at + count ≤ end → 0 < count
    → take count (drop at live) ≡ page at count (take end live)
page-of-prefix live end at count within before some =
    let whole = at + count in
    sym (drop-take at count live)
    ∙ ap (drop at) (sym (take-take whole end live before))
    ∙ drop-take at count (take end live)
    ∙ ap (λ n. take n (drop at (take end live))) (most count some) where
      most : (n : ℕ) → 0 < n → n ≡ max 1 n
      most n le = omega (arith, le)

-- there are `count` of them
length-of-part : (live : List Entry) (at count : ℕ) → at + count ≤ length live
    → count ≡ length (take count (drop at live))
length-of-part live at count within =
    sym (length-take-le count (drop at live) (omega (arith, within, length-drop at live)))

-- frames that were put are a page
pub made-put : {E : Type 0} (r : Result ℕ E) (frames : HistoryFrames) (live : List Entry)
    (end at most : ℕ) (new : List ℕ) → at + most ≤ length live → at + most ≤ end
    → AreMadeOf frames live
    → IfOk r (λ count. 0 < count) → IfOk r (λ count. count ≤ most)
    → IfOk r (λ count. (history : List Entry) → AreMadeOf frames history
    → new ≡ frames_of (take count (drop at history)))
    → IfOk r (λ count. IsPageOf (take end live) at count new)
made-put (Ok count) frames live end at most new within before are some few put =
    let inside : at + count ≤ length live = omega (arith, few, within) in
    let same =
    page-of-prefix live end at count inside (omega (arith, few, before)) some in (
      count,
      length-of-part live at count inside ∙ ap length same,
      put live are ∙ ap frames_of same,
    )
made-put (Err e) frames live end at most new within before are some few put = put
