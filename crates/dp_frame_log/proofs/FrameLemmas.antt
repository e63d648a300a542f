-- Frames of entries, one after another.
use Rattle.std.proofs.Common.{◌≡◌, ℕ, ◌+◌, ◌-◌, ◌<◌, ◌≤◌, List, [], ◌∷◌, ◌++◌, length, take, drop}
use Rattle.std.proofs.Common.{get_or, zero, suc, refl, sym, ap, ◌∙◌, arith}
use Rattle.std.proofs.Math.Seq.{take-add, take-append_seam, drop-append_seam}
use Rattle.std.proofs.lemmas.List.{take-append-drop, append-nil, length-append}
use Rattle.std.proofs.lemmas.List.{get_or-take, get_or-drop}
use Rattle.std.proofs.lemmas.Grind.{flat_map-append}
use Rattle.dp_messages.specs.declared.message.Entry.{Entry}
use Rattle.dp_messages.specs.Messages.{entry_bytes}
use Rattle.dp_frame_log.specs.Frames.{Frames, frames_of, ends_from, AreFramesOf}

-- the first frames and the others
pub frames-split : (at : ℕ) (entries : List Entry)
    → frames_of entries ≡ frames_of (take at entries) ++ frames_of (drop at entries)
frames-split at entries =
    ap frames_of (sym (take-append-drop at entries))
    ∙ flat_map-append entry_bytes (take at entries) (drop at entries)

-- the frames from a place on
pub frames-rest : (at : ℕ) (entries : List Entry)
    → drop (length (frames_of (take at entries))) (frames_of entries) ≡ frames_of (drop at entries)
frames-rest at entries =
    ap (drop (length (frames_of (take at entries)))) (frames-split at entries)
    ∙ drop-append_seam (frames_of (take at entries)) (frames_of (drop at entries))

-- the first `count` frames
frames-first : (count : ℕ) (entries : List Entry)
    → take (length (frames_of (take count entries))) (frames_of entries)
    ≡ frames_of (take count entries)
frames-first count entries =
    ap (take (length (frames_of (take count entries)))) (frames-split count entries)
    ∙ take-append_seam (frames_of (take count entries)) (frames_of (drop count entries))

-- how many bytes the `count` frames from a place on have
frames-size : (at count : ℕ) (entries : List Entry)
    → length (frames_of (take (at + count) entries))
    ≡ length (frames_of (take at entries)) + length (frames_of (take count (drop at entries)))
frames-size at count entries =
    ap (λ xs. length (frames_of xs)) (take-add at count entries)
    ∙ ap length (flat_map-append entry_bytes (take at entries) (take count (drop at entries)))
    ∙ length-append (frames_of (take at entries)) (frames_of (take count (drop at entries)))

-- the frames of the `count` entries from a place on
pub frames-cut : (at count : ℕ) (entries : List Entry)
    → take (length (frames_of (take (at + count) entries)) - length (frames_of (take at entries)))
    (drop (length (frames_of (take at entries))) (frames_of entries))
    ≡ frames_of (take count (drop at entries))
frames-cut at count entries =
    ap (λ n. take n (drop (length (frames_of (take at entries))) (frames_of entries)))
    (omega (arith, frames-size at count entries))
    ∙ ap (take (length (frames_of (take count (drop at entries))))) (frames-rest at entries)
    ∙ frames-first count (drop at entries)

-- there is a place for each
pub length-ends : (n : ℕ) (entries : List Entry) → length (ends_from n entries) ≡ length entries
length-ends n [] = refl
length-ends n (entry ∷ entries) =
    ap suc (length-ends (n + length (entry_bytes entry)) entries)

-- where the frame after the first i ends
pub ends-at : (n : ℕ) (entries : List Entry) (i : ℕ) → i < length entries
    → get_or (ends_from n entries) i 0 ≡ n + length (frames_of (take (i + 1) entries))
ends-at n [] i within = omega (arith, within)
ends-at n (entry ∷ entries) zero within =
    ap (λ xs. n + length xs) (sym (append-nil (entry_bytes entry)))
ends-at n (entry ∷ entries) (suc i) within =
    ends-at (n + length (entry_bytes entry)) entries i (omega (arith, within))
    ∙ omega (
      arith,
      length-append (entry_bytes entry) (frames_of (take (i + 1) entries)),
      ap (λ k. length (frames_of (take k (entry ∷ entries)))) (next i),
    ) where
      next : (k : ℕ) → suc (k + 1) ≡ suc k + 1
      next k = omega arith

-- the frames with one more
pub frames-more : (entries : List Entry) (entry : Entry)
    → frames_of (entries ++ entry ∷ []) ≡ frames_of entries ++ entry_bytes entry
frames-more entries entry =
    flat_map-append entry_bytes entries (entry ∷ [])
    ∙ ap (λ xs. frames_of entries ++ xs) (append-nil (entry_bytes entry))

-- where they end
pub ends-more : (n : ℕ) (entries : List Entry) (entry : Entry)
    → ends_from n (entries ++ entry ∷ [])
    ≡ ends_from n entries ++ (n + length (frames_of (entries ++ entry ∷ []))) ∷ []
ends-more n [] entry =
    ap (λ k. (n + k) ∷ []) (sym (ap length (append-nil (entry_bytes entry))))
ends-more n (first ∷ entries) entry =
    ap (λ xs. (n + length (entry_bytes first)) ∷ xs)
    (ends-more (n + length (entry_bytes first)) entries entry
    ∙ ap (λ k. ends_from (n + length (entry_bytes first)) entries ++ k ∷ [])
    (omega (arith, length-append (entry_bytes first) (frames_of (entries ++ entry ∷ [])))))

-- one frame more
pub frames-appended : (old new : Frames) (entries : List Entry) (entry : Entry)
    → new.bytes ≡ old.bytes ++ entry_bytes entry
    → new.ends ≡ old.ends ++ length new.bytes ∷ []
    → AreFramesOf old entries → AreFramesOf new (entries ++ entry ∷ [])
frames-appended old new entries entry bytes ends are =
    let bytes_are = bytes ∙ ap (λ xs. xs ++ entry_bytes entry) are.bytes
    ∙ sym (frames-more entries entry) in
    record {
      bytes = bytes_are;
      ends = ends ∙ ap (λ xs. xs ++ length new.bytes ∷ []) are.ends
          ∙ ap (λ k. ends_from 0 entries ++ k ∷ [])
          (omega (arith, ap length bytes_are))
          ∙ sym (ends-more 0 entries entry);
    }

-- where each of the first `most` frames from a place on ends
pub ends-part : (at most count : ℕ) (entries : List Entry) → at + most ≤ length entries
    → count < most
    → get_or (take most (drop at (ends_from 0 entries))) count 0
    ≡ length (frames_of (take (at + (count + 1)) entries))
ends-part at most count entries within few =
    get_or-take most (drop at (ends_from 0 entries)) count 0 few
    ∙ get_or-drop at (ends_from 0 entries) count 0
    ∙ ends-at 0 entries (at + count) (omega (arith, within, few))
    ∙ omega (arith, ap (λ n. length (frames_of (take n entries))) (one_more at count)) where
      one_more : (a b : ℕ) → a + b + 1 ≡ a + (b + 1)
      one_more a b = omega arith
