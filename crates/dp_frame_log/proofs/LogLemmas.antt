-- Segments of frames, one after another.
use Rattle.std.proofs.Common.{◌≡◌, ℕ, ◌+◌, ◌-◌, ◌<◌, ◌≤◌, List, [], ◌∷◌, ◌++◌, length, take, drop}
use Rattle.std.proofs.Common.{refl, sym, ap, subst, ◌∙◌, arith, append_assoc, append-nil}
use Rattle.std.proofs.Common.{length-append, drop-drop, get_or, Result, Ok, Err, IfOk}
use Rattle.std.proofs.Math.Seq.{drop-append_seam}
use Rattle.std.proofs.lemmas.List.Sums.{sum_by-cons}
use Rattle.std.proofs.lemmas.List.{drop-append-le, take-append-le, length-drop}
use Rattle.std.proofs.lemmas.List.{drop_more, drop_all}
use Rattle.dp_messages.specs.declared.message.Entry.{Entry}
use Rattle.dp_frame_log.specs.Frames.{Frames, Log, AreFramesOf, AreSealedOf, AreLogOf}
use Rattle.dp_frame_log.specs.Frames.{sealed_count, frame_count, frames_of}
use Rattle.dp_frame_log.proofs.FrameLemmas.{length-ends}

-- there is one end for each frame
pub ends-count : (frames : Frames) (written : List Entry) → AreFramesOf frames written
    → length frames.ends ≡ length written
ends-count frames written are = ap length are.ends ∙ length-ends 0 written

-- there is a frame for each entry
pub sealed-count : (sealed : List Frames) (entries : List Entry) → AreSealedOf sealed entries
    → sealed_count sealed ≡ length entries
sealed-count [] entries are = sym (ap length are)
sealed-count (first ∷ others) entries (mine, rest, of, more, all) =
    omega (
      arith,
      sum_by-cons (λ (frames : Frames). length frames.ends) first others,
      ends-count first mine of,
      sealed-count others rest more,
      ap length all,
      length-append mine rest,
    )

-- there is a frame for each entry of a log
pub frames-count : (log : Log) (written : List Entry) → AreLogOf log written
    → frame_count log ≡ length written
frames-count log written are =
    omega (
      arith,
      sealed-count log.sealed are.before are.sealed,
      ends-count log.last are.rest are.last,
      ap length are.all,
      length-append are.before are.rest,
    )

-- one segment more
pub sealed-more : (sealed : List Frames) (one : Frames) (entries mine : List Entry)
    → AreSealedOf sealed entries → AreFramesOf one mine
    → AreSealedOf (sealed ++ one ∷ []) (entries ++ mine)
sealed-more [] one entries mine are of =
    subst (λ xs. AreSealedOf (one ∷ []) (xs ++ mine)) (sym are)
    (mine, [], of, refl, sym (append-nil mine))
sealed-more (first ∷ others) one entries mine (own, rest, its, more, all) of = (
  own,
  rest ++ mine,
  its,
  sealed-more others one rest mine more of,
  ap (λ xs. xs ++ mine) all ∙ append_assoc own rest mine,
)

-- entries of the first segment
pub first-part : (mine rest entries : List Entry) (at count : ℕ) → entries ≡ mine ++ rest
    → at + count ≤ length mine → take count (drop at mine) ≡ take count (drop at entries)
first-part mine rest entries at count all within =
    sym (take-append-le count (drop at mine) rest (omega (arith, length-drop at mine, within)))
    ∙ ap (take count) (sym (drop-append-le at mine rest (omega (arith, within))))
    ∙ ap (λ xs. take count (drop at xs)) (sym all)

-- entries of the others
pub others-part : (mine rest entries : List Entry) (at count : ℕ) → entries ≡ mine ++ rest
    → length mine ≤ at
    → take count (drop (at - length mine) rest) ≡ take count (drop at entries)
others-part mine rest entries at count all after =
    let n = length mine in
    let on : n + (at - n) ≡ at = omega (arith, after) in
    ap (λ xs. take count (drop (at - n) xs)) (sym (drop-append_seam mine rest))
    ∙ ap (take count) (drop-drop (at - n) n (mine ++ rest))
    ∙ ap (λ k. take count (drop k (mine ++ rest))) on
    ∙ ap (λ xs. take count (drop at xs)) (sym all)

-- ---- frames of a segment, from a place on that is counted from those before it

-- the next segment and the others
pub next-segment : (sealed : List Frames) (i : ℕ) (one : Frames) (left : List Entry)
    → i < length sealed → get_or sealed i one ≡ one → AreSealedOf (drop i sealed) left
    → AreSealedOf (one ∷ drop (i + 1) sealed) left
next-segment sealed i one left within is =
    subst (λ xs. AreSealedOf xs left)
    (drop_more sealed i one within ∙ ap (λ x. x ∷ drop (i + 1) sealed) is)

-- what is left after it
pub rest-is : (entries mine rest : List Entry) (done count : ℕ) → drop done entries ≡ mine ++ rest
    → count ≡ length mine → rest ≡ drop (done + count) entries
rest-is entries mine rest done count all is =
    sym (drop-append_seam mine rest) ∙ ap (λ n. drop n (mine ++ rest)) (sym is)
    ∙ ap (drop count) (sym all) ∙ drop-drop count done entries

module _ (sealed : List Frames) (i at place : ℕ) (one : Frames) (within : i < length sealed)
    (is : get_or sealed i one ≡ one) (before : place ≤ at)
    (left : (entries : List Entry) → AreSealedOf sealed entries
    → AreSealedOf (drop i sealed) (drop (at - place) entries)) where
  -- they are those of the whole
  pub shared-put : {E : Type 0} (r : Result ℕ E) (most : ℕ) (new : List ℕ)
      → IfOk r (λ count. (count ≤ most) × (place + count ≤ length one.ends))
      → IfOk r (λ count. (mine : List Entry) → AreFramesOf one mine
      → new ≡ frames_of (take count (drop place mine)))
      → IfOk r (λ count. (entries : List Entry) → AreSealedOf sealed entries
      → new ≡ frames_of (take count (drop at entries)))
  shared-put (Ok count) most new few put = λ entries are.
      let on : at - place + place ≡ at = omega (arith, before) in
      let n = next-segment sealed i one (drop (at - place) entries) within is (left entries are) in
      put n.0 n.2
      ∙ ap frames_of (first-part n.0 n.1 (drop (at - place) entries) place count n.4
      (omega (arith, few.1, ends-count one n.0 n.2))
      ∙ ap (take count) (drop-drop place (at - place) entries ∙ ap (λ k. drop k entries) on))
  shared-put (Err e) most new few put = put

  pub shared-within : {E : Type 0} (r : Result ℕ E) (most : ℕ)
      → IfOk r (λ count. 0 < count)
      → IfOk r (λ count. (count ≤ most) × (place + count ≤ length one.ends))
      → IfOk r (λ count. (entries : List Entry) → AreSealedOf sealed entries
      → at + count ≤ length entries)
  shared-within (Ok count) most some few = λ entries are.
      let n = next-segment sealed i one (drop (at - place) entries) within is (left entries are) in
      omega (
        arith,
        some,
        few.1,
        before,
        ends-count one n.0 n.2,
        ap length n.4,
        length-append n.0 n.1,
        length-drop (at - place) entries,
      )
  shared-within (Err e) most some few = some

  -- behind the segment
  pub passed-left : (count : ℕ) → count ≤ place → count ≡ length one.ends
      → (entries : List Entry) → AreSealedOf sealed entries
      → AreSealedOf (drop (i + 1) sealed) (drop (at - (place - count)) entries)
  passed-left count few is_count entries are =
      let n = next-segment sealed i one (drop (at - place) entries) within is (left entries are) in
      let on : at - place + count ≡ at - (place - count) = omega (arith, few, before) in
      subst (AreSealedOf (drop (i + 1) sealed))
      (rest-is entries n.0 n.1 (at - place) count n.4 (is_count ∙ ends-count one n.0 n.2)
      ∙ ap (λ k. drop k entries) on) n.3

-- a place that stands before the end stands in a segment
pub passed-none : (sealed : List Frames) (i at place : ℕ) (entries : List Entry)
    → length sealed ≤ i → place ≤ at → at < length entries
    → AreSealedOf (drop i sealed) (drop (at - place) entries) → ⊥
passed-none sealed i at place entries end before within are =
    let none : drop (at - place) entries ≡ [] =
    subst (λ xs. AreSealedOf xs (drop (at - place) entries)) (drop_all i sealed end) are in
    omega (arith, within, before, ap length none, length-drop (at - place) entries)

-- frames of the last segment
pub copied-put : {E : Type 0} (r : Result ℕ E) (log : Log) (at before : ℕ) (new : List ℕ)
    → before ≡ sealed_count log.sealed → before ≤ at
    → IfOk r (λ count. (mine : List Entry) → AreFramesOf log.last mine
    → new ≡ frames_of (take count (drop (at - before) mine)))
    → IfOk r (λ count. (entries : List Entry) → AreLogOf log entries
    → new ≡ frames_of (take count (drop at entries)))
copied-put (Ok count) log at before new is from put = λ entries are.
    let long : before ≡ length are.before = is ∙ sealed-count log.sealed are.before are.sealed in
    put are.rest are.last
    ∙ ap frames_of (ap (λ n. take count (drop (at - n) are.rest)) long
    ∙ others-part are.before are.rest entries at count are.all (omega (arith, from, long)))
copied-put (Err e) log at before new is from put = put

-- the last segment is sealed
pub sealed-now : (old new : Log) (one : Frames) → new.sealed ≡ old.sealed ++ one ∷ []
    → one ≡ old.last → AreFramesOf new.last [] → (entries : List Entry) → AreLogOf old entries
    → AreLogOf new entries
sealed-now old new one sealed is none entries are = record {
  before = are.before ++ are.rest;
  rest = [];
  sealed = subst (λ s. AreSealedOf s (are.before ++ are.rest)) (sym sealed)
      (sealed-more old.sealed one are.before are.rest are.sealed
      (subst (λ f. AreFramesOf f are.rest) (sym is) are.last));
  last = none;
  all = are.all ∙ sym (append-nil (are.before ++ are.rest));
}
