-- Bytes as frames and a rest: in one way, and always.
use Rattle.std.proofs.Common.{◌≡◌, ℕ, zero, suc, ◌+◌, ◌*◌, ◌<◌, ◌≤◌, ◌⊎◌, List, [], ◌∷◌, ◌++◌}
use Rattle.std.proofs.Common.{length, refl, sym, ap, ◌∙◌, subst, inl, inr, arith, append_assoc}
use Rattle.std.proofs.Common.{length-append}
use Rattle.std.proofs.lemmas.List.Concat.{flat_map-append}
use Rattle.std.proofs.lemmas.List.Elements.{recursion_from_All}
use Rattle.std.proofs.lemmas.Bool.{cases_lt}
use Rattle.std.specs.List.{All, AllByRecursion, flat_map}
use Rattle.dp_frame.specs.Frames.{FrameParts, IsFrame, spelling, HoldsNoFrame, Splits}
use Rattle.dp_frame.proofs.Spellings.{one_first_frame, no_frame_short, no_frame_partial}
use Rattle.dp_frame.proofs.Spellings.{begins_with_frame}

-- the bytes of frames and a rest say which they are
same_splitting : (fs gs : List FrameParts) (r s : List ℕ) → AllByRecursion IsFrame fs
    → AllByRecursion IsFrame gs → HoldsNoFrame r → HoldsNoFrame s
    → flat_map spelling fs ++ r ≡ flat_map spelling gs ++ s → (fs ≡ gs) × (r ≡ s)
same_splitting [] [] r s fits_f fits_g none_r none_s whole = (refl, whole)
same_splitting [] (g ∷ gs) r s fits_f fits_g none_r none_s whole =
    absurd (none_r g (flat_map spelling gs ++ s) fits_g.0
    (whole ∙ append_assoc (spelling g) (flat_map spelling gs) s))
same_splitting (f ∷ fs) [] r s fits_f fits_g none_r none_s whole =
    absurd (none_s f (flat_map spelling fs ++ r) fits_f.0
    (sym whole ∙ append_assoc (spelling f) (flat_map spelling fs) r))
same_splitting (f ∷ fs) (g ∷ gs) r s fits_f fits_g none_r none_s whole =
    let prefix =
    one_first_frame f g (flat_map spelling fs ++ r) (flat_map spelling gs ++ s) fits_f.0
    fits_g.0
    (sym (append_assoc (spelling f) (flat_map spelling fs) r) ∙ whole
    ∙ append_assoc (spelling g) (flat_map spelling gs) s) in
    let rest = same_splitting fs gs r s fits_f.1 fits_g.1 none_r none_s prefix.1 in (
      ap (λ (h : FrameParts). h ∷ fs) prefix.0
          ∙ ap (λ (hs : List FrameParts). g ∷ hs) rest.0,
      rest.1,
    )

-- two splittings of one list of bytes are one
pub same_frames_and_rest : (bytes : List ℕ) (fs gs : List FrameParts) (r s : List ℕ)
    → Splits bytes fs r → Splits bytes gs s → (fs ≡ gs) × (r ≡ s)
same_frames_and_rest bytes fs gs r s p q =
    same_splitting fs gs r s p.each q.each p.partial q.partial (sym p.whole ∙ q.whole)

-- bytes hold no frame, or a frame and then more
first_of : (bytes : List ℕ) → AllByRecursion (λ b. b < 256) bytes
    → HoldsNoFrame bytes ⊎ ((f : FrameParts) × (more : List ℕ) × IsFrame f
    × (bytes ≡ spelling f ++ more))
first_of (a ∷ b ∷ c ∷ d ∷ tail) small =
    elim (cases_lt (length tail) (a * 256 + b)) [
      | inl partial ↦ inl (no_frame_partial (a ∷ b ∷ c ∷ d ∷ tail) (omega arith))
      | inr enough ↦ inr (begins_with_frame a b c d tail small.0 small.1.0 enough)
    ]
first_of _ small = inl (no_frame_short _ (omega arith))

-- a frame before a splitting is one frame more
pub frame_before : (f : FrameParts) (bytes : List ℕ) (fs : List FrameParts) (rest : List ℕ)
    → IsFrame f → Splits bytes fs rest → Splits (spelling f ++ bytes) (f ∷ fs) rest
frame_before f bytes fs rest fits p = record {
  whole = ap (λ (b : List ℕ). spelling f ++ b) p.whole ∙ sym
      (append_assoc (spelling f) (flat_map spelling fs) rest);
  each = (fits, p.each);
  partial = p.partial;
}

-- bytes that hold no frame are their own rest
pub rest_alone : (bytes : List ℕ) → HoldsNoFrame bytes → Splits bytes [] bytes
rest_alone bytes none = record { whole = refl; each = tt; partial = none }

-- if the bytes of two joined lists are below 256, those of the second list are
back_small : (prefix back : List ℕ) → AllByRecursion (λ b. b < 256) (prefix ++ back)
    → AllByRecursion (λ b. b < 256) back
back_small [] back small = small
back_small (x ∷ prefix) back small = back_small prefix back small.1

-- what the bytes after the first frame have, the bytes have
splitting_with : (n : ℕ) → ((more : List ℕ) → length more ≤ n → AllByRecursion (λ b. b < 256) more
    → (fs : List FrameParts) × (rest : List ℕ) × Splits more fs rest)
    → (bytes : List ℕ) → length bytes ≤ suc n → AllByRecursion (λ b. b < 256) bytes
    → HoldsNoFrame bytes ⊎ ((f : FrameParts) × (more : List ℕ) × IsFrame f
    × (bytes ≡ spelling f ++ more))
    → (fs : List FrameParts) × (rest : List ℕ) × Splits bytes fs rest
splitting_with n again bytes short small (inl none) = ([], bytes, rest_alone bytes none)
splitting_with n again bytes short small (inr (f, more, fits, whole)) =
    let shorter : length more ≤ n = omega (arith, ap length whole, length-append (spelling f) more)
    in
    let back = again more shorter (back_small (spelling f) more
    (subst (AllByRecursion (λ (b : ℕ). b < 256)) whole small)) in (
      f ∷ back.0,
      back.1,
      subst (λ (b : List ℕ). Splits b (f ∷ back.0) back.1) (sym whole)
          (frame_before f more back.0 back.1 fits back.2),
    )

-- each list of at most n bytes has a splitting
splitting_up_to : (n : ℕ) (bytes : List ℕ) → length bytes ≤ n → AllByRecursion (λ b. b < 256) bytes
    → (fs : List FrameParts) × (rest : List ℕ) × Splits bytes fs rest
splitting_up_to zero bytes short small = (
  [],
  bytes,
  rest_alone bytes
      (no_frame_short bytes (omega arith)),
)
splitting_up_to (suc n) bytes short small =
    splitting_with n (splitting_up_to n) bytes short small (first_of bytes small)

-- each list of bytes has a splitting
pub some_splitting : (bytes : List ℕ) → All (λ b. b < 256) bytes
    → (fs : List FrameParts) × (rest : List ℕ) × Splits bytes fs rest
some_splitting bytes small =
    splitting_up_to (length bytes) bytes (omega arith) (recursion_from_All (λ b. b < 256) bytes
    small)

-- a frame that begins the bytes is the first of their frames
pub frame_after : (f : FrameParts) (bytes : List ℕ) (gs : List FrameParts) (rest : List ℕ)
    → IsFrame f → Splits (spelling f ++ bytes) gs rest → (fs : List FrameParts) × (gs ≡ f ∷ fs)
    × Splits bytes fs rest
frame_after f bytes [] rest fits p = absurd (p.partial f bytes fits (sym p.whole))
frame_after f bytes (g ∷ gs) rest fits p =
    let prefix = one_first_frame f g bytes (flat_map spelling gs ++ rest) fits p.each.0
    (p.whole ∙ append_assoc (spelling g) (flat_map spelling gs) rest) in (
      gs,
      ap (λ (h : FrameParts). h ∷ gs) (sym prefix.0),
      record { whole = prefix.1; each = p.each.1; partial = p.partial },
    )

-- all of the frames of two lists, one list after the other
all_frames : (fs gs : List FrameParts) → AllByRecursion IsFrame fs → AllByRecursion IsFrame gs
    → AllByRecursion IsFrame (fs ++ gs)
all_frames [] gs fits_f fits_g = fits_g
all_frames (f ∷ fs) gs fits_f fits_g = (fits_f.0, all_frames fs gs fits_f.1 fits_g)

-- the frames of a rest with more bytes after it come after the frames before the rest
pub further_after : (bytes more : List ℕ) (fs gs : List FrameParts) (rest last : List ℕ)
    → Splits bytes fs rest → Splits (rest ++ more) gs last → Splits (bytes ++ more) (fs ++ gs) last
further_after bytes more fs gs rest last p q = record {
  whole =
      ap (λ (b : List ℕ). b ++ more) p.whole
      ∙ append_assoc (flat_map spelling fs) rest more
      ∙ ap (λ (b : List ℕ). flat_map spelling fs ++ b) q.whole
      ∙ sym (append_assoc (flat_map spelling fs) (flat_map spelling gs) last)
      ∙ ap (λ (b : List ℕ). b ++ last) (sym (flat_map-append spelling fs gs));
  each = all_frames fs gs p.each q.each;
  partial = q.partial;
}
