-- One frame and the bytes after it.
use Rattle.std.proofs.Common.{◌≡◌, ℕ, ◌+◌, ◌*◌, ◌/◌, ◌%◌, ◌<◌, ◌≤◌, List, ◌∷◌, ◌++◌, length}
use Rattle.std.proofs.Common.{get_or, take, drop, refl, sym, ap, ◌∙◌, arith, length-append}
use Rattle.std.proofs.lemmas.List.{take_at, drop_at, take-append-drop, length-take-le}
use Rattle.byteorder.specs.Endian.{big_number}
use Rattle.dp_frame.specs.Frames.{FrameParts, IsFrame, spelling, HoldsNoFrame}

-- if two joined lists are equal and their first parts have one length, the parts are equal
append_same : (fs gs xs ys : List ℕ) → length fs ≡ length gs → fs ++ xs ≡ gs ++ ys
    → (fs ≡ gs) × (xs ≡ ys)
append_same fs gs xs ys lengths whole =
    let n = length gs in (
      sym (take_at fs xs n lengths) ∙ ap (take n) whole ∙ take_at gs ys n refl,
      sym (drop_at fs xs n lengths) ∙ ap (drop n) whole ∙ drop_at gs ys n refl,
    )

-- frames with the same parts are one
same_frame : (f g : FrameParts) → f.kind ≡ g.kind → f.user ≡ g.user → f.body ≡ g.body → f ≡ g
same_frame f g kinds users bodies =
    ap (λ (k : ℕ). let r : FrameParts = record { kind = k; user = f.user; body = f.body } in r)
    kinds
    ∙ ap (λ (u : ℕ). let r : FrameParts = record { kind = g.kind; user = u; body = f.body } in r)
    users
    ∙ ap (λ (b : List ℕ). let r : FrameParts = record { kind = g.kind; user = g.user; body = b } in
    r) bodies

-- bytes begin with at most one frame
pub one_first_frame : (f g : FrameParts) (xs ys : List ℕ) → IsFrame f → IsFrame g
    → spelling f ++ xs ≡ spelling g ++ ys → (f ≡ g) × (xs ≡ ys)
one_first_frame f g xs ys fits_f fits_g whole =
    let high : length f.body / 256 % 256 ≡ length g.body / 256 % 256 = cc in
    let low : length f.body % 256 ≡ length g.body % 256 = cc in
    let kinds : f.kind ≡ g.kind = cc in
    let users : f.user ≡ g.user = cc in
    let bodies : f.body ++ xs ≡ g.body ++ ys = cc in
    let lengths : length f.body ≡ length g.body = omega arith in
    let parts = append_same f.body g.body xs ys lengths bodies in
    (same_frame f g kinds users parts.0, parts.1)

-- fewer bytes than a header hold no frame
pub no_frame_short : (bytes : List ℕ) → length bytes < 4 → HoldsNoFrame bytes
no_frame_short bytes short f more fits whole =
    omega (arith, ap length whole, length-append (spelling f) more)

-- the first two bytes are the payload's length
pub first_number : (f : FrameParts) (more : List ℕ) → IsFrame f
    → big_number 2 (spelling f ++ more) ≡ length f.body
first_number f more fits = omega arith

-- fewer bytes than the header and the payload that it announces hold no frame
pub no_frame_partial : (bytes : List ℕ) → length bytes < big_number 2 bytes + 4 → HoldsNoFrame bytes
no_frame_partial bytes partial f more fits whole =
    let number : big_number 2 bytes ≡ length f.body = ap (big_number 2) whole
    ∙ first_number f more fits in
    omega (arith, ap length whole, length-append (spelling f) more)

-- a header with the payload that it announces after it is a frame, and the rest follows
pub begins_with_frame : (a b c d : ℕ) (tail : List ℕ) → a < 256 → b < 256
    → a * 256 + b ≤ length tail
    → (f : FrameParts) × (more : List ℕ) × IsFrame f × (a ∷ b ∷ c ∷ d ∷ tail ≡ spelling f ++ more)
begins_with_frame a b c d tail small_a small_b enough =
    let n = a * 256 + b in
    let body = take n tail in
    let len : length body ≡ n = length-take-le n tail enough in
    let high : a ≡ length body / 256 % 256 = omega arith in
    let low : b ≡ length body % 256 = omega arith in (
      record { kind = c; user = d; body = body },
      drop n tail,
      omega arith,
      ap (λ (x : ℕ). x ∷ b ∷ c ∷ d ∷ tail) high
          ∙ ap (λ (x : ℕ). (length body / 256 % 256) ∷ x ∷ c ∷ d ∷ tail) low
          ∙ ap (λ (t : List ℕ). (length body / 256 % 256) ∷ (length body % 256) ∷ c ∷ d ∷ t)
          (sym (take-append-drop n tail)),
    )

-- bytes that have all that the header announces hold a frame
pub holds_frame : (bytes : List ℕ) → ((i : ℕ) → get_or bytes i 0 < 256) → 4 ≤ length bytes
    → big_number 2 bytes + 4 ≤ length bytes → HoldsNoFrame bytes → ⊥
holds_frame (a ∷ b ∷ c ∷ d ∷ tail) small long enough none =
    let found = begins_with_frame a b c d tail (small 0) (small 1) (omega arith) in
    none found.0 found.1 found.2 found.3
holds_frame _ small long enough none = absurd (omega arith)

-- what is taken first is a frame, and the rest is after it
pub frame_and_rest : (held rest : List ℕ) (len : ℕ) (f : FrameParts) → take len held ≡ spelling f
    → rest ≡ drop len held → held ≡ spelling f ++ rest
frame_and_rest held rest len f prefix back =
    sym (take-append-drop len held) ∙ ap (λ (b : List ℕ). b ++ drop len held) prefix
    ∙ ap (λ (b : List ℕ). spelling f ++ b) (sym back)
