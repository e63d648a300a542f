-- An input comes to one end, with one list of entries.
use Rattle.std.proofs.Common.{◌≡◌, ℕ, ◌+◌, ◌≤◌, List, [], ◌∷◌, ◌++◌, length, take, drop, refl, sym}
use Rattle.std.proofs.Common.{ap, ◌∙◌, subst, append_assoc, length-append, arith}
use Rattle.std.specs.List.{AllByRecursion, flat_map}
use Rattle.std.proofs.lemmas.List.{take_all}
use Rattle.dp_frame.specs.Frames.{FrameParts, IsFrame, spelling, HoldsNoFrame, Splits}
use Rattle.dp_messages.specs.declared.message.Entry.{Entry}
use Rattle.dp_lines.specs.declared.run_end.RunEnd.{RunEnd}
use Rattle.dp_lines.specs.declared.run_end.RunEnd.TheVariants.{Done, Long, Truncated, BadMessage}
use Rattle.dp_entries.specs.Input.{StandFor, Tells, TellsUpTo, ComesTo}

-- what the layers below say of frames, and that a frame stands for at most one entry
pub record Laws (MayStand : ℕ → FrameParts → Entry → Type 0) : Type 0 where
  pub first : (f g : FrameParts) (bytes others : List ℕ) → IsFrame f → IsFrame g
      → spelling f ++ bytes ≡ spelling g ++ others → (f ≡ g) × (bytes ≡ others)
  pub splitting : (bytes : List ℕ) (frames others : List FrameParts) (rest last : List ℕ)
      → Splits bytes frames rest → Splits bytes others last → (frames ≡ others) × (rest ≡ last)
  pub entry : (before : ℕ) (frame : FrameParts) (e f : Entry) → MayStand before frame e
      → MayStand before frame f → e ≡ f

-- frames stand for one list of entries
same_entries : (M : ℕ → FrameParts → Entry → Type 0) → Laws M
    → (k : ℕ) (frames : List FrameParts) (es ds : List Entry) →
    StandFor M k frames es → StandFor M k frames ds → es ≡ ds
same_entries M laws k [] [] [] c d = refl
same_entries M laws k [] [] (y ∷ ds) c d = absurd d
same_entries M laws k [] (x ∷ es) ds c d = absurd c
same_entries M laws k (f ∷ fs) [] ds c d = absurd c
same_entries M laws k (f ∷ fs) (x ∷ es) [] c d = absurd d
same_entries M laws k (f ∷ fs) (x ∷ es) (y ∷ ds) c d =
    ap (λ (e : Entry). e ∷ es) (laws.entry k f x y c.0 d.0)
    ∙ ap (λ (rest : List Entry). y ∷ rest) (same_entries M laws (k + 1) fs es ds c.1 d.1)

same_tells : (M : ℕ → FrameParts → Entry → Type 0) → Laws M
    → (bytes : List ℕ) (es ds : List Entry) (r s : List ℕ) →
    Tells M bytes es r → Tells M bytes ds s → (es ≡ ds) × (r ≡ s)
same_tells M laws bytes es ds r s t u =
    let same = laws.splitting bytes t.frames u.frames r s t.splits u.splits in (
      same_entries M laws 0 u.frames es ds (subst (λ (frames : List FrameParts). StandFor M 0 frames
          es) same.0 t.stand) u.stand,
      same.1,
    )

-- the first of two runs of frames with the same bytes is one frame, and the bytes after it are the
-- same
same_first : (M : ℕ → FrameParts → Entry → Type 0) → Laws M
    → (f g : FrameParts) (fs gs : List FrameParts) (xs ys : List ℕ) → IsFrame f → IsFrame g →
    flat_map spelling (f ∷ fs) ++ xs ≡ flat_map spelling (g ∷ gs) ++ ys
    → (f ≡ g) × (flat_map spelling fs ++ xs ≡ flat_map spelling gs ++ ys)
same_first M laws f g fs gs xs ys fits fits_too whole =
    laws.first f g (flat_map spelling fs ++ xs) (flat_map spelling gs ++ ys) fits fits_too
    (sym (append_assoc (spelling f) (flat_map spelling fs) xs) ∙ whole
    ∙ append_assoc (spelling g) (flat_map spelling gs) ys)

-- what stands for an entry at one number before it stands for it at an equal one, as an equal frame
stands_at : (M : ℕ → FrameParts → Entry → Type 0) (k n : ℕ) (f g : FrameParts) (e : Entry) → n ≡ k
    → f ≡ g → M k g e → M n f e
stands_at M k n f g e at is stands =
    subst (λ (m : ℕ). M m f e) (sym at) (subst (λ (h : FrameParts). M k h e) (sym is) stands)

-- a frame that may not stand where it is stands nowhere among frames that stand for entries, nor in
-- their rest
never_bad : (M : ℕ → FrameParts → Entry → Type 0) → Laws M
    → (k n : ℕ) (fs gs : List FrameParts) (ds : List Entry) (bad : FrameParts) (more rest : List ℕ)
    →
    n ≡ k + length fs → AllByRecursion IsFrame fs → AllByRecursion IsFrame gs → IsFrame bad
    → ((entry : Entry) → M n bad entry → ⊥) →
    StandFor M k gs ds → HoldsNoFrame rest → flat_map spelling fs ++ (spelling bad ++ more)
    ≡ flat_map spelling gs ++ rest → ⊥
never_bad M laws k n [] [] ds bad more rest at each each_too fits nothing stand none whole = none
    bad more fits (sym whole)
never_bad M laws k n [] (g ∷ gs) (d ∷ ds) bad more rest at each each_too fits nothing stand none
    whole =
    let same = laws.first bad g more (flat_map spelling gs ++ rest) fits each_too.0
    (whole ∙ append_assoc (spelling g) (flat_map spelling gs) rest) in
    let here : n ≡ k = omega (arith, at) in
    nothing d (stands_at M k n bad g d here same.0 stand.0)
never_bad M laws k n (f ∷ fs) [] ds bad more rest at each each_too fits nothing stand none whole =
    none f (flat_map spelling fs ++ (spelling bad ++ more)) each.0
    (sym whole ∙ append_assoc (spelling f) (flat_map spelling fs) (spelling bad ++ more))
never_bad M laws k n (f ∷ fs) (g ∷ gs) (d ∷ ds) bad more rest at each each_too fits nothing stand
    none whole =
    let same = same_first M laws f g fs gs (spelling bad ++ more) rest each.0 each_too.0 whole in
    let next : n ≡ (k + 1) + length fs = omega (arith, at) in
    never_bad M laws (k + 1) n fs gs ds bad more rest next each.1 each_too.1 fits nothing stand.1
    none same.1
never_bad M laws k n _ (g ∷ gs) [] bad more rest at each each_too fits nothing stand none whole =
    absurd stand

-- the first frame that may not stand where it is stands at one place, after one list of entries
same_bad : (M : ℕ → FrameParts → Entry → Type 0) → Laws M
    → (k i j : ℕ) (fs gs : List FrameParts) (es ds : List Entry) (b c : FrameParts) (m n : List ℕ) →
    i ≡ k + length fs → j ≡ k + length gs → AllByRecursion IsFrame fs → AllByRecursion IsFrame gs
    → IsFrame b → IsFrame c →
    ((entry : Entry) → M i b entry → ⊥) → ((entry : Entry) → M j c entry → ⊥) →
    StandFor M k fs es → StandFor M k gs ds → flat_map spelling fs ++ (spelling b ++ m)
    ≡ flat_map spelling gs ++ (spelling c ++ n) →
    (es ≡ ds) × (length (flat_map spelling fs) ≡ length (flat_map spelling gs))
same_bad M laws k i j [] [] [] [] b c m n at at_too each each_too fits fits_too none none_too stand
    stand_too whole = (refl, refl)
same_bad M laws k i j [] [] [] (y ∷ ds) b c m n at at_too each each_too fits fits_too none none_too
    stand stand_too whole = absurd stand_too
same_bad M laws k i j [] (g ∷ gs) es [] b c m n at at_too each each_too fits fits_too none none_too
    stand stand_too whole = absurd stand_too
same_bad M laws k i j [] (g ∷ gs) es (y ∷ ds) b c m n at at_too each each_too fits fits_too none
    none_too stand stand_too whole =
    let same = laws.first b g m (flat_map spelling gs ++ (spelling c ++ n)) fits each_too.0
    (whole ∙ append_assoc (spelling g) (flat_map spelling gs) (spelling c ++ n)) in
    let here : i ≡ k = omega (arith, at) in
    absurd (none y (stands_at M k i b g y here same.0 stand_too.0))
same_bad M laws k i j (f ∷ fs) [] (x ∷ es) ds b c m n at at_too each each_too fits fits_too none
    none_too stand stand_too whole =
    let same = laws.first f c (flat_map spelling fs ++ (spelling b ++ m)) n each.0 fits_too
    (sym (append_assoc (spelling f) (flat_map spelling fs) (spelling b ++ m)) ∙ whole) in
    let here : j ≡ k = omega (arith, at_too) in
    absurd (none_too x (stands_at M k j c f x here (sym same.0) stand.0))
same_bad M laws k i j (f ∷ fs) (g ∷ gs) (x ∷ es) [] b c m n at at_too each each_too fits fits_too
    none none_too stand stand_too whole = absurd stand_too
same_bad M laws k i j (f ∷ fs) (g ∷ gs) (x ∷ es) (y ∷ ds) b c m n at at_too each each_too fits
    fits_too none none_too stand stand_too whole =
    let same = same_first M laws f g fs gs (spelling b ++ m) (spelling c ++ n) each.0 each_too.0
    whole in
    let next : i ≡ (k + 1) + length fs = omega (arith, at) in
    let next_too : j ≡ (k + 1) + length gs = omega (arith, at_too) in
    let rest = same_bad M laws (k + 1) i j fs gs es ds b c m n next next_too each.1 each_too.1 fits
    fits_too none none_too stand.1 stand_too.1 same.1 in
    let heads : x ≡ y = laws.entry k g x y (subst (λ (h : FrameParts). M k h x) same.0 stand.0)
    stand_too.0 in
    let spelled : length (spelling f) ≡ length (spelling g) = ap
    (λ (h : FrameParts). length (spelling h)) same.0 in (
      ap (λ (e : Entry). e ∷ es) heads ∙ ap (λ (es : List Entry). y ∷ es) rest.0,
      omega (
        arith,
        spelled,
        rest.1,
        length-append (spelling f) (flat_map spelling fs),
        length-append (spelling g) (flat_map spelling gs),
      ),
    )
same_bad M laws k i j _ _ _ ds b c m n at at_too each each_too fits fits_too none none_too stand
    stand_too whole = absurd stand

-- what the counted bytes tell: a frame that may not stand there, or none
not_both : (M : ℕ → FrameParts → Entry → Type 0) → Laws M
    → (bytes : List ℕ) (es ds : List Entry) (n : ℕ) (rest : List ℕ) →
    TellsUpTo M bytes es n → Tells M bytes ds rest → ⊥
not_both M laws bytes es ds n rest t u =
    let at : length t.frames ≡ 0 + length t.frames = omega arith in
    never_bad M laws 0 (length t.frames) t.frames u.frames ds t.bad t.more rest at t.each
    u.splits.each t.fits t.nothing u.stand u.splits.partial
    (sym t.whole ∙ u.splits.whole)

same_up_to : (M : ℕ → FrameParts → Entry → Type 0) → Laws M
    → (bytes : List ℕ) (es ds : List Entry) (m n : ℕ) →
    TellsUpTo M bytes es m → TellsUpTo M bytes ds n → (es ≡ ds) × (m ≡ n)
same_up_to M laws bytes es ds m n t u =
    let at : length t.frames ≡ 0 + length t.frames = omega arith in
    let at_too : length u.frames ≡ 0 + length u.frames = omega arith in
    let same = same_bad M laws 0 (length t.frames) (length u.frames) t.frames u.frames es ds t.bad
    u.bad t.more u.more at at_too t.each u.each t.fits u.fits
    t.nothing u.nothing t.stand u.stand (sym t.whole ∙ u.whole) in
    (same.0, t.place ∙ same.1 ∙ sym u.place)

-- all of a short input counts
counts_whole : (M : ℕ → FrameParts → Entry → Type 0) (first limit : ℕ) (input : List ℕ)
    (es : List Entry) (rest : List ℕ) → length input ≤ limit →
    Tells M (drop first input) es rest → Tells M (drop first (take limit input)) es rest
counts_whole M first limit input es rest short t =
    subst (λ (bytes : List ℕ). Tells M (drop first bytes) es rest)
    (sym (take_all limit input short)) t

pub same_reading : (M : ℕ → FrameParts → Entry → Type 0) → Laws M
    → (first limit : ℕ) (input : List ℕ) (es ds : List Entry) (end other : RunEnd) →
    ComesTo M first limit input es end → ComesTo M first limit input ds other
    → (es ≡ ds) × (end ≡ other)
same_reading M laws first limit input es ds Done Done h k =
    ((same_tells M laws (drop first input) es ds [] [] h.0 k.0).0, refl)
same_reading M laws first limit input es ds Done (Truncated n) h k = absurd
    (k.2 (sym (same_tells M laws (drop first input) es ds [] k.0 h.0 k.1).1))
same_reading M laws first limit input es ds Done Long h k = absurd (omega (arith, h.1, k.2))
same_reading M laws first limit input es ds Done (BadMessage n) h k =
    absurd (not_both M laws (drop first (take limit input)) ds es k.0 [] k.1
    (counts_whole M first limit input es [] h.1 h.0))
same_reading M laws first limit input es ds (Truncated n) Done h k = absurd
    (h.2 (same_tells M laws (drop first input) es ds h.0 [] h.1 k.0).1)
same_reading M laws first limit input es ds (Truncated m) (Truncated n) h k =
    let same = same_tells M laws (drop first input) es ds h.0 k.0 h.1 k.1 in
    let places : m ≡ n = omega (arith, h.3, k.3, ap length same.1) in
    (same.0, ap (λ (at : ℕ). Truncated at) places)
same_reading M laws first limit input es ds (Truncated n) Long h k = absurd
    (omega (arith, h.4, k.2))
same_reading M laws first limit input es ds (Truncated m) (BadMessage n) h k =
    absurd (not_both M laws (drop first (take limit input)) ds es k.0 h.0 k.1
    (counts_whole M first limit input es h.0 h.4 h.1))
same_reading M laws first limit input es ds Long Done h k = absurd (omega (arith, h.2, k.1))
same_reading M laws first limit input es ds Long (Truncated n) h k = absurd
    (omega (arith, h.2, k.4))
same_reading M laws first limit input es ds Long Long h k =
    ((same_tells M laws (drop first (take limit input)) es ds h.0 k.0 h.1 k.1).0, refl)
same_reading M laws first limit input es ds Long (BadMessage n) h k =
    absurd (not_both M laws (drop first (take limit input)) ds es k.0 h.0 k.1 h.1)
same_reading M laws first limit input es ds (BadMessage n) Done h k =
    absurd (not_both M laws (drop first (take limit input)) es ds h.0 [] h.1
    (counts_whole M first limit input ds [] k.1 k.0))
same_reading M laws first limit input es ds (BadMessage m) (Truncated n) h k =
    absurd (not_both M laws (drop first (take limit input)) es ds h.0 k.0 h.1
    (counts_whole M first limit input ds k.0 k.4 k.1))
same_reading M laws first limit input es ds (BadMessage n) Long h k =
    absurd (not_both M laws (drop first (take limit input)) es ds h.0 k.0 h.1 k.1)
same_reading M laws first limit input es ds (BadMessage m) (BadMessage n) h k =
    let same = same_up_to M laws (drop first (take limit input)) es ds h.0 k.0 h.1 k.1 in (
      same.0,
      ap (λ (at : ℕ). BadMessage at) (h.2 ∙ ap (λ (after : ℕ). first + after) same.1
          ∙ sym k.2),
    )
same_reading M laws first limit input es ds Done other h k = absurd k
same_reading M laws first limit input es ds (Truncated n) other h k = absurd k
same_reading M laws first limit input es ds Long other h k = absurd k
same_reading M laws first limit input es ds (BadMessage n) other h k = absurd k
same_reading M laws first limit input es ds end other h k = absurd h
