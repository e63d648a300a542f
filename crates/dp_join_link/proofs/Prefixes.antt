-- Entries with which the bytes of one link begin.
use Rattle.std.proofs.Common.{◌≡◌, ◌⊎◌, inl, inr, ℕ, ◌+◌, ◌-◌, List, [], ◌∷◌, ◌++◌, length, take}
use Rattle.std.proofs.Common.{refl, sym, ap, ◌∙◌, subst, append_assoc, arith}
use Rattle.std.specs.List.{AllByRecursion, flat_map}
use Rattle.std.proofs.Math.Seq.{take-append-add}
use Rattle.dp_frame.specs.Frames.{FrameParts, IsFrame, spelling, HoldsNoFrame}
use Rattle.dp_messages.specs.declared.message.Entry.{Entry}
use Rattle.dp_lines.specs.declared.run_end.RunEnd.{RunEnd}
use Rattle.dp_lines.specs.declared.run_end.RunEnd.TheVariants as run
use Rattle.dp_entries.specs.Input.{StandFor}
use Rattle.dp_join_link.specs.JoinStanding.{StandsOnLink}
use Rattle.dp_join_link.specs.Links.{BeginsWith, LinkComesTo}
use Rattle.dp_io.specs.Limits.{stream_limit}

-- what the layers below say of frames
pub record Laws : Type 0 where
  pub first : (f g : FrameParts) (bytes others : List ℕ) → IsFrame f → IsFrame g
      → spelling f ++ bytes ≡ spelling g ++ others → (f ≡ g) × (bytes ≡ others)
  pub entry : (before : ℕ) (frame : FrameParts) (e f : Entry) → StandsOnLink before frame e
      → StandsOnLink before frame f → e ≡ f

-- the first list is the second's first part
pub record IsFirstOf {X : Type 0} (xs ys : List X) : Type 0 where
  pub rest : List X
  pub whole : ys ≡ xs ++ rest

pub first_more : {X : Type 0} (x : X) (xs ys : List X) → IsFirstOf xs ys
    → IsFirstOf (x ∷ xs) (x ∷ ys)
first_more x xs ys first = record { rest = first.rest; whole = ap (λ zs. x ∷ zs) first.whole }

pub first_nil : {X : Type 0} (ys : List X) → IsFirstOf [] ys
first_nil ys = record { rest = ys; whole = refl }

-- the first of two runs of frames with the same bytes is one frame
same_first : Laws → (f g : FrameParts) (fs gs : List FrameParts) (xs ys : List ℕ)
    → IsFrame f → IsFrame g
    → flat_map spelling (f ∷ fs) ++ xs ≡ flat_map spelling (g ∷ gs) ++ ys
    → (f ≡ g) × (flat_map spelling fs ++ xs ≡ flat_map spelling gs ++ ys)
same_first laws f g fs gs xs ys fits fits_too whole =
    laws.first f g (flat_map spelling fs ++ xs) (flat_map spelling gs ++ ys) fits fits_too
    (sym (append_assoc (spelling f) (flat_map spelling fs) xs) ∙ whole
    ∙ append_assoc (spelling g) (flat_map spelling gs) ys)

same_entry : Laws → (k : ℕ) (f g : FrameParts) (x y : Entry) → f ≡ g → StandsOnLink k f x
    → StandsOnLink k g y → x ≡ y
same_entry laws k f g x y same stand stand_too =
    laws.entry k g x y (subst (λ (h : FrameParts). StandsOnLink k h x) same stand) stand_too

-- of two lists of entries with which bytes begin one is the first part of the other
compared : Laws → (k : ℕ) (fs gs : List FrameParts) (es ds : List Entry) (xs ys : List ℕ)
    → AllByRecursion IsFrame fs → AllByRecursion IsFrame gs
    → StandFor StandsOnLink k fs es → StandFor StandsOnLink k gs ds
    → flat_map spelling fs ++ xs ≡ flat_map spelling gs ++ ys
    → IsFirstOf es ds ⊎ IsFirstOf ds es
compared laws k [] gs [] ds xs ys each each_too stand stand_too whole = inl (first_nil ds)
compared laws k [] gs (x ∷ es) ds xs ys each each_too stand stand_too whole = absurd stand
compared laws k (f ∷ fs) gs [] ds xs ys each each_too stand stand_too whole = absurd stand
compared laws k (f ∷ fs) [] (x ∷ es) [] xs ys each each_too stand stand_too whole =
    inr (first_nil (x ∷ es))
compared laws k (f ∷ fs) [] (x ∷ es) (y ∷ ds) xs ys each each_too stand stand_too whole =
    absurd stand_too
compared laws k (f ∷ fs) (g ∷ gs) (x ∷ es) [] xs ys each each_too stand stand_too whole =
    absurd stand_too
compared laws k (f ∷ fs) (g ∷ gs) (x ∷ es) (y ∷ ds) xs ys each each_too stand stand_too whole =
    let same = same_first laws f g fs gs xs ys each.0 each_too.0 whole in
    let here : x ≡ y = same_entry laws k f g x y same.0 stand.0 stand_too.0 in
    elim (compared laws (k + 1) fs gs es ds xs ys each.1 each_too.1 stand.1 stand_too.1 same.1) [
      | inl first ↦ inl (subst (λ (z : Entry). IsFirstOf (z ∷ es) (y ∷ ds)) (sym here)
          (first_more y es ds first))
      | inr first ↦ inr (subst (λ (z : Entry). IsFirstOf (y ∷ ds) (z ∷ es)) (sym here)
          (first_more y ds es first))
    ]

pub begin_alike : Laws → (link : List ℕ) (es ds : List Entry) → BeginsWith link es
    → BeginsWith link ds → IsFirstOf es ds ⊎ IsFirstOf ds es
begin_alike laws link es ds first second =
    compared laws 0 first.frames second.frames es ds first.more second.more first.each second.each
    first.stand second.stand (sym first.whole ∙ second.whole)

-- no frame with which the bytes begin may stand with these many before it
abbrev StopsThere : ℕ → List ℕ → Type 0
StopsThere before bytes =
    (f : FrameParts) (others : List ℕ) (e : Entry) → IsFrame f → spelling f ++ others ≡ bytes
    → StandsOnLink before f e → ⊥

-- entries with which bytes begin are the first of those whose frames are followed by none that may
-- stand
within_rest : Laws → (k n : ℕ) (fs gs : List FrameParts) (es ds : List Entry) (xs rest : List ℕ)
    → n ≡ k + length gs → AllByRecursion IsFrame fs → AllByRecursion IsFrame gs
    → StandFor StandsOnLink k fs es → StandFor StandsOnLink k gs ds → StopsThere n rest
    → flat_map spelling fs ++ xs ≡ flat_map spelling gs ++ rest → IsFirstOf es ds
within_rest laws k n [] gs [] ds xs rest at each each_too stand stand_too none whole = first_nil ds
within_rest laws k n [] gs (x ∷ es) ds xs rest at each each_too stand stand_too none whole =
    absurd stand
within_rest laws k n (f ∷ fs) gs [] ds xs rest at each each_too stand stand_too none whole =
    absurd stand
within_rest laws k n (f ∷ fs) [] (x ∷ es) ds xs rest at each each_too stand stand_too none whole =
    let here : k ≡ n = omega (arith, at) in
    absurd (none f (flat_map spelling fs ++ xs) x each.0
    (sym (append_assoc (spelling f) (flat_map spelling fs) xs) ∙ whole)
    (subst (λ (m : ℕ). StandsOnLink m f x) here stand.0))
within_rest laws k n (f ∷ fs) (g ∷ gs) (x ∷ es) [] xs rest at each each_too stand stand_too none
    whole = absurd stand_too
within_rest laws k n (f ∷ fs) (g ∷ gs) (x ∷ es) (y ∷ ds) xs rest at each each_too stand stand_too
    none whole =
    let same = same_first laws f g fs gs xs rest each.0 each_too.0 whole in
    let here : x ≡ y = same_entry laws k f g x y same.0 stand.0 stand_too.0 in
    let next : n ≡ (k + 1) + length gs = omega (arith, at) in
    subst (λ (z : Entry). IsFirstOf (z ∷ es) (y ∷ ds)) (sym here)
    (first_more y es ds (within_rest laws (k + 1) n fs gs es ds xs rest next each.1 each_too.1
    stand.1 stand_too.1 none same.1))

-- there is no frame
stops_empty : (n : ℕ) (rest : List ℕ) → HoldsNoFrame rest → StopsThere n rest
stops_empty n rest none f others e fits whole stands = none f others fits (sym whole)

-- there is one that may not stand
stops_bad : Laws → (n : ℕ) (bad : FrameParts) (more : List ℕ) → IsFrame bad
    → ((entry : Entry) → StandsOnLink n bad entry → ⊥) → StopsThere n (spelling bad ++ more)
stops_bad laws n bad more fits none f others e fits_too whole stands =
    none e (subst (λ (h : FrameParts). StandsOnLink n h e)
    (laws.first f bad others more fits_too fits whole).0 stands)

-- the bytes that count begin with the entries, too
counted : (link : List ℕ) (es : List Entry) (first : BeginsWith link es)
    → take stream_limit link ≡ flat_map spelling first.frames
    ++ take (stream_limit - length (flat_map spelling first.frames)) first.more
counted link es first =
    let prefix = flat_map spelling first.frames in
    let room : stream_limit ≡ length prefix + (stream_limit - length prefix) =
    omega (arith, first.counts) in
    ap (take stream_limit) first.whole
    ∙ ap (λ (n : ℕ). take n (prefix ++ first.more)) room
    ∙ take-append-add prefix first.more (stream_limit - length prefix)

-- entries with which a link begins are the first of those that it comes to
pub within_all : Laws → (link : List ℕ) (es ds : List Entry) (end : RunEnd)
    → BeginsWith link es → LinkComesTo link ds end → IsFirstOf es ds
within_all laws link es ds run.Done first (tells, short) =
    within_rest laws 0 (length tells.frames) first.frames tells.frames es ds first.more []
    (omega arith) first.each tells.splits.each first.stand tells.stand
    (stops_empty _ [] tells.splits.partial) (sym first.whole ∙ tells.splits.whole)
within_all laws link es ds (run.Truncated n) first (rest, tells, some, ends, short) =
    within_rest laws 0 (length tells.frames) first.frames tells.frames es ds first.more rest
    (omega arith) first.each tells.splits.each first.stand tells.stand
    (stops_empty _ rest tells.splits.partial) (sym first.whole ∙ tells.splits.whole)
within_all laws link es ds run.Long first (rest, tells, long) =
    within_rest laws 0 (length tells.frames) first.frames tells.frames es ds
    (take (stream_limit - length (flat_map spelling first.frames)) first.more) rest
    (omega arith) first.each tells.splits.each first.stand tells.stand
    (stops_empty _ rest tells.splits.partial) (sym (counted link es first) ∙ tells.splits.whole)
within_all laws link es ds (run.BadMessage n) first (after, tells, place) =
    within_rest laws 0 (length tells.frames) first.frames tells.frames es ds
    (take (stream_limit - length (flat_map spelling first.frames)) first.more)
    (spelling tells.bad ++ tells.more) (omega arith) first.each tells.each first.stand tells.stand
    (stops_bad laws (length tells.frames) tells.bad tells.more tells.fits tells.nothing)
    (sym (counted link es first) ∙ tells.whole)
within_all laws link es ds _ first comes = absurd comes
