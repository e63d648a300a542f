-- What was fed, a frame at a time.
use Rattle.std.proofs.Common.{◌≡◌, ℕ, ◌+◌, ◌<◌, List, [], ◌∷◌, ◌++◌, length, refl, sym, ap}
use Rattle.std.proofs.Common.{◌∙◌, subst, append_assoc, length-append, arith}
use Rattle.std.specs.Int.{w16, to_be_bytes}
use Rattle.std.specs.List.{AllByRecursion, flat_map}
use Rattle.std.proofs.lemmas.List.{append-nil}
use Rattle.std.proofs.lemmas.Grind.{flat_map-append}
use Rattle.dp_frame.specs.Frames.{FrameParts, IsFrame, spelling, HoldsNoFrame}
use Rattle.dp_split.specs.Stream.{Stream}
use Rattle.dp_messages.specs.declared.message.Entry.{Entry}
use Rattle.dp_entries.specs.Input.{StandFor, Tells, TellsUpTo}
use Rattle.dp_entries.specs.Reader.{Follows}
use Rattle.dp_entries.specs.Reading.{TakesEntry, TakesBad}

-- a frame has bytes
pub some_bytes : (f : FrameParts) → 0 < length (spelling f)
some_bytes f =
    omega (arith, length-append (to_be_bytes w16 (length f.body)) (f.kind ∷ f.user ∷ f.body))

-- no bytes hold no frame
pub none_held : (held : List ℕ) → held ≡ [] → HoldsNoFrame held
none_held held none = λ f more fits whole.
    omega (arith, some_bytes f, length-append (spelling f) more, ap length (sym none ∙ whole))

each_more : (frames : List FrameParts) (f : FrameParts) → AllByRecursion IsFrame frames → IsFrame f
    → AllByRecursion IsFrame (frames ++ f ∷ [])
each_more [] f each fits = (fits, tt)
each_more (g ∷ frames) f each fits = (each.0, each_more frames f each.1 fits)

-- one more frame stands for one more entry
stand_more : (M : ℕ → FrameParts → Entry → Type 0) (before : ℕ) (frames : List FrameParts)
    (entries : List Entry) (f : FrameParts) (e : Entry)
    → StandFor M before frames entries → M (before + length frames) f e
    → StandFor M before (frames ++ f ∷ []) (entries ++ e ∷ [])
stand_more M before [] [] f e stand here =
    let at : before + 0 ≡ before = omega arith in
    (subst (λ (n : ℕ). M n f e) at here, tt)
stand_more M before [] (d ∷ entries) f e stand here = absurd stand
stand_more M before (g ∷ frames) [] f e stand here = absurd stand
stand_more M before (g ∷ frames) (d ∷ entries) f e stand here =
    let at : before + length (g ∷ frames) ≡ (before + 1) + length frames = omega arith in (
      stand.0,
      stand_more M (before + 1) frames entries f e stand.1 (subst (λ (n : ℕ). M n f e) at here),
    )

-- as many frames as entries
pub stand_length : (M : ℕ → FrameParts → Entry → Type 0) (before : ℕ) (frames : List FrameParts)
    (entries : List Entry) → StandFor M before frames entries → length frames ≡ length entries
stand_length M before [] [] stand = refl
stand_length M before [] (e ∷ entries) stand = absurd stand
stand_length M before (f ∷ frames) [] stand = absurd stand
stand_length M before (f ∷ frames) (e ∷ entries) stand =
    let rest : length frames ≡ length entries =
    stand_length M (before + 1) frames entries stand.1 in
    omega (arith, rest)

-- the bytes of frames and one more
spelled_more : (frames : List FrameParts) (f : FrameParts)
    → flat_map spelling (frames ++ f ∷ []) ≡ flat_map spelling frames ++ spelling f
spelled_more frames f = flat_map-append spelling frames (f ∷ [])
    ∙ ap (λ (xs : List ℕ). flat_map spelling frames ++ xs) (append-nil (spelling f))

-- how many bytes were fed
pub fed_length : {M : ℕ → FrameParts → Entry → Type 0} {bytes : List ℕ} {entries : List Entry}
    {count : ℕ} {stream : Stream}
    → Follows M bytes entries count stream → length bytes ≡ stream.at + length stream.held
fed_length {M = M} {bytes = bytes} {entries = entries} {count = count} {stream = stream} h = omega (
  arith,
  ap length h.whole,
  length-append (flat_map spelling h.frames) stream.held,
  h.at,
)

-- a frame is taken, and stands for an entry
pub follows_taken : (M : ℕ → FrameParts → Entry → Type 0) (bytes : List ℕ) (entries : List Entry)
    (count : ℕ) (old new : Stream) (e : Entry)
    → TakesEntry M count old new e → Follows M bytes entries count old
    → Follows M bytes (entries ++ e ∷ []) (count + 1) new
follows_taken M bytes entries count old new e taken h =
    let f = taken.frame in
    let more : flat_map spelling (h.frames ++ f ∷ []) ≡ flat_map spelling h.frames
    ++ spelling f = spelled_more h.frames f in
    let place : count ≡ 0 + length h.frames = omega (arith, h.many) in
    record {
      frames = h.frames ++ f ∷ [];
      each = each_more h.frames f h.each taken.fits;
      stand = stand_more M 0 h.frames entries f e h.stand
          (subst (λ (n : ℕ). M n f e) place taken.stands);
      many = omega (arith, h.many, length-append h.frames (f ∷ []));
      whole =
          h.whole ∙ ap (λ (xs : List ℕ). flat_map spelling h.frames ++ xs) taken.held
          ∙ sym (append_assoc (flat_map spelling h.frames) (spelling f) new.held)
          ∙ ap (λ (xs : List ℕ). xs ++ new.held) (sym more);
      at =
          taken.at ∙ ap (λ (n : ℕ). n + length (spelling f)) h.at
          ∙ sym (length-append (flat_map spelling h.frames) (spelling f)) ∙ ap length (sym more);
    }

-- a frame is taken that may not stand
pub follows_bad : {C : Type 0} (M : ℕ → FrameParts → Entry → Type 0)
    (IsCause : ℕ → FrameParts → C → Type 0)
    → ((before : ℕ) (frame : FrameParts) (cause : C) (e : Entry)
    → IsCause before frame cause → ¬ M before frame e)
    → (bytes more : List ℕ) (entries : List Entry) (count : ℕ) (old new : Stream) (cause : C)
    → TakesBad IsCause count old new cause → Follows M bytes entries count old
    → TellsUpTo M (bytes ++ more) entries old.at
follows_bad M IsCause none bytes more entries count old new cause taken h = record {
  frames = h.frames;
  bad = taken.frame;
  more = new.held ++ more;
  each = h.each;
  stand = h.stand;
  fits = taken.fits;
  nothing = λ e stands.
      none count taken.frame cause e taken.why
      (subst (λ (n : ℕ). M n taken.frame e) (sym h.many) stands);
  whole =
      ap (λ (xs : List ℕ). xs ++ more) h.whole
      ∙ append_assoc (flat_map spelling h.frames) old.held more
      ∙ ap (λ (xs : List ℕ). flat_map spelling h.frames ++ (xs ++ more)) taken.held
      ∙ ap (λ (xs : List ℕ). flat_map spelling h.frames ++ xs)
      (append_assoc (spelling taken.frame) new.held more);
  place = h.at;
}

-- more bytes are fed
pub follows_fed : (M : ℕ → FrameParts → Entry → Type 0) (bytes more : List ℕ)
    (entries : List Entry) (count : ℕ) (old new : Stream)
    → new.held ≡ old.held ++ more → new.at ≡ old.at → Follows M bytes entries count old
    → Follows M (bytes ++ more) entries count new
follows_fed M bytes more entries count old new held at h =
    record {
      frames = h.frames;
      each = h.each;
      stand = h.stand;
      many = h.many;
      whole =
          ap (λ (xs : List ℕ). xs ++ more) h.whole ∙ append_assoc (flat_map spelling h.frames)
          old.held more
          ∙ ap (λ (xs : List ℕ). flat_map spelling h.frames ++ xs) (sym held);
      at = at ∙ h.at;
    }

-- if no whole frame is held, the bytes carry the entries
pub follows_tells : {M : ℕ → FrameParts → Entry → Type 0} {bytes : List ℕ} {entries : List Entry}
    {count : ℕ} {stream : Stream}
    → HoldsNoFrame stream.held → Follows M bytes entries count stream
    → Tells M bytes entries stream.held
follows_tells none h = record {
  frames = h.frames;
  stand = h.stand;
  splits = record { whole = h.whole; each = h.each; partial = none };
}
