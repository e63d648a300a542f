-- How reading goes on, and how it ends.
use Rattle.std.proofs.Common.{◌≡◌, ℕ, ◌+◌, ◌<◌, ◌≤◌, List, [], ◌∷◌, ◌++◌, length, take, drop}
use Rattle.std.proofs.Common.{refl, sym, ap, ◌∙◌, subst, append_assoc, length-append, arith}
use Rattle.std.proofs.Common.{Bool, true, false, IsTrue, cond}
use Rattle.std.specs.Prelude.{Option, Some, ◌-◌, ◌↔◌}
use Rattle.std.specs.List.{flat_map}
use Rattle.std.proofs.Math.Seq.{drop-append_seam}
use Rattle.std.proofs.lemmas.Bool.{false≢true}
use Rattle.std.proofs.lemmas.List.{length-drop, length-take, nil_from_length}
use Rattle.std.specs.Io.KnownBytes.{Consumes, Keeps, IsAtEnd}
use Rattle.dp_io.specs.Pieces.{TookPieces}
use Rattle.dp_io.proofs.Pieces.{all_taken, counted_first, cut_short, first_taken, kept_taken}
use Rattle.dp_io.proofs.Pieces.{nothing_taken, parts_of, piece_taken}
use Rattle.dp_lines.proofs.TakenParts.{took_all, took_last}
use Rattle.dp_frame.specs.Frames.{FrameParts, IsFrame, spelling, HoldsNoFrame}
use Rattle.dp_split.specs.Stream.{Stream}
use Rattle.dp_messages.specs.declared.message.Entry.{Entry}
use Rattle.dp_lines.specs.declared.run_end.RunEnd.TheVariants as run
use Rattle.dp_entries.specs.declared.ends.ReadEnd.TheVariants.{ReadFault, Truncated, BadMessage}
use Rattle.dp_entries.specs.declared.ends.ReadEnd.TheVariants.{Long}
use Rattle.dp_entries.specs.declared.ends.Refusal.{Refusal}
use Rattle.dp_entries.specs.declared.ends.Refusal.TheVariants as refusal
use Rattle.dp_entries.specs.Ends.{IfCause, refused_at}
use Rattle.dp_entries.specs.Input.{Tells, TellsUpTo, ComesTo, HoldsNoCause}
use Rattle.dp_entries.specs.Reader.{Reader, Follows, HasRead, measure_of, room_of}
use Rattle.dp_entries.specs.Reading.{TakesEntry, TakesBad, TookNoCause, EndsReading}
use Rattle.dp_entries.proofs.Frames.{none_held, stand_length, fed_length, follows_taken}
use Rattle.dp_entries.proofs.Frames.{follows_bad, follows_fed, follows_tells}

-- what comes after the first bytes
drop_prefix : (xs ys : List ℕ) (n : ℕ) → length xs ≡ n → drop n (xs ++ ys) ≡ ys
drop_prefix xs ys n e = ap (λ (k : ℕ). drop k (xs ++ ys)) (sym e) ∙ drop-append_seam xs ys

none_above : (n : ℕ) → ¬ (0 < n) → n ≡ 0
none_above n none = omega (arith, none)

-- ---- what was read

module _ {M : ℕ → FrameParts → Entry → Type 0} {input : List ℕ} {left : Option (List ℕ)}
    {entries : List Entry} {r : Reader} (h : HasRead M input left entries r) where
  -- how many bytes these are: those before the first frame, and those that were fed
  prefix_length : length ((h.head ++ h.earlier) ++ h.piece)
      ≡ r.first + r.stream.at + length r.stream.held
  prefix_length = omega (
    arith,
    length-append (h.head ++ h.earlier) h.piece,
    length-append h.head h.earlier,
    length-append h.earlier h.piece,
    h.place,
    fed_length h.follows,
  )

  -- the input is the bytes before the first frame, those that were fed, and others
  pub input_parts : input
      ≡ h.head ++ ((h.earlier ++ h.piece) ++ (h.cut ++ (parts_of h.took).untaken))
  input_parts =
      let rest : List ℕ = h.cut ++ (parts_of h.took).untaken in
      (parts_of h.took).whole
      ∙ ap (λ (xs : List ℕ). xs ++ rest) (append_assoc h.head h.earlier h.piece)
      ∙ append_assoc h.head (h.earlier ++ h.piece) rest

  -- after the first bytes, those that were fed
  after_head : (more : List ℕ)
      → drop r.first (((h.head ++ h.earlier) ++ h.piece) ++ more) ≡ (h.earlier ++ h.piece) ++ more
  after_head more =
      ap (λ (xs : List ℕ). drop r.first (xs ++ more)) (append_assoc h.head h.earlier h.piece)
      ∙ ap (drop r.first) (append_assoc h.head (h.earlier ++ h.piece) more)
      ∙ drop_prefix h.head ((h.earlier ++ h.piece) ++ more) r.first h.place

  fed_after : drop r.first ((h.head ++ h.earlier) ++ h.piece) ≡ h.earlier ++ h.piece
  fed_after =
      ap (drop r.first) (append_assoc h.head h.earlier h.piece)
      ∙ drop_prefix h.head (h.earlier ++ h.piece) r.first h.place

  -- if no whole frame is held, they hold no cause to end
  no_cause : HoldsNoFrame r.stream.held
      → HoldsNoCause M r.first r.limit ((h.head ++ h.earlier) ++ h.piece)
  no_cause none = record {
    entries = entries;
    rest = r.stream.held;
    tells =
        subst (λ (xs : List ℕ). Tells M xs entries r.stream.held) (sym fed_after)
        (follows_tells none h.follows);
    counts = h.took.within;
  }

  -- what was taken, but for the last piece, holds no cause to end
  took_piece : TookNoCause M r.first r.limit 4096 input left
  took_piece = took_last (HoldsNoCause M r.first r.limit) h.took h.quiet

  -- if no more was taken than counts, nothing was cut
  none_cut : ¬ IsTrue r.over
      → TookPieces r.limit (Some input) left (h.head ++ h.earlier) h.piece []
  none_cut not_over =
      let cut : h.cut ≡ [] =
      nil_from_length h.cut (none_above (length h.cut) (λ some. not_over (h.over.1 some))) in
      subst (λ (xs : List ℕ). TookPieces r.limit (Some input) left (h.head ++ h.earlier) h.piece xs)
      cut h.took

-- ---- the first pull, and an entry more

-- before the first read
pub begins : (M : ℕ → FrameParts → Entry → Type 0) (input head untaken : List ℕ) (r : Reader)
    → r.stream.held ≡ [] → r.stream.at ≡ 0 → r.count ≡ 0 → r.over ≡ false
    → length head ≡ r.first → r.first ≤ r.limit
    → input ≡ head ++ untaken → HasRead M input (Some untaken) [] r
begins M input head untaken r held at count over place within whole = record {
  head = head;
  earlier = [];
  piece = [];
  cut = [];
  took = first_taken r.limit input head untaken whole (omega (arith, place, within));
  place = place;
  follows = follows;
  quiet = record {
    entries = [];
    rest = [];
    tells = record {
      frames = [];
      stand = tt;
      splits = record {
        whole = drop_prefix head [] r.first place;
        each = tt;
        partial = none_held [] refl;
      };
    };
    counts = omega (arith, length-append head []);
  };
  over = (
    λ yes. let e : true ≡ false = over_is r.over yes over in cc (e),
    λ some. absurd (omega (arith, some)),
  );
}
  where
    follows : Follows M [] [] r.count r.stream
    follows =
        record { frames = []; each = tt; stand = tt; many = count; whole = sym held; at = at }

    over_is : (b : Bool) → IsTrue b → b ≡ false → true ≡ false
    over_is b true_is e = sym true_is ∙ e

-- a frame is taken, and stands for an entry
pub reads_entry : (M : ℕ → FrameParts → Entry → Type 0) (input : List ℕ) (left : Option (List ℕ))
    (entries : List Entry) (old new : Reader) (e : Entry)
    → TakesEntry M old.count old.stream new.stream e → new.count ≡ old.count + 1
    → new.first ≡ old.first → new.limit ≡ old.limit → new.over ≡ old.over
    → HasRead M input left entries old → HasRead M input left (entries ++ e ∷ []) new
reads_entry M input left entries old new e taken count first limit over h =
    let further : Follows M (h.earlier ++ h.piece) (entries ++ e ∷ []) new.count new.stream =
    subst (λ (n : ℕ). Follows M (h.earlier ++ h.piece) (entries ++ e ∷ []) n new.stream)
    (sym count)
    (follows_taken M (h.earlier ++ h.piece) entries old.count old.stream new.stream e taken
    h.follows) in record {
      head = h.head;
      earlier = h.earlier;
      piece = h.piece;
      cut = h.cut;
      took = subst (λ (n : ℕ). TookPieces n (Some input) left (h.head ++ h.earlier) h.piece h.cut)
          (sym limit) h.took;
      place = h.place ∙ sym first;
      follows = further;
      quiet =
          subst (λ (n : ℕ). HoldsNoCause M n new.limit (h.head ++ h.earlier)) (sym first)
          (subst (λ (n : ℕ). HoldsNoCause M old.first n (h.head ++ h.earlier)) (sym limit)
          h.quiet);
      over = (
        λ yes. h.over.0 (subst IsTrue over yes),
        λ some. subst IsTrue (sym over) (h.over.1 some),
      );
    }

-- a frame is taken that may not stand
pub ends_bad : {C : Type 0} (M : ℕ → FrameParts → Entry → Type 0)
    (IsCause : ℕ → FrameParts → C → Type 0)
    → ((before : ℕ) (frame : FrameParts) (cause : C) (e : Entry)
    → IsCause before frame cause → ¬ M before frame e)
    → (input : List ℕ) (left : Option (List ℕ)) (entries : List Entry) (old : Reader)
    (new : Stream) (at : ℕ) (cause : C)
    → TakesBad IsCause old.count old.stream new cause → at ≡ old.stream.at
    → HasRead M input left entries old
    → EndsReading M IsCause old.first old.limit input left entries
    (BadMessage cause (old.first + at))
ends_bad M IsCause none input left entries old new at cause taken place h =
    let fed : List ℕ = h.earlier ++ h.piece in
    let prefix : List ℕ = (h.head ++ h.earlier) ++ h.piece in
    let rest : List ℕ = h.cut ++ (parts_of h.took).untaken in
    let more : List ℕ = take (old.limit - length prefix) rest in
    let bytes : drop old.first (take old.limit input) ≡ fed ++ more =
    ap (drop old.first) (counted_first h.took) ∙ after_head h more in
    let tells : TellsUpTo M (drop old.first (take old.limit input)) entries old.stream.at =
    subst (λ (xs : List ℕ). TellsUpTo M xs entries old.stream.at) (sym bytes)
    (follows_bad M IsCause none fed more entries old.count old.stream new cause taken h.follows) in
    let f = h.follows in
    let many : old.count ≡ length entries = f.many ∙ stand_length M 0 f.frames entries f.stand in
    let frames : List ℕ = flat_map spelling f.frames in (
      (
        at,
        subst (λ (n : ℕ). TellsUpTo M (drop old.first (take old.limit input)) entries n)
            (sym place) tells,
        refl,
      ),
      took_piece h,
      record {
        frame = taken.frame;
        prefix = h.head ++ frames;
        more = new.held ++ rest;
        whole =
            input_parts h ∙ ap (λ (xs : List ℕ). h.head ++ (xs ++ rest)) f.whole
            ∙ ap (λ (xs : List ℕ). h.head ++ ((frames ++ xs) ++ rest)) taken.held
            ∙ ap (λ (xs : List ℕ). h.head ++ xs)
            (append_assoc frames (spelling taken.frame ++ new.held) rest)
            ∙ sym (append_assoc h.head frames ((spelling taken.frame ++ new.held) ++ rest))
            ∙ ap (λ (xs : List ℕ). (h.head ++ frames) ++ xs)
            (append_assoc (spelling taken.frame) new.held rest);
        place = omega (arith, place, f.at, h.place, length-append h.head frames);
        why = subst (λ (n : ℕ). IsCause n taken.frame cause) many taken.why;
      },
    )

-- more bytes than count were taken
pub ends_long : {C : Type 0} (M : ℕ → FrameParts → Entry → Type 0)
    (IsCause : ℕ → FrameParts → C → Type 0)
    (input : List ℕ) (left : Option (List ℕ)) (entries : List Entry) (r : Reader)
    → HoldsNoFrame r.stream.held → IsTrue r.over → HasRead M input left entries r
    → EndsReading M IsCause r.first r.limit input left entries Long
ends_long M IsCause input left entries r none over h =
    let short = cut_short h.took (h.over.0 over) in
    let same : drop r.first (take r.limit input) ≡ h.earlier ++ h.piece =
    ap (drop r.first) short.0 ∙ fed_after h in (
      (
        r.stream.held,
        subst (λ (xs : List ℕ). Tells M xs entries r.stream.held) (sym same)
            (follows_tells none h.follows),
        short.1,
      ),
      took_piece h,
    )

-- ---- a read

-- the input failed, and what is left of it stays
pub ends_fault : {C : Type 0} (M : ℕ → FrameParts → Entry → Type 0)
    (IsCause : ℕ → FrameParts → C → Type 0)
    (input : List ℕ) (left new : Option (List ℕ)) (entries : List Entry) (r : Reader)
    → HoldsNoFrame r.stream.held → ¬ IsTrue r.over → Keeps left new
    → HasRead M input left entries r
    → EndsReading M IsCause r.first r.limit input new entries ReadFault
ends_fault M IsCause input left new entries r none not_over keeps h =
    took_all (HoldsNoCause M r.first r.limit) 0
    (kept_taken r.limit (Some input) left new (h.head ++ h.earlier) h.piece [] keeps
    (none_cut h not_over)) (no_cause h none)

-- a piece is taken, of which the bytes that count are fed
pub reads_piece : (M : ℕ → FrameParts → Entry → Type 0) (input : List ℕ)
    (left rest : Option (List ℕ)) (entries : List Entry) (old later : Reader) (chunk : List ℕ)
    → HoldsNoFrame old.stream.held → ¬ IsTrue old.over → length chunk ≤ 4096
    → Consumes left rest chunk
    → later.stream.held ≡ old.stream.held ++ take (room_of old) chunk
    → later.stream.at ≡ old.stream.at
    → later.count ≡ old.count → later.first ≡ old.first → later.limit ≡ old.limit
    → IsTrue later.over ↔ (room_of old < length chunk)
    → HasRead M input left entries old → HasRead M input rest entries later
reads_piece M input left rest entries old later chunk none not_over few consumes held at count
    first limit over h =
    let piece : List ℕ = take (room_of old) chunk in
    let cut : List ℕ = drop (room_of old) chunk in
    let fed : List ℕ = h.earlier ++ h.piece in
    let prefix : List ℕ = (h.head ++ h.earlier) ++ h.piece in
    let same : prefix ≡ h.head ++ fed = append_assoc h.head h.earlier h.piece in
    let room : length prefix + room_of old ≡ old.limit =
    omega (arith, prefix_length h, h.took.within) in
    let took : TookPieces old.limit (Some input) rest prefix piece cut =
    piece_taken old.limit (room_of old) (Some input) left rest (h.head ++ h.earlier) h.piece chunk
    room consumes few (none_cut h not_over) in record {
      head = h.head;
      earlier = fed;
      piece = piece;
      cut = cut;
      took =
          subst (λ (n : ℕ). TookPieces n (Some input) rest (h.head ++ fed) piece cut) (sym limit)
          (subst (λ (xs : List ℕ). TookPieces old.limit (Some input) rest xs piece cut) same took);
      place = h.place ∙ sym first;
      follows =
          subst (λ (n : ℕ). Follows M (fed ++ piece) entries n later.stream) (sym count)
          (follows_fed M fed piece entries old.count old.stream later.stream held at h.follows);
      quiet =
          subst (λ (n : ℕ). HoldsNoCause M n later.limit (h.head ++ fed)) (sym first)
          (subst (λ (n : ℕ). HoldsNoCause M old.first n (h.head ++ fed)) (sym limit)
          (subst (HoldsNoCause M old.first old.limit) same (no_cause h none)));
      over = (
        λ yes. omega (arith, over.0 yes, length-drop (room_of old) chunk),
        λ some. over.1 (omega (arith, some, length-drop (room_of old) chunk)),
      );
    }

-- a number falls with it
pub piece_falls : (old later : Reader) (chunk : List ℕ) → ¬ IsTrue old.over
    → old.first + old.stream.at + length old.stream.held ≤ old.limit
    → later.stream.held ≡ old.stream.held ++ take (room_of old) chunk
    → later.stream.at ≡ old.stream.at → later.first ≡ old.first → later.limit ≡ old.limit
    → IsTrue later.over ↔ (room_of old < length chunk)
    → 0 < length chunk → measure_of later < measure_of old
piece_falls old later chunk not_over within held at first limit over some =
    by_test old.over later.over not_over over
  where
    smaller : ¬ (room_of old < length chunk) → room_of later + 1 < room_of old + 1
    smaller less = omega (
      arith,
      less,
      ap length held,
      length-append old.stream.held (take (room_of old) chunk),
      length-take (room_of old) chunk,
      at,
      first,
      limit,
      within,
      some,
    )

    by_test : (b c : Bool) → ¬ IsTrue b → IsTrue c ↔ (room_of old < length chunk)
        → cond c 0 (room_of later + 1) < cond b 0 (room_of old + 1)
    by_test true c not_over over = absurd (not_over refl)
    by_test false true not_over over = omega arith
    by_test false false not_over over = smaller (λ less. false≢true (over.1 less))

-- the input is at its end
pub reads_nothing : (M : ℕ → FrameParts → Entry → Type 0) (input : List ℕ)
    (left new : Option (List ℕ)) (entries : List Entry) (r : Reader) (none : List ℕ)
    → none ≡ [] → ¬ IsTrue r.over → Consumes left new none → HasRead M input left entries r
    → HasRead M input new entries r
reads_nothing M input left new entries r none is not_over consumes h = record {
  head = h.head;
  earlier = h.earlier;
  piece = h.piece;
  cut = [];
  took = nothing_taken r.limit (Some input) left new (h.head ++ h.earlier) h.piece none is consumes
      (none_cut h not_over);
  place = h.place;
  follows = h.follows;
  quiet = h.quiet;
  over = (λ yes. absurd (not_over yes), λ some. absurd (omega (arith, some)));
}

-- ---- the input's end

-- after the first bytes of the input come those that were fed, and all of them count
all_after : {M : ℕ → FrameParts → Entry → Type 0} {input : List ℕ} {left : Option (List ℕ)}
    {entries : List Entry} {r : Reader} → (h : HasRead M input left entries r)
    → ¬ IsTrue r.over → IsAtEnd left
    → (drop r.first input ≡ h.earlier ++ h.piece) × (length input ≤ r.limit)
    × (length input ≡ r.first + r.stream.at + length r.stream.held)
all_after {r = r} h not_over end =
    let all = all_taken (none_cut h not_over) end in
    (ap (drop r.first) all.0 ∙ fed_after h, all.1, ap length all.0 ∙ prefix_length h)

-- after a whole frame
pub ends_done : (M : ℕ → FrameParts → Entry → Type 0) (input : List ℕ) (left : Option (List ℕ))
    (entries : List Entry) (r : Reader)
    → HoldsNoFrame r.stream.held → ¬ IsTrue r.over → IsAtEnd left → length r.stream.held ≡ 0
    → HasRead M input left entries r → ComesTo M r.first r.limit input entries run.Done
ends_done M input left entries r none not_over end empty h =
    let held : r.stream.held ≡ [] = nil_from_length r.stream.held empty in
    let all = all_after h not_over end in (
      subst (λ (xs : List ℕ). Tells M xs entries []) (sym all.0)
          (subst (λ (xs : List ℕ). Tells M (h.earlier ++ h.piece) entries xs) held
          (follows_tells none h.follows)),
      all.1,
    )

-- inside a frame
pub ends_inside : {C : Type 0} (M : ℕ → FrameParts → Entry → Type 0)
    (IsCause : ℕ → FrameParts → C → Type 0) (input : List ℕ) (left : Option (List ℕ))
    (entries : List Entry) (r : Reader)
    → HoldsNoFrame r.stream.held → ¬ IsTrue r.over → IsAtEnd left → 0 < length r.stream.held
    → HasRead M input left entries r
    → EndsReading M IsCause r.first r.limit input left entries (Truncated (r.first + r.stream.at))
ends_inside M IsCause input left entries r none not_over end some h =
    let all = all_after h not_over end in (
      (
        r.stream.held,
        subst (λ (xs : List ℕ). Tells M xs entries r.stream.held) (sym all.0)
            (follows_tells none h.follows),
        λ empty. omega (arith, some, ap length empty),
        omega (arith, all.2),
        all.1,
      ),
      end,
    )

-- ---- the first frame that is held

-- it is dropped, and stands for the entry
pub takes_first : (M : ℕ → FrameParts → Entry → Type 0) (before : ℕ) (old new : Stream)
    (frame : FrameParts) (entry : Entry) → IsFrame frame
    → old.held ≡ spelling frame ++ drop (length (spelling frame)) old.held
    → ((f : FrameParts) (rest : List ℕ) → IsFrame f → old.held ≡ spelling f ++ rest
    → new ≡ record { held = rest; at = old.at + length (spelling f) })
    → M before frame entry → TakesEntry M before old new entry
takes_first M before old new frame entry fits prefix drops stands =
    let rest : List ℕ = drop (length (spelling frame)) old.held in
    let after : Stream = record { held = rest; at = old.at + length (spelling frame) } in
    let is : new ≡ after = drops frame rest fits prefix in
    record {
      frame = frame;
      fits = fits;
      held = prefix ∙ ap (λ (s : Stream). spelling frame ++ s.held) (sym is);
      at = ap (λ (s : Stream). s.at) is;
      stands = stands;
    }

-- it may not stand, or memory runs out at it
pub refuses_first : {C : Type 0} (IsCause : ℕ → FrameParts → C → Type 0) (before : ℕ)
    (old : Stream) (frame : FrameParts) (why : Refusal C) → IsFrame frame
    → old.held ≡ spelling frame ++ drop (length (spelling frame)) old.held
    → IfCause (IsCause before frame) why
    → IfCause (TakesBad IsCause before old (record {
      held = drop (length (spelling frame)) old.held;
      at = old.at + length (spelling frame);
    })) why
refuses_first IsCause before old frame (refusal.Cause cause) fits prefix is =
    record { frame = frame; fits = fits; held = prefix; at = refl; why = is }
refuses_first IsCause before old frame refusal.Memory fits prefix is = tt

-- ---- a frame that stops it

-- a frame stops the reading, or memory runs out at it
pub ends_stop : {C : Type 0} (M : ℕ → FrameParts → Entry → Type 0)
    (IsCause : ℕ → FrameParts → C → Type 0)
    → ((before : ℕ) (frame : FrameParts) (cause : C) (e : Entry)
    → IsCause before frame cause → ¬ M before frame e)
    → (input : List ℕ) (left : Option (List ℕ)) (entries : List Entry) (old : Reader)
    (new : Stream) (at : ℕ) (why : Refusal C)
    → IfCause (TakesBad IsCause old.count old.stream new) why → at ≡ old.stream.at
    → HasRead M input left entries old
    → EndsReading M IsCause old.first old.limit input left entries (refused_at (old.first + at) why)
ends_stop M IsCause none input left entries old new at (refusal.Cause cause) taken place h =
    ends_bad M IsCause none input left entries old new at cause taken place h
ends_stop M IsCause none input left entries old new at refusal.Memory taken place h = tt
