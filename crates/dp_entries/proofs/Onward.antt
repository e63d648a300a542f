-- How reading goes on from where a stream stands, and how it ends.
use Rattle.std.proofs.Common.{◌≡◌, ◌⊎◌, inl, inr, ℕ, zero, suc, ◌+◌, ◌<◌, ◌≤◌, List, [], ◌∷◌, ◌++◌}
use Rattle.std.proofs.Common.{length, take, refl, sym, ap, ◌∙◌, subst, append_assoc, append-nil}
use Rattle.std.proofs.Common.{length-append, arith, false, IsTrue}
use Rattle.std.specs.Prelude.{Option, ◌-◌, ◌↔◌}
use Rattle.std.specs.List.{flat_map}
use Rattle.std.proofs.KnownBytes.{Consumes-nil, Consumes-trans, Consumes-kept}
use Rattle.std.proofs.Math.Seq.{take-append-add}
use Rattle.std.proofs.lemmas.Bool.{cases_lt, false≢true}
use Rattle.std.proofs.lemmas.List.{take_all}
use Rattle.std.specs.Io.KnownBytes.{Consumes, Keeps}
use Rattle.dp_frame.specs.Frames.{FrameParts, spelling, HoldsNoFrame}
use Rattle.dp_frame.proofs.Spellings.{begins_with_frame}
use Rattle.dp_split.specs.Stream.{Stream}
use Rattle.dp_messages.specs.declared.message.Entry.{Entry}
use Rattle.dp_entries.specs.declared.ends.ReadEnd.TheVariants.{Long, Memory}
use Rattle.dp_entries.specs.declared.ends.Refusal.{Refusal}
use Rattle.dp_entries.specs.declared.ends.Refusal.TheVariants as refusal
use Rattle.dp_entries.specs.Ends.{IfCause, refused_at}
use Rattle.dp_entries.specs.Reader.{Follows, Reader, room_of}
use Rattle.dp_entries.specs.Reading.{TakesEntry, TakesBad}
use Rattle.dp_entries.specs.Onward.{AreBytes, EndsOn, ReadOn, ReadOnTo, HaltsOn}
use Rattle.dp_entries.specs.Onward.{count_from, counted_from, most_in_piece}
use Rattle.dp_entries.proofs.Frames.{fed_length, follows_fed, follows_taken, stand_length}

-- ---- bytes

pub bytes_then : (xs ys : List ℕ) → AreBytes xs → AreBytes ys → AreBytes (xs ++ ys)
bytes_then [] ys p q k = q k
bytes_then (x ∷ xs) ys p q zero = p 0
bytes_then (x ∷ xs) ys p q (suc k) = bytes_then xs ys (λ j. p (suc j)) q k

pub bytes_first : (n : ℕ) (xs : List ℕ) → AreBytes xs → AreBytes (take n xs)
bytes_first zero xs p k = omega arith
bytes_first (suc n) [] p k = omega arith
bytes_first (suc n) (x ∷ xs) p zero = p 0
bytes_first (suc n) (x ∷ xs) p (suc k) = bytes_first n xs (λ j. p (suc j)) k

-- as many bytes as the longest frame has hold a frame
long_holds : (bytes : List ℕ) → AreBytes bytes → 65539 ≤ length bytes → HoldsNoFrame bytes → ⊥
long_holds (a ∷ b ∷ c ∷ d ∷ tail) small long none =
    let first : a < 256 = small 0 in
    let second : b < 256 = small 1 in
    let found = begins_with_frame a b c d tail first second (omega arith) in
    none found.0 found.1 found.2 found.3
long_holds _ small long none = absurd (omega arith)

pub short_rest : (bytes : List ℕ) → AreBytes bytes → HoldsNoFrame bytes → length bytes < 65539
short_rest bytes small none = by_length (cases_lt (length bytes) 65539)
  where
    by_length : (length bytes < 65539) ⊎ (65539 ≤ length bytes) → length bytes < 65539
    by_length (inl short) = short
    by_length (inr long) = absurd (long_holds bytes small long none)

-- what is held if no whole frame is, and a piece more
pub few_held : (at : ℕ) (held : List ℕ) → AreBytes held → HoldsNoFrame held
    → at + length held ≤ at + most_in_piece
few_held at held small none = omega (arith, short_rest held small none)

pub few_more : (count : ℕ) (old new : Stream) → HoldsNoFrame old.held
    → length new.held ≤ length old.held + count → count ≤ 4096 → new.at ≡ old.at
    → AreBytes old.held → new.at + length new.held ≤ old.at + most_in_piece
few_more count old new none more few at small =
    omega (arith, short_rest old.held small none, more, few, at)

-- ---- what was read

pub on_begins : (M : ℕ → FrameParts → Entry → Type 0) (source : Option (List ℕ)) (r : Reader)
    → r.first ≡ 0 → r.count ≡ 0 → r.over ≡ false → r.stream.at + length r.stream.held ≤ r.limit
    → ReadOn M source source r.stream [] r
on_begins M source r first count over within =
    let whole : counted_from r.limit r.stream [] ≡ r.stream.held =
    ap (take (r.limit - r.stream.at)) (append-nil r.stream.held)
    ∙ take_all (r.limit - r.stream.at) r.stream.held (omega (arith, within)) in
    record {
      read = [];
      at = 0;
      read_is = Consumes-nil source;
      follows = record {
        frames = [];
        each = tt;
        stand = tt;
        many = count;
        whole = whole;
        at = refl;
      };
      first = first;
      place = omega arith;
      over = (
        λ yes. absurd (false≢true (sym over ∙ yes)),
        λ more. absurd (omega (arith, more, within, ap length (append-nil r.stream.held))),
      );
    }

-- a frame is taken, and stands for an entry
pub on_takes : (M : ℕ → FrameParts → Entry → Type 0) (source left : Option (List ℕ))
    (start : Stream) (entries : List Entry) (old new : Reader) (e : Entry)
    → TakesEntry M old.count old.stream new.stream e → new.count ≡ old.count + 1
    → new.first ≡ old.first → new.limit ≡ old.limit → new.over ≡ old.over
    → ReadOn M source left start entries old → ReadOn M source left start (entries ++ e ∷ []) new
on_takes M source left start entries old new e taken count first limit over h =
    let len : ℕ = length (spelling taken.frame) in
    let before : Stream = record { held = old.stream.held; at = h.at } in
    let after : Stream = record { held = new.stream.held; at = h.at + len } in
    let further : Follows M (counted_from old.limit start h.read) (entries ++ e ∷ [])
    (old.count + 1) after =
    follows_taken M (counted_from old.limit start h.read) entries old.count before after e (record {
      frame = taken.frame;
      fits = taken.fits;
      held = taken.held;
      at = refl;
      stands = taken.stands;
    }) h.follows in
    record {
      read = h.read;
      at = h.at + len;
      read_is = h.read_is;
      follows =
          subst (λ (n : ℕ). Follows M (counted_from n start h.read) (entries ++ e ∷ []) new.count
          after) (sym limit)
          (subst (λ (n : ℕ). Follows M (counted_from old.limit start h.read) (entries ++ e ∷ []) n
          after) (sym count) further);
      first = first ∙ h.first;
      place = omega (arith, taken.at, h.place);
      over = (
        λ yes. omega (arith, limit, h.over.0 (subst IsTrue over yes)),
        λ more. subst IsTrue (sym over) (h.over.1 (omega (arith, limit, more))),
      );
    }

module _ {M : ℕ → FrameParts → Entry → Type 0} {source left : Option (List ℕ)} {start : Stream}
    {entries : List Entry} {r : Reader} (h : ReadOn M source left start entries r) where
  -- while all bytes count
  all_count : ¬ IsTrue r.over → count_from start h.read ≤ r.limit
  all_count not_over = by_limit (cases_lt r.limit (count_from start h.read))
    where
      by_limit : (r.limit < count_from start h.read) ⊎ (count_from start h.read ≤ r.limit)
          → count_from start h.read ≤ r.limit
      by_limit (inl more) = absurd (not_over (h.over.1 more))
      by_limit (inr few) = few

  counted_all : ¬ IsTrue r.over → counted_from r.limit start h.read ≡ start.held ++ h.read
  counted_all not_over =
      take_all (r.limit - start.at) (start.held ++ h.read) (omega (arith, all_count not_over))

  -- how many bytes count
  counted_length : start.at + length (counted_from r.limit start h.read)
      ≡ r.stream.at + length r.stream.held
  counted_length = omega (arith, fed_length h.follows, h.place)

  -- a piece more counts as far as there is room
  counted_more : (chunk : List ℕ) → ¬ IsTrue r.over
      → counted_from r.limit start (h.read ++ chunk)
      ≡ counted_from r.limit start h.read ++ take (room_of r) chunk
  counted_more chunk not_over =
      let few = all_count not_over in
      let all = counted_all not_over in
      let sum : r.limit - start.at ≡ length (start.held ++ h.read) + room_of r =
      omega (arith, counted_length, ap length all, h.first, few) in
      ap (take (r.limit - start.at)) (sym (append_assoc start.held h.read chunk))
      ∙ ap (λ (n : ℕ). take n ((start.held ++ h.read) ++ chunk)) sum
      ∙ take-append-add (start.held ++ h.read) chunk (room_of r)
      ∙ ap (λ (xs : List ℕ). xs ++ take (room_of r) chunk) (sym all)

  count_more : (chunk : List ℕ)
      → count_from start (h.read ++ chunk) ≡ count_from start h.read + length chunk
  count_more chunk = omega (
    arith,
    length-append start.held (h.read ++ chunk),
    length-append h.read chunk,
    length-append start.held h.read,
  )

  -- the source is read on, and nothing came
  pub on_kept : (new : Option (List ℕ)) → Keeps left new → ReadOn M source new start entries r
  on_kept new keeps = record {
    read = h.read;
    at = h.at;
    read_is = Consumes-kept source left new h.read h.read_is keeps;
    follows = h.follows;
    first = h.first;
    place = h.place;
    over = h.over;
  }

  pub on_nothing : (new : Option (List ℕ)) (none : List ℕ) → none ≡ [] → Consumes left new none
      → ReadOn M source new start entries r
  on_nothing new none is consumes = record {
    read = h.read;
    at = h.at;
    read_is =
        subst (Consumes source new)
        (ap (λ (xs : List ℕ). h.read ++ xs) is ∙ append-nil h.read)
        (Consumes-trans source left new h.read none h.read_is consumes);
    follows = h.follows;
    first = h.first;
    place = h.place;
    over = h.over;
  }

  -- a piece is taken, of which the bytes that count are fed
  pub on_reads : (new : Option (List ℕ)) (later : Reader) (chunk : List ℕ)
      → ¬ IsTrue r.over → Consumes left new chunk
      → later.stream.held ≡ r.stream.held ++ take (room_of r) chunk
      → later.stream.at ≡ r.stream.at
      → later.count ≡ r.count → later.first ≡ r.first → later.limit ≡ r.limit
      → IsTrue later.over ↔ (room_of r < length chunk)
      → ReadOn M source new start entries later
  on_reads new later chunk not_over consumes held at count first limit over =
      let piece : List ℕ = take (room_of r) chunk in
      let bytes : List ℕ = counted_from r.limit start h.read in
      let old : Stream = record { held = r.stream.held; at = h.at } in
      let now : Stream = record { held = later.stream.held; at = h.at } in
      let fed : Follows M (bytes ++ piece) entries r.count now =
      follows_fed M bytes piece entries r.count old now held refl h.follows in
      let few = all_count not_over in
      let room : room_of r ≡ r.limit - count_from start h.read =
      omega (arith, counted_length, ap length (counted_all not_over), h.first, few) in
      record {
        read = h.read ++ chunk;
        at = h.at;
        read_is = Consumes-trans source left new h.read chunk h.read_is consumes;
        follows =
            subst (λ (n : ℕ). Follows M (counted_from n start (h.read ++ chunk)) entries later.count
            now) (sym limit)
            (subst (λ (n : ℕ). Follows M (counted_from r.limit start (h.read ++ chunk)) entries n
            now) (sym count)
            (subst (λ (xs : List ℕ). Follows M xs entries r.count now)
            (sym (counted_more chunk not_over)) fed));
        first = first ∙ h.first;
        place = at ∙ h.place;
        over = (
          λ yes. omega (arith, limit, over.0 yes, count_more chunk, room, few),
          λ more. over.1 (omega (arith, limit, more, count_more chunk, room, few)),
        );
      }

  -- ---- the ends

  ends_held : (P : List ℕ → List ℕ → Type 0) → P h.read r.stream.held
      → ReadOnTo P M r.limit source left start entries
  ends_held P meets = record {
    read = h.read;
    rest = r.stream.held;
    frames = h.follows.frames;
    read_is = h.read_is;
    each = h.follows.each;
    stand = h.follows.stand;
    whole = h.follows.whole;
    meets = meets;
  }

  -- the source has ended, or failed
  pub on_done : HoldsNoFrame r.stream.held → ¬ IsTrue r.over
      → EndsOn M r.limit source left start entries
  on_done none not_over = ends_held _ (none, all_count not_over)

  pub on_long : {C : Type 0} (IsCause : ℕ → FrameParts → C → Type 0)
      → HoldsNoFrame r.stream.held → IsTrue r.over
      → HaltsOn M IsCause r.limit source left start entries r.stream.held Long
  on_long IsCause none over = ends_held _ (none, h.over.0 over, refl)

  -- a frame stops the reading, or memory runs out at it
  pub on_stop : {C : Type 0} (IsCause : ℕ → FrameParts → C → Type 0) (new : Stream) (at : ℕ)
      (why : Refusal C) → IfCause (TakesBad IsCause r.count r.stream new) why → at ≡ r.stream.at
      → HaltsOn M IsCause r.limit source left start entries r.stream.held
      (refused_at (r.first + at) why)
  on_stop IsCause new at (refusal.Cause cause) taken place = ends_held _ (
    record {
      frame = taken.frame;
      more = new.held;
      fits = taken.fits;
      whole = taken.held;
      why =
          subst (λ (n : ℕ). IsCause n taken.frame cause)
          (h.follows.many ∙ stand_length M 0 h.follows.frames entries h.follows.stand) taken.why;
    },
    omega (arith, counted_length, h.first, place),
  )
  on_stop IsCause new at refusal.Memory taken place = ends_held _ tt

  -- a piece was taken and lost, since memory ran out
  pub on_lost : {C : Type 0} (IsCause : ℕ → FrameParts → C → Type 0) (new : Option (List ℕ))
      (chunk held : List ℕ) → ¬ IsTrue r.over → Consumes left new chunk
      → HaltsOn M IsCause r.limit source new start entries held Memory
  on_lost IsCause new chunk held not_over consumes =
      let fed : List ℕ = take (room_of r) chunk in
      record {
        read = h.read ++ chunk;
        rest = r.stream.held ++ fed;
        frames = h.follows.frames;
        read_is = Consumes-trans source left new h.read chunk h.read_is consumes;
        each = h.follows.each;
        stand = h.follows.stand;
        whole =
            counted_more chunk not_over ∙ ap (λ (xs : List ℕ). xs ++ fed) h.follows.whole
            ∙ append_assoc (flat_map spelling h.follows.frames) r.stream.held fed;
        meets = tt;
      }
