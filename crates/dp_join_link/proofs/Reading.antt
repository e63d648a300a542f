-- What a link gave, and how it goes on.
use Rattle.std.proofs.Common.{◌≡◌, inl, inr, ℕ, ◌+◌, ◌<◌, ◌≤◌, true, false, List, [], ◌∷◌, ◌++◌}
use Rattle.std.proofs.Common.{length, refl, sym, ap, ◌∙◌, subst, arith, ◌||◌, if◌then◌else◌}
use Rattle.std.specs.Prelude.{Bool, Option, IsTrue}
use Rattle.std.specs.List.{flat_map}
use Rattle.std.proofs.lemmas.List.{append_assoc, append-nil, nil_from_length, length-append}
use Rattle.dp_frame.specs.Frames.{spelling}
use Rattle.dp_lines.specs.declared.run_end.RunEnd.{RunEnd}
use Rattle.dp_lines.specs.declared.run_end.RunEnd.TheVariants as run
use Rattle.dp_messages.specs.declared.message.Entry.{Entry}
use Rattle.dp_messages.specs.Properties.{is_disconnect}
use Rattle.dp_entries.specs.declared.ends.ReadEnd.{ReadEnd}
use Rattle.dp_entries.specs.declared.ends.ReadEnd.TheVariants.{ReadFault, Truncated, BadMessage}
use Rattle.dp_entries.specs.declared.ends.ReadEnd.TheVariants as read
use Rattle.dp_entries.specs.Input.{ComesTo}
use Rattle.dp_entries.proofs.Reading.{input_parts}
use Rattle.dp_io.proofs.Pieces.{parts_of}
use Rattle.dp_entries.specs.Reading.{FaultMatchesReadEnd, EndsReading}
use Rattle.dp_join_link.specs.declared.join_standing.LinkFlaw.{LinkFlaw}
use Rattle.dp_join_link.specs.declared.stops.LinkCause.TheVariants as cause
use Rattle.dp_join_link.specs.declared.stops.JoinStop.{JoinStop}
use Rattle.dp_join_link.specs.declared.stops.JoinStop.TheVariants.{NoEntry}
use Rattle.dp_join_link.specs.Given.{is_closed, takeable}
use Rattle.dp_join_link.specs.JoinStanding.{IsFlaw, StandsOnLink, is_ping}
use Rattle.dp_join_link.specs.Links.{BeginsWith, EndsLink}
use Rattle.dp_io.specs.Limits.{stream_limit}
use Rattle.dp_join_link.specs.Reading.{FaultMatchesReading, HasGiven, GivesEntry, GivesNone}
use Rattle.dp_join_link.specs.Reading.{IsReadable, ReadsOn, ReadsUpTo, Shows, Source}
use Rattle.dp_join_link.specs.Stops.{stop_of}
use Rattle.dp_join_link.proofs.Given.{closed-append, either_false, still-append, takeable-append}

-- the bytes begin with the entries that they gave
pub given_begins : (s : Source) (bytes : List ℕ) (entries : List Entry) → IsReadable s
    → HasGiven s bytes entries → BeginsWith bytes entries
given_begins s bytes entries readable has_given =
    let none : has_given.head ≡ [] =
    nil_from_length has_given.head (has_given.place ∙ readable.first) in
    let prefix = flat_map spelling has_given.follows.frames in
    let held = s.reader.stream.held in
    let rest = has_given.cut ++ (parts_of has_given.took).untaken in
    record {
      frames = has_given.follows.frames;
      more = held ++ rest;
      each = has_given.follows.each;
      stand = has_given.follows.stand;
      whole =
          input_parts has_given
          ∙ ap (λ xs. xs ++ ((has_given.earlier ++ has_given.piece) ++ rest)) none
          ∙ ap (λ xs. xs ++ rest) has_given.follows.whole
          ∙ append_assoc prefix held rest;
      counts =
          subst (λ n. n ≤ stream_limit) has_given.follows.at readable.within;
    }

-- reading goes on twice
pub reads_twice : (a b c : Source) (xs ys : List Entry) → ReadsOn a b xs → ReadsOn b c ys
    → ReadsOn a c (xs ++ ys)
reads_twice a b c xs ys first second = record {
  more = λ bytes before has_given.
      subst (HasGiven c bytes) (append_assoc before xs ys)
      (second.more bytes (before ++ xs) (first.more bytes before has_given));
  still = still-append xs ys first.still second.still;
  further = omega (arith, length-append xs ys, first.further, second.further);
  kept = second.kept ∙ first.kept;
  readable = second.readable;
}

-- nothing was read yet
pub reads_none : (s : Source) → IsReadable s → ReadsOn s s []
reads_none s readable = record {
  more = λ bytes before has_given. subst (HasGiven s bytes) (sym (append-nil before)) has_given;
  still = refl;
  further = omega arith;
  kept = refl;
  readable = readable;
}

-- reading goes on, and then stops
pub reads_then : (a b : Source) (xs ys : List Entry) (stop : JoinStop) → ReadsOn a b xs
    → ReadsUpTo b ys stop → ReadsUpTo a (xs ++ ys) stop
reads_then a b xs ys stop first second = λ bytes before has_given still.
    subst (λ es. Shows bytes es stop) (append_assoc before xs ys)
    (second bytes (before ++ xs) (first.more bytes before has_given)
    (still-append before xs still first.still))

-- the client stops for another reason than the link
pub stops_here : (a b : Source) (xs : List Entry) → ReadsOn a b xs
    → (bytes : List ℕ) (before : List Entry) → HasGiven a bytes before
    → BeginsWith bytes (before ++ xs)
stops_here a b xs reads bytes before has_given =
    given_begins b bytes (before ++ xs) reads.readable (reads.more bytes before has_given)

-- ---- one entry

-- what the bytes come to, by what the reader counts
comes_to : (s : Source) (bytes : List ℕ) (entries : List Entry) → IsReadable s → (end : RunEnd)
    → ComesTo StandsOnLink s.reader.first s.reader.limit bytes entries end
    → ComesTo StandsOnLink 0 stream_limit bytes entries end
comes_to s bytes entries readable end comes =
    subst (λ n. ComesTo StandsOnLink n stream_limit bytes entries end) readable.first
    (subst (λ n. ComesTo StandsOnLink s.reader.first n bytes entries end) readable.limit comes)

-- what is taken of one entry that is no Disconnect
taken_one : (e : Entry) → is_closed (e ∷ []) ≡ false
    → takeable (e ∷ []) ≡ (if is_ping e.msg then [] else e ∷ [])
taken_one e still =
    ap (λ d. if d then [] else (if is_ping e.msg then [] else e ∷ []))
    (either_false (is_disconnect e.msg) false still).0

-- an entry that is no Disconnect
pub pulled : (old now : Source) (e : Entry) → IsReadable old
    → ((bytes : List ℕ) (before : List Entry) → HasGiven old bytes before
    → HasGiven now bytes (before ++ e ∷ []))
    → old.reader.stream.at < now.reader.stream.at
    → now.reader.first + now.reader.stream.at + length now.reader.stream.held ≤ now.reader.limit
    → now.reader.first ≡ old.reader.first → now.reader.limit ≡ old.reader.limit
    → ¬ IsTrue now.reader.ended → now.faults ≡ old.faults → is_disconnect e.msg ≡ false
    → ReadsOn old now (e ∷ [])
pulled old now e readable more further within first limit going kept open_ = record {
  more = more;
  still = ap (λ b. b || false) open_;
  further = omega arith;
  kept = kept;
  readable = record {
    within = omega (arith, readable.limit);
    first = first ∙ readable.first;
    limit = limit ∙ readable.limit;
    going = going;
  };
}

-- a Disconnect
pub pulled_last : (old now : Source) (e : Entry) → IsReadable old
    → ((bytes : List ℕ) (before : List Entry) → HasGiven old bytes before
    → HasGiven now bytes (before ++ e ∷ []))
    → now.reader.first + now.reader.stream.at + length now.reader.stream.held ≤ now.reader.limit
    → now.reader.first ≡ old.reader.first → now.reader.limit ≡ old.reader.limit
    → ¬ IsTrue now.reader.ended → now.faults ≡ old.faults → is_disconnect e.msg ≡ true
    → GivesNone old now (NoEntry cause.Closed)
pulled_last old now e readable more within first limit going kept last = record {
  given = e ∷ [];
  none = ap (λ d. if d then [] else (if is_ping e.msg then [] else e ∷ [])) last;
  reads = λ bytes before has_given still.
      inl (
        given_begins now bytes (before ++ e ∷ []) (record {
          within = omega (arith, readable.limit);
          first = first ∙ readable.first;
          limit = limit ∙ readable.limit;
          going = going;
        }) (more bytes before has_given),
        closed-append before (e ∷ []) still (ap (λ b. b || false) last),
      );
  fault = kept;
}

-- the link has ended
pub pulled_none : (old now : Source) → IsReadable old
    → ((bytes : List ℕ) (before : List Entry) → HasGiven old bytes before
    → ComesTo StandsOnLink old.reader.first old.reader.limit bytes before run.Done)
    → now.faults ≡ old.faults
    → GivesNone old now (NoEntry cause.Closed)
pulled_none old now readable done kept = record {
  given = [];
  none = refl;
  reads = λ bytes before has_given still.
      subst (λ es. EndsLink bytes es cause.Closed) (sym (append-nil before))
      (inr (inl
      (still, comes_to old bytes before readable run.Done (done bytes before has_given))));
  fault = kept;
}

-- reading it ended with this
shows_end : (s : Source) (bytes : List ℕ) (left : Option (List ℕ)) (before : List Entry)
    (end : ReadEnd LinkFlaw) → IsReadable s → HasGiven s bytes before → is_closed before ≡ false
    → EndsReading StandsOnLink IsFlaw s.reader.first s.reader.limit bytes left before end
    → Shows bytes before (stop_of end)
shows_end s bytes left before ReadFault readable has_given still ends =
    given_begins s bytes before readable has_given
shows_end s bytes left before (Truncated n) readable has_given still ends =
    inr (inr (still, n, comes_to s bytes before readable (run.Truncated n) ends.0))
shows_end s bytes left before (BadMessage flaw n) readable has_given still ends =
    (still, comes_to s bytes before readable (run.BadMessage n) ends.0)
shows_end s bytes left before read.Long readable has_given still ends =
    (still, comes_to s bytes before readable run.Long ends.0)
shows_end s bytes left before read.Memory readable has_given still ends =
    given_begins s bytes before readable has_given

fault_matches_end : (before now : ℕ) (end : ReadEnd LinkFlaw) → before ≤ now
    → FaultMatchesReadEnd before now end
    → FaultMatchesReading before now (stop_of end)
fault_matches_end before now ReadFault later fault = (fault, later)
fault_matches_end before now (Truncated n) later fault = fault
fault_matches_end before now (BadMessage flaw n) later fault = fault
fault_matches_end before now read.Long later fault = fault
fault_matches_end before now read.Memory later fault = fault

pub pulled_end : (old now : Source) (left : Option (List ℕ)) (end : ReadEnd LinkFlaw)
    → IsReadable old
    → ((bytes : List ℕ) (before : List Entry) → HasGiven old bytes before
    → EndsReading StandsOnLink IsFlaw old.reader.first old.reader.limit bytes left before end)
    → old.faults ≤ now.faults → FaultMatchesReadEnd old.faults now.faults end
    → GivesNone old now (stop_of end)
pulled_end old now left end readable ends later fault = record {
  given = [];
  none = refl;
  reads = λ bytes before has_given still.
      subst (λ es. Shows bytes es (stop_of end)) (sym (append-nil before))
      (shows_end old bytes left before end readable has_given still (ends bytes before has_given));
  fault = fault_matches_end old.faults now.faults end later fault;
}

-- ---- Pings

-- only Pings were read
pub record Pings (old now : Source) : Type 0 where
  pub given : List Entry
  pub reads : ReadsOn old now given
  pub none : takeable given ≡ []

pub pings_none : (s : Source) → IsReadable s → Pings s s
pings_none s readable = record { given = []; reads = reads_none s readable; none = refl }

module _ (a b c : Source) (pings : Pings a b) where
  -- what is taken of an entry after them
  taken_after : (e : Entry) → ReadsOn b c (e ∷ []) → (p : Bool) → is_ping e.msg ≡ p
      → takeable (pings.given ++ e ∷ []) ≡ (if p then [] else e ∷ [])
  taken_after e next p is =
      takeable-append pings.given (e ∷ []) pings.reads.still
      ∙ ap (λ es. es ++ takeable (e ∷ [])) pings.none
      ∙ taken_one e next.still
      ∙ ap (λ q. if q then [] else e ∷ []) is

  -- a Ping more
  pub pings_more : (e : Entry) → ReadsOn b c (e ∷ []) → is_ping e.msg ≡ true → Pings a c
  pings_more e next ping = record {
    given = pings.given ++ e ∷ [];
    reads = reads_twice a b c pings.given (e ∷ []) pings.reads next;
    none = taken_after e next true ping;
  }

  -- an entry that is taken
  pub pings_entry : (e : Entry) → ReadsOn b c (e ∷ []) → is_ping e.msg ≡ false → GivesEntry a c e
  pings_entry e next other = record {
    given = pings.given ++ e ∷ [];
    reads = reads_twice a b c pings.given (e ∷ []) pings.reads next;
    only = taken_after e next false other;
  }

  -- none
  pub pings_end : (stop : JoinStop) → GivesNone b c stop → GivesNone a c stop
  pings_end stop next = record {
    given = pings.given ++ next.given;
    none =
        takeable-append pings.given next.given pings.reads.still
        ∙ ap (λ es. es ++ takeable next.given) pings.none
        ∙ next.none;
    reads = reads_then a b pings.given next.given stop pings.reads next.reads;
    fault = subst (λ n. FaultMatchesReading n c.faults stop) pings.reads.kept next.fault;
  }
