-- Entries that are taken one after the other.
use Rattle.std.proofs.Common.{◌≡◌, ℕ, ◌+◌, ◌<◌, ◌≤◌, Bool, true, false, if◌then◌else◌, List, []}
use Rattle.std.proofs.Common.{◌∷◌, ◌++◌, length, refl, sym, ap, ◌∙◌, subst, arith, length-append}
use Rattle.std.specs.Prelude.{Option}
use Rattle.std.specs.List.{fold}
use Rattle.std.specs.Io.KnownBytes.{Appends}
use Rattle.std.proofs.lemmas.List.{append-nil}
use Rattle.std.proofs.lemmas.List.Sums.{fold-append}
use Rattle.dp_io.proofs.Prefixes.{grows_whole}
use Rattle.dp_messages.specs.declared.message.Entry.{Entry}
use Rattle.dp_messages.specs.Properties.{is_disconnect}
use Rattle.dp_schedule.specs.declared.join_action.JoinAction.TheVariants.{Take}
use Rattle.dp_join_link.specs.declared.stops.JoinStop.{JoinStop}
use Rattle.dp_join_link.specs.declared.stops.JoinStop.TheVariants.{NoEntry}
use Rattle.dp_joiner.specs.Joining.{Joining, took_entry}
use Rattle.dp_join_link.specs.Given.{takeable}
use Rattle.dp_join_link.specs.JoinStanding.{is_ping}
use Rattle.dp_join_link.specs.Links.{BeginsWith}
use Rattle.dp_joiner.specs.Steps.{Fails, Halts, IsReady, Linked, Moves, Passes, Seen, Stands, Stops}
use Rattle.dp_joiner.specs.Steps.{Wrote, seen}
use Rattle.dp_join_link.specs.Reading.{FaultMatchesReading, GivesEntry, GivesNone, IsNoEntry}
use Rattle.dp_join_link.specs.Reading.{ReadsOn, Shows, Source}
use Rattle.dp_join_link.proofs.Given.{takeable-append}
use Rattle.dp_joiner.proofs.Moving.{fault_matches_from, reading_fault}
use Rattle.dp_join_link.proofs.Reading.{reads_none, reads_then, reads_twice, stops_here}

-- no entry is taken yet
pub taking_none : (s : Seen) → IsReady s.client s.source → Passes s s (Take 0)
taking_none s ready = record {
  given = [];
  reads = reads_none s.source ready.readable;
  many = refl;
  moves = λ start j stands. stands;
  ready = ready;
}

-- ---- reading alone

-- reading the link leaves all but its source
abbrev pub IsRead : Seen → Seen → Type 0
IsRead old now = now ≡ record old { source = now.source }

pub is_read : {O : Type 0} (held : O → Option (List ℕ)) (faults : O → ℕ) (old new : Linked)
    (output : O) (draws tiles : ℕ) → new ≡ record old { source = new.source }
    → IsRead (seen held faults old output draws tiles) (seen held faults new output draws tiles)
is_read held faults old new output draws tiles same =
    ap (λ (j : Linked). seen held faults j output draws tiles) same

read_stands : (start old now : Seen) (j : Joining) → IsRead old now
    → now.source.faults ≡ old.source.faults → Stands start old j → Stands start now j
read_stands start old now j read kept stands =
    subst (λ (s : Seen). Stands start s j) (sym read) (record {
      client = stands.client;
      chats = stands.chats;
      text = stands.text;
      written = stands.written;
      faultless = record {
        print = stands.faultless.print;
        write = stands.faultless.write;
        read = kept ∙ stands.faultless.read;
      };
      counts = stands.counts;
    })

wrote_whole : (start now : Seen) (text written : List ℕ) (stop : JoinStop)
    → Appends start.printed now.printed text → Appends start.written now.written written
    → Wrote start now text written stop
wrote_whole start now text written (NoEntry why) t w = (t, w)
wrote_whole start now text written _ t w = record {
  printed = grows_whole start.printed now.printed text t;
  sent = grows_whole start.written now.written written w;
}

-- reading the link stops
read_stops : (start old now : Seen) (j : Joining) (stop : JoinStop) → IsRead old now
    → FaultMatchesReading old.source.faults now.source.faults stop → Stands start old j
    → Stops start now j stop
read_stops start old now j stop read fault stands =
    let there : Seen = record old { source = now.source } in
    subst (λ (s : Seen). Stops start s j stop) (sym read) (record {
      wrote = wrote_whole start there j.text j.written stop stands.text stands.written;
      fault = fault_matches_from start old there stop stands.faultless
          (reading_fault old there stop fault refl refl);
      counts = stands.counts;
    })

-- ---- one entry more

taken_by : (d p : Bool) (e : Entry) (xs ys : List Entry) → length xs ≤ length ys
    → length (if d then [] else (if p then xs else e ∷ xs)) ≤ length (e ∷ ys)
taken_by true p e xs ys short = omega arith
taken_by false true e xs ys short = omega arith
taken_by false false e xs ys short = omega arith

-- no more is taken than comes
pub takeable-short : (xs : List Entry) → length (takeable xs) ≤ length xs
takeable-short [] = omega arith
takeable-short (e ∷ xs) =
    taken_by (is_disconnect e.msg) (is_ping e.msg) e (takeable xs) xs (takeable-short xs)

took_more : (j : Joining) (e : Entry) (given more : List Entry)
    → takeable (given ++ more) ≡ takeable given ++ e ∷ []
    → fold took_entry j (takeable (given ++ more))
    ≡ took_entry (fold took_entry j (takeable given)) e
took_more j e given more is =
    ap (fold took_entry j) is ∙ fold-append took_entry j (takeable given) (e ∷ [])

-- if the client stops for another reason than the link, that is all there is to show
pub shows_other : (stop : JoinStop) (bytes : List ℕ) (es : List Entry) → (IsNoEntry stop → ⊥)
    → BeginsWith bytes es → Shows bytes es stop
shows_other (NoEntry why) bytes es other begins = absurd (other tt)
shows_other _ bytes es other begins = begins

-- what is taken after an entry more
taken_more : (given : List Entry) (old now : Source) (e : Entry) (gives : GivesEntry old now e)
    (first : Source) → ReadsOn first old given
    → takeable (given ++ gives.given) ≡ takeable given ++ e ∷ []
taken_more given old now e gives first reads =
    takeable-append given gives.given reads.still
    ∙ ap (λ (es : List Entry). takeable given ++ es) gives.only

-- an entry is given and taken
pub taking_more : (a b m c : Seen) (n : ℕ) (e : Entry) → Passes a b (Take n)
    → GivesEntry b.source m.source e → IsRead b m
    → Moves m c (λ j. took_entry j e)
    → length c.client.taken ≤ length m.client.taken + 1
    → c.source ≡ m.source
    → Passes a c (Take (n + 1))
taking_more a b m c n e taking gives read moves few same =
    let taken = taken_more taking.given b.source m.source e gives a.source taking.reads in
    let reads = reads_twice a.source b.source m.source taking.given gives.given taking.reads
    gives.reads in
    let some : 1 ≤ length gives.given =
    omega (arith, takeable-short gives.given, ap length gives.only) in
    let shorter : length m.client.taken ≡ length b.client.taken =
    ap (λ (s : Seen). length s.client.taken) read in
    record {
      given = taking.given ++ gives.given;
      reads = subst (λ (s : Source). ReadsOn a.source s (taking.given ++ gives.given)) (sym same)
          reads;
      many = ap length taken ∙ length-append (takeable taking.given) (e ∷ [])
          ∙ ap (λ (k : ℕ). k + 1) taking.many;
      moves = λ start j stands.
          let before = fold took_entry j (takeable taking.given) in
          let there = taking.moves start j stands in
          subst (Stands start c) (sym (took_more j e taking.given gives.given taken))
          (moves start before
          (read_stands start b m before read gives.reads.kept there));
      ready = subst (IsReady c.client) (sym same) (record {
        few = omega (arith, few, shorter, some, taking.ready.few, gives.reads.further);
        readable = gives.reads.readable;
      });
    }

-- the link gives no entry more
pub taking_ends : (a b c : Seen) (count n : ℕ) (stop : JoinStop) → n < count
    → Passes a b (Take n) → GivesNone b.source c.source stop → IsRead b c
    → Halts a c (Take count) stop
taking_ends a b c count n stop within taking none read =
    let taken : takeable (taking.given ++ none.given) ≡ takeable taking.given =
    takeable-append taking.given none.given taking.reads.still
    ∙ ap (λ (es : List Entry). takeable taking.given ++ es) none.none
    ∙ append-nil (takeable taking.given) in
    record {
      given = taking.given ++ none.given;
      reads = reads_then a.source b.source taking.given none.given stop taking.reads none.reads;
      few = omega (arith, ap length taken, taking.many);
      waits = λ is. omega (arith, ap length taken, taking.many);
      stops = λ start j stands.
          let before = fold took_entry j (takeable taking.given) in
          let there = taking.moves start j stands in
          subst (λ (es : List Entry). Stops start c (fold took_entry j es) stop) (sym taken)
          (read_stops start b c before stop read none.fault there);
    }

-- an entry that is given is not taken whole
pub taking_fails : (a b m c : Seen) (count n : ℕ) (e : Entry) (stop : JoinStop) → n < count
    → Passes a b (Take n) → GivesEntry b.source m.source e → IsRead b m
    → Fails m c (λ j. took_entry j e) stop → Halts a c (Take count) stop
taking_fails a b m c count n e stop within taking gives read fails =
    let taken = taken_more taking.given b.source m.source e gives a.source taking.reads in
    let reads = reads_twice a.source b.source m.source taking.given gives.given taking.reads
    gives.reads in
    let many : length (takeable (taking.given ++ gives.given)) ≡ n + 1 =
    ap length taken ∙ length-append (takeable taking.given) (e ∷ [])
    ∙ ap (λ (k : ℕ). k + 1) taking.many in
    record {
      given = taking.given ++ gives.given;
      reads = λ bytes before has_given still.
          shows_other stop bytes (before ++ (taking.given ++ gives.given)) fails.not_for_entry
          (stops_here a.source m.source (taking.given ++ gives.given) reads bytes before has_given);
      few = omega (arith, many);
      waits = λ is. absurd (fails.not_for_entry is);
      stops = λ start j stands.
          let before = fold took_entry j (takeable taking.given) in
          let there = taking.moves start j stands in
          subst (λ (k : Joining). Stops start c k stop)
          (sym (took_more j e taking.given gives.given taken))
          (fails.stops start before
          (read_stands start b m before read gives.reads.kept there));
    }
