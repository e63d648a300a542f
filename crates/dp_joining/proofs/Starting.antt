-- How a run over a link begins.
use Rattle.std.proofs.Common.{◌≡◌, inl, inr, ℕ, List, [], ◌∷◌, ◌++◌, refl, sym, ap, ◌∙◌, arith}
use Rattle.std.proofs.Common.{subst}
use Rattle.std.specs.Prelude.{Option, Some, None, IfSome, IsTrue}
use Rattle.std.specs.Io.KnownBytes.{Appends}
use Rattle.std.proofs.KnownBytes.{Appends-nil}
use Rattle.std.proofs.lemmas.List.{append-nil}
use Rattle.circular_buffer.specs.Buffer.{buffer}
use Rattle.dp_board.specs.Counts.{CountsFew}
use Rattle.dp_client.specs.Client.{State}
use Rattle.dp_io.specs.Streams.{GrowsByPrefix}
use Rattle.dp_lines.specs.declared.line.Line.{Line}
use Rattle.dp_lines.specs.Ends.{AreSteps, seen}
use Rattle.dp_lines.specs.Lines.{ended, is_overlong, numbered, open_rest}
use Rattle.dp_pixels.specs.Feet.{reach}
use Rattle.dp_line_machine.specs.Counters.{Counters, NothingIsDrawn}
use Rattle.dp_line_machine.specs.Leaves.{AreFirstOf}
use Rattle.dp_wire.specs.Links.{HandsOut, Links, WhereKnown as WhereLinks}
use Rattle.dp_joining.specs.Runs.{Returns}
use Rattle.dp_join_link.specs.declared.stops.JoinStop.{JoinStop}
use Rattle.dp_join_link.specs.declared.stops.JoinStop.TheVariants.{NoEntry}
use Rattle.dp_join_link.specs.declared.stops.LinkCause.{LinkCause}
use Rattle.dp_joiner.specs.Greetings.{GreetingFails, Welcomes}
use Rattle.dp_joiner.specs.Joining.{Progress, came_to, caller, chat_limit}
use Rattle.dp_join_link.specs.Sent.{hello_bytes}
use Rattle.dp_joining.specs.Leaves.{IsWelcome, JoinLeaves, ReadsNoFurther, Traffic, WaitsUnread}
use Rattle.dp_joining.specs.Leaves.{WhereKnown, WritesAll, WritesPart, DrawsFew}
use Rattle.dp_join_link.specs.Links.{BeginsWith, link_end}
use Rattle.dp_joining.specs.Outcomes.{IsJoinStep, link_outcome}
use Rattle.dp_line_machine.specs.Limits.{lines_limit}
use Rattle.dp_joiner.specs.Steps.{Linked, Seen, seen as seen_at}
use Rattle.dp_join_link.specs.Reading.{Shows, Source}
use Rattle.dp_join_link.specs.Stops.{end_of}
use Rattle.dp_joining.proofs.Leaving.{Writes, link_leaves}
use Rattle.dp_joiner.proofs.Moving.{drew_none, grows_not}
use Rattle.dp_join_link.proofs.Reading.{given_begins}

-- ---- welcomed

-- A client that was welcomed over a link, of which the source counted these faults before. The sink
-- held these bytes then, and counted its own.
module _ {O : Type 0} (held : O → Option (List ℕ)) (print_faults : O → ℕ) (output : O)
    (draws tiles : ℕ) (name : List ℕ) (left : Option (List ℕ)) (faults : ℕ)
    (sent : Option (List ℕ)) (sink : ℕ) where
  abbrev pub first : Linked → Seen
  first joiner = seen_at held print_faults (record joiner {
    written = sent;
    write_faults = sink;
    source = record joiner.source { faults = faults };
  }) output draws tiles

  pub welcomed_by : (joiner start : Linked) → joiner ≡ start
      → (welcomes : Welcomes left faults start.source start.client)
      → start.chats ≡ buffer [] chat_limit → Appends sent start.written (hello_bytes name)
      → start.write_faults ≡ sink
      → IsWelcome name left (first start) (seen_at held print_faults joiner output draws tiles)
      welcomes.first
  welcomed_by joiner start is welcomes chats wrote write =
      subst (λ (j : Linked). IsWelcome name left (first start)
      (seen_at held print_faults j output draws tiles) welcomes.first) (sym is) (record {
        greets = welcomes.welcome name;
        stands = record {
          client = refl;
          chats = chats;
          text = Appends-nil (held output);
          written = wrote;
          faultless = record { print = refl; write = write; read = welcomes.kept };
          counts = drew_none [] draws tiles;
        };
        has_given = welcomes.has_given;
        still = welcomes.still;
      })

-- ---- not welcomed

no_parts : (before : List Line) (line : Line) (after : List Line) → [] ≡ before ++ line ∷ after
    → ⊥
no_parts [] line after is = cc (is)
no_parts (other ∷ before) line after is = cc (is)

no_lines : (input : List ℕ) → AreFirstOf IsJoinStep (seen lines_limit input) []
no_lines input = record {
  after = seen lines_limit input;
  parts = refl;
  steps = λ before line after is. absurd (no_parts before line after is);
}

both_known : (input link : Option (List ℕ)) (P : List ℕ → List ℕ → Type 0)
    (Q : List ℕ → Type 0) → IfSome link Q → ((i l : List ℕ) → Q l → P i l)
    → IfSome input (λ i. IfSome link (λ l. P i l))
both_known None link P Q known holds = tt
both_known (Some i) None P Q known holds = tt
both_known (Some i) (Some l) P Q known holds = holds i l known

-- nothing was drawn
drawn_nothing : (c : Counters) → NothingIsDrawn c → DrawsFew c []
drawn_nothing c (draws, tiles) =
    subst (λ (n : ℕ). CountsFew reach [] c.draws n c.tiles c.tiles_now) (sym draws)
    (subst (λ (n : ℕ). CountsFew reach [] c.draws c.draws c.tiles n) (sym tiles)
    (drew_none [] c.draws c.tiles))

module _ (name : List ℕ) (t : Traffic) (source source_now sink sink_now : ℕ) where
  -- nothing was printed, and a part of the Hello was written
  hello_part : (stop : JoinStop)
      (fails : GreetingFails name t.link t.sent_old t.sent_now source source_now sink sink_now stop)
      → t.print_now ≡ t.print_old → NothingIsDrawn t.counters
      → ((bytes : List ℕ) → Shows bytes fails.given stop → BeginsWith bytes fails.given)
      → GrowsByPrefix t.sent_old t.sent_now (hello_bytes name)
      → WhereKnown t (WritesPart name t)
  hello_part stop fails same still begins wrote =
      both_known t.input t.link (WritesPart name t) (λ bytes. Shows bytes fails.given stop)
      fails.reads (λ i l shows. record {
        begun = [];
        prefix = no_lines i;
        actions = [];
        asked = tt;
        entries = fails.given;
        begins = begins l shows;
        text =
            subst (λ (w : Progress). GrowsByPrefix t.print_old t.print_now (came_to w).text)
            (sym (fails.waits []))
            (subst (λ (p : Option (List ℕ)). GrowsByPrefix t.print_old p []) (sym same)
            (grows_not t.print_old []));
        parting = [];
        is_parting = inl refl;
        written =
            subst (λ (w : Progress). GrowsByPrefix t.sent_old t.sent_now ((came_to w).written ++
            []))
            (sym (fails.waits []))
            (subst (GrowsByPrefix t.sent_old t.sent_now) (sym (append-nil (hello_bytes name)))
            wrote);
        counts =
            subst (λ (w : Progress). DrawsFew t.counters (came_to w).due) (sym (fails.waits []))
            (drawn_nothing t.counters still);
      })

  hello_all : (why : LinkCause)
      (fails : GreetingFails name t.link t.sent_old t.sent_now source source_now sink sink_now
      (NoEntry why))
      → t.print_now ≡ t.print_old → NothingIsDrawn t.counters → WritesAll name t (link_end why)
  hello_all why fails same still =
      both_known t.input t.link (Writes name t (link_end why))
      (λ bytes. Shows bytes fails.given (NoEntry why)) fails.reads (λ i l shows. (
        link_outcome why (caller name),
        inr (record {
          begun = [];
          prefix = no_lines i;
          actions = [];
          asked = tt;
          entries = fails.given;
          waiting = caller name;
          waits = fails.waits [];
          why = why;
          ends = shows;
          outcome_is = refl;
        }),
        refl,
        subst (λ (p : Option (List ℕ)). Appends t.print_old p []) (sym same)
            (Appends-nil t.print_old),
        fails.wrote,
        drawn_nothing t.counters still,
      ))

  pub failed_leaves : (stop : JoinStop)
      → GreetingFails name t.link t.sent_old t.sent_now source source_now sink sink_now stop
      → t.print_now ≡ t.print_old → NothingIsDrawn t.counters → JoinLeaves name t (end_of stop)
  failed_leaves (NoEntry why) fails same still =
      link_leaves name t why (hello_all why fails same still)
  failed_leaves other fails same still =
      hello_part other fails same still (λ bytes shows. shows) fails.wrote

-- ---- what was read of the script

-- if the client was welcomed, the link's bytes begin with a Welcome
pub welcomed_unread : (name : List ℕ) (link input left : Option (List ℕ)) (faults : ℕ)
    (now : Source) (client : State) → Welcomes link faults now client
    → WaitsUnread name link input left
welcomed_unread name None input left faults now client welcomes = tt
welcomed_unread name (Some bytes) input left faults now client welcomes = λ none.
    let begins = given_begins now bytes (welcomes.first ∷ []) welcomes.readable welcomes.has_given
    in
    absurd (cc (sym (none welcomes.first begins) ∙ welcomes.welcome name))

-- if it was not, nothing was read
pub failed_unread : (name : List ℕ) (link input left : Option (List ℕ)) → left ≡ input
    → WaitsUnread name link input left
failed_unread name None input left same = tt
failed_unread name (Some bytes) input left same = λ none. same

-- nothing of the script holds no cause to end
pub nothing_read : (ended [] ≡ []) × (open_rest [] ≡ []) → (input : Option (List ℕ))
    → ReadsNoFurther input input
nothing_read none None = tt
nothing_read none (Some bytes) = record {
  taken = [];
  after = [];
  untaken = bytes;
  whole = refl;
  left_is = refl;
  meets = record {
    counts = omega arith;
    steps = subst (λ (ls : List (List ℕ)). AreSteps IsJoinStep (numbered 0 ls)) (sym none.0)
        (λ before line after is. absurd (no_parts before line after is));
    short = λ long.
        let past : IsTrue (is_overlong []) =
        subst (λ (b : List ℕ). IsTrue (is_overlong b)) none.1 long in
        cc (past);
  };
  few = omega arith;
}

-- ---- the wire

-- a link that was handed out came back
pub returned : {R T : Type 0} (link now : R × T) (old mid new : Option (Links R T))
    → WhereLinks old (λ a b. HandsOut a link b) mid
    → WhereLinks mid (λ a b. b ≡ record a { back = a.back ++ now ∷ [] }) new
    → WhereLinks old (λ a b. Returns link now a b) new
returned link now None mid new out back = tt
returned link now (Some a) None new out back = absurd out
returned link now (Some a) (Some b) None out back = absurd back
returned link now (Some a) (Some b) (Some c) out back = record {
  next = out.next ∙ ap (λ l. link ∷ l.to_come) (sym back);
  given = ap (λ l. l.given) back ∙ out.given;
  back = ap (λ l. l.back) back ∙ ap (λ l. l ++ now ∷ []) out.back;
}
