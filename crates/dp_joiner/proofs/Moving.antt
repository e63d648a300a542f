-- What a client prints and writes in a line.
use Rattle.std.proofs.Common.{◌≡◌, inl, inr, ℕ, ◌≤◌, List, [], ◌++◌, length, refl, sym, ap, ◌∙◌}
use Rattle.std.proofs.Common.{subst, arith, Ok, Err, OnOk}
use Rattle.std.specs.Prelude.{Bool, Option, IfErr}
use Rattle.std.specs.declared.result.Result.{Result}
use Rattle.std.specs.Io.KnownBytes.{Appends}
use Rattle.std.proofs.KnownBytes.{Appends-nil, Appends-trans}
use Rattle.circular_buffer.specs.Buffer.{Buffer, buffer, keep_last}
use Rattle.std.specs.List.{flat_map}
use Rattle.std.proofs.lemmas.List.{append-nil}
use Rattle.dp_client.specs.declared.client.Taken.{Taken}
use Rattle.dp_board.specs.Counts.{CountsFew}
use Rattle.dp_client.specs.Client.{State, said, taken_of, took}
use Rattle.dp_client.specs.Due.{canvas_due, said_due}
use Rattle.dp_msg_draw.specs.declared.draw.Draw.{Draw}
use Rattle.dp_messages.specs.declared.message.Entry.{Entry}
use Rattle.dp_messages.specs.declared.message.Msg.{Msg}
use Rattle.dp_schedule.specs.declared.report_line.ReportLine.TheVariants.{Said, Took}
use Rattle.dp_schedule.specs.ReportText.{text_of}
use Rattle.dp_pixels.specs.Feet.{reach}
use Rattle.dp_screen.proofs.Leads.{counts_both}
use Rattle.dp_io.specs.Faults.{Rose}
use Rattle.dp_io.specs.Streams.{GrowsByPrefix}
use Rattle.dp_io.proofs.Prefixes.{grows_after, grows_whole}
use Rattle.dp_join_link.specs.declared.stops.JoinStop.{JoinStop}
use Rattle.dp_join_link.specs.declared.stops.JoinStop.TheVariants.{WriteFault, LinkFault, Memory}
use Rattle.dp_join_link.specs.declared.stops.JoinStop.TheVariants.{NoEntry}
use Rattle.dp_joiner.specs.declared.chats.ChatLine.{ChatLine}
use Rattle.dp_joiner.specs.Joining.{Joining, chat_by, chat_limit, printed, reset_by, said_by}
use Rattle.dp_joiner.specs.Joining.{sent_text, took_entry}
use Rattle.dp_join_link.specs.Sent.{ack_bytes, sent_by, FaultMatchesWriting}
use Rattle.dp_showing.specs.Resets.{client_reset}
use Rattle.dp_joiner.specs.Steps.{Began, Changes, DrewFew, Fails, FaultMatchesPrinting}
use Rattle.dp_joiner.specs.Steps.{FaultMatchesStop, IsFaultless, Seen, Stands, Stops, Wrote}
use Rattle.dp_join_link.specs.Reading.{FaultMatchesReading, IsNoEntry}

-- ---- counts of faults

pub faultless_twice : (a b c : Seen) → IsFaultless a b → IsFaultless b c → IsFaultless a c
faultless_twice a b c first second = record {
  print = second.print ∙ first.print;
  write = second.write ∙ first.write;
  read = second.read ∙ first.read;
}

-- no fault, and then those of a stop
pub fault_matches_from : (a b c : Seen) (stop : JoinStop) → IsFaultless a b
    → FaultMatchesStop b c stop
    → FaultMatchesStop a c stop
fault_matches_from a b c WriteFault first (rose, later, write, read) = (
  subst (λ n. Rose n c.print_faults) first.print rose,
  subst (λ n. n ≤ c.print_faults) first.print later,
  write ∙ first.write,
  read ∙ first.read,
)
fault_matches_from a b c LinkFault first (print, write, read, inl rose) = (
  print ∙ first.print,
  subst (λ n. n ≤ c.write_faults) first.write write,
  subst (λ n. n ≤ c.source.faults) first.read read,
  inl (subst (λ n. Rose n c.write_faults) first.write rose),
)
fault_matches_from a b c LinkFault first (print, write, read, inr rose) = (
  print ∙ first.print,
  subst (λ n. n ≤ c.write_faults) first.write write,
  subst (λ n. n ≤ c.source.faults) first.read read,
  inr (subst (λ n. Rose n c.source.faults) first.read rose),
)
fault_matches_from a b c Memory first second = faultless_twice a b c first second
fault_matches_from a b c (NoEntry why) first second = faultless_twice a b c first second

-- printing stops
pub printing_fault : (a b : Seen) (stop : JoinStop)
    → FaultMatchesPrinting a.print_faults b.print_faults stop
    → b.write_faults ≡ a.write_faults → b.source.faults ≡ a.source.faults
    → FaultMatchesStop a b stop
printing_fault a b WriteFault fault write read = (fault.0, fault.1, write, read)
printing_fault a b LinkFault fault write read = absurd fault
printing_fault a b Memory fault write read =
    record { print = fault; write = write; read = read }
printing_fault a b (NoEntry why) fault write read = absurd fault

-- writing to the link stops
pub writing_fault : (a b : Seen) (stop : JoinStop)
    → FaultMatchesWriting a.write_faults b.write_faults stop
    → b.print_faults ≡ a.print_faults → b.source.faults ≡ a.source.faults
    → FaultMatchesStop a b stop
writing_fault a b WriteFault fault print read = absurd fault
writing_fault a b LinkFault fault print read =
    (print, fault.1, omega (arith, read), inl fault.0)
writing_fault a b Memory fault print read =
    record { print = print; write = fault; read = read }
writing_fault a b (NoEntry why) fault print read = absurd fault

-- reading the link stops
pub reading_fault : (a b : Seen) (stop : JoinStop)
    → FaultMatchesReading a.source.faults b.source.faults stop
    → b.print_faults ≡ a.print_faults → b.write_faults ≡ a.write_faults → FaultMatchesStop a b stop
reading_fault a b WriteFault fault print write = absurd fault
reading_fault a b LinkFault fault print write =
    (print, omega (arith, write), fault.1, inr fault.0)
reading_fault a b Memory fault print write =
    record { print = print; write = write; read = fault }
reading_fault a b (NoEntry why) fault print write =
    record { print = print; write = write; read = fault }

printing_no_entry : (before now : ℕ) (stop : JoinStop) → FaultMatchesPrinting before now stop
    → IsNoEntry stop → ⊥
printing_no_entry before now WriteFault fault none = none
printing_no_entry before now LinkFault fault none = none
printing_no_entry before now Memory fault none = none
printing_no_entry before now (NoEntry why) fault none = fault

writing_no_entry : (before now : ℕ) (stop : JoinStop) → FaultMatchesWriting before now stop
    → IsNoEntry stop → ⊥
writing_no_entry before now WriteFault fault none = none
writing_no_entry before now LinkFault fault none = none
writing_no_entry before now Memory fault none = none
writing_no_entry before now (NoEntry why) fault none = fault

-- ---- a change

-- the change adds this text and these bytes, and these commands may be drawn for it
pub record Adds (j next : Joining) (t w : List ℕ) (d : List Draw) : Type 0 where
  pub text : next.text ≡ j.text ++ t
  pub written : next.written ≡ j.written ++ w
  pub due : next.due ≡ j.due ++ d

-- it leads to this client and to these lines of chat
pub record Leads (client : State) (chats : Buffer ChatLine) (next : Joining) : Type 0 where
  pub client_is : client ≡ next.client
  pub chats_are : chats ≡ buffer (keep_last chat_limit next.chats) chat_limit

-- what was drawn before, and for a change
pub counts_on : (a b c : Seen) (j next : Joining) (text written : List ℕ) (due : List Draw)
    → Adds j next text written due → DrewFew a b j.due
    → DrewFew b c due → DrewFew a c next.due
counts_on a b c j next text written due adds first second =
    subst (DrewFew a c) (sym adds.due)
    (counts_both reach j.due due a.draws b.draws c.draws a.tiles b.tiles c.tiles first second)

-- nothing is drawn, whatever may be
pub drew_none : (due : List Draw) (draws tiles : ℕ)
    → CountsFew reach due draws draws tiles tiles
drew_none due draws tiles = record {
  draws_rise = omega arith;
  few_draws = omega arith;
  tiles_rise = omega arith;
  few_tiles = omega arith;
}

-- a change is made
pub stands_by : (start old now : Seen) (j next : Joining) (text written : List ℕ) (due : List Draw)
    → Stands start old j → Leads now.client now.chats next → Adds j next text written due
    → Appends old.printed now.printed text → Appends old.written now.written written
    → IsFaultless old now → DrewFew old now due → Stands start now next
stands_by start old now j next text written due stands leads adds prints writes faultless few =
    record {
      client = leads.client_is;
      chats = leads.chats_are;
      text =
          subst (Appends start.printed now.printed) (sym adds.text)
          (Appends-trans start.printed old.printed now.printed j.text text stands.text prints);
      written =
          subst (Appends start.written now.written) (sym adds.written)
          (Appends-trans start.written old.written now.written j.written written stands.written
          writes);
      faultless = faultless_twice start old now stands.faultless faultless;
      counts = counts_on start old now j next text written due adds stands.counts few;
    }

wrote_of : (start now : Seen) (text written : List ℕ) (stop : JoinStop)
    → (IsNoEntry stop → ⊥) → Began start now text written → Wrote start now text written stop
wrote_of start now text written (NoEntry why) none began = absurd (none tt)
wrote_of start now text written _ none began = began

-- a change is stopped
pub stops_by : (start old now : Seen) (j next : Joining) (text written : List ℕ) (due : List Draw)
    (stop : JoinStop) → Stands start old j → Adds j next text written due
    → GrowsByPrefix old.printed now.printed text → GrowsByPrefix old.written now.written written
    → FaultMatchesStop old now stop → (IsNoEntry stop → ⊥) → DrewFew old now due
    → Stops start now next stop
stops_by start old now j next text written due stop stands adds prints writes fault none few =
    record {
      wrote = wrote_of start now next.text next.written stop none (record {
        printed =
            subst (GrowsByPrefix start.printed now.printed) (sym adds.text)
            (grows_after start.printed old.printed now.printed j.text text stands.text prints);
        sent =
            subst (GrowsByPrefix start.written now.written) (sym adds.written)
            (grows_after start.written old.written now.written j.written written stands.written
            writes);
      });
      fault = fault_matches_from start old now stop stands.faultless fault;
      counts = counts_on start old now j next text written due adds stands.counts few;
    }

-- nothing is written
pub grows_not : (a : Option (List ℕ)) (bytes : List ℕ) → GrowsByPrefix a a bytes
grows_not a bytes = (0, omega arith, Appends-nil a)

-- ---- lines that end with what they print

-- P holds of each client over a link with this state and these lines of chat
abbrev pub AtState : State → Buffer ChatLine → (Joining → Type 0) → Type 0
AtState client chats P =
    (j : Joining) → client ≡ j.client → chats ≡ buffer (keep_last chat_limit j.chats) chat_limit
    → P j

-- what holds however a call ends holds if it answers `Ok`
pub anyhow : {A E P : Type 0} (r : Result A E) → P → OnOk r P
anyhow (Ok x) p = p
anyhow (Err e) p = tt

module _ (old now : Seen) (change : Joining → Joining) (text written : List ℕ) (due : List Draw)
    (adds : AtState old.client old.chats (λ j. Adds j (change j) text written due))
    (few : DrewFew old now due) (read : now.source.faults ≡ old.source.faults) where
  -- writing to the link stops before anything is printed
  pub fails_first : (stop : JoinStop) → GrowsByPrefix old.written now.written written
      → now.printed ≡ old.printed → now.print_faults ≡ old.print_faults
      → FaultMatchesWriting old.write_faults now.write_faults stop → Fails old now change stop
  fails_first stop writes same print fault = record {
    not_for_entry = writing_no_entry old.write_faults now.write_faults stop fault;
    stops = λ start j stands.
        stops_by start old now j (change j) text written due stop stands
        (adds j stands.client stands.chats)
        (subst (λ p. GrowsByPrefix old.printed p text) (sym same) (grows_not old.printed text))
        writes (writing_fault old now stop fault print read)
        (writing_no_entry old.write_faults now.write_faults stop fault) few;
  }

  -- the last text is printed, or a prefix of it
  pub changes_last : (r : Result Unit JoinStop)
      → AtState old.client old.chats (λ j. Leads now.client now.chats (change j))
      → Appends old.written now.written written → now.write_faults ≡ old.write_faults
      → OnOk r (Appends old.printed now.printed text) → GrowsByPrefix old.printed now.printed text
      → OnOk r (now.print_faults ≡ old.print_faults)
      → IfErr r (FaultMatchesPrinting old.print_faults now.print_faults)
      → Changes old now change r
  changes_last (Ok done) leads writes write prints prefix kept fault = λ start j stands.
      stands_by start old now j (change j) text written due stands
      (leads j stands.client stands.chats) (adds j stands.client stands.chats) prints writes
      (record { print = kept; write = write; read = read }) few
  changes_last (Err stop) leads writes write prints prefix kept fault =
      let none = printing_no_entry old.print_faults now.print_faults stop fault in record {
        not_for_entry = none;
        stops = λ start j stands.
            stops_by start old now j (change j) text written due stop stands
            (adds j stands.client stands.chats) prefix
            (grows_whole old.written now.written written writes)
            (printing_fault old now stop fault write read) none few;
      }

-- ---- what each line adds

module _ (client : State) (chats : Buffer ChatLine) where
  -- it says a message
  pub says_adds : (m : Msg) (user count : ℕ) → user ≡ client.user
      → count ≡ length (said client m).fork
      → AtState client chats (λ j. Adds j (said_by j m) (text_of (Said count)) (sent_by user m)
      (said_due m))
  says_adds m user count is many j same kept = record {
    text =
        ap (λ (s : State). j.text ++ text_of (Said (length (said s m).fork))) (sym same)
        ∙ ap (λ (n : ℕ). j.text ++ text_of (Said n)) (sym many);
    written =
        ap (λ (s : State). j.written ++ sent_by s.user m) (sym same)
        ∙ ap (λ (u : ℕ). j.written ++ sent_by u m) (sym is);
    due = refl;
  }

  pub says_leads : (m : Msg) (next : State) → next ≡ said client m
      → AtState client chats (λ j. Leads next chats (said_by j m))
  says_leads m next leads j same kept = record {
    client_is = leads ∙ ap (λ (s : State). said s m) same;
    chats_are = kept;
  }

  -- it takes an entry
  pub takes_adds : (e : Entry) (user : ℕ) (taken : Taken) → user ≡ client.user
      → taken ≡ taken_of client e
      → AtState client chats (λ j. Adds j (took_entry j e) (text_of (Took taken.epoch taken.at))
      (ack_bytes user taken.ack) (canvas_due client e))
  takes_adds e user taken is place j same kept = record {
    text =
        ap (λ (s : State). j.text ++ text_of (Took (taken_of s e).epoch (taken_of s e).at))
        (sym same)
        ∙ ap (λ (t : Taken). j.text ++ text_of (Took t.epoch t.at)) (sym place);
    written =
        ap (λ (s : State). j.written ++ ack_bytes s.user (taken_of s e).ack) (sym same)
        ∙ ap (λ (t : Taken). j.written ++ ack_bytes client.user t.ack) (sym place)
        ∙ ap (λ (u : ℕ). j.written ++ ack_bytes u taken.ack) (sym is);
    due = ap (λ (s : State). j.due ++ canvas_due s e) (sym same);
  }

  pub takes_leads : (e : Entry) (next : State) (later : Buffer ChatLine) → next ≡ took client e
      → ((lines : List ChatLine) → chats ≡ buffer (keep_last chat_limit lines) chat_limit
      → later ≡ buffer (keep_last chat_limit (lines ++ chat_by e.user e.msg)) chat_limit)
      → AtState client chats (λ j. Leads next later (took_entry j e))
  takes_leads e next later leads keeps j same kept = record {
    client_is = leads ∙ ap (λ (s : State). took s e) same;
    chats_are = keeps j.chats kept;
  }

  -- it sends its canvas
  pub resets_adds : (keeps : Bool) (count : ℕ) → count ≡ length (client_reset keeps client)
      → AtState client chats (λ j. Adds j (reset_by keeps j) (sent_text count)
      (flat_map (sent_by client.user) (client_reset keeps client)) [])
  resets_adds keeps count many j same kept = record {
    text =
        ap (λ (s : State). j.text ++ sent_text (length (client_reset keeps s))) (sym same)
        ∙ ap (λ (n : ℕ). j.text ++ sent_text n) (sym many);
    written =
        ap (λ (s : State). j.written ++ flat_map (sent_by s.user) (client_reset keeps s))
        (sym same);
    due = sym (append-nil j.due);
  }

  pub resets_leads : (keeps : Bool)
      → AtState client chats (λ j. Leads client chats (reset_by keeps j))
  resets_leads keeps j same kept = record { client_is = same; chats_are = kept }

  -- it prints a text of what it has
  pub prints_adds : (text : State → List ChatLine → List ℕ) (here : List ℕ)
      → AtState client chats (λ j. text j.client j.chats ≡ here)
      → AtState client chats (λ j. Adds j (printed j (text j.client j.chats)) here [] [])
  prints_adds text here is j same kept = record {
    text = ap (λ (t : List ℕ). j.text ++ t) (is j same kept);
    written = sym (append-nil j.written);
    due = sym (append-nil j.due);
  }

  pub prints_leads : (text : State → List ChatLine → List ℕ)
      → AtState client chats (λ j. Leads client chats (printed j (text j.client j.chats)))
  prints_leads text j same kept = record { client_is = same; chats_are = kept }
