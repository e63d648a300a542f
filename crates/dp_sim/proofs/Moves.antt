-- What a client does by an instruction is its move.
use Rattle.std.proofs.Common.{◌≡◌, Bool, true, false, if◌then◌else◌, Option, None, Some}
use Rattle.std.proofs.Common.{List, [], ◌∷◌, ◌++◌, refl, sym, ap, ◌∙◌, append-nil}
use Rattle.dp_msg_meta.specs.declared.message.Control.TheVariants.{Disconnect}
use Rattle.std.specs.Option.{option_map_or}
use Rattle.dp_messages.specs.declared.message.Msg.{Msg}
use Rattle.dp_messages.specs.declared.message.Msg.TheVariants as msg
use Rattle.dp_messages.specs.declared.message.Entry.{Entry}
use Rattle.dp_messages.specs.Properties.{is_disconnect}
use Rattle.dp_schedule.specs.declared.action.Instruction.{Instruction}
use Rattle.dp_schedule.specs.declared.action.Instruction.TheVariants.{Say, Up, Take, Reset}
use Rattle.dp_schedule.specs.declared.action.Instruction.TheVariants.{Leave, Cut}
use Rattle.dp_sim.specs.declared.participant.LinkState.{LinkState}
use Rattle.dp_sim.specs.declared.participant.LinkState.TheVariants.{Connected, Leaving, Closed}
use Rattle.dp_sim.specs.Exchanges.{Exchange, is_gone, disconnected, heard, uplink_sent, next_entry}
use Rattle.dp_sim.specs.Exchanges.{took_next, done}
use Rattle.dp_showing.specs.Resets.{client_reset}
use Rattle.dp_sim.specs.Invariant.{is_closed}
use Rattle.dp_sim.specs.Moves.{Queued, Parting, Rests, SendsFirst}
use Rattle.dp_sim.specs.Moves.{TakesNext, Closes, link_after, first_sent, done_move, Makes}
use Rattle.dp_sim.specs.Moves.{InstructionsAreMoves}

pub not-gone : (link : LinkState) (instruction : Instruction) → is_gone link instruction ≡ false
    → is_closed link ≡ false
not-gone Connected instruction here = refl
not-gone Leaving instruction here = refl
not-gone Closed instruction here = cc

-- who does what one that is leaving doesn't is connected
connected : (link : LinkState) (instruction : Instruction) → is_gone Leaving instruction ≡ true
    → is_gone link instruction ≡ false → link ≡ Connected
connected Connected instruction leaves here = refl
connected Leaving instruction leaves here = let e : true ≡ false = sym leaves ∙ here in cc
connected Closed instruction leaves here = cc

-- who queues isn't closed then
pub queued-runs : (queued : Queued) → is_closed (link_after queued) ≡ false
queued-runs Parting = refl
queued-runs queued = refl

module _ (t : Exchange) where
  -- the client with this fork and link, whose uplink more joins
  abbrev with_more : List Msg → List Msg → LinkState → Exchange
  with_more fork more link = record t {
    participant = record t.participant {
      state = record t.participant.state { fork = fork };
      uplink = t.participant.uplink ++ more;
      link = link;
    };
  }

  sent-moved : (uplink : List Msg) → t.participant.uplink ≡ uplink
      → is_closed t.participant.link ≡ false
      → Makes t Up (first_sent uplink) (uplink_sent t uplink)
  sent-moved [] is here = record { made = refl; may = tt }
  sent-moved (m ∷ rest) is here = by_leave (is_disconnect m) refl
    where
      by_leave : (b : Bool) → is_disconnect m ≡ b
          → Makes t Up (if b then Closes (Some m) else SendsFirst m rest)
          (if b then disconnected (heard t m rest) else heard t m rest)
      by_leave true leaves = record { made = refl; may = (here, (rest, is, leaves)) }
      by_leave false goes = record { made = refl; may = (here, is, goes) }

  taken-moved : (o : Option Entry) → next_entry t ≡ o → is_closed t.participant.link ≡ false
      → Makes t Take (option_map_or TakesNext o Rests) (took_next t o)
  taken-moved None is here = record { made = refl; may = tt }
  taken-moved (Some entry) is here = record { made = refl; may = (here, is) }

  done-moved : (instruction : Instruction) → is_gone t.participant.link instruction ≡ false
      → Makes t instruction (done_move t instruction) (done t instruction)
  done-moved (Say m) here =
      let on = connected t.participant.link (Say m) refl here in
      record {
        made = ap (with_more (t.participant.state.fork ++ m ∷ []) (m ∷ [])) on;
        may = (refl, on);
      }
  done-moved Up here =
      sent-moved t.participant.uplink refl (not-gone t.participant.link Up here)
  done-moved Take here = taken-moved (next_entry t) refl (not-gone t.participant.link Take here)
  done-moved (Reset keeps) here =
      let on = connected t.participant.link (Reset keeps) refl here in
      let fork = t.participant.state.fork in
      let more = client_reset keeps t.participant.state in
      record {
        made = ap (λ ms. with_more ms more t.participant.link) (sym (append-nil fork))
            ∙ ap (with_more (fork ++ []) more) on;
        may = (refl, on);
      }
  done-moved Leave here = record {
    made = ap (λ ms. with_more ms (msg.Control (Disconnect 0) ∷ []) Leaving)
        (sym (append-nil t.participant.state.fork));
    may = (refl, connected t.participant.link Leave refl here);
  }
  done-moved Cut here =
      record { made = refl; may = (not-gone t.participant.link Cut here, tt) }

pub exchange-moved : InstructionsAreMoves
exchange-moved t instruction = by_gone (is_gone t.participant.link instruction) refl
  where
    by_gone : (b : Bool) → is_gone t.participant.link instruction ≡ b
        → Makes t instruction (if b then Rests else done_move t instruction)
        (if b then t else done t instruction)
    by_gone true is = record { made = refl; may = tt }
    by_gone false is = done-moved t instruction is
