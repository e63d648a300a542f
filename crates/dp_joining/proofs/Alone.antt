-- Lines that ask for no entry.
use Rattle.std.proofs.Common.{◌≡◌, ◌≤◌, List, [], ◌++◌, length, sym, subst, arith, Ok, Err, OnOk}
use Rattle.std.specs.declared.result.Result.{Result}
use Rattle.std.proofs.lemmas.List.{append-nil}
use Rattle.dp_messages.specs.declared.message.Entry.{Entry}
use Rattle.dp_schedule.specs.declared.join_action.JoinAction.{JoinAction}
use Rattle.dp_join_link.specs.declared.stops.JoinStop.{JoinStop}
use Rattle.dp_joiner.specs.Joining.{acted, asked_by}
use Rattle.dp_join_link.specs.Links.{BeginsWith}
use Rattle.dp_joiner.specs.Steps.{Changes, Does, IsReady, Seen}
use Rattle.dp_join_link.specs.Reading.{ReadsOn, Source}
use Rattle.dp_join_link.proofs.Reading.{given_begins, reads_none}
use Rattle.dp_joiner.proofs.Taking.{shows_other}

pub does_alone : (r : Result Unit JoinStop) (old now : Seen) (action : JoinAction)
    → asked_by action ≡ 0 → IsReady old.client old.source → now.source ≡ old.source
    → OnOk r (now.client.taken ≡ old.client.taken) → Changes old now (acted action) r
    → Does old now action r
does_alone (Ok done) old now action none ready same taken moves = record {
  given = [];
  reads =
      subst (λ (s : Source). ReadsOn old.source s []) (sym same)
      (reads_none old.source ready.readable);
  many = sym none;
  moves = moves;
  ready = subst (IsReady now.client) (sym same) (record {
    few =
        subst (λ (es : List Entry). length es ≤ old.source.reader.stream.at) (sym taken) ready.few;
    readable = ready.readable;
  });
}
does_alone (Err stop) old now action none ready same taken fails = record {
  given = [];
  reads = λ bytes before has_given still.
      shows_other stop bytes (before ++ []) fails.not_for_entry
      (subst (BeginsWith bytes) (sym (append-nil before))
      (given_begins old.source bytes before ready.readable has_given));
  few = omega arith;
  waits = λ is. absurd (fails.not_for_entry is);
  stops = fails.stops;
}
