use Rattle.std.proofs.Common.{[], map, ap, ◌∙◌}
use Rattle.dp_plain.specs.Board.{empty_board}
use Rattle.dp_plain.specs.Commands.{draw}
use Rattle.dp_board.specs.Replay as strokes
use Rattle.dp_replay.specs.Replay.{undo_depth, user_act_of}
use Rattle.dp_epochs.specs.State.{history_of}
use Rattle.dp_epochs.specs.Past.{state_after}
use Rattle.dp_lifting_laws.specs.Lifted.{lifted_event}
use Rattle.dp_lifting_laws.proofs.LiftedEvents.{state-lifted}
use Rattle.dp_lifting_laws.proofs.LiftedRows.{stand-lifted}
use Rattle.dp_lifting_laws.proofs.OneJournal.{one-journal}
use Rattle.dp_lifting_laws.proofs.LiftedReplays.{acts_at-lifted, acts-none}
use Rattle.dp_lifting_laws.proofs.Depths.{carried-first, histories-none}
use Rattle.dp_lifting_laws.proofs.FirstReplays.{replay-same}
use Rattle.dp_lifting_laws.proofs.laws.first_sessions_stay.Goals as goal

pub returns-clause-one : goal.returns-clause-one
returns-clause-one c = one-journal c.one_message.ensures.message []

pub returns-clause-rows : goal.returns-clause-rows
returns-clause-rows c = λ rows journal were.
    stand-lifted (record {
      depth = c.lifting.ensures.depth;
      other = c.lifting.ensures.other;
    }) [] rows journal were

pub returns-clause-state : goal.returns-clause-state
returns-clause-state c = λ rows old new were are.
    ap (λ j. state_after j [])
    (c.one_resumption.ensures.journal rows new (map lifted_event old) are
    (returns-clause-rows c rows old were))
    ∙ state-lifted old []

pub returns-clause-acts : goal.returns-clause-acts
returns-clause-acts c = λ rows old new epoch were are.
    ap (λ s. map user_act_of (history_of s epoch)) (returns-clause-state c rows old new were are)
    ∙ acts_at-lifted (state_after old []) epoch

pub returns-clause-depths : goal.returns-clause-depths
returns-clause-depths c = λ rows old epoch were.
    acts-none (history_of (state_after old []) epoch) (histories-none rows old epoch were)

pub returns-clause-replays : goal.returns-clause-replays
returns-clause-replays c = λ rows old new epoch were are.
    ap (strokes.replay draw empty_board undo_depth)
    (returns-clause-acts c rows old new epoch were are)
    ∙ replay-same c.first_strokes_stay.ensures (history_of (state_after old []) epoch)
    (returns-clause-depths c rows old epoch were)

pub returns-clause-carried : goal.returns-clause-carried
returns-clause-carried c = λ rows old epoch present were.
    carried-first (history_of (state_after old []) epoch) present
    (histories-none rows old epoch were)
