-- The flow is that of the drill.
use Rattle.std.proofs.Common.{◌≡◌, IfOk, List, ap, subst, sym, ◌∙◌}
use Rattle.std.specs.List.{fold}
use Rattle.dp_messages.specs.declared.message.Entry.{Entry}
use Rattle.dp_epochs.specs.Past.{state_of}
use Rattle.dp_drill.specs.Flow.{Flow, GetsHistory, flow_after}
use Rattle.dp_drill.specs.Schedule.{first_actions}
use Rattle.dp_drill.proofs.RoundKinds.{drilled}
use Rattle.dp_drill.proofs.run.play_drill.Goals as goal

-- the flow after the first actions
abbrev began : Flow → Flow
began f = fold flow_after f first_actions

pub history-requires : goal.history-requires
history-requires g c =
    let same = drilled c.args.drill.seed c.args.drill.rounds _ _
    _ (c.in_ok-begin.ensures.ok ∙ ap began c.requires) c.in_ok-play_rounds.ensures.ok
    c.in_ok-send_all.ensures.ok in
    subst (λ (f : Flow). GetsHistory f.past) (sym same)
    (c.drills_need_no_clients.ensures.gets c.args.drill.seed c.args.drill.rounds)

pub returns : goal.returns
returns g c =
    let same = drilled c.args.drill.seed c.args.drill.rounds _ _
    _ (c.in_ok-begin.ensures.ok ∙ ap began c.requires) c.in_ok-play_rounds.ensures.ok
    c.in_ok-send_all.ensures.ok in
    subst (λ (es : List Entry). IfOk c.history.result (λ entries. entries ≡ es))
    (ap (λ (f : Flow). (state_of f.past).live) same
    ∙ ap (λ past. (state_of past).live)
    (sym (c.drills_need_no_clients.ensures.past c.args.drill.seed c.args.drill.rounds)))
    c.history.ensures
