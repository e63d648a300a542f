use Rattle.std.proofs.Common.{subst}
use Rattle.dp_session_laws.specs.Journals.{is_kept}
use Rattle.dp_link.specs.Hearing.{ActsSays}
use Rattle.dp_link.proofs.Turns.{acts-says}
use Rattle.dp_link.proofs.up.say.Goals as goal

pub returns-clause-acts : goal.returns-clause-acts
returns-clause-acts g c =
    let v = c.args.seat.now.view in
    let w = c.act_each-count.new.seat.view in
    let acts = c.act_each-count.ensures.entries in
    subst (λ says. ActsSays v says c.act_each-count.result.stop w) c.as_slice.ensures.value
    (acts-says v w c.as_slice.result.now c.act_each-count.result acts
    (c.calls_add_up.ensures.each v w is_kept c.as_slice.result.now c.act_each-count.result acts))
