-- One command after the other.
use Rattle.std.proofs.Common.{ap, ◌∙◌}
use Rattle.clap.specs.Simple.{App, with_subcommand}
use Rattle.clap.specs.Words.{app_of}
use Rattle.dp_words.proofs.Telling.{command_more}
use Rattle.dp_words.proofs.form.program_of.Goals as goal

pub loop-form-preserved : goal.loop-form-preserved
loop-form-preserved c =
    command_more (app_of c.loop-form.program) _ c.args.forms.now c.loop-form.form-index _
    c.loop-form-test.true
    (c.in_ok-program.ensures.shape c.in_ok-command_for.ensures.plain
    ∙ ap (λ (app : App). with_subcommand (app_of c.loop-form.program) app.top)
    c.in_ok-command_for.ensures.app)
    ∙ c.loop-form.invariant
