-- Each setting changes one field.
use Rattle.std.proofs.Common.{ap, true, ◌∙◌}
use Rattle.clap.specs.Simple.{app_of_fields, on_top}
use Rattle.dp_words.proofs.form.bare_of.Goals as goal

pub returns : goal.returns
returns c =
    ap app_of_fields c.subcommand_required.ensures
    ∙ ap (on_top (λ top. record top { subcommand_required = true }))
    (ap app_of_fields c.disable_help_subcommand.ensures
    ∙ ap (on_top (λ top. record top { disable_help_subcommand = true }))
    (ap app_of_fields c.disable_help_flag.ensures
    ∙ ap (on_top (λ top. record top { disable_help_flag = true }))
    (ap app_of_fields c.no_binary_name.ensures
    ∙ ap (on_top (λ top. record top { no_binary_name = true })) c.new.ensures.app)))
