use Rattle.std.proofs.Common.{◌≡◌, drop, false, map}
use Rattle.clap.specs.Words.{app_of}
use Rattle.clap.specs.declared.builder.command.Command.TheViews.{out-Command}
use Rattle.dp_words.specs.Program.{param_of, with_params}
use Rattle.dp_words.proofs.form.command_for.Given as goal

-- with the words and options that are left it is the whole command
abbrev pub invariant-loop-param : goal.invariant-loop-param
invariant-loop-param l = record {
  app : with_params (app_of l.command) (map param_of (drop l.param-index l.param-items))
      ≡ with_params (app_of l.initial.command) (map param_of l.param-items);
  plain : (out-Command l.command).has_globals ≡ false;
}
