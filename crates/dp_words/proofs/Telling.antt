-- The commands are told one after the other.
use Rattle.std.proofs.Common.{◌≡◌, ◌<◌, ◌+◌, ℕ, List, ap, drop, length, map, slice_index_or, sym}
use Rattle.std.proofs.Common.{◌∙◌}
use Rattle.std.proofs.lemmas.List.{drop_more}
use Rattle.clap.specs.Simple.{App, with_subcommand}
use Rattle.dp_words.specs.declared.form.Form.{Form}
use Rattle.dp_words.specs.Program.{command_for, with_commands, words_of}

-- one more command, and those that are left
pub command_more : (old new : App) (forms : List Form) (i : ℕ) (d : Form) → i < length forms
    → new ≡ with_subcommand old (command_for (words_of (slice_index_or forms i d))).top
    → with_commands new (map words_of (drop (i + 1) forms))
    ≡ with_commands old (map words_of (drop i forms))
command_more old new forms i d within made =
    ap (λ (app : App). with_commands app (map words_of (drop (i + 1) forms))) made
    ∙ sym (ap (λ (all : List Form). with_commands old (map words_of all))
    (drop_more forms i d within))
