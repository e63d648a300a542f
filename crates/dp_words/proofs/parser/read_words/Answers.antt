-- What `clap` found of the words is what its functions say of them.
use Rattle.std.proofs.Common.{ap, map, refl, string_bytes, subst, true, ◌≡◌, ◌∙◌, ⊎_elim, [], rules}
use Rattle.std.proofs.lemmas.Result.{IfOk-weaker}
use Rattle.clap.specs.Simple.{is_simple, subcommand_of}
use Rattle.clap.specs.Words.{fault_of, is_simple_and_free, HasKind}
use Rattle.clap.proofs.OnLiterals.{clap_on_literals}
use Rattle.dp_words.specs.Program.{program}
use Rattle.dp_words.proofs.Asking.{none-asked}
use Rattle.dp_words.proofs.parser.read_words.Goals as goal

is-simple : is_simple program ≡ true
unfolding clap_on_literals
is-simple = refl

pub returns-in-Ok-clause-none : goal.returns-in-Ok-clause-none
returns-in-Ok-clause-none c =
    let app_is = c.in_ok-drawpile_of.ensures in
    let entered = (c.in-Ok.ensures.matches (ap is_simple app_is ∙ is-simple)).1
    ∙ ap (λ app. subcommand_of app (map string_bytes c.args.words.now)) app_is in
    IfOk-weaker c.line_of.result _ _ (λ line none. none-asked _ _ line entered none)
    c.line_of.ensures.none

is-free : is_simple_and_free program ≡ true
unfolding clap_on_literals
is-free = refl

pub returns-in-Err-2-clause-none : goal.returns-in-Err-2-clause-none
returns-in-Err-2-clause-none c = λ asked.
    let app_is = c.in_ok-drawpile_of.ensures in
    let none : fault_of program (map string_bytes c.args.words.now) ≡ [] = asked.1.0 in
    let has = c.in-Err-2.ensures.kinds (ap is_simple_and_free app_is ∙ is-free) in
    let kinds = subst (λ ks. HasKind ks c.in-Err-2.field-0)
    (ap (λ app. fault_of app (map string_bytes c.args.words.now)) app_is ∙ none) has in
    ⊎_elim (λ memory. search (rules, memory)) (λ among. among) kinds
