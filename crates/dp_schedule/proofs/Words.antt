-- What the words of a line ask for is what the line asks for.
use Rattle.std.proofs.Common.{◌≡◌, ℕ, List, [], ◌∷◌, Option, Some, None, Result, slice_get}
use Rattle.std.proofs.Common.{false, Bor, sym, subst}
use Rattle.std.specs.Option.{option_copied, is_some}
use Rattle.std.specs.Prelude.{IfOk, IfSome, IfNone}
use Rattle.dp_lines.specs.Lines.{words}
use Rattle.dp_messages.specs.declared.message.Msg.{Msg}
use Rattle.dp_schedule.specs.declared.action.Action.{Action}
use Rattle.dp_schedule.specs.declared.action.Action.TheVariants.{Join, Act, Show}
use Rattle.dp_schedule.specs.declared.action.Instruction.TheVariants.{Say}
use Rattle.dp_schedule.specs.LineGrammar.{Parses, WordsParse, HexSpells}

-- a list with two items and no third
pub two_words : (all : List (List ℕ)) (first second : List ℕ)
    → slice_get all 0 ≡ Some first → slice_get all 1 ≡ Some second → slice_get all 2 ≡ None
    → all ≡ first ∷ second ∷ []
two_words [] first second a b none = absurd (cc (a))
two_words (x ∷ []) first second a b none = absurd (cc (b))
two_words (x ∷ y ∷ []) first second a b none = cc
two_words (x ∷ y ∷ z ∷ more) first second a b none = absurd (cc (none))

-- a list with three items and no fourth
pub three_words : (all : List (List ℕ)) (first second third : List ℕ)
    → slice_get all 0 ≡ Some first → slice_get all 1 ≡ Some second → slice_get all 2 ≡ Some third
    → slice_get all 3 ≡ None
    → all ≡ first ∷ second ∷ third ∷ []
three_words [] first second third a b c none = absurd (cc (a))
three_words (x ∷ []) first second third a b c none = absurd (cc (b))
three_words (x ∷ y ∷ []) first second third a b c none = absurd (cc (c))
three_words (x ∷ y ∷ z ∷ []) first second third a b c none = cc
three_words (x ∷ y ∷ z ∷ w ∷ more) first second third a b c none = absurd (cc (none))

-- a word that isn't there
pub no_word : (found : Option (Bor (List ℕ))) (item : Option (List ℕ))
    → option_copied found ≡ item → false ≡ is_some found → item ≡ None
no_word None item same none = sym same
no_word (Some word) item same none = absurd (cc (none))

-- the answer to the words is the answer to the line
pub found_asked : {E : Type 0} (line : List ℕ) (all : List (List ℕ)) → words line ≡ all
    → (r : Result (Option Action) E)
    → IfOk r (λ found. IfSome found (WordsParse all)) → IfOk r (λ found. IfSome found (Parses line))
found_asked line all same r asks =
    subst (λ ws. IfOk r (λ found. IfSome found (WordsParse ws))) (sym same) asks

pub none_asked : {E : Type 0} (line : List ℕ) (all : List (List ℕ)) → words line ≡ all
    → (r : Result (Option Action) E)
    → IfOk r (λ found. IfNone found ((action : Action) → ¬ WordsParse all action))
    → IfOk r (λ found. IfNone found ((action : Action) → ¬ Parses line action))
none_asked line all same r none =
    subst (λ ws. IfOk r (λ found. IfNone found ((action : Action) → ¬ WordsParse ws action)))
    (sym same) none

-- three words ask for a message in the hexadecimal of the third
pub third_spells : (first second third : List ℕ) (action : Action)
    → WordsParse (first ∷ second ∷ third ∷ []) action → (m : Msg) × HexSpells third m
third_spells first second third (Join name registered) asks = absurd (cc (asks))
third_spells first second third (Act client (Say m)) (tail, names, (word, ends, tells)) =
    let parts = names.parts in
    let same : word ≡ third = cc in
    (m, subst (λ (w : List ℕ). HexSpells w m) same tells)
third_spells first second third (Show client kind) names = let parts = names.parts in absurd
    (cc (parts))
third_spells first second third _ (tail, names, ends) =
    let parts = names.parts in absurd (cc (parts, ends))
