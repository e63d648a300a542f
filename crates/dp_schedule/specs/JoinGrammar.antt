-- What a line of a script of `join` asks for.
use Rattle.std.specs.Prelude.{◌≡◌, List, ℕ, [], ◌∷◌, codes}
use Rattle.dp_lines.specs.Lines.{words}
use Rattle.dp_lines.specs.Numbers.{IsNumber}
use Rattle.dp_schedule.specs.LineGrammar.{HexSpells, reset_word}
use Rattle.dp_schedule.specs.declared.join_action.JoinAction.{JoinAction}
use Rattle.dp_schedule.specs.declared.join_action.JoinAction.TheVariants.{Say, Take, View}
use Rattle.dp_schedule.specs.declared.join_action.JoinAction.TheVariants.{Confirmed, Snapshot}
use Rattle.dp_schedule.specs.declared.join_action.JoinAction.TheVariants.{Reset, Chat}

-- the words ask for the action
abbrev pub WordsAsk : List (List ℕ) → JoinAction → Type 0
WordsAsk all (Say m) = (word : List ℕ) × (all ≡ codes "say" ∷ word ∷ []) × HexSpells word m
WordsAsk all (Take count) =
    (word : List ℕ) × (all ≡ codes "take" ∷ word ∷ []) × IsNumber word count
WordsAsk all View = all ≡ codes "view" ∷ []
WordsAsk all Confirmed = all ≡ codes "conf" ∷ []
WordsAsk all Snapshot = all ≡ codes "snap" ∷ []
WordsAsk all (Reset keeps) = all ≡ reset_word keeps ∷ []
WordsAsk all Chat = all ≡ codes "chat" ∷ []

-- the line asks for the action
abbrev pub Asks : List ℕ → JoinAction → Type 0
Asks line action = WordsAsk (words line) action
