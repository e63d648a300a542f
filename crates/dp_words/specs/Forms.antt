-- The commands: a row for each, with its name, what may follow it, and what the words ask for.
use Rattle.std.specs.Prelude.{◌≡◌, ◌≤◌, ℕ, List, [], ◌∷◌, Option, Some, codes, length, true, false}
use Rattle.clap.specs.Walk.{Row, Text, first_of}
use Rattle.dp_words.specs.declared.command_line.CommandLine.{CommandLine}
use Rattle.dp_words.specs.declared.command_line.CommandLine.TheVariants.{Local, Join, Listen}
use Rattle.dp_words.specs.declared.command_line.LocalCommand.TheVariants.{Replay, World, Play}
use Rattle.dp_words.specs.declared.command_line.LocalCommand.TheVariants.{Drill}
use Rattle.dp_words.specs.declared.command_line.Service.TheVariants.{Session}
use Rattle.dp_words.specs.declared.form.Kind.{Kind}
use Rattle.dp_words.specs.declared.form.Kind.TheVariants.{Word, Named}
use Rattle.dp_words.specs.Values.{HasAt, HasRounds, HasSeed, HasWorkers, HasWorkersOrOne}
use Rattle.dp_words.specs.Values.{IsConns}

-- a command's words: their name, the words and options that may follow it, and the line for which
-- they ask with such values
pub record Form : Type 1 where
  pub name : Text
  pub params : List (Text × Kind)
  pub asks : List Row → CommandLine → Type 0

abbrev pub replay_form : Form
replay_form =
    record { name = codes "replay"; params = []; asks = λ rows line. line ≡ Local Replay }

abbrev pub world_form : Form
world_form =
    record { name = codes "world"; params = []; asks = λ rows line. line ≡ Local World }

-- `play [--at N] [--workers W]`
abbrev pub play_form : Form
play_form = record {
  name = codes "play";
  params = (codes "at", Named false) ∷ (codes "workers", Named false) ∷ [];
  asks = λ rows line. (at : Option ℕ) × (workers : ℕ) × HasAt (first_of (codes "at") rows) at
      × HasWorkersOrOne (first_of (codes "workers") rows) workers
      × (line ≡ Local (Play at workers));
}

-- `drill SEED ROUNDS WORKERS`
abbrev pub drill_form : Form
drill_form = record {
  name = codes "drill";
  params = (codes "seed", Word) ∷ (codes "rounds", Word) ∷ (codes "workers", Word) ∷ [];
  asks = λ rows line. (seed : ℕ) × (rounds : ℕ) × (workers : ℕ)
      × HasSeed (first_of (codes "seed") rows) seed
      × HasRounds (first_of (codes "rounds") rows) rounds
      × HasWorkers (first_of (codes "workers") rows) workers
      × (line ≡ Local (Drill seed rounds workers));
}

-- `join ADDR NAME`
abbrev pub join_form : Form
join_form = record {
  name = codes "join";
  params = (codes "addr", Word) ∷ (codes "name", Word) ∷ [];
  asks = λ rows line. (addr user : Text) × (first_of (codes "addr") rows ≡ Some addr)
      × (first_of (codes "name") rows ≡ Some user) × (1 ≤ length user) × (length user ≤ 32)
      × (line ≡ Join addr user);
}

-- `serve ADDR --workers N [--conns K] [--journal FILE]`
abbrev pub serve_form : Form
serve_form = record {
  name = codes "serve";
  params = (codes "addr", Word) ∷ (codes "workers", Named true) ∷ (codes "conns", Named false)
      ∷ (codes "journal", Named false) ∷ [];
  asks = λ rows line. (addr : Text) × (workers : ℕ) × (conns : Option ℕ)
      × (first_of (codes "addr") rows ≡ Some addr)
      × HasWorkers (first_of (codes "workers") rows) workers
      × HasAt (first_of (codes "conns") rows) conns × IsConns conns
      × (line ≡ Listen addr workers conns (Session (first_of (codes "journal") rows)));
}

abbrev pub forms : List Form
forms =
    replay_form ∷ world_form ∷ play_form ∷ drill_form ∷ join_form ∷ serve_form ∷ []
