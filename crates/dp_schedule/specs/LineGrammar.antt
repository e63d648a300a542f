-- What a line of a schedule asks for.
use Rattle.std.specs.Prelude.{◌≡◌, ◌≤◌, ℕ, Bool, if◌then◌else◌, Some, List, [], ◌∷◌, codes}
use Rattle.dp_lines.specs.Lines.{words}
use Rattle.dp_lines.specs.Numbers.{IsNumber}
use Rattle.dp_lines.specs.Hexadecimal.{hex_bytes}
use Rattle.dp_messages.specs.declared.message.Msg.{Msg}
use Rattle.dp_messages.specs.Messages.{Spells}
use Rattle.dp_schedule.specs.declared.action.Instruction.{Instruction}
use Rattle.dp_schedule.specs.declared.action.Instruction.TheVariants.{Say, Up, Take, Reset}
use Rattle.dp_schedule.specs.declared.action.Instruction.TheVariants.{Leave, Cut}
use Rattle.dp_schedule.specs.declared.action.CanvasKind.{CanvasKind}
use Rattle.dp_schedule.specs.declared.action.CanvasKind.TheVariants.{View, Confirmed}
use Rattle.dp_schedule.specs.declared.action.CanvasKind.TheVariants.{Snapshot, Recording}
use Rattle.dp_schedule.specs.declared.action.Action.{Action}
use Rattle.dp_schedule.specs.declared.action.Action.TheVariants.{Join, Act, Show}

-- ---- the first words

abbrev pub join_word : Bool → List ℕ
join_word registered = if registered then codes "member" else codes "join"

abbrev pub reset_word : Bool → List ℕ
reset_word keeps = if keeps then codes "keep" else codes "reset"

abbrev pub instruction_word : Instruction → List ℕ
instruction_word (Say m) = codes "say"
instruction_word Up = codes "up"
instruction_word Take = codes "take"
instruction_word (Reset keeps) = reset_word keeps
instruction_word Leave = codes "leave"
instruction_word Cut = codes "cut"

abbrev pub canvas_word : CanvasKind → List ℕ
canvas_word View = codes "view"
canvas_word Confirmed = codes "conf"
canvas_word Snapshot = codes "snap"
canvas_word Recording = codes "rec"

-- ---- what may be said

-- the bytes are a kind from 32 on and a payload, which spells the message
pub record MaySay (bytes : List ℕ) (m : Msg) : Type 0 where
  pub kind : ℕ
  pub payload : List ℕ
  pub parts : bytes ≡ kind ∷ payload
  pub high : 32 ≤ kind
  pub spelled : Spells kind payload m

-- the word is hexadecimal digits of such bytes
pub record HexSpells (word : List ℕ) (m : Msg) : Type 0 where
  pub bytes : List ℕ
  pub digits : hex_bytes word ≡ Some bytes
  pub may : MaySay bytes m

-- the words after the client's number: for a message its digits, else none
abbrev pub EndsIn : Instruction → List (List ℕ) → Type 0
EndsIn (Say m) tail = (word : List ℕ) × (tail ≡ word ∷ []) × HexSpells word m
EndsIn Up tail = tail ≡ []
EndsIn Take tail = tail ≡ []
EndsIn (Reset keeps) tail = tail ≡ []
EndsIn Leave tail = tail ≡ []
EndsIn Cut tail = tail ≡ []

-- the words are this first word, a client's number, and a tail
pub record NamesClient (all : List (List ℕ)) (first : List ℕ) (client : ℕ)
    (tail : List (List ℕ)) : Type 0 where
  pub word : List ℕ
  pub parts : all ≡ first ∷ word ∷ tail
  pub number : IsNumber word client

-- the words ask for the action
abbrev pub WordsParse : List (List ℕ) → Action → Type 0
WordsParse all (Join name registered) = all ≡ join_word registered ∷ name ∷ []
WordsParse all (Act client instruction) =
    (tail : List (List ℕ)) × NamesClient all (instruction_word instruction) client tail
    × EndsIn instruction tail
WordsParse all (Show client kind) = NamesClient all (canvas_word kind) client []

-- the line asks for the action
abbrev pub Parses : List ℕ → Action → Type 0
Parses line action = WordsParse (words line) action
