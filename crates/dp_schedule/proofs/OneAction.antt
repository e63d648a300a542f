-- A line asks for one thing.
use Rattle.std.proofs.Common.{◌≡◌, ℕ, Bool, true, false, List, [], ◌∷◌, get_or, if◌then◌else◌, ◌==◌}
use Rattle.std.proofs.Common.{◌||◌, ◌&&◌, refl, sym, ap, ◌∙◌, subst, arith}
use Rattle.dp_lines.specs.Numbers.{IsNumber}
use Rattle.dp_messages.specs.declared.message.Msg.{Msg}
use Rattle.dp_messages.specs.Messages.{Spells}
use Rattle.dp_schedule.specs.declared.action.Action.{Action}
use Rattle.dp_schedule.specs.declared.action.Action.TheVariants.{Join, Act, Show}
use Rattle.dp_schedule.specs.declared.action.Instruction.{Instruction}
use Rattle.dp_schedule.specs.declared.action.Instruction.TheVariants.{Say, Up, Take, Reset}
use Rattle.dp_schedule.specs.declared.action.Instruction.TheVariants.{Leave, Cut}
use Rattle.dp_schedule.specs.declared.action.CanvasKind.{CanvasKind}
use Rattle.dp_schedule.specs.declared.action.CanvasKind.TheVariants.{View, Confirmed}
use Rattle.dp_schedule.specs.declared.action.CanvasKind.TheVariants.{Snapshot, Recording}
use Rattle.dp_schedule.specs.LineGrammar.{WordsParse, NamesClient, EndsIn, HexSpells, join_word}
use Rattle.dp_schedule.specs.LineGrammar.{instruction_word, canvas_word}

-- the sort of a first word, by its fourth byte, and by its third one if it has no fourth or the
-- fourth is `p`: 0 that of a join, 1 of an instruction, 2 of what is printed
sort_by : ℕ → ℕ → ℕ
sort_by third byte =
    if byte == 110 || byte == 98 then 0
    else (if byte == 119 || byte == 102 then 2
    else (if byte == 112 && third == 97 then 2
    else (if byte == 0 && third == 99 then 2 else 1)))

abbrev sort_of : List ℕ → ℕ
sort_of word = sort_by (get_or word 2 0) (get_or word 3 0)

sort_of_join : (registered : Bool) → sort_of (join_word registered) ≡ 0
unfolding sort_by
sort_of_join true = refl
sort_of_join false = refl

sort_of_instruction : (instruction : Instruction) → sort_of (instruction_word instruction) ≡ 1
unfolding sort_by
sort_of_instruction (Say m) = refl
sort_of_instruction (Reset true) = refl
sort_of_instruction _ = refl

sort_of_canvas : (kind : CanvasKind) → sort_of (canvas_word kind) ≡ 2
unfolding sort_by
sort_of_canvas View = refl
sort_of_canvas _ = refl

-- words of two sorts are not one
join_or_instruction : (registered : Bool) (instruction : Instruction)
    → join_word registered ≡ instruction_word instruction → ⊥
join_or_instruction registered instruction same =
    omega (arith, ap sort_of same, sort_of_join registered, sort_of_instruction instruction)

join_or_canvas : (registered : Bool) (kind : CanvasKind) → join_word registered ≡ canvas_word kind
    → ⊥
join_or_canvas registered kind same =
    omega (arith, ap sort_of same, sort_of_join registered, sort_of_canvas kind)

instruction_or_canvas : (instruction : Instruction) (kind : CanvasKind)
    → instruction_word instruction ≡ canvas_word kind → ⊥
instruction_or_canvas instruction kind same =
    omega (arith, ap sort_of same, sort_of_instruction instruction, sort_of_canvas kind)

-- who is registered, what is printed and which instruction without a message is done, by the first
-- byte of the word
registered_by : ℕ → Bool
registered_by byte = byte == 109

canvas_by : ℕ → CanvasKind
canvas_by byte =
    if byte == 118 then View
    else (if byte == 115 then Snapshot else (if byte == 114 then Recording else Confirmed))

instruction_by : ℕ → Instruction
instruction_by byte =
    if byte == 117 then Up
    else (if byte == 116 then Take
    else (if byte == 114 then Reset false
    else (if byte == 107 then Reset true else (if byte == 108 then Leave else Cut))))

registered_back : (registered : Bool) → registered_by (get_or (join_word registered) 0 0)
    ≡ registered
unfolding registered_by
registered_back true = refl
registered_back false = refl

canvas_back : (kind : CanvasKind) → canvas_by (get_or (canvas_word kind) 0 0) ≡ kind
unfolding canvas_by
canvas_back View = refl
canvas_back _ = refl

instruction_back : (instruction : Instruction) → EndsIn instruction []
    → instruction_by (get_or (instruction_word instruction) 0 0) ≡ instruction
unfolding instruction_by
instruction_back (Say m) (word, ends, tells) = absurd (cc (ends))
instruction_back (Reset true) ends = refl
instruction_back _ ends = refl

one_registered : (r s : Bool) → join_word r ≡ join_word s → r ≡ s
one_registered r s same =
    sym (registered_back r)
    ∙ ap (λ (w : List ℕ). registered_by (get_or w 0 0)) same ∙ registered_back s

one_canvas : (s t : CanvasKind) → canvas_word s ≡ canvas_word t → s ≡ t
one_canvas s t same =
    sym (canvas_back s) ∙ ap (λ (w : List ℕ). canvas_by (get_or w 0 0)) same ∙ canvas_back t

-- the laws of the crates below
abbrev pub OneNumber : Type 0
OneNumber = (word : List ℕ) (m n : ℕ) → IsNumber word m → IsNumber word n → m ≡ n

abbrev pub OneMessage : Type 0
OneMessage =
    (kind : ℕ) (payload : List ℕ) (m n : Msg) → Spells kind payload m → Spells kind payload n
    → m ≡ n

-- a word spells one message
pub one_spelled : OneMessage → (word : List ℕ) (m n : Msg) → HexSpells word m → HexSpells word n
    → m ≡ n
one_spelled law word m n first second =
    let digits = first.digits in
    let others = second.digits in
    let parts = first.may.parts in
    let pieces = second.may.parts in
    let kinds : second.may.kind ≡ first.may.kind = cc in
    let payloads : second.may.payload ≡ first.may.payload = cc in
    law first.may.kind first.may.payload m n first.may.spelled
    (subst (λ (k : ℕ). Spells k first.may.payload n) kinds
    (subst (λ (p : List ℕ). Spells second.may.kind p n) payloads second.may.spelled))

-- an instruction with a word after the client's number says the message that the word spells
said_by : (instruction : Instruction) (word : List ℕ) (after : List (List ℕ))
    → EndsIn instruction (word ∷ after)
    → (m : Msg) × (instruction ≡ Say m) × HexSpells word m
said_by (Say m) word after (other, ends, tells) =
    let same : other ≡ word = cc in
    (m, refl, subst (λ (w : List ℕ). HexSpells w m) same tells)
said_by _ word after ends = absurd (cc (ends))

-- one word and one tail are of one instruction
one_instruction : OneMessage → (d e : Instruction) (tail : List (List ℕ))
    → instruction_word d ≡ instruction_word e
    → EndsIn d tail → EndsIn e tail → d ≡ e
one_instruction law d e [] same first second =
    sym (instruction_back d first)
    ∙ ap (λ (w : List ℕ). instruction_by (get_or w 0 0)) same ∙ instruction_back e second
one_instruction law d e (word ∷ after) same first second =
    let (m, is, tells) = said_by d word after first in
    let (n, other, line) = said_by e word after second in
    is ∙ ap Say (one_spelled law word m n tells line) ∙ sym other

-- one word is one client's number
one_client : OneNumber → (all : List (List ℕ)) (first other : List ℕ) (m n : ℕ)
    (tail rest : List (List ℕ)) → NamesClient all first m tail → NamesClient all other n rest
    → m ≡ n
one_client law all first other m n tail rest names others =
    let parts = names.parts in
    let pieces = others.parts in
    let same : others.word ≡ names.word = cc in
    law names.word m n names.number (subst (λ (w : List ℕ). IsNumber w n) same others.number)

-- a line asks for one thing
pub one_asked : OneNumber → OneMessage → (all : List (List ℕ)) (action other : Action)
    → WordsParse all action → WordsParse all other → action ≡ other
one_asked numbers messages all (Join name r) (Join title s) first second =
    let words : join_word r ≡ join_word s = cc in
    let registered = one_registered r s words in
    let names : name ≡ title = cc in
    cc
one_asked numbers messages all (Join name r) (Act client instruction) first (tail, names, ends) =
    let parts = names.parts in
    absurd (join_or_instruction r instruction cc)
one_asked numbers messages all (Join name r) (Show client kind) first names =
    let parts = names.parts in
    absurd (join_or_canvas r kind cc)
one_asked numbers messages all (Act client instruction) (Join name r) (tail, names, ends) second =
    let parts = names.parts in
    absurd (join_or_instruction r instruction cc)
one_asked numbers messages all (Act m d) (Act n e) (tail, names, ends) (rest, others, ending) =
    let parts = names.parts in
    let pieces = others.parts in
    let words : instruction_word d ≡ instruction_word e = cc in
    let tails : rest ≡ tail = cc in
    let clients = one_client numbers all (instruction_word d) (instruction_word e) m n tail rest
    names others in
    let instructions = one_instruction messages d e tail words ends (subst (EndsIn e) tails ending)
    in
    cc
one_asked numbers messages all (Act client instruction) (Show n kind) (tail, names, ends) others =
    let parts = names.parts in
    let pieces = others.parts in
    absurd (instruction_or_canvas instruction kind cc)
one_asked numbers messages all (Show client kind) (Join name r) names second =
    let parts = names.parts in
    absurd (join_or_canvas r kind cc)
one_asked numbers messages all (Show n kind) (Act client instruction) others (tail, names, ends) =
    let parts = names.parts in
    let pieces = others.parts in
    absurd (instruction_or_canvas instruction kind cc)
one_asked numbers messages all (Show m s) (Show n t) names others =
    let parts = names.parts in
    let pieces = others.parts in
    let words : canvas_word s ≡ canvas_word t = cc in
    let clients = one_client numbers all (canvas_word s) (canvas_word t) m n [] [] names others in
    let canvases = one_canvas s t words in
    cc
