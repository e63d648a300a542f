-- What the words of the commands can ask for.
use Rattle.std.proofs.Common.{◌≡◌, ◌<◌, ℕ, zero, suc, ◌+◌, List, [], ◌∷◌, Option, Some, None}
use Rattle.std.proofs.Common.{Bool, true, false, IfNone, ap, ap₂, arith, codes, decimal, length}
use Rattle.std.proofs.Common.{refl, slice_index, subst, sym, ◌∙◌}
use Rattle.std.proofs.lemmas.Fmt.{decimal_injective, first_decimal}
use Rattle.std.proofs.lemmas.Slice.Eq.{bytes_eq-Decides}
use Rattle.std.specs.Fmt.{digits}
use Rattle.std.specs.Prelude.{Decides, IfOk, MatchBool, Result, unwrap_or}
use Rattle.std.specs.Str.{bytes_eq}
use Rattle.clap.specs.Faults.{fault_of}
use Rattle.clap.specs.Simple.{subcommand_of}
use Rattle.clap.specs.Walk.{Row, Text, first_of}
use Rattle.dp_lines.specs.Numbers.{IsNumber}
use Rattle.dp_words.specs.declared.command_line.CommandLine.{CommandLine}
use Rattle.dp_words.specs.declared.command_line.CommandLine.TheVariants.{Local, Join, Listen}
use Rattle.dp_words.specs.declared.command_line.LocalCommand.TheVariants.{Play, Drill}
use Rattle.dp_words.specs.declared.command_line.Service.TheVariants.{Session}
use Rattle.dp_words.specs.CommandLines.{AsksBy, AsksIn, AsksOf, IsCommandLine}
use Rattle.dp_words.specs.Forms.{Form, drill_form, forms, join_form, play_form, replay_form}
use Rattle.dp_words.specs.Forms.{serve_form, world_form}
use Rattle.dp_words.specs.Program.{program}
use Rattle.dp_words.specs.Values.{HasAt, HasRounds, HasSeed, HasWorkers, HasWorkersOrOne}

-- ---- each form asks for one thing

abbrev pub OneNumber : Type 0
OneNumber = (word : List ℕ) (m n : ℕ) → IsNumber word m → IsNumber word n → m ≡ n

one-at : OneNumber → (found : Option Text) (a b : Option ℕ) → HasAt found a → HasAt found b → a ≡ b
one-at one None None None x y = refl
one-at one None None (Some n) x y = absurd y
one-at one None (Some n) b x y = absurd x
one-at one (Some word) None b x y = absurd x
one-at one (Some word) (Some m) None x y = absurd y
one-at one (Some word) (Some m) (Some n) x y = ap Some (one word m n x y)

one-workers : OneNumber → (found : Option Text) (m n : ℕ)
    → HasWorkers found m → HasWorkers found n → m ≡ n
one-workers one None m n x y = absurd x
one-workers one (Some word) m n x y = one word m n x.0 y.0

some-same : {a b : Text} {found : Option Text} → found ≡ Some a → found ≡ Some b → a ≡ b
some-same {a} x y = ap (λ o. unwrap_or o a) (sym x ∙ y)

abbrev pub AsksOne : Form → Type 0
AsksOne form =
    (rows : List Row) (a b : CommandLine) → form.asks rows a → form.asks rows b → a ≡ b

replay-one : AsksOne replay_form
replay-one rows a b x y = x ∙ sym y

world-one : AsksOne world_form
world-one rows a b x y = x ∙ sym y

workers-or-one : OneNumber → (found : Option Text) (m n : ℕ)
    → HasWorkersOrOne found m → HasWorkersOrOne found n → m ≡ n
workers-or-one one None m n x y = x ∙ sym y
workers-or-one one (Some word) m n x y = one-workers one (Some word) m n x y

-- if a word is there, it is no number of workers if it is none that a server takes
pub some-or-one : (found : Option Text) (word : Text) (read : Option ℕ) → found ≡ Some word
    → IfNone read ((n : ℕ) → HasWorkers found n → ⊥)
    → IfNone read ((n : ℕ) → HasWorkersOrOne found n → ⊥)
some-or-one None word read there none = cc
some-or-one (Some found) word read there none = none

play-one : OneNumber → AsksOne play_form
play-one one rows a b x y =
    x.4 ∙ ap₂ (λ at n. Local (Play at n)) (one-at one _ x.0 y.0 x.2 y.2)
    (workers-or-one one _ x.1 y.1 x.3 y.3) ∙ sym y.4

one-seed : (found : Option Text) (m n : ℕ) → HasSeed found m → HasSeed found n → m ≡ n
one-seed None m n x y = absurd x
one-seed (Some word) m n x y = decimal_injective m n x.fits y.fits (sym x.text ∙ y.text)

one-rounds : OneNumber → (found : Option Text) (m n : ℕ)
    → HasRounds found m → HasRounds found n → m ≡ n
one-rounds one None m n x y = absurd x
one-rounds one (Some word) m n x y = one word m n x.0 y.0

drill-one : OneNumber → AsksOne drill_form
drill-one one rows a b x y =
    let seeds-are : x.0 ≡ y.0 = one-seed _ x.0 y.0 x.3 y.3 in
    let rounds-are : x.1 ≡ y.1 = one-rounds one _ x.1 y.1 x.4 y.4 in
    let workers-are : x.2 ≡ y.2 = one-workers one _ x.2 y.2 x.5 y.5 in
    let a-is : a ≡ Local (Drill x.0 x.1 x.2) = x.6 in
    let b-is : b ≡ Local (Drill y.0 y.1 y.2) = y.6 in
    cc

join-one : AsksOne join_form
join-one rows a b x y = x.6 ∙ ap₂ Join (some-same x.2 y.2) (some-same x.3 y.3) ∙ sym y.6

serve-one : OneNumber → AsksOne serve_form
serve-one one rows a b x y =
    let addr-is : x.0 ≡ y.0 = some-same x.3 y.3 in
    let workers-are : x.1 ≡ y.1 = one-workers one _ x.1 y.1 x.4 y.4 in
    let conns-are : x.2 ≡ y.2 = one-at one _ x.2 y.2 x.5 y.5 in
    let a-is : a ≡ Listen x.0 x.1 x.2 (Session (first_of (codes "journal") rows)) = x.7 in
    let b-is : b ≡ Listen y.0 y.1 y.2 (Session (first_of (codes "journal") rows)) = y.7 in
    cc

-- ---- words ask for one thing

abbrev pub EachAsksOne : List Form → Type 0
EachAsksOne [] = Unit {0}
EachAsksOne (form ∷ rest) = AsksOne form × EachAsksOne rest

each-one : OneNumber → EachAsksOne forms
each-one one =
    (replay-one, (world-one, (play-one one, (drill-one one, (join-one, (serve-one one, tt))))))

either-one : (test : Bool) (form : Form) (rest : List Form) (name : Text) (rows : List Row)
    (a b : CommandLine) → AsksOne form
    → (AsksOf rest name rows a → AsksOf rest name rows b → a ≡ b)
    → MatchBool test (form.asks rows a) (AsksOf rest name rows a)
    → MatchBool test (form.asks rows b) (AsksOf rest name rows b) → a ≡ b
either-one true form rest name rows a b here later x y = here rows a b x y
either-one false form rest name rows a b here later x y = later x y

one-of : (all : List Form) → EachAsksOne all → (name : Text) (rows : List Row) (a b : CommandLine)
    → AsksOf all name rows a → AsksOf all name rows b → a ≡ b
one-of [] each name rows a b x y = absurd x
one-of (form ∷ rest) each name rows a b x y =
    either-one (bytes_eq name form.name) form rest name rows a b each.0
    (one-of rest each.1 name rows a b) x y

pub one-in : OneNumber → (entered : Option (Text × List Row)) (a b : CommandLine)
    → AsksIn entered a → AsksIn entered b → a ≡ b
one-in one None a b x y = absurd x
one-in one (Some entered) a b x y = one-of forms (each-one one) entered.0 entered.1 a b x y

-- ---- words that ask for nothing

-- what asks for nothing if the matches stand asks for nothing by the words
pub none-asked : (words : List Text) (entered : Option (Text × List Row))
    (line : Option CommandLine)
    → entered ≡ subcommand_of program words
    → IfNone line ((other : CommandLine) → AsksIn entered other → ⊥)
    → IfNone line (IsCommandLine words → ⊥)
none-asked words entered None same none =
    λ asked. none asked.0 (subst (λ e. AsksIn e asked.0) (sym same) asked.1.1)
none-asked words entered (Some line) same none = none

-- words in which a fault is found are no command line
pub faulty : (words : List Text) (n : ℕ) → length (fault_of program words) ≡ n + 1
    → IsCommandLine words → ⊥
faulty words n found asked =
    let none : length (fault_of program words) ≡ 0 = ap length asked.1.0 in
    absurd (omega (arith, found, none))

-- no number begins with a plus
plus : (rest : Text) (n : ℕ) → IsNumber (43 ∷ rest) n → ⊥
unfolding digits
plus rest zero is =
    let text : (43 ∷ rest) ≡ 48 ∷ [] = is.text in
    absurd (omega (arith, ap (λ (t : Text). slice_index t 0) text))
plus rest (suc n) is =
    let first : 43 ≡ slice_index (decimal (suc n)) 0 =
    ap (λ (t : Text). slice_index t 0) is.text in
    let low : 48 < slice_index (decimal (suc n)) 0 =
    first_decimal (suc n) (omega arith) (omega (arith, is.fits)) in
    absurd (omega (arith, first, low))

no-plus-at : (rest : Text) (at : Option ℕ) → HasAt (Some (43 ∷ rest)) at → ⊥
no-plus-at rest None x = x
no-plus-at rest (Some n) x = plus rest n x

-- so `play` with such a word is no command line
pub signed-words : (words : List Text) (rows : List Row) (rest : Text)
    → subcommand_of program words ≡ Some (codes "play", rows)
    → first_of (codes "at") rows ≡ Some (43 ∷ rest) → IsCommandLine words → ⊥
signed-words words rows rest named at (line, asked) =
    let asks : play_form.asks rows line = subst (λ e. AsksIn e line) named asked.1 in
    no-plus-at rest asks.0 (subst (λ o. HasAt o asks.0) at asks.2)

-- none of these forms has the name
abbrev pub NoneNamed : List Form → Text → Type 0
NoneNamed [] name = Unit {0}
NoneNamed (form ∷ rest) name = (name ≡ form.name → ⊥) × NoneNamed rest name

not-here : (test : Bool) (name known : Text) (P Q : Type 0) → Decides test (name ≡ known)
    → (name ≡ known → ⊥) → (Q → ⊥) → MatchBool test P Q → ⊥
not-here true name known P Q decides other rest h = other (decides.0 refl)
not-here false name known P Q decides other rest h = rest h

-- so a command of the name asks for nothing
pub unnamed : (all : List Form) (name : Text) (rows : List Row) (line : CommandLine)
    → NoneNamed all name → AsksOf all name rows line → ⊥
unnamed [] name rows line none h = h
unnamed (form ∷ rest) name rows line none h =
    not-here (bytes_eq name form.name) name form.name (form.asks rows line)
    (AsksOf rest name rows line) (bytes_eq-Decides name form.name) none.0
    (unnamed rest name rows line none.1) h

-- ---- a name that is known

-- what is so of a command's name is so of a text that is that name
pub none-of : (found : Option CommandLine) (name known : Text) (rows : List Row) → name ≡ known
    → IfNone found ((other : CommandLine) → AsksBy known rows other → ⊥)
    → IfNone found ((other : CommandLine) → AsksBy name rows other → ⊥)
none-of found name known rows same none = subst
    (λ (n : Text). IfNone found ((other : CommandLine) → AsksBy n rows other → ⊥)) (sym same) none

pub none-read : {E : Type 0} (read : Result (Option CommandLine) E) (name known : Text)
    (rows : List Row) → name ≡ known
    → IfOk read (λ found. IfNone found ((other : CommandLine) → AsksBy known rows other → ⊥))
    → IfOk read (λ found. IfNone found ((other : CommandLine) → AsksBy name rows other → ⊥))
none-read read name known rows same none = subst
    (λ (n : Text). IfOk read (λ found. IfNone found ((other : CommandLine)
    → AsksBy n rows other → ⊥))) (sym same) none
