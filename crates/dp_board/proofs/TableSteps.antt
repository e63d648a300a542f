-- Steps of the table of strokes.
use Rattle.std.proofs.Common.{◌≡◌, ℕ, ◌+◌, ◌-◌, ◌<◌, ◌≤◌, List, [], ◌∷◌, ◌++◌}
use Rattle.std.proofs.Common.{length, Option, Some, None, refl, sym, arith, min, inl, inr}
use Rattle.std.proofs.Common.{subst}
use Rattle.std.specs.List.{fold, All}
use Rattle.std.specs.Option.{IfSome}
use Rattle.std.proofs.lemmas.List.Elements.{All-head, All-tail, All-weaker, All-push, All-drop}
use Rattle.std.proofs.lemmas.List.Elements.{All-nil, All-cons}
use Rattle.dp_board.specs.declared.act.Act.{Act}
use Rattle.dp_board.specs.declared.act.Act.TheVariants.{Point, Undo, Redo, Draw, Depth, Other}
use Rattle.dp_board.specs.declared.act.UserAct.{UserAct}
use Rattle.dp_board.specs.Strokes.{Window, concerned, window_after}
use Rattle.dp_board.specs.Table.{Table, moved_in, oldest_in}
use Rattle.dp_board.specs.Table.{strokes_of}
use Rattle.std.proofs.lemmas.Bool.{cases_eq}
use Rattle.dp_board.proofs.TimesLemmas.{times, times-some, one_other}
use Rattle.dp_board.proofs.StepLemmas.{moved-is}

-- the least of some numbers is at most the one that it began with
pub fold_min_le : (n : ℕ) (xs : List ℕ) → fold min n xs ≤ n
fold_min_le n [] = omega arith
fold_min_le n (x ∷ xs) = omega (arith, fold_min_le (min n x) xs)

-- it is at most each of them
fold_min_among : (n : ℕ) (xs : List ℕ) (q : ℕ) → 1 ≤ times q xs → fold min n xs ≤ q
fold_min_among n [] q some = absurd (omega arith)
fold_min_among n (x ∷ xs) q some = elim (cases_eq x q) [
  | inl same ↦ omega (arith, fold_min_le (min n x) xs)
  | inr differ ↦ fold_min_among (min n x) xs q (omega (arith, one_other x q differ))
]

-- what holds of each holds of one that is among them
All_among : (P : ℕ → Type 0) (xs : List ℕ) (q : ℕ) → All P xs → 1 ≤ times q xs → P q
All_among P [] q all some = absurd (omega arith)
All_among P (x ∷ xs) q all some = elim (cases_eq x q) [
  | inl same ↦ subst P same (All-head P x xs all)
  | inr differ ↦ All_among P xs q (All-tail P x xs all) (omega (arith, one_other x q differ))
]

-- a fact of what is there, from each that it may be
pub IfSome-each : (o : Option ℕ) (P : ℕ → Type 0) → ((x : ℕ) → o ≡ Some x → P x) → IfSome o P
IfSome-each None P each = tt
IfSome-each (Some x) P each = each x refl

-- the group that an act moves came before, and no earlier than the oldest Point in reach
pub moved_in-is : {Op : Type 0} → (table : Table) (a : UserAct Op) (group : ℕ)
    → moved_in table a ≡ Some group → All (λ p. p < table.position) table.window.points
    → (group < table.position) × (oldest_in table ≤ group)
moved_in-is table a group is before =
    let m = (moved-is (strokes_of table (concerned a)) a.act group is).0 in
    let some = times-some table.window.points group m in (
      All_among (λ p. p < table.position) table.window.points group before some,
      fold_min_among table.position table.window.points group some,
    )

-- what holds of each Point in reach and of the position holds of each Point after an act
All-window_after : {Op : Type 0} → (P : ℕ → Type 0) (position : ℕ) (act : Act Op) (w : Window)
    → All P w.points → P position → All P (window_after position act w).points
All-window_after P position Point w all here =
    All-drop P (length (w.points ++ position ∷ []) - w.depth) (w.points ++ position ∷ [])
    (All-push P w.points position all here)
All-window_after P position (Undo who) w all here =
    All-drop P (length w.points - w.depth) w.points all
All-window_after P position (Redo who) w all here =
    All-drop P (length w.points - w.depth) w.points all
All-window_after P position (Draw op) w all here =
    All-drop P (length w.points - w.depth) w.points all
All-window_after P position (Depth d) w all here =
    All-drop P (length w.points - d) w.points all
All-window_after P position Other w all here =
    All-drop P (length w.points - w.depth) w.points all

-- after an act the Points in reach came before the next one
pub window_after-before : {Op : Type 0} → (position : ℕ) (act : Act Op) (w : Window)
    → All (λ p. p < position) w.points
    → All (λ p. p < position + 1) (window_after position act w).points
window_after-before position act w before =
    All-window_after (λ p. p < position + 1) position act w
    (All-weaker (λ p. p < position) (λ p. p < position + 1) (λ p lt. omega arith) w.points before)
    (omega arith)

-- the least of some numbers is at most each
fold_min-all : (n : ℕ) (xs : List ℕ) → All (λ p. fold min n xs ≤ p) xs
fold_min-all n [] = All-nil (λ p. fold min n [] ≤ p)
fold_min-all n (x ∷ xs) =
    All-cons (λ p. fold min (min n x) xs ≤ p) x xs (omega (arith, fold_min_le (min n x) xs))
    (fold_min-all (min n x) xs)

-- what is at most each is at most the least
fold_min-least : (m n : ℕ) (xs : List ℕ) → m ≤ n → All (λ p. m ≤ p) xs → m ≤ fold min n xs
fold_min-least m n [] le all = le
fold_min-least m n (x ∷ xs) le all =
    let here : m ≤ x = All-head (λ p. m ≤ p) x xs all in
    fold_min-least m (min n x) xs (omega arith) (All-tail (λ p. m ≤ p) x xs all)

-- an act brings no earlier Point into reach
pub oldest-rises : {Op : Type 0} → (position : ℕ) (act : Act Op) (w : Window)
    → fold min position w.points ≤ fold min (position + 1) (window_after position act w).points
oldest-rises position act w =
    let least : ℕ = fold min position w.points in
    fold_min-least least (position + 1) (window_after position act w).points
    (omega (arith, fold_min_le position w.points))
    (All-window_after (λ p. least ≤ p) position act w (fold_min-all position w.points)
    (fold_min_le position w.points))

-- the oldest Point in reach rises, by the window after the act
pub oldest-rises_to : {Op : Type 0} → (position : ℕ) (act : Act Op) (w later : Window)
    → later ≡ window_after position act w
    → fold min position w.points ≤ fold min (position + 1) later.points
oldest-rises_to position act w later is =
    subst (λ v. fold min position w.points ≤ fold min (position + 1) v.points) (sym is)
    (oldest-rises position act w)
