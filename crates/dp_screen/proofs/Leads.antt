-- How a screen goes on by an act.
use Rattle.std.proofs.Common.{◌≡◌, ℕ, ◌+◌, Bool, true, List, [], ◌∷◌, ◌++◌}
use Rattle.std.proofs.Common.{length, Option, None, Some, refl, sym, ap, ◌∙◌, subst, arith}
use Rattle.std.proofs.Common.{length-append}
use Rattle.std.specs.Prelude.{sum_by}
use Rattle.std.specs.List.{fold}
use Rattle.std.proofs.lemmas.List.Sums.{sum_by-append}
use Rattle.dp_board.specs.declared.act.Act.{Act}
use Rattle.dp_board.specs.declared.act.Act.TheVariants.{Point, Undo, Redo, Draw, Depth, Other}
use Rattle.dp_board.specs.declared.act.UserAct.{UserAct}
use Rattle.dp_board.specs.declared.act.Change.{Change}
use Rattle.dp_board.specs.Commands.{command_of}
use Rattle.dp_board.specs.Counts.{CountsFew}
use Rattle.dp_board.specs.Replay.{replay}
use Rattle.dp_board.specs.Strokes.{Strokes, concerned, moved, moved_by, strokes}
use Rattle.dp_fork.specs.declared.own.Own.{Own}
use Rattle.dp_fork.specs.Fork.{Answers, Became, Forked, IsForkOf, MovesBy, due_on_fork}
use Rattle.dp_rollback.specs.Due.{change_by, change_of, due_commands}
use Rattle.dp_rollback.specs.Replays.{ReplayGoesOn}
use Rattle.dp_rollback.specs.Rollback.{Next, Rolled, StandsFor, put_on}
use Rattle.dp_screen.specs.Due.{CountsOnBoth}
use Rattle.dp_screen.specs.Screen.{ScreenGoesOn, Screened, but_for_room}

-- ---- what an act makes of the confirmed board

-- an act that moves no group draws its command, if it is one
unmoved : {B Op : Type 0} (draw : B → Op → B) (before now : B) (act : Act Op)
    → now ≡ fold draw before (command_of act true) → Became draw before now act (change_by act None)
unmoved draw before now Point is = is
unmoved draw before now (Undo who) is = is
unmoved draw before now (Redo who) is = is
unmoved draw before now (Draw op) is = is
unmoved draw before now (Depth depth) is = is
unmoved draw before now Other is = is

undo_moves : (Op : Type 0) (who : ℕ) (o : Option ℕ)
    → MovesBy {Op = Op} (change_by {Op = Op} (Undo who) o) (Undo who)
undo_moves Op who None = tt
undo_moves Op who (Some group) = refl

redo_moves : (Op : Type 0) (who : ℕ) (o : Option ℕ)
    → MovesBy {Op = Op} (change_by {Op = Op} (Redo who) o) (Redo who)
redo_moves Op who None = tt
redo_moves Op who (Some group) = refl

-- a command moves none
moves_by : {Op : Type 0} (s : Strokes) (act : Act Op) → MovesBy (change_by act (moved s act)) act
moves_by s Point = tt
moves_by {Op} s (Undo who) = undo_moves Op who (moved {Op = Op} s (Undo who))
moves_by {Op} s (Redo who) = redo_moves Op who (moved {Op = Op} s (Redo who))
moves_by s (Draw op) = tt
moves_by s (Depth depth) = tt
moves_by s Other = tt

-- only an act that may move a group has changed more than its own command
pub only_moves : {Op : Type 0} (depth : ℕ) (acts : List (UserAct Op)) (a : UserAct Op)
    → MovesBy (change_of depth acts a) a.act
only_moves depth acts a = moves_by (strokes depth (concerned a) acts) a.act

-- if one moves a group, nothing is said of the board before
moved_became : {B Op : Type 0} (draw : B → Op → B) (before now : B) (act : Act Op) (group : ℕ)
    (s : Strokes) → moved s act ≡ Some group
    → Became draw before now act (change_by act (Some group))
moved_became draw before now Point group s is = tt
moved_became draw before now (Undo who) group s is = tt
moved_became draw before now (Redo who) group s is = tt
moved_became draw before now (Draw op) group s is =
    absurd (let wrong : None ≡ Some group = is in cc (wrong))
moved_became draw before now (Depth depth) group s is = tt
moved_became draw before now Other group s is = tt

-- what an act after a history makes of the board
became : {B Op : Type 0} → ReplayGoesOn B Op → (draw : B → Op → B) (blank : B) (depth : ℕ)
    (acts : List (UserAct Op)) (a : UserAct Op)
    → Became draw (replay draw blank depth acts) (replay draw blank depth (acts ++ a ∷ [])) a.act
    (change_of depth acts a)
became goes draw blank depth acts a = by_move (moved_by depth acts a) refl
  where
    by_move : (o : Option ℕ) → moved_by depth acts a ≡ o
        → Became draw (replay draw blank depth acts) (replay draw blank depth (acts ++ a ∷ []))
        a.act (change_by a.act o)
    by_move None is = unmoved draw _ _ a.act (goes draw blank depth acts a is)
    by_move (Some group) is =
        moved_became draw _ _ a.act group (strokes depth (concerned a) acts) is

-- the act of a user
abbrev pub act_by : {Op : Type 0} → ℕ → Act Op → UserAct Op
act_by user act = record { user = user; act = act }

-- ---- the room for acts

-- what is said of a rollback is said of it but for its room
pub without_room : {B Op : Type 0} {draw : B → Op → B} {blank : B} {depth : ℕ}
    {acts : List (UserAct Op)} {r : Rolled B Op} → StandsFor draw blank depth acts r
    → StandsFor draw blank depth acts (but_for_room r)
without_room st =
    record { table = st.table; kept = st.kept; board = st.board; saves = st.saves }

pub with_room : {B Op : Type 0} {draw : B → Op → B} {blank : B} {depth : ℕ}
    {acts : List (UserAct Op)} {r : Rolled B Op} → StandsFor draw blank depth acts (but_for_room r)
    → StandsFor draw blank depth acts r
with_room st =
    record { table = st.table; kept = st.kept; board = st.board; saves = st.saves }

-- ---- both boards

-- the fork goes on from each board before to the board now
abbrev pub ForkFollows : {B Op : Type 0} → (B → Type 0) → (B → Op → B) → UserAct Op → Own
    → Rolled B Op → Forked B Op → B → Forked B Op → Type 0
ForkFollows is_board draw a own old fork now new =
    (blank before : _) (depth : ℕ) (acts : List (UserAct _)) → StandsFor draw blank depth acts old
    → IsForkOf is_board draw before fork → Became draw before now a.act (change_of depth acts a)
    → Answers own a.act fork.acts → IsForkOf is_board draw now new

-- a screen goes on if its boards do
pub goes_on : {B Op : Type 0} → ReplayGoesOn B Op → (is_board : B → Type 0) (draw : B → Op → B)
    (a : UserAct Op) (own : Own) (old new : Rolled B Op) (fork fork' : Forked B Op)
    → ((blank : B) (depth : ℕ) (acts : List (UserAct Op)) → StandsFor draw blank depth acts old
    → StandsFor draw blank depth (acts ++ a ∷ []) new)
    → ForkFollows is_board draw a own old fork new.board fork'
    → ScreenGoesOn is_board draw a own (record { confirmed = but_for_room old; fork = fork })
    (record { confirmed = but_for_room new; fork = fork' })
goes_on goes is_board draw a own old new fork fork' stands forks =
    λ blank depth acts of answers.
    let st : StandsFor draw blank depth acts old = with_room of.stands in
    let later : StandsFor draw blank depth (acts ++ a ∷ []) new = stands blank depth acts st in
    record {
      stands = without_room later;
      forks = forks blank old.board depth acts st of.forks
          (subst (λ b. Became draw old.board b a.act (change_of depth acts a)) (sym later.board)
          (subst (λ b. Became draw b (replay draw blank depth (acts ++ a ∷ [])) a.act
          (change_of depth acts a)) (sym st.board) (became goes draw blank depth acts a)))
          answers;
    }

-- the board that was made ready is the board once it is put
pub put_board : {B Op : Type 0} (next : Next B Op) (old new : Rolled B Op) (board : B)
    → new ≡ record (put_on next old) { spare = new.spare } → board ≡ next.board
    → board ≡ new.board
put_board next old new board after ready =
    ready ∙ sym (ap (λ (r : Rolled _ _). r.board) after)

-- the fork goes on if it was settled on the board that is made ready
pub fork_goes_on : {B Op : Type 0} (is_board : B → Type 0) (draw : B → Op → B) (a : UserAct Op)
    (own : Own) (old : Rolled B Op) (fork fork' : Forked B Op) (shown now : B) (change : Change)
    → shown ≡ now
    → ((blank : B) (depth : ℕ) (acts : List (UserAct Op)) → StandsFor draw blank depth acts old
    → change ≡ change_of depth acts a)
    → ((before : B) → IsForkOf is_board draw before fork → Became draw before shown a.act change
    → Answers own a.act fork.acts → IsForkOf is_board draw shown fork')
    → ForkFollows is_board draw a own old fork now fork'
fork_goes_on is_board draw a own old fork fork' shown now change same changes settled =
    λ blank before depth acts st of became answers.
    subst (λ b. IsForkOf is_board draw b fork') same
    (settled before of (subst (λ b. Became draw before b a.act change) (sym same)
    (subst (Became draw before now a.act) (sym (changes blank depth acts st)) became)) answers)

-- ---- counters

-- what is drawn on the first of two boards alone is no more than is due on both
pub counts_first : {Op : Type 0} (weight : Op → ℕ) (first second : List Op)
    (draws draws' tiles tiles' : ℕ) → CountsFew weight first draws draws' tiles tiles'
    → CountsFew weight (first ++ second) draws draws' tiles tiles'
counts_first weight first second draws draws' tiles tiles' few =
    let all : length (first ++ second) ≡ length first + length second =
    length-append first second in
    let tiles_all : sum_by weight (first ++ second) ≡ sum_by weight first + sum_by weight second =
    sum_by-append weight first second in
    record {
      draws_rise = few.draws_rise;
      few_draws = omega (arith, all, few.few_draws);
      tiles_rise = few.tiles_rise;
      few_tiles = omega (arith, tiles_all, few.few_tiles);
    }

-- what is drawn on one board and then on the other
pub counts_both : {Op : Type 0} (weight : Op → ℕ) (first second : List Op)
    (draws draws' draws'' tiles tiles' tiles'' : ℕ)
    → CountsFew weight first draws draws' tiles tiles'
    → CountsFew weight second draws' draws'' tiles' tiles''
    → CountsFew weight (first ++ second) draws draws'' tiles tiles''
counts_both weight first second draws draws' draws'' tiles tiles' tiles'' few more =
    let all : length (first ++ second) ≡ length first + length second =
    length-append first second in
    let tiles_all : sum_by weight (first ++ second) ≡ sum_by weight first + sum_by weight second =
    sum_by-append weight first second in
    record {
      draws_rise = omega (arith, few.draws_rise, more.draws_rise);
      few_draws = omega (arith, all, few.few_draws, more.few_draws);
      tiles_rise = omega (arith, few.tiles_rise, more.tiles_rise);
      few_tiles = omega (arith, tiles_all, few.few_tiles, more.few_tiles);
    }

-- whatever it stands for, no more was drawn than is due, if the confirmed board alone was drawn
-- on
pub counts_due_first : {B Op : Type 0} (is_board : B → Type 0) (draw : B → Op → B)
    (weight : Op → ℕ) (apart : Op → Op → Bool) (a : UserAct Op) (own : Own) (r : Rolled B Op)
    (f : Forked B Op) (s : Screened B Op) (draws draws' tiles tiles' : ℕ)
    → record { confirmed = but_for_room r; fork = f } ≡ s
    → ((blank : B) (depth : ℕ) (acts : List (UserAct Op)) → StandsFor draw blank depth acts r
    → CountsFew weight (due_commands depth acts a) draws draws' tiles tiles')
    → CountsOnBoth is_board draw weight apart a own s draws draws' tiles tiles'
counts_due_first {B} {Op} is_board draw weight apart a own r f s draws draws' tiles tiles' same
    few =
    subst (λ (x : Screened B Op). CountsOnBoth is_board draw weight apart a own x draws draws' tiles
    tiles') same (λ blank depth acts of. counts_first weight (due_commands depth acts a)
    (due_on_fork apart a.act (change_of depth acts a) own f.acts) draws draws' tiles tiles'
    (few blank depth acts (with_room of.stands)))

-- what is drawn counts as is due on both boards, if both were drawn on
pub counts_due_both : {B Op : Type 0} (is_board : B → Type 0) (draw : B → Op → B)
    (weight : Op → ℕ) (apart : Op → Op → Bool) (a : UserAct Op) (own : Own) (change : Change)
    (r : Rolled B Op) (f : Forked B Op) (s : Screened B Op)
    (draws draws' draws'' tiles tiles' tiles'' : ℕ)
    → record { confirmed = but_for_room r; fork = f } ≡ s
    → ((blank : B) (depth : ℕ) (acts : List (UserAct Op)) → StandsFor draw blank depth acts r
    → change ≡ change_of depth acts a)
    → ((blank : B) (depth : ℕ) (acts : List (UserAct Op)) → StandsFor draw blank depth acts r
    → CountsFew weight (due_commands depth acts a) draws draws' tiles tiles')
    → CountsFew weight (due_on_fork apart a.act change own f.acts) draws' draws'' tiles' tiles''
    → CountsOnBoth is_board draw weight apart a own s draws draws'' tiles tiles''
counts_due_both {B} {Op} is_board draw weight apart a own change r f s draws draws' draws'' tiles
    tiles' tiles'' same changes few more =
    subst (λ (x : Screened B Op). CountsOnBoth is_board draw weight apart a own x draws draws''
    tiles tiles'') same (λ blank depth acts of.
    let st : StandsFor draw blank depth acts r = with_room of.stands in
    counts_both weight (due_commands depth acts a)
    (due_on_fork apart a.act (change_of depth acts a) own f.acts) draws draws' draws'' tiles tiles'
    tiles'' (few blank depth acts st)
    (subst (λ (x : Change). CountsFew weight (due_on_fork apart a.act x own f.acts) draws' draws''
    tiles' tiles'') (changes blank depth acts st) more))

-- if nothing is due, nothing is counted
pub no_draws : {Op : Type 0} (weight : Op → ℕ) (draws draws' tiles tiles' : ℕ)
    → CountsFew weight [] draws draws' tiles tiles' → draws' ≡ draws
no_draws weight draws draws' tiles tiles' few = omega (arith, few.draws_rise, few.few_draws)

pub no_tiles : {Op : Type 0} (weight : Op → ℕ) (draws draws' tiles tiles' : ℕ)
    → CountsFew weight [] draws draws' tiles tiles' → tiles' ≡ tiles
no_tiles weight draws draws' tiles tiles' few = omega (arith, few.tiles_rise, few.few_tiles)
