-- What is made ready for an act.
use Rattle.std.proofs.Common.{◌≡◌, ℕ, List, [], ◌∷◌, ◌++◌, ap, sym, ◌∙◌}
use Rattle.std.proofs.Common.{subst, refl, arith, ◌+◌, ◌<◌, ◌≤◌, None, Some, true, drop}
use Rattle.std.specs.List.{fold}
use Rattle.dp_board.specs.Commands.{command_of}
use Rattle.dp_board.specs.Strokes.{concerned}
use Rattle.dp_board.specs.Table.{oldest_in, next_strokes, table_with}
use Rattle.std.specs.Prelude.{if◌then◌else◌, is_some}
use Rattle.dp_board.specs.declared.act.Act.{Act}
use Rattle.dp_board.specs.declared.act.UserAct.{UserAct}
use Rattle.dp_board.specs.declared.act.Change.{Change}
use Rattle.dp_board.specs.declared.act.Change.TheVariants.{Drew, Rebuilt, Nothing}
use Rattle.dp_board.specs.Moves.{is_draw}
use Rattle.dp_board.specs.Counts.{CountsFew}
use Rattle.dp_rollback.specs.Due.{due_commands, change_of, CountsDue}
use Rattle.dp_rollback.specs.Rollback.{Rolled, Next, StandsFor, put_on, change_in, grown, needless}
use Rattle.dp_rollback.specs.Rollback.{IsInOrder}
use Rattle.dp_savepoints.specs.Marks.{mark_in}
use Rattle.dp_rollback.specs.Moves.{due_in, IsKnown, IsNext, IsDrawnFor, next_here}
use Rattle.dp_rollback.specs.Moves.{HasAdded, saves_after}
use Rattle.dp_savepoints.specs.Marks.{kept_in}
use Rattle.dp_savepoints.specs.Laws.{Laws}
use Rattle.dp_rollback.proofs.StandLemmas.{StandsFor-put_on, StandsFor-spare}
use Rattle.dp_rollback.proofs.DueLemmas.{due_in-due, change-made}

-- it stands for the same acts then
pub stands-now : {B Op : Type 0} → (draw : B → Op → B) (old now : Rolled B Op)
    → now ≡ record old { spare = now.spare } → (blank : B) (depth : ℕ) (acts : List (UserAct Op))
    → StandsFor draw blank depth acts old → StandsFor draw blank depth acts now
stands-now draw old now same blank depth acts st =
    subst (StandsFor draw blank depth acts) (sym same)
    (StandsFor-spare draw blank depth acts old now.spare st)

-- what was made ready stands for the acts with the act added
pub ready-stands : {B Op : Type 0} → Laws Op → (draw : B → Op → B) (old now : Rolled B Op)
    (a b : UserAct Op) → now ≡ record old { spare = now.spare } → a ≡ b → IsKnown now a
    → (next : Next B Op) → IsNext draw now a next
    → (blank : B) (depth : ℕ) (acts : List (UserAct Op)) → StandsFor draw blank depth acts old
    → StandsFor draw blank depth (acts ++ b ∷ []) (put_on next now)
ready-stands laws draw old now a b same equal known next made blank depth acts st =
    subst (λ x. StandsFor draw blank depth (acts ++ x ∷ []) (put_on next now)) equal
    (StandsFor-put_on laws draw now a next known made blank depth acts
    (stands-now draw old now same blank depth acts st))

-- it tells the change
pub ready-change : {B Op : Type 0} → Laws Op → (draw : B → Op → B) (old now : Rolled B Op)
    (a b : UserAct Op) → now ≡ record old { spare = now.spare } → a ≡ b → IsKnown now a
    → (next : Next B Op) → IsNext draw now a next
    → (blank : B) (depth : ℕ) (acts : List (UserAct Op)) → StandsFor draw blank depth acts old
    → change_in next ≡ change_of depth acts b
ready-change laws draw old now a b same equal known next made blank depth acts st =
    ap (λ k. if k.drawn then Drew else (if is_some next.mark then Rebuilt else Nothing)) made.act
    ∙ ap (λ m. if is_draw a.act then Drew else (if is_some m then Rebuilt else Nothing)) made.mark
    ∙ change-made laws draw a now known.known blank depth acts
    (stands-now draw old now same blank depth acts st)
    ∙ ap (change_of depth acts) equal

-- what was drawn for it is due
pub counts-due : {B Op : Type 0} → Laws Op → (draw : B → Op → B) (weight : Op → ℕ)
    (old now : Rolled B Op) (a b : UserAct Op) (draws draws' tiles tiles' : ℕ)
    → now ≡ record old { spare = now.spare } → a ≡ b → IsKnown now a
    → CountsFew weight (due_in now a.act (mark_in now.table a)) draws draws' tiles tiles'
    → CountsDue draw weight old b draws draws' tiles tiles'
counts-due laws draw weight old now a b draws draws' tiles tiles' same equal known counts =
    record {
      draws_rise = counts.draws_rise;
      tiles_rise = counts.tiles_rise;
      due = λ blank depth acts st.
          subst (λ ops. CountsFew weight ops draws draws' tiles tiles')
          (due_in-due laws draw a now known.known known.order.begins known.reach blank depth acts
          (stands-now draw old now same blank depth acts st)
          ∙ ap (due_commands depth acts) equal) counts;
    }

-- if nothing was drawn, no more was than is due
pub none-due : {B Op : Type 0} → (draw : B → Op → B) (weight : Op → ℕ) (r : Rolled B Op)
    (a : UserAct Op) (draws tiles : ℕ) → CountsDue draw weight r a draws draws tiles tiles
none-due draw weight r a draws tiles = record {
  draws_rise = omega arith;
  tiles_rise = omega arith;
  due = λ blank depth acts st. record {
    draws_rise = omega arith;
    few_draws = omega arith;
    tiles_rise = omega arith;
    few_tiles = omega arith;
  };
}

-- after a call that was refused it is as it was, but for its room
pub still-same : {B Op : Type 0} → (old now new : Rolled B Op)
    → now ≡ record old { spare = now.spare } → new ≡ now → new ≡ record old { spare = new.spare }
still-same {B} {Op} old now new same is =
    is ∙ same ∙ ap (λ (r : Rolled B Op). record old { spare = r.spare }) (sym is)

-- what an act makes of it that moves no group
pub IsNext-here : {B Op : Type 0} → (draw : B → Op → B) (r : Rolled B Op) (a : UserAct Op)
    → mark_in r.table a ≡ None
    → oldest_in r.table ≤ oldest_in (table_with (next_strokes r.table a) r.table)
    → IsNext draw r a (next_here draw r a)
IsNext-here {B} draw r a none later =
    let board : B = fold draw r.board (command_of a.act true) in
    record {
      act = refl;
      mark = sym none;
      strokes = refl;
      made = record {
        old_saves = r.saves;
        drawn = subst (λ m. IsDrawnFor draw r a.act m board r.saves) (sym none)
            (record { drawn = refl; saves_stay = refl });
        saves_are = refl;
      };
      later = later;
    }

-- in place it goes on to what the act makes of it
pub put-here : {B Op : Type 0} → (draw : B → Op → B) (old : Rolled B Op) (a : UserAct Op)
    (new : Rolled B Op) → new.board ≡ fold draw old.board (command_of a.act true)
    → new.table ≡ table_with (next_strokes old.table a) old.table
    → new.base ≡ old.base + needless (grown (next_here draw old a) old)
    → new.kept ≡ drop (needless (grown (next_here draw old a) old))
    (old.kept ++ kept_in old.table a ∷ [])
    → new.saves ≡ saves_after old.table old.board a.act old.saves
    → new ≡ record (put_on (next_here draw old a) old) { spare = new.spare }
put-here {B} {Op} draw old a new board table base kept saves =
    let goal : Rolled B Op = record (put_on (next_here draw old a) old) { spare = new.spare } in
    ap (λ x. record new { board = x }) board
    ∙ ap (λ x. record goal {
      table = x;
      base = new.base;
      kept = new.kept;
      saves = new.saves;
    }) table
    ∙ ap (λ x. record goal { base = x; kept = new.kept; saves = new.saves }) base
    ∙ ap (λ x. record goal { kept = x; saves = new.saves }) kept
    ∙ ap (λ x. record goal { saves = x }) saves

-- an act that moves no group is known
pub IsKnown-unmoved : {B Op : Type 0} → (r : Rolled B Op) (a : UserAct Op) → a.user < 256
    → concerned a < 256 → IsInOrder r → mark_in r.table a ≡ None → IsKnown r a
IsKnown-unmoved r a sender known order none = record {
  sender = sender;
  known = known;
  order = order;
  reach = λ mark some. let wrong : None ≡ Some mark = sym none ∙ some in cc;
  before = λ mark some. let wrong : None ≡ Some mark = sym none ∙ some in cc;
}

-- what went on by an act stands for the acts with it
pub added-stands : {B Op : Type 0} → Laws Op → (draw : B → Op → B) (old now new : Rolled B Op)
    (a b : UserAct Op) (change : Change) → now ≡ record old { spare = now.spare } → a ≡ b
    → IsKnown now a → HasAdded draw now a change new
    → (blank : B) (depth : ℕ) (acts : List (UserAct Op)) → StandsFor draw blank depth acts old
    → StandsFor draw blank depth (acts ++ b ∷ []) new
added-stands laws draw old now new a b change same equal known added blank depth acts st =
    let later = acts ++ b ∷ [] in
    subst (StandsFor draw blank depth later) (sym added.same)
    (StandsFor-spare draw blank depth later (put_on added.next now) new.spare
    (ready-stands laws draw old now a b same equal known added.next added.made blank depth acts st))

-- the change is that of the act
pub added-change : {B Op : Type 0} → Laws Op → (draw : B → Op → B) (old now new : Rolled B Op)
    (a b : UserAct Op) (change : Change) → now ≡ record old { spare = now.spare } → a ≡ b
    → IsKnown now a → HasAdded draw now a change new
    → (blank : B) (depth : ℕ) (acts : List (UserAct Op)) → StandsFor draw blank depth acts old
    → change ≡ change_of depth acts b
added-change laws draw old now new a b change same equal known added blank depth acts st =
    added.tells
    ∙ ready-change laws draw old now a b same equal known added.next added.made blank depth acts st
