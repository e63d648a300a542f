-- The strokes of all users as a history is read.
use Rattle.std.specs.Prelude.{◌≡◌, ℕ, ◌+◌, ◌<◌, ◌&&◌, not, nat_lt, Bool, false, if◌then◌else◌}
use Rattle.std.specs.Prelude.{Option, ⊤}
use Rattle.std.specs.Prelude.{List, [], ◌∷◌, ◌++◌, length, slice_set, slice_index, min}
use Rattle.std.specs.List.{fold, All}
use Rattle.dp_board.specs.declared.act.Act.{Act}
use Rattle.dp_board.specs.declared.act.Act.TheVariants.{Point}
use Rattle.dp_board.specs.declared.act.UserAct.{UserAct}
use Rattle.dp_board.specs.declared.join.Join.{Join}
use Rattle.dp_board.specs.Strokes.{Window, Groups, Strokes, no_strokes, is_eligible, concerned}
use Rattle.dp_board.specs.Strokes.{window_after, groups_after, after_act, strokes, moved, moved_by}
use Rattle.dp_board.specs.Users.{groups_of}
use Rattle.dp_board.specs.Joins.{join_of, joins}

-- the strokes of all users: how many acts there were, the Points in reach, and the groups of each
pub record Table : Type 0 where
  pub position : ℕ
  pub window : Window
  pub users : List Groups

-- each Point in reach came before the position, and the groups are those of 256 users
pub record IsInOrder (position : ℕ) (window : Window) (users : ℕ) : Type 0 where
  pub count : users ≡ 256
  pub before : All (λ point. point < position) window.points

-- what an act makes of the strokes: the position and the window after it, and the groups of the
-- user whom it concerns
pub record NextStrokes : Type 0 where
  pub position : ℕ
  pub window : Window
  pub user : ℕ
  pub groups : Groups

-- a user's strokes
abbrev pub strokes_of : Table → ℕ → Strokes
strokes_of table user = record {
  position = table.position;
  window = table.window;
  groups = groups_of table.users user;
}

-- no user has a stroke
abbrev pub HasNoStrokes : ℕ → Table → Type 0
HasNoStrokes depth table = (user : ℕ) → strokes_of table user ≡ no_strokes depth

-- the group that an act moves
abbrev pub moved_in : {Op : Type 0} → Table → UserAct Op → Option ℕ
moved_in table a = moved (strokes_of table (concerned a)) a.act

-- what an act joins
abbrev pub joined_in : {Op : Type 0} → Table → UserAct Op → Join
joined_in table a = join_of a.user (groups_of table.users a.user) a.act

-- the position of the oldest Point in reach, or of the next act if there is none
abbrev pub oldest_in : Table → ℕ
oldest_in table = fold min table.position table.window.points

-- the first two of some done groups are out of reach
abbrev pub begins_settled : Window → List ℕ → Bool
begins_settled w done = nat_lt 1 (length done)
    && not (is_eligible w (slice_index done 0)) && not (is_eligible w (slice_index done 1))

-- done groups without the first, as long as that and the next are out of reach
abbrev pub without_settled : Window → List ℕ → List ℕ
without_settled w [] = []
without_settled w (group ∷ done) =
    if begins_settled w (group ∷ done) then without_settled w done else group ∷ done

-- a user's groups without settled ones
abbrev pub unsettled : Window → Groups → Groups
unsettled w g = record g { done = without_settled w g.done }

-- a user's groups after an act, in the window after it: a Point has settled ones forgotten
abbrev pub kept_after : {Op : Type 0} → Window → Act Op → Groups → Groups
kept_after w Point g = unsettled w g
kept_after w act g = g

-- what an act makes of the strokes
abbrev pub next_strokes : {Op : Type 0} → Table → UserAct Op → NextStrokes
next_strokes table a = let window = window_after table.position a.act table.window in
    record {
      position = table.position + 1;
      window = window;
      user = concerned a;
      groups = kept_after window a.act (groups_after (strokes_of table (concerned a)) a.act);
    }

-- the strokes with what an act makes of them
abbrev pub table_with : NextStrokes → Table → Table
table_with next table = record {
  position = next.position;
  window = next.window;
  users = slice_set table.users next.user next.groups;
}

-- the first of some groups is out of reach
abbrev pub BeginsOutOfReach : Window → List ℕ → Type 0
BeginsOutOfReach w [] = ⊥
BeginsOutOfReach w (group ∷ done) = is_eligible w group ≡ false

-- if groups are left out, the first that is kept is out of reach
abbrev pub IsGuarded : Window → List ℕ → List ℕ → Type 0
IsGuarded w [] kept = ⊤
IsGuarded w (group ∷ left_out) kept = BeginsOutOfReach w kept

-- of a user's groups all are kept but some first done ones. The first that is kept is out of reach
-- then, so that an Undo never comes to those before it
pub record KeepsGroups (w : Window) (all kept : Groups) : Type 0 where
  pub left_out : List ℕ
  pub done : all.done ≡ left_out ++ kept.done
  pub undone : all.undone ≡ kept.undone
  pub guarded : IsGuarded w left_out kept.done

-- the table has the strokes of each user after a history, but for groups that may be left out
pub record IsTableAfter {Op : Type 0} (depth : ℕ) (acts : List (UserAct Op)) (table : Table)
    : Type 0 where
  pub count : length table.users ≡ 256
  pub position : table.position ≡ length acts
  pub window : (user : ℕ) → (strokes depth user acts).window ≡ table.window
  pub groups : (user : ℕ) → user < 256 → KeepsGroups table.window
      (strokes depth user acts).groups (groups_of table.users user)

-- the table has exactly the strokes that a history leaves each user
abbrev pub HasStrokes : {Op : Type 0} → ℕ → List (UserAct Op) → Table → Type 0
HasStrokes depth acts table =
    (user : ℕ) → user < 256 → strokes_of table user ≡ strokes depth user acts

-- an act changes the strokes of each user as it should
abbrev pub TakesAct : {Op : Type 0} → UserAct Op → Table → Table → Type 0
TakesAct a old new =
    (user : ℕ) → user < 256 → strokes_of new user ≡ after_act user (strokes_of old user) a

-- the strokes before the first act are those of the history without acts
abbrev pub TablesBegin : Type 0 → Type 0
TablesBegin Op =
    (depth : ℕ) (table : Table) → length table.users ≡ 256 → HasNoStrokes depth table
    → IsTableAfter {Op = Op} depth [] table

-- with what an act makes of them, the strokes after a history are those after the history with the
-- act
abbrev pub TablesGoOn : Type 0 → Type 0
TablesGoOn Op =
    (depth : ℕ) (acts : List (UserAct Op)) (a : UserAct Op) (table : Table) → concerned a < 256
    → IsTableAfter depth acts table
    → IsTableAfter depth (acts ++ a ∷ []) (table_with (next_strokes table a) table)

-- a table after a history says which group an act moves
abbrev pub TablesMove : Type 0 → Type 0
TablesMove Op =
    (depth : ℕ) (acts : List (UserAct Op)) (a : UserAct Op) (table : Table) → concerned a < 256
    → IsTableAfter depth acts table → moved_in table a ≡ moved_by depth acts a

-- a table after a history says what an act joins
abbrev pub TablesJoin : Type 0 → Type 0
TablesJoin Op =
    (depth : ℕ) (acts : List (UserAct Op)) (a : UserAct Op) (table : Table) → a.user < 256
    → IsTableAfter depth acts table
    → joins depth (acts ++ a ∷ []) ≡ joins depth acts ++ joined_in table a ∷ []
