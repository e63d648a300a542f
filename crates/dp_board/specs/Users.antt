-- The groups of all users.
use Rattle.std.specs.Prelude.{◌≡◌, ℕ, ◌<◌, List, [], slice_index_or}
use Rattle.dp_board.specs.Strokes.{Groups, no_groups, is_among}

-- the groups of a user, if `users` has those of each
abbrev pub groups_of : List Groups → ℕ → Groups
groups_of users user = slice_index_or users user no_groups

-- no user has a group
abbrev pub HaveNoGroups : List Groups → Type 0
HaveNoGroups users = (user : ℕ) → groups_of users user ≡ no_groups

-- both have the same groups, in whatever order
abbrev pub HaveSame : List ℕ → List ℕ → Type 0
HaveSame groups others = (group : ℕ) → is_among groups group ≡ is_among others group

-- each list has exactly the done groups of its user
abbrev pub HaveDone : List Groups → List (List ℕ) → Type 0
HaveDone users done =
    (user : ℕ) → user < 256 → HaveSame (slice_index_or done user []) (groups_of users user).done
