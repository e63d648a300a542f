-- Marks of users as lists of ids.
use Rattle.std.specs.Prelude.{ℕ, Bool, List}
use Rattle.std.specs.List.{filter}
use Rattle.dp_acl.specs.LookBack.{numbers_below}
use Rattle.dp_acl.specs.Table.{mark_of}

-- the ids that are marked, rising
abbrev pub marked : List Bool → List ℕ
marked marks = filter (mark_of marks) (numbers_below 256)
