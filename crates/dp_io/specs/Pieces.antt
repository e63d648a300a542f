-- What was taken of a source that is read in pieces, and of which the first bytes count.
use Rattle.std.specs.Prelude.{◌≡◌, ℕ, ◌<◌, ◌≤◌, List, ◌++◌, length, Option, Some}
use Rattle.std.specs.Io.KnownBytes.{Consumes}

-- how many bytes a piece has at most
abbrev pub piece_limit : ℕ
piece_limit = 4096

-- What was taken of a source, of which these bytes are left and `limit` bytes count: `earlier`, and
-- then a piece. Of the piece the bytes `counted` count. The others, `cut`, come only after as many
-- as count.
pub record TookPieces (limit : ℕ) (source left : Option (List ℕ)) (earlier counted cut : List ℕ) :
    Type 0 where
  pub taken : Consumes source left ((earlier ++ counted) ++ cut)
  pub small : length (counted ++ cut) ≤ piece_limit
  pub within : length (earlier ++ counted) ≤ limit
  pub full : 0 < length cut → length (earlier ++ counted) ≡ limit

-- the parts of a source whose bytes are known: those that were taken as such pieces, and those that
-- are left
pub record Parts (bytes : List ℕ) (left : Option (List ℕ)) (earlier counted cut : List ℕ) : Type 0
  where
    pub untaken : List ℕ
    pub whole : bytes ≡ (earlier ++ counted) ++ (cut ++ untaken)
    pub left_is : left ≡ Some untaken
