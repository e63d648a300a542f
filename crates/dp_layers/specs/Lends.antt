-- What a tree lends to be changed.
use Rattle.std.specs.Prelude.{ℕ, Option, List, Result}
use Rattle.std.specs.Borrow.{MutBor, Fml, LendsIf, LendsIfOk, RattleType}
use Rattle.std.specs.contracts.alloc.Global as global
use Rattle.std.specs.contracts.vec.Vec as vec
use Rattle.std.specs.contracts.impls.GlobalAllocator.TheImpl.{ghosts}
use Rattle.dp_layers.specs.declared.row.LayerRow.{LayerRow}
use Rattle.dp_layers.specs.contracts.row.LayerRow as row
use Rattle.dp_layers.specs.contracts.rows.Rows as rows
use Rattle.dp_layers.specs.contracts.tree.Tree as tree
use Rattle.dp_layers.specs.Rows.{Row, with_content}

-- a vector of rows
abbrev pub list_row : RattleType
list_row = vec.the_row row.the_row global.the_row ghosts

-- once the borrow r ends, the rows are the last ones of its list
abbrev pub lends_rows : {E : Type 0} → MutBor (List LayerRow) → Result (MutBor list_row.Denot) E
    → Fml
lends_rows s r = LendsIfOk rows.the_row list_row s r (λ list. list.items) s.now

-- once the borrow r ends, the paint row of the id holds the last value written through it
abbrev pub lends_content : (X : RattleType) → MutBor (List (Row X.Denot)) → ℕ
    → Option (MutBor X.Denot) → Fml
lends_content X s id r = LendsIf (tree.the_row X) X s r (with_content s.now id) s.now
