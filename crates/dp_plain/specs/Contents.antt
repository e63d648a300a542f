-- What a board over contents of any kind keeps to.
use Rattle.std.specs.Prelude.{◌≡◌, ◌↔◌, ℕ, ◌≤◌, List, All}
use Rattle.std.specs.Option.{ForSome}
use Rattle.dp_layers.specs.Rows.{Row}
use Rattle.dp_layers.specs.Tree.{IsTree}

-- what each paint row holds passes the test
abbrev pub ContentsFit : {C : Type 0} → (C → Type 0) → List (Row C) → Type 0
ContentsFit fits rows = All (λ row. ForSome row.content fits) rows

-- Both sides are 0, or both are from 1 to 4096 pixels; the rows are a tree, and each content fits
-- the sides.
pub record IsHeld {C : Type 0} (fits : ℕ → ℕ → C → Type 0) (width height : ℕ) (rows : List (Row C))
    : Type 0 where
  pub wide : width ≤ 4096
  pub high : height ≤ 4096
  pub both : (width ≡ 0) ↔ (height ≡ 0)
  pub tree : IsTree rows
  pub each : ContentsFit (fits width height) rows
