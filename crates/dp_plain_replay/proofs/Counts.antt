-- Counters of commands that are drawn.
use Rattle.std.proofs.Common.{◌≡◌, ℕ, List, get_or, refl, arith}
use Rattle.std.proofs.lemmas.List.Sums.{sum_by-le}
use Rattle.dp_msg_draw.specs.declared.draw.Draw.{Draw}
use Rattle.dp_msg_draw.specs.declared.draw.Draw.TheVariants.{CanvasResize}
use Rattle.dp_board.specs.Counts.{CountsFew}
use Rattle.dp_plain.specs.Weights.{board_weight}

-- if nothing weighs, no tile is made
pub no_tiles : (weight : Draw → ℕ) (commands : List Draw) (draws new_draws tiles new_tiles : ℕ)
    → ((command : Draw) → weight command ≡ 0)
    → CountsFew weight commands draws new_draws tiles new_tiles → new_tiles ≡ tiles
no_tiles weight commands draws new_draws tiles new_tiles none counts =
    let few = sum_by-le weight 0 commands
    (λ k d in_list. omega (arith, none (get_or commands k d))) in
    omega (arith, few, counts.tiles_rise, counts.few_tiles)

-- no command weighs on a board whose contents make no tiles
pub none_weighs : (command : Draw) → board_weight 0 (λ _. 0) command ≡ 0
none_weighs (CanvasResize top right bottom left) = refl
none_weighs _ = refl
