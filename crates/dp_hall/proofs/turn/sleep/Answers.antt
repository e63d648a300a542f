use Rattle.std.proofs.Common.{arith, ◌∙◌, ◌+◌, ◌%◌, ◌-◌, ◌^◌}
use Rattle.dp_hall.proofs.StepLemmas.{stays}
use Rattle.dp_hall.proofs.turn.sleep.Goals as goal

pub fetch_add-requires : goal.fetch_add-requires
fetch_add-requires g c =
    let t = c.requires.table in (
      t.same,
      omega (arith, t.words, c.requires.words.2),
      stays g.M.Machine.may_step c.args.table.now.key.value _ _ c.args.sleepers 1
          (λ n. (n + 1) % 2 ^ 64) _ c.requires.words.1,
    )

pub fetch_sub-requires : goal.fetch_sub-requires
fetch_sub-requires g c =
    let t = c.requires.table in (
      c.fetch_add.ensures.0 ∙ t.same,
      omega (arith, t.words, c.requires.words.2),
      stays g.M.Machine.may_step c.args.table.now.key.value _ _ c.args.sleepers 1
          (λ n. (n + (2 ^ 64 - 1)) % 2 ^ 64) _ c.requires.words.1,
    )
