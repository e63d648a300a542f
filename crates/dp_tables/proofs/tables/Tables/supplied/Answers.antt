use Rattle.std.proofs.Common.{◌≡◌, ℕ, false, refl}
use Rattle.dp_epochs.specs.declared.connection.Connection.{Connection}
use Rattle.dp_epochs.specs.declared.effect.Effect.{Effect}
use Rattle.dp_epochs.specs.declared.effect.Effect.TheVariants.{Reopened}
use Rattle.dp_commit.specs.Placed.{opens_epoch}
use Rattle.dp_tables.specs.SessionLog.{state_in}
use Rattle.dp_tables.proofs.tables.Tables.supplied.Goals as goal

stays : (effect : Effect)
    → ((conn : ℕ) (connection : Connection) → effect ≡ Reopened conn connection → ⊥)
    → opens_epoch effect ≡ false
stays (Reopened conn connection) not = absurd (not conn connection refl)
stays effect not = refl

pub make_entries-requires : goal.make_entries-requires
make_entries-requires c = record {
  cause = (state_in c.args.self.now, c.in_ok-effect.ensures);
  stays = stays c.in_ok-effect.effect c.in_default.not-Reopened;
}
