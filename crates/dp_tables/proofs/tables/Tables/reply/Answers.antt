use Rattle.std.proofs.Common.{◌≡◌, length, sym, ap, ◌∙◌, arith}
use Rattle.dp_epochs.specs.Effects.{answer_at}
use Rattle.dp_epochs.specs.State.{here}
use Rattle.dp_tables.specs.SessionLog.{state_in}
use Rattle.dp_tables.proofs.TableLemmas.{epoch-fits, of-ledger}
use Rattle.dp_tables.proofs.KeepLemmas.{connections-fit}
use Rattle.dp_tables.proofs.tables.Tables.reply.Goals as goal

pub overflow_cast-len : goal.overflow_cast-len
overflow_cast-len c =
    let t = c.self.inside in
    omega (arith, t.roster.connections.ok.0, c.len.ensures, connections-fit t c.self.invariant)

pub reply-requires-clause-given : goal.reply-requires-clause-given
reply-requires-clause-given c =
    let t = c.self.inside in
    omega (arith, t.roster.connections.ok.0, c.len.ensures, connections-fit t c.self.invariant)

pub reply-requires-clause-epoch : goal.reply-requires-clause-epoch
reply-requires-clause-epoch c =
    let t = c.self.inside in
    let are = of-ledger t c.args.self.now c.self.invariant c.self.view_is in
    omega (
      arith,
      ap (λ p. p.epoch) c.here.ensures,
      are.epoch,
      epoch-fits c.epochs_are_few.ensures t c.self.invariant,
    )

pub returns : goal.returns
returns c = λ e cause.
    let t = c.self.inside in
    let s = state_in c.args.self.now in
    let are = of-ledger t c.args.self.now c.self.invariant c.self.view_is in
    let count : c.len.result ≡ length s.connections = omega
    (arith, t.roster.connections.ok.0, c.len.ensures, ap length are.table) in
    c.reply.ensures
    ∙ ap (λ p. answer_at p c.len.result c.args.effect) c.here.ensures
    ∙ ap (λ n. answer_at (here s) n c.args.effect) count
    ∙ sym (ap (λ a. a.reply) (c.effects_are_made.ensures s e c.args.effect cause))
