use Rattle.std.proofs.Common.{◌≡◌, length, nat_le, ap, arith}
use Rattle.dp_tables.specs.SessionLog.{state_in}
use Rattle.dp_tables.specs.Inside.{seen}
use Rattle.dp_commit.proofs.StateLemmas.{live-length}
use Rattle.dp_tables.proofs.TableLemmas.{of-ledger}
use Rattle.dp_tables.proofs.tables.Tables.is_within_live.Goals as goal

pub returns : goal.returns
returns c =
    let t = c.self.inside in
    let s = state_in c.args.self.now in
    let are = of-ledger t c.args.self.now c.self.invariant c.self.view_is in
    let count : c.len.result ≡ length s.live = omega
    (arith, t.live.history.ok.0, c.len.ensures, live-length s (seen t) are) in
    ap (nat_le c.args.at) count
