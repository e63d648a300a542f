use Rattle.std.proofs.Common.{◌≡◌, ◌<◌, ◌≤◌, ◌-◌, ◌&&◌, false, length, nat_lt, nat_le, sym, ap, ◌∙◌}
use Rattle.std.proofs.Common.{arith}
use Rattle.std.proofs.lemmas.Bool.{lt-ltb}
use Rattle.std.proofs.lemmas.Bool.Decides.{nat_tests}
use Rattle.dp_acl.specs.Opening.{part_limit}
use Rattle.dp_epochs.specs.State.{part_bytes, reset_byte_limit}
use Rattle.dp_tables.specs.SessionLog.{state_in}
use Rattle.dp_tables.specs.Inside.{seen}
use Rattle.dp_tables.proofs.TableLemmas.{of-ledger}
use Rattle.dp_commit.proofs.ResetLemmas.{fits-is}
use Rattle.dp_tables.proofs.tables.Tables.fits_reset.Goals as goal

pub returns-then-len-lt-PART_LIMIT : goal.returns-then-len-lt-PART_LIMIT
returns-then-len-lt-PART_LIMIT c = λ stream command sent size.
    let t = c.self.inside in
    let are = of-ledger t c.args.self.now c.self.invariant c.self.view_is in
    let few : length t.sending.parts.items < part_limit = omega
    (arith, t.sending.parts.ok.0, c.len.ensures) in
    ap (λ n. nat_le n (reset_byte_limit - t.sending.part_bytes)) size
    ∙ sym (fits-is (state_in c.args.self.now) (seen t) are stream command sent
    ∙ ap (λ b. b && nat_le (part_bytes command) (reset_byte_limit - t.sending.part_bytes))
    (lt-ltb (length t.sending.parts.items) part_limit few))

pub returns-else-len-lt-PART_LIMIT : goal.returns-else-len-lt-PART_LIMIT
returns-else-len-lt-PART_LIMIT c = λ stream command sent size.
    let t = c.self.inside in
    let are = of-ledger t c.args.self.now c.self.invariant c.self.view_is in
    let many : part_limit ≤ length t.sending.parts.items = omega
    (arith, t.sending.parts.ok.0, c.len.ensures) in
    let full : nat_lt c.len.result part_limit ≡ false = grind (arith, nat_tests) in
    let same : c.len.result ≡ length t.sending.parts.items = omega
    (arith, t.sending.parts.ok.0, c.len.ensures) in
    full
    ∙ sym (fits-is (state_in c.args.self.now) (seen t) are stream command sent
    ∙ ap (λ n. nat_lt n part_limit
    && nat_le (part_bytes command) (reset_byte_limit - t.sending.part_bytes)) (sym same)
    ∙ ap (λ b. b && nat_le (part_bytes command) (reset_byte_limit - t.sending.part_bytes)) full)
