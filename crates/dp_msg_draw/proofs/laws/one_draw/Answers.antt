use Rattle.std.proofs.Common.{subst, sym, ℕ, List, length, ◌≤◌}
use Rattle.dp_msg_draw.proofs.Forms.{one_draw, short_payload}
use Rattle.dp_msg_draw.proofs.laws.one_draw.Goals as goal

pub returns-clause-message : goal.returns-clause-message
returns-clause-message c = one_draw

pub returns-clause-short : goal.returns-clause-short
returns-clause-short c = λ kind payload m s. subst (λ (bytes : List ℕ). length bytes ≤ 65535)
    (sym s.payload) (short_payload m s.spelled)
