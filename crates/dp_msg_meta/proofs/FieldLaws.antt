-- How many ids rise.
use Rattle.std.proofs.Common.{ℕ, ◌+◌, ◌≤◌, List, [], ◌∷◌, length, arith}
use Rattle.dp_msg_meta.specs.Fields.{RiseFrom}

rise_room : (low : ℕ) (ids : List ℕ) → low ≤ 255 → RiseFrom low ids → length ids + low ≤ 255
rise_room low [] small h = omega arith
rise_room low (id ∷ ids) small h =
    let below : id + 1 ≤ 255 = omega (arith, h.1) in
    omega (arith, h.0, rise_room (id + 1) ids below h.2)

-- ids that rise are at most 255
pub rise_short : (low : ℕ) (ids : List ℕ) → low ≤ 255 → RiseFrom low ids → length ids ≤ 255
rise_short low ids small h = omega (arith, rise_room low ids small h)
