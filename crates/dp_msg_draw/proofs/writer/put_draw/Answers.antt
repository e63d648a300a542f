use Rattle.std.proofs.Common.{w32, rules}
use Rattle.std.specs.Int.RustNames.{FitsSigned}
use Rattle.std.proofs.lemmas.Int.{to_z-of_z}
use Rattle.dp_msg_draw.proofs.writer.put_draw.Goals as goal

pub returns-in-DabsRound-clause-spelled : goal.returns-in-DabsRound-clause-spelled
returns-in-DabsRound-clause-spelled c =
    let m = c.in-DabsRound in
    let x_fits : FitsSigned w32 m.x = search rules in
    let y_fits : FitsSigned w32 m.y = search rules in
    rw m.is (rw (to_z-of_z w32 m.x x_fits, to_z-of_z w32 m.y y_fits) at c.put_dabs.ensures.spelled)

pub returns-in-DabsSquare-clause-spelled : goal.returns-in-DabsSquare-clause-spelled
returns-in-DabsSquare-clause-spelled c =
    let m = c.in-DabsSquare in
    let x_fits : FitsSigned w32 m.x = search rules in
    let y_fits : FitsSigned w32 m.y = search rules in
    rw m.is (rw (to_z-of_z w32 m.x x_fits, to_z-of_z w32 m.y y_fits) at
    c.put_dabs-in-DabsSquare.ensures.spelled)
