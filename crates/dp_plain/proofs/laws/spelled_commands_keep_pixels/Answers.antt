use Rattle.dp_plain.proofs.Pixels.{drawn-HasPixels}
use Rattle.dp_plain.proofs.laws.spelled_commands_keep_pixels.Goals as goal

pub returns : goal.returns
returns c = λ board op spelled has.
    drawn-HasPixels c.pixels_stay_pixels.ensures board has op spelled
