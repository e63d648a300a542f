use Rattle.std.proofs.Common.{[], subst, sym}
use Rattle.dp_msg_draw.specs.declared.draw.Draw.{Draw}
use Rattle.dp_plain.specs.Board.{Board}
use Rattle.dp_trailing.specs.Trailing.{Trailing}
use Rattle.dp_viewer.specs.Reading.{TrailsShown}
use Rattle.dp_viewer.proofs.reading.begin_anew.Goals as goal

pub returns : goal.returns
returns g c =
    subst (λ (b : Trailing Board Draw). TrailsShown b []) (sym c.replace.ensures.after)
    c.in_ok-blank.ensures
