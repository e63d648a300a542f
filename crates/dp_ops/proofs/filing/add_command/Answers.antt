use Rattle.std.proofs.Common.{◌∙◌, ap, pos, if◌then◌else◌}
use Rattle.std.specs.Prelude.{Option}
use Rattle.std.specs.Option.{option_map_or}
use Rattle.dp_blend.specs.Blending.{blend}
use Rattle.dp_blend.specs.Color.{of_argb}
use Rattle.dp_blend.specs.declared.modes.Mode.{Mode}
use Rattle.dp_msg_draw.specs.declared.draw.Draw.{Draw}
use Rattle.dp_pixels.specs.Rectangles.{is_in, rect_at}
use Rattle.dp_ops.specs.Lists.{StandsOn, filed_at}
use Rattle.dp_ops.proofs.Filed.{adds_none}
use Rattle.dp_ops.proofs.filing.add_command.Goals as goal

pub returns-in-None-clause-added : goal.returns-in-None-clause-added
returns-in-None-clause-added c =
    let s = c.args.source.now in
    let f = c.in-FillRect in
    adds_none (StandsOn s.width s.height s.number s.command.now) c.args.area
    (filed_at s.width s.height s.command.now) c.args.lists.now
    (λ x y p.
    ap (λ (d : Draw). filed_at s.width s.height d x y p) f.is
    ∙ ap (λ (o : Option Mode). option_map_or (λ m. if is_in (rect_at (pos f.x) (pos f.y) f.w f.h)
    x y then blend m (of_argb f.color) p else p) o p)
    (c.in-None.ensures.none f.layer f.mode f.x f.y f.w f.h f.color f.is))
