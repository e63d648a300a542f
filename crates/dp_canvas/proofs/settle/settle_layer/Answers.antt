use Rattle.std.proofs.Common.{◌∙◌, List, Option, ap}
use Rattle.std.specs.Prelude.{is_some}
use Rattle.dp_blend.specs.Color.{Channels}
use Rattle.dp_layers.specs.Rows.{content_of}
use Rattle.dp_paint.specs.Layers.{LayerOf}
use Rattle.dp_plain.proofs.Rows.{filled_found}
use Rattle.dp_plain.specs.Board.{Board}
use Rattle.dp_canvas.proofs.Settled.{put_back}
use Rattle.dp_canvas.proofs.settle.settle_layer.Goals as goal

pub put_content-clear-requires-clause-present : goal.put_content-clear-requires-clause-present
put_content-clear-requires-clause-present g c =
    ap (λ (b : Board). is_some (content_of b.rows c.args.id)) c.put_content-content.ensures.new
    ∙ ap (λ (o : Option (List Channels)). is_some o)
    (filled_found c.args.board.now.rows c.args.id c.put_content-content.result.pixels
    c.in_ok-clear.clear.pixels c.put_content-content.ensures.old)

pub returns-clause-same : goal.returns-clause-same
returns-clause-same g c =
    put_back c.args.board.now c.put_content-content.new.self c.put_content-clear.new.self c.args.id
    c.put_content-content.result.pixels c.in_ok-clear.clear.pixels
    c.settle_by-settled.new.self.pixels c.known.ensures c.put_content-content.ensures.old
    c.put_content-content.ensures.new c.put_content-clear.ensures.new
    (ap (λ (l : LayerOf). l.pixels) c.settle_by-settled.ensures.same)
