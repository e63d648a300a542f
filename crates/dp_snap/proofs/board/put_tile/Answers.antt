use Rattle.std.proofs.Common.{◌∙◌, ◌++◌, ap, sym, subst, arith, Some, None, Option, List}
use Rattle.std.specs.Prelude.{IfSome}
use Rattle.std.proofs.lemmas.List.{append-nil}
use Rattle.std.proofs.lemmas.Result.{on_ok_weaker}
use Rattle.dp_msg_draw.specs.declared.draw.TileContent.{TileContent}
use Rattle.dp_msg_draw.specs.declared.draw.Draw.{Draw}
use Rattle.dp_msg_draw.specs.declared.draw.Draw.TheVariants.{PutTile}
use Rattle.dp_msg_draw.specs.Payloads.{DrawHasSpelling, IsContent}
use Rattle.dp_plain.specs.Picture.{pixels_of}
use Rattle.dp_snap.specs.Tiles.{shown_of}
use Rattle.dp_snap.proofs.Sizes.{short_content}
use Rattle.dp_snap.proofs.Parts.{put_is}
use Rattle.dp_snap.proofs.board.put_tile.Goals as goal

pub push-requires : goal.push-requires
push-requires g c =
    let content = c.in-Some.content in
    let valid : IsContent content =
    subst (λ (o : Option TileContent). IfSome o IsContent) c.in-Some.is
    c.in_ok-tile_content.ensures.valid
    in
    let spelled : DrawHasSpelling (PutTile c.args.id c.args.col c.args.row 0 content) =
    (omega arith, omega arith, omega arith, omega arith, valid) in
    (spelled, (spelled, omega (arith, short_content content valid)))

pub returns-in-None : goal.returns-in-None
returns-in-None g c =
    let board = g.V.BoardView.board c.args.canvas.now in
    let put = put_is board.width board.height c.args.id (pixels_of board c.args.id) c.args.row
    c.args.col c.read_tile.new.tile c.shown_of-cols.result c.shown_of-rows.result None
    c.read_tile.ensures
    (c.shown_of-cols.ensures ∙ ap (λ w. shown_of w c.args.col) c.width.ensures.value)
    (c.shown_of-rows.ensures ∙ ap (λ h. shown_of h c.args.row) c.height.ensures.value)
    (sym c.in-None.is ∙ c.in_ok-tile_content.ensures.value) in
    sym (ap (λ (ps : List Draw). c.args.commands.now ++ ps) put
    ∙ append-nil c.args.commands.now)

pub returns-in-Some : goal.returns-in-Some
returns-in-Some g c =
    let board = g.V.BoardView.board c.args.canvas.now in
    let put = put_is board.width board.height c.args.id (pixels_of board c.args.id) c.args.row
    c.args.col c.read_tile.new.tile c.shown_of-cols.result c.shown_of-rows.result
    (Some c.in-Some.content) c.read_tile.ensures
    (c.shown_of-cols.ensures ∙ ap (λ w. shown_of w c.args.col) c.width.ensures.value)
    (c.shown_of-rows.ensures ∙ ap (λ h. shown_of h c.args.row) c.height.ensures.value)
    (sym c.in-Some.is ∙ c.in_ok-tile_content.ensures.value) in
    on_ok_weaker c.push.result
    (λ is. is ∙ ap (λ (ps : List Draw). c.args.commands.now ++ ps) (sym put)) c.push.ensures
