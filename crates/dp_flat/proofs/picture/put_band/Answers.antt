-- Each row's text stands after those above.
use Rattle.std.proofs.Common.{◌≡◌, ◌+◌, ◌*◌, ◌/◌, ◌++◌, ◌∙◌, min, refl, subst, arith}
use Rattle.std.specs.List.{flat_map}
use Rattle.dp_blend.specs.Canvas.{canvas_of}
use Rattle.dp_plain.specs.Picture.{head, seen}
use Rattle.dp_flat.specs.Bands.{HasRows}
use Rattle.dp_flat.specs.Composed.{seen_row}
use Rattle.dp_flat.specs.Texts.{GrowsBefore, magic_of, pixel_text_of}
use Rattle.dp_flat.proofs.Bands.{band_same, line_same}
use Rattle.dp_flat.proofs.Prefixes.{before_on, before_failed, where_failed}
use Rattle.dp_flat.proofs.Rows.{text_more, text_failed}
use Rattle.dp_flat.proofs.picture.put_band.Goals as goal

pub put_next-requires : goal.put_next-requires
put_next-requires g c =
    let board = g.V.BoardView.board c.args.board.now in
    let row = c.args.row in
    let y = c.loop-y.y in
    record {
      inside = omega arith;
      colors = rw c.renew.ensures.band c.requires.colors;
      bytes = rw c.renew.ensures.band c.requires.bytes;
      band = rw c.renew.ensures.band
          (band_same board row (y / 64) _ _ _ _ c.requires.band (omega arith) refl refl);
      line = line_same c.args.format board row (y / 64) _ _ _ _ c.renew.ensures.text (omega arith)
          refl refl;
    }

pub returns-in_err-put_next-clause-prefix : goal.returns-in_err-put_next-clause-prefix
returns-in_err-put_next-clause-prefix g c =
    let board = g.V.BoardView.board c.args.board.now in
    let held = g.S.Sink.held in
    let text = pixel_text_of c.args.format in
    let prefix = head (magic_of c.args.format) board.width board.height in
    where_failed _ c.from_residual.result
    (λ start has.
    text_failed start (held c.put_next.new.out) text board c.loop-y.y prefix (omega arith)
    (before_failed start (held c.loop-y.out) (held c.put_next.new.out) c.loop-y.piece.items
    (prefix ++ flat_map text (canvas_of board.width c.loop-y.y (seen board)))
    (flat_map text (seen_row board c.loop-y.y))
    (c.loop-y.invariant.before start has) c.in_err-put_next.ensures.prefix))

pub loop-y-preserved : goal.loop-y-preserved
loop-y-preserved g c =
    let board = g.V.BoardView.board c.args.board.now in
    let y = c.loop-y.y in
    let held = g.S.Sink.held in
    let text = pixel_text_of c.args.format in
    let prefix = head (magic_of c.args.format) board.width board.height in
    record {
      before = λ start has.
          subst (GrowsBefore start (held c.put_next.new.out) c.put_next.new.piece.items)
          (text_more text board y prefix)
          (before_on start (held c.loop-y.out) (held c.put_next.new.out) c.loop-y.piece.items
          (prefix ++ flat_map text (canvas_of board.width y (seen board)))
          (flat_map text (seen_row board y)) c.put_next.new.piece.items
          (c.loop-y.invariant.before start has) c.in_ok-put_next.ensures.before);
      kept = c.in_ok-put_next.ensures.cause.kept ∙ c.loop-y.invariant.kept;
    }

pub returns-clause-before : goal.returns-clause-before
returns-clause-before g c = λ start has.
    let board = g.V.BoardView.board c.args.board.now in
    let all : c.loop-y.y ≡ min (c.args.row * 64 + 64) board.height = omega arith in
    subst (HasRows c.args.format board start (g.S.Sink.held c.loop-y.out) c.loop-y.piece.items) all
    (c.loop-y.invariant.before start has)
