-- The text of each chunk stands after those of the chunks before.
use Rattle.std.proofs.Common.{◌+◌, ◌-◌, ◌*◌, ◌%◌, ◌++◌, min, map, subst, ◌∙◌, arith, rules, List, ℕ}
use Rattle.std.specs.List.{flat_map}
use Rattle.dp_blend.specs.Canvas.{below}
use Rattle.dp_plain.specs.Picture.{seen}
use Rattle.dp_flat.specs.Composed.{seen_first}
use Rattle.dp_flat.specs.Texts.{GrowsBefore, pixel_text_of}
use Rattle.dp_flat.proofs.Bands.{chunk_text}
use Rattle.dp_flat.proofs.Prefixes.{before_on, before_cut}
use Rattle.dp_flat.proofs.Rows.{chunk_more, row_failed}
use Rattle.dp_flat.proofs.picture.put_row.Goals as goal

pub returns-in_err-put_chunk-clause-prefix : goal.returns-in_err-put_chunk-clause-prefix
returns-in_err-put_chunk-clause-prefix g c =
    let board = g.V.BoardView.board c.args.board.now in
    let held = g.S.Sink.held in
    let whole = row_failed (held c.args.out.now) (held c.put_chunk.new.out)
    (pixel_text_of c.args.format) board c.args.y (min (c.loop-col.col * 64) board.width)
    c.args.piece.now.items (omega arith)
    (before_cut _ _ _ c.loop-col.piece.items _ c.loop-col.invariant.before
    c.in_err-put_chunk.ensures.prefix) in
    search rules

pub loop-col-preserved : goal.loop-col-preserved
loop-col-preserved g c =
    let board = g.V.BoardView.board c.args.board.now in
    let held = g.S.Sink.held in
    let text = pixel_text_of c.args.format in
    let prefix = c.args.piece.now.items in
    let col = c.loop-col.col in
    let x = col * 64 in
    let count = c.min-count.result in
    let start = col * 4096 + c.args.y % 64 * 64 in
    let size = start + count - start in
    let chunk = map (λ i. seen board (x + i) c.args.y) (below count) in
    record {
      before = subst (GrowsBefore (held c.args.out.now) (held c.put_chunk.new.out)
          c.put_chunk.new.piece.items)
          (chunk_more text board c.args.y x count (min x board.width)
          (min ((col + 1) * 64) board.width) prefix (omega arith) (omega arith))
          (before_on (held c.args.out.now) (held c.loop-col.out) (held c.put_chunk.new.out)
          c.loop-col.piece.items
          (prefix ++ flat_map text (seen_first board c.args.y (min x board.width)))
          (flat_map text chunk) c.put_chunk.new.piece.items
          c.loop-col.invariant.before
          (subst (λ (l : List ℕ). GrowsBefore (held c.loop-col.out) (held c.put_chunk.new.out)
          c.put_chunk.new.piece.items (c.loop-col.piece.items ++ l))
          (chunk_text c.args.format board c.args.y col size count c.args.band.colors.now
          c.args.band.bytes.now c.requires.band (omega arith) (omega arith) (omega arith)
          (omega arith) (omega arith))
          c.in_ok-put_chunk.ensures.before));
      kept = c.in_ok-put_chunk.ensures.cause.kept ∙ c.loop-col.invariant.kept;
    }
