-- Each row of tiles stands after those above, and the last piece ends the text.
use Rattle.std.proofs.Common.{◌≡◌, ◌+◌, ◌*◌, ◌∙◌, min, subst, arith, length-set}
use Rattle.dp_plain.specs.Picture.{head}
use Rattle.dp_flat.specs.Bands.{HasRows}
use Rattle.dp_flat.specs.Texts.{magic_of, pixel_text_of}
use Rattle.dp_flat.proofs.Prefixes.{last_written, last_cut}
use Rattle.dp_flat.proofs.Rows.{text_all}
use Rattle.dp_flat.proofs.picture.put_by.Goals as goal

pub returns-in_err-put_drawn-clause-prefix : goal.returns-in_err-put_drawn-clause-prefix
returns-in_err-put_drawn-clause-prefix g c =
    let board = g.V.BoardView.board c.args.board.now in
    let held = g.S.Sink.held in
    let here : min (c.loop-row.row * 64) board.height ≡ c.loop-row.row * 64 = omega arith in
    c.in_err-put_drawn.ensures.prefix (held c.args.out.now)
    (subst (HasRows c.args.format board (held c.args.out.now) (held c.loop-row.out)
    c.loop-row.piece.items) here c.loop-row.invariant.before)

pub loop-row-preserved : goal.loop-row-preserved
loop-row-preserved g c =
    let board = g.V.BoardView.board c.args.board.now in
    let held = g.S.Sink.held in
    let row = c.loop-row.row in
    let here : min (row * 64) board.height ≡ row * 64 = omega arith in
    let next : min (row * 64 + 64) board.height ≡ min ((row + 1) * 64) board.height =
    omega arith in
    let kept = length-set c.loop-row.slots c.loop-row.slot in
    record {
      before = subst (HasRows c.args.format board (held c.args.out.now) (held c.put_drawn.new.out)
          c.put_drawn.new.piece.items) next
          (c.in_ok-put_drawn.ensures.before (held c.args.out.now)
          (subst (HasRows c.args.format board (held c.args.out.now) (held c.loop-row.out)
          c.loop-row.piece.items) here c.loop-row.invariant.before));
      kept = c.in_ok-put_drawn.ensures.cause.kept ∙ c.loop-row.invariant.kept;
      inside = omega (arith, kept, c.next_slot-next.ensures.inside);
      few = omega (arith, kept, c.loop-row.invariant.few);
    }

pub returns-clause-written : goal.returns-clause-written
returns-clause-written g c =
    let board = g.V.BoardView.board c.args.board.now in
    let all : min (c.loop-row.row * 64) board.height ≡ board.height = omega arith in
    last_written _ _ _ _ _ _ c.put_all.result (text_all _ _ (pixel_text_of c.args.format) board
    (min (c.loop-row.row * 64) board.height)
    (head (magic_of c.args.format) board.width board.height) _ all c.loop-row.invariant.before)
    c.as_slice.ensures.value c.put_all.ensures.written

pub returns-clause-prefix : goal.returns-clause-prefix
returns-clause-prefix g c =
    let board = g.V.BoardView.board c.args.board.now in
    let all : min (c.loop-row.row * 64) board.height ≡ board.height = omega arith in
    last_cut _ _ _ _ _ _ (text_all _ _ (pixel_text_of c.args.format) board
    (min (c.loop-row.row * 64) board.height)
    (head (magic_of c.args.format) board.width board.height) _ all c.loop-row.invariant.before)
    c.as_slice.ensures.value c.put_all.ensures.prefix
