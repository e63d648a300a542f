use Rattle.std.proofs.Common.{◌≡◌, ◌++◌, ◌∙◌, sym, ap, length, refl}
use Rattle.std.specs.List.{flat_map}
use Rattle.dp_io.proofs.Prefixes.{grows_after, grows_within}
use Rattle.dp_snap.specs.Snapshot.{snapshot}
use Rattle.dp_showing.specs.Showing.{snapshot_head, snapshot_line, snapshot_text}
use Rattle.dp_showing.proofs.Pieces.{prefix_is, written_both, written_is}
use Rattle.dp_printing.proofs.Pieces.{snapshot_is}
use Rattle.dp_printing.proofs.snapshot.write_snapshot.Goals as goal

pub returns-in_err-write_head-clause-prefix : goal.returns-in_err-write_head-clause-prefix
returns-in_err-write_head-clause-prefix g c =
    let board = g.V.BoardView.board c.args.board.now in
    let commands = c.as_slice.result.now in
    prefix_is _ _ (snapshot_head (length commands) ++ flat_map snapshot_line commands)
    (snapshot_text board)
    (snapshot_is board commands (length commands)
    (c.as_slice.ensures ∙ c.in_ok-commands.ensures.snapshot) refl)
    (grows_within _ _ (snapshot_head (length commands)) (flat_map snapshot_line commands)
    c.in_err-write_head.ensures.prefix)

pub returns-clause-written : goal.returns-clause-written
returns-clause-written g c =
    let board = g.V.BoardView.board c.args.board.now in
    let first = c.as_slice.result.now in
    let commands = c.as_slice-2.result.now in
    let is : commands ≡ snapshot board = c.as_slice-2.ensures ∙ c.in_ok-commands.ensures.snapshot in
    let same : first ≡ commands = c.as_slice.ensures ∙ sym c.as_slice-2.ensures in
    written_is c.write_lines.result _ _
    (snapshot_head (length first) ++ flat_map snapshot_line commands) (snapshot_text board)
    (snapshot_is board commands (length first) is (ap length same))
    (written_both c.write_lines.result _ _ _ (snapshot_head (length first))
    (flat_map snapshot_line commands) c.in_ok-write_head.ensures.written
    c.write_lines.ensures.written)

pub returns-clause-prefix : goal.returns-clause-prefix
returns-clause-prefix g c =
    let board = g.V.BoardView.board c.args.board.now in
    let first = c.as_slice.result.now in
    let commands = c.as_slice-2.result.now in
    let is : commands ≡ snapshot board = c.as_slice-2.ensures ∙ c.in_ok-commands.ensures.snapshot in
    let same : first ≡ commands = c.as_slice.ensures ∙ sym c.as_slice-2.ensures in
    prefix_is _ _
    (snapshot_head (length first) ++ flat_map snapshot_line commands) (snapshot_text board)
    (snapshot_is board commands (length first) is (ap length same))
    (grows_after _ _ _ (snapshot_head (length first)) (flat_map snapshot_line commands)
    c.in_ok-write_head.ensures.written c.write_lines.ensures.prefix)
