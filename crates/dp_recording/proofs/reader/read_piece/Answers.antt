use Rattle.std.proofs.Common.{length, take, ◌≤◌, arith}
use Rattle.std.proofs.lemmas.List.{length-take}
use Rattle.dp_recording.proofs.Taken.{reads-piece}
use Rattle.dp_recording.proofs.reader.read_piece.Goals as goal

pub returns-in-Ok-extend_from_slice-clause-read : goal.returns-in-Ok-extend_from_slice-clause-read
returns-in-Ok-extend_from_slice-clause-read g c = λ bytes h.
    let chunk = take c.in-Ok.count c.read.new.buf in
    let small : length chunk ≤ 4096 =
    omega (arith, length-take c.in-Ok.count c.read.new.buf, c.in-Ok.ensures.bound) in
    reads-piece bytes (g.I.Source.left c.args.input.now) (g.I.Source.left c.read.new.self)
    c.args.held.now.items c.extend_from_slice.new.self.items chunk c.requires small
    (c.in-Ok-extend_from_slice.ensures.items) c.in-Ok.ensures.bytes.0 h
