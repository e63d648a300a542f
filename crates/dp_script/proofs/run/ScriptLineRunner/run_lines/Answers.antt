use Rattle.std.proofs.Common.{◌≡◌, ◌<◌, ◌∙◌, ℕ, [], length, take, drop, refl, ap, arith, rules}
use Rattle.std.proofs.lemmas.List.{length-take, length-drop}
use Rattle.dp_io.proofs.Pieces.{nothing_taken}
use Rattle.dp_lines.specs.Held.{Held}
use Rattle.dp_line_machine.specs.Moments.{moment}
use Rattle.dp_script.proofs.Leaving.{read_first, none_ended, none_long, read_further, took_piece}
use Rattle.dp_script.proofs.Leaving.{piece_stops, long_leaves, fault_leaves, done_leaves}
use Rattle.dp_script.proofs.Leaving.{rest_stops, took_chunk, took_fault, stop_fault}
use Rattle.dp_script.proofs.run.ScriptLineRunner.run_lines.Goals as goal

pub reads-init : goal.reads-init
reads-init g c = record {
  read =
      read_first c.still_left.ensures.at_first c.further_step.ensures.none c.args.limit
      (g.I.Source.left c.args.input.now) c.new-lines.result
      (moment c.args.machine.now c.args.output.now c.args.draws.now c.args.tiles.now)
      c.new-lines.ensures c.requires.first;
  drained = none_ended c.new-lines.result c.new-lines.ensures;
  short = none_long c.new-lines.result c.new-lines.ensures;
  ready = c.requires.ready;
  room = omega (arith, ap (λ (held : Held). held.fed) c.new-lines.ensures);
  kept = refl;
}

pub returns-in-Err-clause-leaves : goal.returns-in-Err-clause-leaves
returns-in-Err-clause-leaves g c =
    fault_leaves g.M.StepRule.is_step g.M.LineMachine.has_done
    g.M.LineMachine.has_ended
    c.args.limit (g.I.Source.left c.args.input.now) (g.I.Source.left c.reads.input)
    (g.I.Source.left c.read.new.self)
    c.reads.lines
    (moment c.args.machine.now c.args.output.now c.args.draws.now c.args.tiles.now)
    (moment c.reads.machine c.reads.output c.reads.draws c.reads.tiles)
    c.reads.invariant.drained c.reads.invariant.short c.in-Err.ensures.bytes
    c.reads.invariant.read

pub returns-in-Err-clause-took : goal.returns-in-Err-clause-took
returns-in-Err-clause-took g c =
    took_fault c.args.limit (g.I.Source.left c.args.input.now) (g.I.Source.left c.reads.input)
    (g.I.Source.left c.read.new.self)
    c.reads.invariant.drained c.reads.invariant.short c.in-Err.ensures.bytes
    c.reads.invariant.read

pub returns-in-Err-do_rest : goal.returns-in-Err-do_rest
returns-in-Err-do_rest g c =
    let buffer = c.read.new.buf in
    let some : 0 < length buffer = omega arith in
    let none : take c.in-Ok.count buffer ≡ [] = ap (λ (n : ℕ). take n buffer)
    c.if-count-eq0.true in
    let bytes = c.in-Ok.ensures.bytes in
    let start = g.I.Source.left c.args.input.now in
    let before = g.I.Source.left c.reads.input in
    let left = g.I.Source.left c.read.new.self in
    let so_far = c.reads.invariant in
    record {
      leaves =
          rest_stops g.M.StepRule.is_step g.M.LineMachine.has_done g.M.LineMachine.has_ended
          c.lines_seen.ensures.whole c.args.limit start before left (take c.in-Ok.count buffer)
          c.reads.lines
          (moment c.args.machine.now c.args.output.now c.args.draws.now c.args.tiles.now)
          (moment c.reads.machine c.reads.output c.reads.draws c.reads.tiles)
          (moment c.do_rest.new.machine c.do_rest.new.output c.do_rest.new.draws
          c.do_rest.new.tiles)
          c.in-Err-do_rest.end none bytes.0 (bytes.1 c.if-count-eq0.true some)
          c.in-Err-do_rest.ensures.err so_far.read;
      took =
          took_chunk c.args.limit start before left [] [] so_far.drained so_far.short so_far.read
          (nothing_taken c.args.limit start before left so_far.read.taken []
          (take c.in-Ok.count buffer) none bytes.0 so_far.read.took);
      fault =
          stop_fault _ _ c.in-Err-do_rest.end c.in-Err-do_rest.ensures.of_lines
          (c.in-Ok.ensures.cause.kept ∙ so_far.kept);
      later = search rules;
    }

pub returns-then-count-eq0 : goal.returns-then-count-eq0
returns-then-count-eq0 g c =
    let buffer = c.read.new.buf in
    let some : 0 < length buffer = omega arith in
    let none : take c.in-Ok.count buffer ≡ [] = ap (λ (n : ℕ). take n buffer)
    c.if-count-eq0.true in
    let bytes = c.in-Ok.ensures.bytes in
    let start = g.I.Source.left c.args.input.now in
    let before = g.I.Source.left c.reads.input in
    let left = g.I.Source.left c.read.new.self in
    let so_far = c.reads.invariant in
    record {
      leaves =
          done_leaves g.M.StepRule.is_step g.M.LineMachine.has_done g.M.LineMachine.has_ended
          c.lines_seen.ensures.whole c.args.limit start before left (take c.in-Ok.count buffer)
          c.reads.lines
          (moment c.args.machine.now c.args.output.now c.args.draws.now c.args.tiles.now)
          (moment c.reads.machine c.reads.output c.reads.draws c.reads.tiles)
          (moment c.do_rest.new.machine c.do_rest.new.output c.do_rest.new.draws
          c.do_rest.new.tiles)
          none bytes.0 (bytes.1 c.if-count-eq0.true some) c.in_default.ensures.ok so_far.read;
      took =
          took_chunk c.args.limit start before left [] [] so_far.drained so_far.short so_far.read
          (nothing_taken c.args.limit start before left so_far.read.taken []
          (take c.in-Ok.count buffer) none bytes.0 so_far.read.took);
      fault = search rules;
      later = search rules;
    }

pub returns-in-Err-do_piece : goal.returns-in-Err-do_piece
returns-in-Err-do_piece g c =
    let buffer = c.read.new.buf in
    let count = c.in-Ok.count in
    let counted = c.min-counted.result in
    let start = g.I.Source.left c.args.input.now in
    let before = g.I.Source.left c.reads.input in
    let left = g.I.Source.left c.read.new.self in
    let so_far = c.reads.invariant in
    let took = took_piece c.args.limit c.reads.room count counted start before left buffer
    so_far.room (omega arith) (omega (arith, c.in-Ok.ensures.bound)) (omega arith)
    c.in-Ok.ensures.bytes.0 so_far.read in
    record {
      leaves =
          piece_stops g.M.StepRule.is_step g.M.LineMachine.has_done g.M.LineMachine.has_ended
          c.args.limit start before left (take counted buffer) (drop counted (take count buffer))
          c.reads.lines
          (moment c.args.machine.now c.args.output.now c.args.draws.now c.args.tiles.now)
          (moment c.reads.machine c.reads.output c.reads.draws c.reads.tiles)
          (moment c.do_piece.new.machine c.do_piece.new.output c.do_piece.new.draws
          c.do_piece.new.tiles)
          c.in-Err-do_piece.end c.in-Err-do_piece.ensures.err so_far.read took;
      took =
          took_chunk c.args.limit start before left (take counted buffer)
          (drop counted (take count buffer)) so_far.drained so_far.short so_far.read took;
      fault =
          stop_fault _ _ c.in-Err-do_piece.end c.in-Err-do_piece.ensures.of_lines
          (c.in-Ok.ensures.cause.kept ∙ so_far.kept);
      later = search rules;
    }

pub returns-then-counted-count : goal.returns-then-counted-count
returns-then-counted-count g c =
    let buffer = c.read.new.buf in
    let count = c.in-Ok.count in
    let counted = c.min-counted.result in
    let start = g.I.Source.left c.args.input.now in
    let before = g.I.Source.left c.reads.input in
    let left = g.I.Source.left c.read.new.self in
    let so_far = c.reads.invariant in
    let some : 0 < length (drop counted (take count buffer)) =
    omega (
      arith,
      length-drop counted (take count buffer),
      length-take count buffer,
      c.in-Ok.ensures.bound,
    ) in
    let e = c.in_default-do_piece.ensures in
    let took = took_piece c.args.limit c.reads.room count counted start before left buffer
    so_far.room (omega arith) (omega (arith, c.in-Ok.ensures.bound)) (omega arith)
    c.in-Ok.ensures.bytes.0 so_far.read in
    record {
      leaves =
          long_leaves g.M.StepRule.is_step g.M.LineMachine.has_done g.M.LineMachine.has_ended
          c.lines_seen.ensures.cut c.args.limit start before left (take counted buffer)
          (drop counted (take count buffer)) c.reads.lines c.do_piece.new.lines
          (moment c.args.machine.now c.args.output.now c.args.draws.now c.args.tiles.now)
          (moment c.reads.machine c.reads.output c.reads.draws c.reads.tiles)
          (moment c.do_piece.new.machine c.do_piece.new.output c.do_piece.new.draws
          c.do_piece.new.tiles)
          some e.drained e.short e.ok so_far.read took;
      took =
          took_chunk c.args.limit start before left (take counted buffer)
          (drop counted (take count buffer)) so_far.drained so_far.short so_far.read took;
      fault = search rules;
      later = search rules;
    }

pub reads-preserved : goal.reads-preserved
reads-preserved g c =
    let buffer = c.read.new.buf in
    let count = c.in-Ok.count in
    let all : c.min-counted.result ≡ count = omega arith in
    let long : length (take count buffer) ≡ count =
    omega (arith, length-take count buffer, c.in-Ok.ensures.bound) in
    let e = c.in_default-do_piece.ensures in record {
      read =
          read_further c.args.limit
          (g.I.Source.left c.args.input.now) (g.I.Source.left c.reads.input)
          (g.I.Source.left c.read.new.self) (take count buffer)
          c.reads.lines c.do_piece.new.lines
          (omega (arith, long, c.reads.invariant.room)) (omega (arith, long, c.in-Ok.ensures.bound))
          c.in-Ok.ensures.bytes.0 (rw (← all) e.ok) c.reads.invariant.read;
      drained = e.drained;
      short = e.short;
      ready = e.ready;
      room = omega (
        arith,
        e.fed,
        length-take c.min-counted.result buffer,
        c.in-Ok.ensures.bound,
        c.reads.invariant.room,
      );
      kept = c.in-Ok.ensures.cause.kept ∙ c.reads.invariant.kept;
    }
