use Rattle.std.proofs.Common.{◌==◌, ap, sym, ◌∙◌}
use Rattle.std.specs.List.{position}
use Rattle.std.proofs.lemmas.List.{take_rest}
use Rattle.dp_lines.specs.Lines.{newline}
use Rattle.dp_lines.proofs.Scanning.{found_end, found_none}
use Rattle.dp_lines.proofs.lines.newline_from.Goals as goal

-- what is found after the bytes that were scanned before is the first of all
pub returns-in-Some-clause-end : goal.returns-in-Some-clause-end
returns-in-Some-clause-end c =
    let rest = take_rest c.args.bytes.now c.args.from in
    found_end c.args.bytes.now c.args.from c.in-Some.at c.requires
    (ap (position (λ byte. byte == newline)) (sym rest) ∙ sym c.in-Some.ensures)

pub returns-in-None-clause-none : goal.returns-in-None-clause-none
returns-in-None-clause-none c =
    let rest = take_rest c.args.bytes.now c.args.from in
    found_none c.args.bytes.now c.args.from c.requires
    (ap (position (λ byte. byte == newline)) (sym rest) ∙ sym c.in-None.ensures)
