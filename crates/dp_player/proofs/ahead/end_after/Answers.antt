use Rattle.std.proofs.Common.{refl}
use Rattle.dp_player.proofs.ahead.end_after.Goals as goal

pub returns-then-drawn : goal.returns-then-drawn
returns-then-drawn c = record {
  kept = λ drawn. refl;
  memory = λ refused. let drawn = c.if-drawn.true in absurd cc;
  early = λ refused before. refl;
}

pub returns-then-reads_to_end : goal.returns-then-reads_to_end
returns-then-reads_to_end c = record {
  kept = λ drawn. let refused = c.if-drawn.false in absurd cc;
  memory = λ refused to_end. refl;
  early = λ refused before. absurd (before (c.reads_to_end.ensures.yes c.if-reads_to_end.true));
}

pub returns-else-reads_to_end : goal.returns-else-reads_to_end
returns-else-reads_to_end c = record {
  kept = λ drawn. refl;
  memory = λ refused to_end. let yes = c.reads_to_end.ensures.no to_end in absurd cc;
  early = λ refused before. refl;
}
