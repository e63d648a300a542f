use Rattle.std.proofs.Common.{◌≡◌, [], ◌∷◌, sym, ap, subst, ◌∙◌}
use Rattle.dp_hall.specs.Laws.{AllBackBut}
use Rattle.dp_hall_tests.proofs.work.seats_return.Goals as goal

pub returns-clause-pairs : goal.returns-clause-pairs
returns-clause-pairs g c v stays given one two w s a b j =
    let law = c.seats_come_back.ensures in
    record {
      name = j.name ∙ (a.name ∙ ap (λ x. x.name) s.stays_is);
      back = λ out back. law.join one two w out
          (subst (λ n. AllBackBut (n ∷ out) one) (sym b.name)
          (a.back (given.name ∷ out) (law.split v stays given out back s)))
          (b.back [] (law.given v stays given s)) j;
    }
