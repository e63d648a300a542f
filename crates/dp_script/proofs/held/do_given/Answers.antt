use Rattle.dp_script.proofs.held.do_given.Goals as goal

pub returns-in-Ok-clause-ok : goal.returns-in-Ok-clause-ok
returns-in-Ok-clause-ok g c = λ start done has.
    let e = c.in-Ok.ensures in record {
      steps =
          c.further_step.ensures.more done c.args.line.now has.steps
          (record { fits = c.requires.fits; step = e.step start done has.does });
      does = e.done start done has.does;
    }
