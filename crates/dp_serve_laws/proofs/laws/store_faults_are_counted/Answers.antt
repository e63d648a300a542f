use Rattle.dp_serve_laws.proofs.ClosingLemmas.{store-broke}
use Rattle.dp_serve_laws.proofs.laws.store_faults_are_counted.Goals as goal

pub returns : goal.returns
returns g c see start most old new left none on raised =
    store-broke see start most old new left on c.events_have_effects.ensures none raised
