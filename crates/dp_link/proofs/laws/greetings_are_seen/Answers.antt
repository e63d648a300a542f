use Rattle.dp_link.proofs.SeenLemmas.{greeted-seen}
use Rattle.dp_link.proofs.SendLemmas.{opened-later}
use Rattle.dp_link.proofs.laws.greetings_are_seen.Goals as goal

pub returns-clause-greeted : goal.returns-clause-greeted
returns-clause-greeted g c before left unread held taken stream greeting h =
    greeted-seen before c.args.seat.now.view left unread held taken stream greeting
    c.seats_are_sound.ensures h

pub returns-clause-stays : goal.returns-clause-stays
returns-clause-stays g c = opened-later
