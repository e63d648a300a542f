use Rattle.std.proofs.Common.{◌∙◌, List, [], ap, refl, sym}
use Rattle.std.proofs.KnownBytes.{Appends-nil}
use Rattle.dp_client.specs.Client.{State}
use Rattle.dp_showing.specs.Showing.{shown_text}
use Rattle.dp_joiner.specs.declared.chats.ChatLine.{ChatLine}
use Rattle.dp_joiner.specs.Joining.{Joining, printed}
use Rattle.dp_joiner.proofs.Moving.{changes_last, drew_none, prints_adds, prints_leads}
use Rattle.dp_joining.proofs.acting.show_client.Goals as goal

pub returns : goal.returns
returns g c = λ draws tiles.
    let text = λ (s : State) (lines : List ChatLine). shown_text c.args.shown s in
    changes_last _ _
    (λ (j : Joining). printed j (shown_text c.args.shown j.client)) _ _ _
    (prints_adds c.args.joiner.now.client c.args.joiner.now.chats text
    (shown_text c.args.shown c.client.result.now)
    (λ j client chats. ap (shown_text c.args.shown) (sym (c.client.ensures ∙ client))))
    (drew_none [] draws tiles) refl c.print_shown.result
    (prints_leads c.args.joiner.now.client c.args.joiner.now.chats text) (Appends-nil _) refl
    c.print_shown.ensures.written c.print_shown.ensures.prefix c.print_shown.ensures.kept
    c.print_shown.ensures.fault
