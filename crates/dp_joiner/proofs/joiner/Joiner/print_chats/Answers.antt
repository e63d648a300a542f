use Rattle.std.proofs.Common.{List, [], ap, refl, sym}
use Rattle.std.proofs.KnownBytes.{Appends-nil}
use Rattle.circular_buffer.specs.Buffer.{Buffer, keep_last}
use Rattle.dp_client.specs.Client.{State}
use Rattle.dp_joiner.specs.declared.chats.ChatLine.{ChatLine}
use Rattle.dp_joiner.specs.Joining.{Joining, chat_limit, chats_text, printed}
use Rattle.dp_joiner.proofs.Moving.{changes_last, drew_none, prints_adds, prints_leads}
use Rattle.dp_joiner.proofs.joiner.Joiner.print_chats.Goals as goal

pub returns : goal.returns
returns g c = λ draws tiles.
    let text = λ (s : State) (lines : List ChatLine). chats_text (keep_last chat_limit lines) in
    rw (← c.self.view_is) (changes_last _ _
    (λ (j : Joining). printed j (chats_text (keep_last chat_limit j.chats))) _ _ _
    (prints_adds c.self.inside.client c.self.inside.chats text
    (chats_text c.self.inside.chats.items)
    (λ j client chats. ap (λ (b : Buffer ChatLine). chats_text b.items) (sym chats)))
    (drew_none [] draws tiles) refl c.print_chats.result
    (prints_leads c.self.inside.client c.self.inside.chats text) (Appends-nil _) refl
    c.print_chats.ensures.written c.print_chats.ensures.prefix c.print_chats.ensures.kept
    c.print_chats.ensures.fault)
