-- What a line that shows a client prints.
use Rattle.std.proofs.Common.{◌≡◌, [], ap, ◌∙◌}
use Rattle.std.specs.Prelude.{Option, Some, None, IsSome, IfSome}
use Rattle.std.specs.Option.{option_map_or}
use Rattle.dp_client.specs.Client.{State}
use Rattle.dp_schedule.specs.declared.action.CanvasKind.{CanvasKind}
use Rattle.dp_showing.specs.declared.showing.Shown.{Shown}
use Rattle.dp_showing.specs.Showing.{shown_text}
use Rattle.dp_sim.specs.Exchanges.{Participant}
use Rattle.dp_sim.specs.Report.{shown_of}

pub text_shown : (found : Option Participant) (kind : CanvasKind) (shown : Shown) (client : State)
    → IsSome found → shown ≡ shown_of kind
    → IfSome found (λ participant. client ≡ participant.state)
    → shown_text shown client
    ≡ option_map_or (λ participant. shown_text (shown_of kind) participant.state) found []
text_shown None kind shown client some same is = cc (some)
text_shown (Some participant) kind shown client some same is =
    ap (λ s. shown_text s client) same ∙ ap (shown_text (shown_of kind)) is
