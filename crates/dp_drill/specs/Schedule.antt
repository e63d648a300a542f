-- The schedule of a drill: three clients say drawing messages, send them and take what comes, as
-- the numbers of a generator say.
use Rattle.std.specs.Prelude.{ℕ, zero, suc, ◌+◌, ◌-◌, ◌*◌, ◌/◌, ◌%◌, ◌^◌, ◌<◌, ◌==◌, nat_le, false}
use Rattle.std.specs.Prelude.{if◌then◌else◌, List, [], ◌∷◌, ◌++◌, codes, length, pos, replicate}
use Rattle.std.specs.List.{flat_map}
use Rattle.std.specs.Option.{option_map_or}
use Rattle.dp_msg_draw.specs.declared.draw.Draw.TheVariants.{CanvasResize, LayerCreate, FillRect}
use Rattle.dp_msg_draw.specs.declared.draw.Draw.TheVariants.{DabsRound}
use Rattle.dp_messages.specs.declared.message.Msg.{Msg}
use Rattle.dp_messages.specs.declared.message.Msg.TheVariants as msg
use Rattle.dp_epochs.specs.Past.{state_of}
use Rattle.dp_schedule.specs.declared.action.Action.{Action}
use Rattle.dp_schedule.specs.declared.action.Action.TheVariants.{Join, Act}
use Rattle.dp_schedule.specs.declared.action.Instruction.TheVariants.{Say, Up, Take}
use Rattle.dp_sim.specs.World.{World, world_after, participant_of}
use Rattle.dp_drill.specs.declared.rounds.Brush.{Brush}

-- ---- numbers

-- the generator's state after this one
unfoldable pub next : ℕ → ℕ
next x = (x * 6364136223846793005 + 1442695040888963407) % 2 ^ 64

-- the number that it gives there, of 31 bits
unfoldable pub drill_number : ℕ → ℕ
drill_number x = x / 2 ^ 33

-- ---- rounds

-- a place on the canvas, and a colour of 24 bits
pub record IsBrush (b : Brush) : Type 0 where
  pub x : b.x < 256
  pub y : b.y < 256
  pub rgb : b.rgb < 2 ^ 24

-- a square of 16 by 16 pixels, on the layer of the first client
abbrev pub square : Brush → Msg
square b = msg.Draw (FillRect 257 1 b.x b.y 16 16 (4278190080 + b.rgb))

-- a round dab of 9 pixels, half opaque
abbrev pub dab : Brush → Msg
dab b = msg.Draw (DabsRound 257 (pos b.x) (pos b.y) (b.rgb / 65536) (b.rgb / 256 % 256)
    (b.rgb % 256) 1 (record { dx = pos 0; dy = pos 0; size = 9; opacity = 128 } ∷ []))

-- the client of a number says a message
abbrev pub saying : ℕ → Msg → List Action
saying client m = Act client (Say m) ∷ []

-- What a client does in a round of this kind: it says one of four messages, its uplink sends, or it
-- takes four times.
abbrev pub round_of : ℕ → ℕ → Brush → List Action
round_of client kind brush =
    if kind == 0 then saying client msg.Point
    else if nat_le kind 3 then saying client (square brush)
    else if kind == 4 then saying client (dab brush)
    else if kind == 5 then saying client (msg.Undo 0 false)
    else if nat_le kind 11 then Act client Up ∷ []
    else replicate 4 (Act client Take)

-- the brush of a round, by a part of its first number and by its second
abbrev pub round_brush : ℕ → ℕ → Brush
round_brush s v = record { x = s % 256; y = s / 256 % 256; rgb = v % 2 ^ 24 }

-- a round, of the two numbers that it takes
unfoldable pub round : ℕ → ℕ → List Action
round r v = let q = r / 3 in round_of (1 + r % 3) (q % 16) (round_brush (q / 16) v)

-- n rounds, from a state of the generator on
abbrev pub rounds : ℕ → ℕ → List Action
rounds x zero = []
rounds x (suc n) =
    round (drill_number (next x)) (drill_number (next (next x))) ++ rounds (next (next x)) n

-- ---- the whole schedule

-- three clients join, and the first makes a canvas of 256 by 256 with a layer
abbrev pub first_actions : List Action
first_actions =
    Join (codes "a") false ∷ Join (codes "b") false ∷ Join (codes "c") false
    ∷ Act 1 (Say (msg.Draw (CanvasResize (pos 0) (pos 256) (pos 256) (pos 0))))
    ∷ Act 1 (Say (msg.Draw (LayerCreate 257 0 false []))) ∷ Act 1 Up ∷ Act 1 Up ∷ []

-- the numbers of the clients
abbrev pub clients : List ℕ
clients = 1 ∷ 2 ∷ 3 ∷ []

-- each client's uplink sends all that it has
abbrev pub sends_all : World → List Action
sends_all w = flat_map (λ client. replicate
    (option_map_or (λ p. length p.uplink) (participant_of w client) 0) (Act client Up)) clients

-- each client takes all that it hasn't taken of the live history
abbrev pub takes_all : World → List Action
takes_all w = flat_map (λ client. replicate
    (option_map_or (λ p. length (state_of w.past).live - length p.state.taken)
    (participant_of w client) 0) (Act client Take)) clients

-- the schedule up to its rounds
abbrev pub drawn_actions : ℕ → ℕ → List Action
drawn_actions seed count = first_actions ++ rounds seed count

-- and up to what is sent in the end
abbrev pub sent_actions : ℕ → ℕ → List Action
sent_actions seed count =
    drawn_actions seed count ++ sends_all (world_after (drawn_actions seed count))

-- the schedule of a drill with `count` rounds
abbrev pub drill_actions : ℕ → ℕ → List Action
drill_actions seed count =
    sent_actions seed count ++ takes_all (world_after (sent_actions seed count))
