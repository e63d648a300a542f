-- What the program needs of the outside, by its words.
use Rattle.std.specs.Prelude.{◌≡◌, ◌⊎◌, List}
use Rattle.clap.specs.Walk.{Text}
use Rattle.dp_words.specs.declared.command_line.CommandLine.{CommandLine}
use Rattle.dp_words.specs.declared.command_line.CommandLine.TheVariants as line
use Rattle.dp_words.specs.declared.command_line.Service.TheVariants.{Session}
use Rattle.dp_words.specs.declared.devices.Devices.{Devices}
use Rattle.dp_words.specs.declared.devices.Devices.TheVariants.{Nothing, Dial, Listen}
use Rattle.dp_words.specs.CommandLines.{AsksFor, IsCommandLine}

-- the devices of a command line: a link to the server that it joins, or a wire for each worker and
-- the file of its journal, if one is named
abbrev pub devices_of : CommandLine → Devices
devices_of (line.Local command) = Nothing
devices_of (line.Join addr name) = Dial addr
devices_of (line.Listen addr workers conns (Session journal)) = Listen addr workers journal

-- The words want these devices: those of the line for which they ask, and nothing if they ask
-- for none.
abbrev pub Wants : List Text → Devices → Type 0
Wants words devices =
    ((line : CommandLine) × AsksFor words line × (devices ≡ devices_of line))
    ⊎ (¬ IsCommandLine words × (devices ≡ Nothing))
