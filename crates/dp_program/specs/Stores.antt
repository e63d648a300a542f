-- What contracts see of a store, in a file or in memory, and which of these a run has.
use Rattle.std.specs.Prelude.{◌≡◌, ◌≢◌, ℕ, List, [], Option, Some, None, Bool, true, false, is_some}
use Rattle.clap.specs.Walk.{Text}
use Rattle.dp_wire.specs.Sockets.{TcpState}
use Rattle.dp_words.specs.declared.devices.Devices.{Devices}
use Rattle.dp_words.specs.declared.devices.Devices.TheVariants.{Nothing, Dial, Listen}
use Rattle.dp_words.specs.Wanted.{Wants}
use Rattle.dp_keeper.specs.declared.row.Row.{Row}
use Rattle.dp_program.specs.declared.store.Store.{Store}
use Rattle.dp_program.specs.declared.store.Store.TheVariants.{File, Memory}

-- whether it is a file
abbrev pub is_file : Store → Bool
is_file (File faults) = true
is_file (Memory rows) = false

-- its rows: those of a file aren't known
abbrev pub store_held : Store → Option (List Row)
store_held (File faults) = None
store_held (Memory rows) = Some rows

-- how often a put has failed
abbrev pub store_put_faults : Store → ℕ
store_put_faults (File faults) = faults.puts
store_put_faults (Memory rows) = 0

-- how often a reading has failed
abbrev pub store_read_faults : Store → ℕ
store_read_faults (File faults) = faults.readings
store_read_faults (Memory rows) = 0

-- whether these devices have a file for rows
abbrev pub names_file : Devices → Bool
names_file Nothing = false
names_file (Dial addr) = false
names_file (Listen addr workers journal) = is_some journal

-- whether the words name a file for a server's rows
abbrev pub NameFile : List Text → Bool → Type 0
NameFile words has = (devices : Devices) × Wants words devices × (has ≡ names_file devices)

-- whether a run with these words and wires has a file: if it has wires, as the words name one
abbrev pub HasFile : List Text → List TcpState → Bool → Type 0
HasFile words wires has = (wires ≡ [] → has ≡ false) × (wires ≢ [] → NameFile words has)
