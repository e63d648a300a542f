-- What the way in which the program ends tells, and so what its status tells.
use Rattle.std.proofs.Common.{◌≡◌, ℕ, ◌<◌, ◌⊎◌, Bool, true, false, List, refl, sym, subst, inl}
use Rattle.std.proofs.Common.{inr, arith}
use Rattle.std.specs.Prelude.{Option, ⊤}
use Rattle.std.specs.declared.string.String.{String}
use Rattle.dp_io.specs.Faults.{Rose}
use Rattle.dp_lines.specs.declared.run_end.RunEnd.{RunEnd}
use Rattle.dp_lines.specs.declared.run_end.RunEnd.TheVariants.{LinkFault, ReadFault}
use Rattle.dp_lines.specs.declared.run_end.RunEnd.TheVariants.{WriteFault}
use Rattle.dp_session.specs.declared.resume.ResumeFault.{ResumeFault}
use Rattle.dp_session.specs.declared.resume.ResumeFault.TheVariants as fault
use Rattle.dp_session.specs.Resuming.{CountsFault, IsBad}
use Rattle.dp_words.specs.declared.command_line.CommandLine.TheVariants.{Local, Join, Listen}
use Rattle.dp_words.specs.declared.command_line.LocalCommand.{LocalCommand}
use Rattle.dp_endings.specs.Answer.{SaysLine}
use Rattle.dp_commands.specs.Commands.{AskAndLack, Asks, HasWires, IsCommand}
use Rattle.dp_endings.specs.declared.ending.Ending.{Ending}
use Rattle.dp_endings.specs.declared.ending.Ending.TheVariants.{Usage, NoLink, NoWords, Run}
use Rattle.dp_endings.specs.declared.ending.Ending.TheVariants.{StoreFault, BadRow}
use Rattle.dp_commands.specs.Effects.{Effects, NothingIsDone, Streams, Untouched, Wires}
use Rattle.dp_endings.specs.Endings.{code_of, ending_line}
use Rattle.dp_commands.specs.Faults.{AskAndFailed, WireFailed}
use Rattle.dp_commands.specs.Joins.{JoinsOn}
use Rattle.dp_app.specs.Kinds.{NothingRuns, EndsWords, RunsLocally}
use Rattle.dp_local.specs.Runs.{run_of}
use Rattle.dp_commands.specs.Servers.{HasBadRow, NotResumed, ServedOn, end_of_fault}
use Rattle.dp_commands.specs.Servers.{server_end}
use Rattle.dp_app.proofs.ByKind.{AreRuns, Matches, StoreLaw, dial-failed, has-wire, has-wires}
use Rattle.dp_app.proofs.ByKind.{join-tells, served-failed, store-broke}

-- which counts of the streams rise if the program ends with this
abbrev pub Counted : Streams → Ending → Type 0
Counted s (Run end) = Matches s end
Counted s _ = (s.read_now ≡ s.read) × (s.written_now ≡ s.written)

-- the line of this end was said, or diag failed
abbrev pub Said : Option (List ℕ) → Option (List ℕ) → ℕ → ℕ → ℕ → Ending → Type 0
Said dold dnew before now status ending =
    SaysLine (code_of ending) (ending_line ending) dold dnew before now status

-- a status of an input's bytes
abbrev pub IsOfBytes : ℕ → Type 0
IsOfBytes status =
    (status ≡ 0) ⊎ (status ≡ 2) ⊎ (status ≡ 8) ⊎ (status ≡ 9) ⊎ (status ≡ 10) ⊎ (status ≡ 12)

module _ (s : Streams) (before now : ℕ) where
  -- what a status tells of the counts
  abbrev pub CountsBy : ℕ → Type 0
  CountsBy n =
      (n ≡ 3 → Rose s.read s.read_now) × (n ≡ 4 → Rose s.written s.written_now ⊎ Rose before now)
      × (IsOfBytes n → (s.read_now ≡ s.read) × (s.written_now ≡ s.written))
      × (s.read < s.read_now → (n ≡ 3) ⊎ ((n ≡ 4) × Rose before now))

  four : (n : ℕ) → (n ≡ 3 → Rose s.read s.read_now)
      → (n ≡ 4 → Rose s.written s.written_now ⊎ Rose before now)
      → (IsOfBytes n → (s.read_now ≡ s.read) × (s.written_now ≡ s.written))
      → (s.read < s.read_now → (n ≡ 3) ⊎ ((n ≡ 4) × Rose before now)) → CountsBy n
  four n a b c d = (a, b, c, d)

  code-counts : (ending : Ending) → Counted s ending → CountsBy (code_of ending)
  code-counts (Run ReadFault) counts = four _ (λ is. counts.0) (λ is. absurd (omega (arith, is)))
      (λ h. absurd (grind (arith, h))) (λ rose. inl refl)
  code-counts (Run WriteFault) counts = four _ (λ is. absurd (omega (arith, is)))
      (λ is. inl counts.1) (λ h. absurd (grind (arith, h)))
      (λ rose. absurd (omega (arith, counts.0, rose)))
  code-counts _ counts = four _ (λ is. absurd (omega (arith, is)))
      (λ is. absurd (omega (arith, is))) (λ h. counts)
      (λ rose. absurd (omega (arith, counts.0, rose)))

  counts-by : (dold dnew : Option (List ℕ)) (status : ℕ) (ending : Ending)
      → Counted s ending → Said dold dnew before now status ending → CountsBy status
  counts-by dold dnew status ending counts (inl says) =
      subst CountsBy (sym says.0) (code-counts ending counts)
  counts-by dold dnew status ending counts (inr failed) =
      subst CountsBy (sym failed.0) (four 4 (λ is. absurd (omega (arith, is))) (λ is. inr failed.1)
      (λ h. absurd (grind (arith, h))) (λ rose. inr (refl, failed.1)))

module _ {A W R T : Type 0} (see : Wires W R T) (words : List (String A)) (e : Effects W) where
  -- what the end tells of the words, of the wires and of the store
  abbrev pub Means : Ending → Type 0
  Means Usage = ¬ IsCommand words
  Means NoLink = AskAndLack words e.old
  Means (Run LinkFault) = AskAndFailed see words e.old e.new
  Means StoreFault = HasWires words e.old
      × (Rose e.store.puts e.store.puts_now ⊎ Rose e.store.reads e.store.reads_now)
  Means (BadRow n row) = HasWires words e.old × HasBadRow e.store.held
  Means _ = ⊤

  -- and of the counts
  abbrev pub Told : Ending → Type 0
  Told ending = Counted e.streams ending × Means ending

  refused-told : (ending : Ending) → NothingRuns words e.old ending → NothingIsDone e → Told ending
  refused-told Usage h none = ((none.streams.2, none.streams.3), h)
  refused-told NoLink h none = ((none.streams.2, none.streams.3), h)
  refused-told NoWords h none = ((none.streams.2, none.streams.3), tt)
  refused-told _ h none = absurd h

  local-told : AreRuns → (command : LocalCommand) (end : RunEnd)
      → RunsLocally (run_of command) e end → Told (Run end)
  local-told runs command LinkFault h = absurd ((runs command).alone e.streams.input
      e.streams.left e.streams.old e.streams.new e.streams.counters h.leaves)
  local-told runs command _ h = (h.fault, tt)

  joined-told : (addr name : List ℕ) → Asks words (Join addr name) → (end : RunEnd)
      → JoinsOn see name e end → Told (Run end)
  joined-told addr name asks LinkFault h = (
    (join-tells see name e LinkFault h).0,
    inl (((addr, name, asks), has-wire see name e LinkFault h), dial-failed see name e h),
  )
  joined-told addr name asks _ h = ((join-tells see name e _ h).0, tt)

  module _ (has : HasWires words e.old) (same : Untouched e.streams) where
    flags-told : (memory store wire : Bool)
        → (store ≡ true → Rose e.store.puts e.store.puts_now)
        → (wire ≡ true → WireFailed see e.old e.new) → Told (server_end memory store wire)
    flags-told true store wire broke failed = ((same.2, same.3), tt)
    flags-told false true wire broke failed = ((same.2, same.3), (has, inl (broke refl)))
    flags-told false false true broke failed = ((same.2, same.3), inr (has, failed refl))
    flags-told false false false broke failed = ((same.2, same.3), tt)

    fault-told : (why : ResumeFault) → IsBad e.store.held why
        → CountsFault e.store.reads why e.store.reads_now → Told (end_of_fault why)
    fault-told fault.StoreFault bad counts = ((same.2, same.3), (has, inr counts))
    fault-told (fault.BadRow n row) bad counts = ((same.2, same.3), (has, (n, row, bad)))
    fault-told fault.Memory bad counts = ((same.2, same.3), tt)

    server-told : StoreLaw see → (conns : Option ℕ) (ending : Ending)
        → ServedOn see conns e ending ⊎ NotResumed e ending → Told ending
    server-told law conns ending (inl h) =
        subst Told (sym h.end_is) (flags-told h.memory h.store h.wire
        (store-broke see conns e ending law h) (served-failed see conns e ending h))
    server-told law conns ending (inr h) =
        subst Told (sym h.end_is) (fault-told h.why h.bad h.reads)

  told : AreRuns → StoreLaw see → (ending : Ending) → EndsWords see words e ending
      → Told ending
  told runs law ending (inl h) = refused-told ending h.0 h.1
  told runs law ending (inr (Local command, asks, h)) =
      subst Told (sym h.1) (local-told runs command h.0 h.2)
  told runs law ending (inr (Join addr name, asks, h)) =
      subst Told (sym h.1) (joined-told addr name asks h.0 h.2)
  told runs law ending (inr (Listen addr workers conns service, asks, h)) =
      server-told (has-wires words e.old addr workers conns service asks h.0) h.1.untouched law
      conns ending h.1.served

  -- what a status tells
  abbrev pub ByStatus : ℕ → Type 0
  ByStatus n =
      (n ≡ 1 → ¬ IsCommand words) × (n ≡ 13 → AskAndLack words e.old)
      × (n ≡ 5 → AskAndFailed see words e.old e.new) × (n ≡ 6 → Means StoreFault)
      × (n ≡ 14 → HasWires words e.old × HasBadRow e.store.held)

  five : (n : ℕ) → (n ≡ 1 → ¬ IsCommand words) → (n ≡ 13 → AskAndLack words e.old)
      → (n ≡ 5 → AskAndFailed see words e.old e.new) → (n ≡ 6 → Means StoreFault)
      → (n ≡ 14 → HasWires words e.old × HasBadRow e.store.held) → ByStatus n
  five n a b c d f = (a, b, c, d, f)

  by-code : (ending : Ending) → Means ending → ByStatus (code_of ending)
  by-code Usage h = five _ (λ is. h) (λ is. absurd (omega (arith, is)))
      (λ is. absurd (omega (arith, is))) (λ is. absurd (omega (arith, is)))
      (λ is. absurd (omega (arith, is)))
  by-code NoLink h = five _ (λ is. absurd (omega (arith, is))) (λ is. h)
      (λ is. absurd (omega (arith, is))) (λ is. absurd (omega (arith, is)))
      (λ is. absurd (omega (arith, is)))
  by-code (Run LinkFault) h = five _ (λ is. absurd (omega (arith, is)))
      (λ is. absurd (omega (arith, is))) (λ is. h)
      (λ is. absurd (omega (arith, is))) (λ is. absurd (omega (arith, is)))
  by-code StoreFault h = five _ (λ is. absurd (omega (arith, is)))
      (λ is. absurd (omega (arith, is)))
      (λ is. absurd (omega (arith, is))) (λ is. h) (λ is. absurd (omega (arith, is)))
  by-code (BadRow n row) h = five _ (λ is. absurd (omega (arith, is)))
      (λ is. absurd (omega (arith, is)))
      (λ is. absurd (omega (arith, is))) (λ is. absurd (omega (arith, is))) (λ is. h)
  by-code _ h = five _ (λ is. absurd (omega (arith, is))) (λ is. absurd (omega (arith, is)))
      (λ is. absurd (omega (arith, is))) (λ is. absurd (omega (arith, is)))
      (λ is. absurd (omega (arith, is)))

  -- if diag failed, the status is that of a write fault
  means-by : (dold dnew : Option (List ℕ)) (before now status : ℕ) (ending : Ending)
      → Means ending → Said dold dnew before now status ending → ByStatus status
  means-by dold dnew before now status ending h (inl says) =
      subst ByStatus (sym says.0) (by-code ending h)
  means-by dold dnew before now status ending h (inr failed) =
      subst ByStatus (sym failed.0) (by-code (Run WriteFault) tt)

  pub by-status : AreRuns → StoreLaw see → (dold dnew : Option (List ℕ)) (before now status : ℕ)
      (ending : Ending) → EndsWords see words e ending
      → Said dold dnew before now status ending
      → ByStatus status × CountsBy e.streams before now status
  by-status runs law dold dnew before now status ending h says =
      let tells = told runs law ending h in (
        means-by dold dnew before now status ending tells.1 says,
        counts-by e.streams before now dold dnew status ending tells.0 says,
      )
