-- What holds of a run of each kind: on its streams alone, over a link, and of a server.
use Rattle.std.proofs.Common.{◌≡◌, ◌≢◌, ℕ, ◌⊎◌, true, List, [], ◌∷◌, length}
use Rattle.std.proofs.Common.{sym, ap, ◌∙◌, subst, inl, inr, arith, map, None}
use Rattle.std.specs.Prelude.{Option, Some}
use Rattle.std.specs.declared.string.String.{String}
use Rattle.std.specs.Io.KnownBytes.{Appends}
use Rattle.dp_epochs.specs.Laws.{ShutBefore}
use Rattle.dp_epochs.specs.Past.{Past}
use Rattle.dp_hall.specs.Names.{AreDistinct, IsIn}
use Rattle.dp_io.specs.Faults.{Rose}
use Rattle.dp_joining.proofs.RunGiven.{of_streams, run_given}
use Rattle.dp_joining.specs.Leaves.{JoinLeaves, Traffic}
use Rattle.dp_joining.specs.Outcomes.{JoinComesTo, JoinOutcome}
use Rattle.dp_joining.specs.Runs.{RunLeaves}
use Rattle.dp_lines.specs.declared.run_end.RunEnd.{RunEnd}
use Rattle.dp_lines.specs.declared.run_end.RunEnd.TheVariants.{Done, LinkFault, Truncated}
use Rattle.dp_lines.specs.RunEnds.{FaultMatchesEnd}
use Rattle.dp_serve.specs.Closings.{ServesOn}
use Rattle.dp_serve.specs.Serving.{Left, Part}
use Rattle.dp_serve_laws.specs.Reported.{reported}
use Rattle.dp_words.specs.declared.command_line.CommandLine.TheVariants.{Listen}
use Rattle.dp_words.specs.declared.command_line.LocalCommand.{LocalCommand}
use Rattle.dp_words.specs.declared.command_line.Service.{Service}
use Rattle.dp_serve.specs.declared.report.LinkReport.{LinkReport}
use Rattle.dp_commands.proofs.Leaving.{resumed_sound}
use Rattle.dp_endings.specs.Answer.{status_of}
use Rattle.dp_commands.specs.Commands.{Asks, HasWires}
use Rattle.dp_app.specs.Due.{GivesLink}
use Rattle.dp_endings.specs.declared.ending.Ending.{Ending}
use Rattle.dp_commands.specs.Effects.{Effects, Kept, KeepsNothing, Streams, Wires, served_wires}
use Rattle.dp_commands.specs.Faults.{DialFailed, LinkFailed, WireFailed}
use Rattle.dp_commands.specs.Joins.{JoinsOn, ends_of}
use Rattle.dp_local.specs.Runs.{IsReadWhole, IsLocalRun, IsUnfailed, run_of}
use Rattle.dp_commands.specs.Servers.{NotResumed, ServedOn}

-- the laws on the commands that need no link
abbrev pub AreRuns : Type 0
AreRuns = (command : LocalCommand) → IsLocalRun (run_of command)

-- which counts of the streams rise in a run with this end
abbrev pub Matches : Streams → RunEnd → Type 0
Matches s end = FaultMatchesEnd s.read s.read_now s.written s.written_now end

-- what a run of the command with this end leaves of the streams
abbrev pub Leaves : LocalCommand → Streams → RunEnd → Type 0
Leaves command s end = (run_of command).leaves s.input s.left s.old s.new s.counters end

-- ---- over a link

script-whole : (name : List ℕ) (t : Traffic) (end : RunEnd) → JoinLeaves name t end
    → IsReadWhole end t.left
script-whole name t Done h = h.0
script-whole name t (Truncated n) h = absurd h
script-whole name t _ h = tt

module _ {W R T : Type 0} (see : Wires W R T) (name : List ℕ) (e : Effects W) (end : RunEnd) where
  abbrev pub LeavesLink : W → W → Type 0
  LeavesLink wire now = RunLeaves see.left see.read_faults see.held see.write_faults name
      (see.links wire) (see.links now) (see.faults wire) (see.faults now) (ends_of e.streams) end

  -- what a run with this end says of the counts, and of what is left
  abbrev pub Tells : RunEnd → Type 0
  Tells x = Matches e.streams x × IsReadWhole x e.streams.left

  tells : (wire now : W) → LeavesLink wire now → Tells end
  tells wire now (inl (is, rose, same)) =
      subst Tells (sym is) ((same.input_faults, same.output_faults), tt)
  tells wire now (inr (inl (is, stays, same))) =
      subst Tells (sym is) ((same.input_faults, same.output_faults), tt)
  tells wire now (inr (inr (stays, over))) =
      (of_streams _ _ end over.fault, script-whole name _ end over.leaves)

  pub join-tells : JoinsOn see name e end → Tells end
  join-tells h = tells h.wire h.now h.leaves

  -- there was a wire
  pub has-wire : JoinsOn see name e end → e.old ≢ []
  has-wire h = λ none. let x : [] ≡ h.wire ∷ h.others = sym none ∙ h.before in cc

  pub joins-given : JoinsOn see name e end → (input link : List ℕ) → GivesLink see e.old link
      → e.streams.input ≡ Some input → IsUnfailed end
      → (outcome : JoinOutcome) × JoinComesTo name input link outcome × (outcome.end ≡ end)
      × Appends e.streams.old e.streams.new outcome.text
  joins-given h input link gives told unfailed =
      let heads : h.wire ∷ h.others ≡ gives.wire ∷ gives.others = sym h.before ∙ gives.first in
      let same : h.wire ≡ gives.wire = cc in
      run_given IsUnfailed (λ x. x) (λ x. x) (λ x. x) (λ x. x) see.left see.read_faults see.held
      see.write_faults name (see.links h.wire) (see.links h.now) (see.faults h.wire)
      (see.faults h.now) (ends_of e.streams) end h.leaves unfailed gives.links gives.rx gives.tx
      gives.more input link (ap see.links same ∙ gives.known) gives.next gives.holds told

-- a run that ended by its link dialled in vain, or the link failed
module _ {W R T : Type 0} (see : Wires W R T) (name : List ℕ) (e : Effects W) where
  link-failed : (wire now : W) → LeavesLink see name e LinkFault wire now
      → Rose (see.faults wire) (see.faults now) ⊎ LinkFailed see wire now
  link-failed wire now (inl (is, rose, same)) = inl rose
  link-failed wire now (inr (inl (is, stays, same))) = absurd (omega (arith, ap status_of is))
  link-failed wire now (inr (inr (stays, over))) = inr (record {
    rx = over.rx;
    tx = over.tx;
    rx_now = over.rx_now;
    tx_now = over.tx_now;
    returned = over.returned;
    rose = over.fault.2;
  })

  pub dial-failed : JoinsOn see name e LinkFault → DialFailed see e.old e.new
  dial-failed h = record {
    wire = h.wire;
    now = h.now;
    others = h.others;
    before = h.before;
    after = h.after;
    failed = link-failed h.wire h.now h.leaves;
  }

-- ---- of a server

-- words that ask for as many workers as there are wires have their wires
pub has-wires : {A W : Type 0} (words : List (String A)) (wires : List W) (addr : List ℕ)
    (workers : ℕ) (conns : Option ℕ) (service : Service)
    → Asks words (Listen addr workers conns service) → length wires ≡ workers
    → HasWires words wires
has-wires words wires addr workers conns service asks same = (addr, conns, service, rw same asks)

-- the law of stores that failed while a session was served over such wires
abbrev pub StoreLaw : {W R T : Type 0} → Wires W R T → Type 0
StoreLaw {W} see =
    (start : Past) (most : ℕ) (old new : List W) (left : Left) → start.first_fault ≡ None
    → ServesOn (served_wires see) start most old new left
    → left.store ≡ true → Rose start.count left.count

-- the law that no two reports name one connection, of such wires
abbrev pub DistinctLaw : {W R T : Type 0} → Wires W R T → Type 0
DistinctLaw {W} see =
    (start : Past) (most : ℕ) (old new : List W) (left : Left) → ShutBefore start
    → ServesOn (served_wires see) start most old new left → AreDistinct (reported left.reports)

pub none-reported : (k : Kept) → KeepsNothing k → AreDistinct (reported k.reports)
none-reported k none =
    subst (λ (l : List LinkReport). AreDistinct (reported l)) (sym none.2) tt

module _ {W R T : Type 0} (see : Wires W R T) where
  part-failed : (parts : List (Part W R T)) (part : Part W R T) → IsIn part parts
      → Rose (see.faults part.wire) (see.faults part.now)
      → WireFailed see (map (λ p. p.wire) parts) (map (λ p. p.now) parts)
  part-failed [] part among rose = absurd among
  part-failed (first ∷ parts) part (inl same) rose =
      inl (subst (λ (p : Part W R T). Rose (see.faults p.wire) (see.faults p.now)) same rose)
  part-failed (first ∷ parts) part (inr among) rose = inr (part-failed parts part among rose)

  module _ (conns : Option ℕ) (e : Effects W) (ending : Ending) where
    pub served-failed : (h : ServedOn see conns e ending) → h.wire ≡ true
        → WireFailed see e.old e.new
    served-failed h raised =
        let on = h.serves in
        let last : on.rest.wire ≡ true = sym (ap (λ (l : Left). l.wire) on.left_is) ∙ raised in
        let part = on.serves.wire last in
        subst (λ (old : List W). WireFailed see old e.new) on.serves.before
        (subst (λ (new : List W). WireFailed see (map (λ p. p.wire) on.serves.parts) new)
        on.serves.after (part-failed on.serves.parts part.0 part.1 part.2.0))

    pub store-broke : StoreLaw see → (h : ServedOn see conns e ending) → h.store ≡ true
        → Rose e.store.puts e.store.puts_now
    store-broke law h raised =
        subst (λ (n : ℕ). Rose n e.store.puts_now) (ap (λ (p : Past). p.count) h.resumes)
        (law h.start _ e.old e.new _ (ap (λ (p : Past). p.first_fault) h.resumes) h.serves raised)

    pub server-distinct : DistinctLaw see → ServedOn see conns e ending ⊎ NotResumed e ending
        → AreDistinct (reported e.kept.reports)
    server-distinct law (inl h) =
        law h.start _ e.old e.new _ (resumed_sound h.start _ _ _ h.resumes) h.serves
    server-distinct law (inr not) = none-reported e.kept not.stays.nothing
