-- What a run over a wire gives.
use Rattle.std.proofs.Common.{◌≡◌, ℕ, List, [], ◌∷◌, sym, ap, ◌∙◌, subst, inl, inr}
use Rattle.std.specs.Prelude.{Option, Some, None, IfSome}
use Rattle.std.specs.Io.KnownBytes.{Appends}
use Rattle.dp_joining.specs.Leaves.{Counts, FaultMatchesJoin, JoinLeaves, Traffic, WritesAll}
use Rattle.dp_joining.specs.Outcomes.{JoinComesTo, JoinOutcome}
use Rattle.dp_joining.specs.Runs.{Ends, Returns, RunLeaves, traffic_of}
use Rattle.dp_joining.proofs.Leaving.{Writes}
use Rattle.dp_lines.specs.declared.run_end.RunEnd.{RunEnd}
use Rattle.dp_lines.specs.declared.run_end.RunEnd.TheVariants.{Done, ReadFault, WriteFault}
use Rattle.dp_lines.specs.declared.run_end.RunEnd.TheVariants.{LinkFault, Memory, Truncated}
use Rattle.dp_lines.specs.declared.run_end.RunEnd.TheVariants.{BadHeader}
use Rattle.dp_lines.specs.RunEnds.{FaultMatchesEnd}
use Rattle.dp_wire.specs.Links.{Links, WhereKnown}

-- the counts of the script and the output alone
pub of_streams : (old now : Counts) (end : RunEnd) → FaultMatchesJoin old now end
    → FaultMatchesEnd old.input now.input old.output now.output end
of_streams old now ReadFault b = (b.0, b.1.output)
of_streams old now WriteFault b = (b.0, b.1)
of_streams old now LinkFault b = (b.0, b.1)
of_streams old now _ b = (b.0, b.1.output)

writes-all : (name : List ℕ) (t : Traffic) (end : RunEnd) (input link : List ℕ)
    → t.input ≡ Some input → t.link ≡ Some link → WritesAll name t end
    → Writes name t end input link
writes-all name t end input link known linked h =
    subst (λ (o : Option (List ℕ)). IfSome o (λ bytes. Writes name t end input bytes)) linked
    (subst (λ (o : Option (List ℕ)). IfSome o (λ bytes. IfSome t.link
    (λ other. Writes name t end bytes other))) known h)

-- the source of the first of these links
source-of : {R T : Type 0} → R → List (R × T) → R
source-of rx [] = rx
source-of rx (link ∷ links) = link.0

-- the link that was handed out is the first of those to come
next-of : {R T : Type 0} (links now : Option (Links R T)) (known : Links R T)
    (link back : R × T) → links ≡ Some known
    → WhereKnown links (λ a b. Returns link back a b) now
    → (rest : List (R × T)) × (known.to_come ≡ link ∷ rest)
next-of {R} {T} links None known link back e h =
    absurd (subst (λ (o : Option (Links R T)). WhereKnown o (λ a b. Returns link back a b) None) e
    h)
next-of {R} {T} links (Some now) known link back e h =
    let returns : Returns link back known now =
    subst (λ (o : Option (Links R T)). WhereKnown o (λ a b. Returns link back a b) (Some now)) e h
    in (now.to_come, returns.next)

-- If the end is none of a fault (P says so), what the script and the link come to was written.
module _ (P : RunEnd → Type 0) (read : P ReadFault → ⊥) (write : P WriteFault → ⊥)
    (fault : P LinkFault → ⊥) (memory : P Memory → ⊥) where
  all-written : (name : List ℕ) (t : Traffic) (end : RunEnd) → JoinLeaves name t end → P end
      → WritesAll name t end
  all-written name t Done h p = h.1
  all-written name t ReadFault h p = absurd (read p)
  all-written name t WriteFault h p = absurd (write p)
  all-written name t LinkFault h p = absurd (fault p)
  all-written name t Memory h p = absurd (memory p)
  all-written name t (Truncated n) h p = absurd h
  all-written name t BadHeader h p = absurd h
  all-written name t _ h p = h

  join-given : (name : List ℕ) (t : Traffic) (end : RunEnd) (input link : List ℕ)
      → t.input ≡ Some input → t.link ≡ Some link → JoinLeaves name t end → P end
      → (outcome : JoinOutcome) × JoinComesTo name input link outcome × (outcome.end ≡ end)
      × Appends t.print_old t.print_now outcome.text
  join-given name t end input link known linked h p =
      let all = writes-all name t end input link known linked (all-written name t end h p) in
      (all.0, all.1, all.2, all.3)

  pub run_given : {R T : Type 0} (left : R → Option (List ℕ)) (read_faults : R → ℕ)
      (held : T → Option (List ℕ)) (write_faults : T → ℕ) (name : List ℕ)
      (links now : Option (Links R T)) (before after : ℕ) (ends : Ends) (end : RunEnd)
      → RunLeaves left read_faults held write_faults name links now before after ends end → P end
      → (known : Links R T) (rx : R) (tx : T) (more : List (R × T)) (input link : List ℕ)
      → links ≡ Some known → known.to_come ≡ (rx, tx) ∷ more → left rx ≡ Some link
      → ends.input ≡ Some input
      → (outcome : JoinOutcome) × JoinComesTo name input link outcome × (outcome.end ≡ end)
      × Appends ends.output ends.output_now outcome.text
  unfolding source-of
  run_given left read_faults held write_faults name links now before after ends end
      (inl (is, rose, same)) p known rx tx more input link told next holds bytes =
      absurd (fault (subst P is p))
  run_given left read_faults held write_faults name links now before after ends end
      (inr (inl (is, stays, same))) p known rx tx more input link told next holds bytes =
      absurd (memory (subst P is p))
  run_given left read_faults held write_faults name links now before after ends end
      (inr (inr (stays, over))) p known rx tx more input link told next holds bytes =
      let handed = next-of links now known (over.rx, over.tx) (over.rx_now, over.tx_now) told
      over.returned in
      let same : over.rx ≡ rx = ap (source-of over.rx) (sym handed.1 ∙ next) in
      let traffic = traffic_of (left over.rx) (held over.tx) (held over.tx_now) ends in
      join-given name traffic end input link bytes (ap left same ∙ holds) over.leaves p
