-- What a run of `join` over a wire leaves.
use Rattle.std.specs.Prelude.{◌≡◌, ◌⊎◌, ℕ, List, [], ◌∷◌, ◌++◌, Option}
use Rattle.dp_io.specs.Faults.{Rose}
use Rattle.dp_lines.specs.declared.run_end.RunEnd.{RunEnd}
use Rattle.dp_lines.specs.declared.run_end.RunEnd.TheVariants.{LinkFault, Memory}
use Rattle.dp_line_machine.specs.Counters.{Counters, NothingIsDrawn}
use Rattle.dp_wire.specs.Links.{Links, WhereKnown}
use Rattle.dp_joining.specs.Leaves.{BeginsDue, FaultMatchesJoin, JoinLeaves, ReadsNoFurther}
use Rattle.dp_joining.specs.Leaves.{Traffic, WaitsUnread, WhereKnown as WhereRead}

-- the script and the output before and after a run: their bytes, if they are known, and their
-- counts of faults; and the counters of draws and of tiles
pub record Ends : Type 0 where
  pub input : Option (List ℕ)
  pub input_now : Option (List ℕ)
  pub input_faults : ℕ
  pub input_faults_now : ℕ
  pub output : Option (List ℕ)
  pub output_now : Option (List ℕ)
  pub output_faults : ℕ
  pub output_faults_now : ℕ
  pub counters : Counters

-- no link was handed out, nothing was read or written, and nothing was drawn
pub record IsUntouched {R T : Type 0} (wire wire_now : Option (Links R T)) (ends : Ends) : Type 0
  where
    pub links : WhereKnown wire (λ a b. b ≡ a) wire_now
    pub input : ends.input_now ≡ ends.input
    pub input_faults : ends.input_faults_now ≡ ends.input_faults
    pub output : ends.output_now ≡ ends.output
    pub output_faults : ends.output_faults_now ≡ ends.output_faults
    pub drawn : NothingIsDrawn ends.counters

-- what a run sees over a link: these bytes are left of its source at the start, and its sink holds
-- these before and after
abbrev pub traffic_of : Option (List ℕ) → Option (List ℕ) → Option (List ℕ) → Ends → Traffic
traffic_of link sent_old sent_now ends = record {
  input = ends.input;
  left = ends.input_now;
  link = link;
  print_old = ends.output;
  print_now = ends.output_now;
  sent_old = sent_old;
  sent_now = sent_now;
  counters = ends.counters;
}

-- the next link was handed out, and handed back as it is now
pub record Returns {R T : Type 0} (link now : R × T) (old new : Links R T) : Type 0 where
  pub next : old.to_come ≡ link ∷ new.to_come
  pub given : new.given ≡ old.given ++ link ∷ []
  pub back : new.back ≡ old.back ++ now ∷ []

-- the run was made over a link, which was handed back
pub record JoinsOver {R T : Type 0} (left : R → Option (List ℕ)) (read_faults : R → ℕ)
    (held : T → Option (List ℕ)) (faults : T → ℕ) (name : List ℕ)
    (links links_now : Option (Links R T)) (ends : Ends) (end : RunEnd) : Type 0 where
  pub rx : R
  pub tx : T
  pub rx_now : R
  pub tx_now : T
  pub returned : WhereKnown links (λ a b. Returns (rx, tx) (rx_now, tx_now) a b) links_now
  pub leaves : JoinLeaves name (traffic_of (left rx) (held tx) (held tx_now) ends) end
  pub due : WhereRead (traffic_of (left rx) (held tx) (held tx_now) ends)
      (BeginsDue name (traffic_of (left rx) (held tx) (held tx_now) ends))
  pub took : ReadsNoFurther ends.input ends.input_now
  pub unread : WaitsUnread name (left rx) ends.input ends.input_now
  pub fault : FaultMatchesJoin (record {
    input = ends.input_faults;
    output = ends.output_faults;
    source = read_faults rx;
    sink = faults tx;
  }) (record {
    input = ends.input_faults_now;
    output = ends.output_faults_now;
    source = read_faults rx_now;
    sink = faults tx_now;
  }) end

-- What a run leaves. Either the wire failed, or had no memory for a link, and all else stays. Or
-- the run was made over a link, and the wire's count of faults stays.
abbrev pub RunLeaves : {R T : Type 0} → (R → Option (List ℕ)) → (R → ℕ) → (T → Option (List ℕ))
    → (T → ℕ) → List ℕ → Option (Links R T) → Option (Links R T) → ℕ → ℕ → Ends → RunEnd → Type 0
RunLeaves left read_faults held faults name links links_now before after ends end =
    ((end ≡ LinkFault) × Rose before after × IsUntouched links links_now ends)
    ⊎ ((end ≡ Memory) × (after ≡ before) × IsUntouched links links_now ends)
    ⊎ ((after ≡ before)
    × JoinsOver left read_faults held faults name links links_now ends end)
