-- The part of a worker: what its job adds if its seat is joined, and what stays of it.
use Rattle.std.proofs.Common.{◌≡◌, ◌⊎◌, ℕ, ◌≤◌, Bool, true, false, List, [], ◌∷◌, ◌++◌, length, map}
use Rattle.std.proofs.Common.{Option, None, Some, option_to_list, refl, sym, ap, subst, ◌∙◌, ⊎_elim}
use Rattle.std.proofs.Common.{inl, inr, arith}
use Rattle.std.specs.List.{AllByRecursion}
use mathlib.Core.List.{IsPrefix}
use Rattle.dp_wire.specs.Links.{WhereKnown}
use Rattle.dp_hall.specs.declared.view.Entry.{Entry}
use Rattle.dp_hall.specs.declared.view.View.{View}
use Rattle.dp_hall.specs.Calls.{HallValue, SeatValue, JoinsInto, SplitsInto}
use Rattle.dp_hall.specs.Laws.{AllBackBut}
use Rattle.dp_hall.specs.Logs.{IsLegal, left_by}
use Rattle.dp_hall.specs.Names.{IsIn, old_names}
use Rattle.dp_hall.proofs.LawLemmas.{back-given, back-join}
use Rattle.dp_hall.proofs.ListLemmas.{in_both, in_left, in_right, prefix_all}
use Rattle.dp_crew.specs.declared.flags.Flags.{Flags}
use Rattle.dp_crew.specs.declared.worked.Worked.{Worked}
use Rattle.dp_crew.specs.Runs.{Rules, GoesOn, LinkRun, WorksOn, HandsOver, NoneToCome, Works}
use Rattle.dp_crew.specs.Runs.{FaultMatchesWire, acts_of, has_fault}
use Rattle.dp_crew.specs.Parts.{Sight, Part, Fits, HasFailed}
use Rattle.dp_crew.specs.Jobs.{JobValue, MadeSeat, MadeJob, WorksOnSeat, RanJob}
use Rattle.dp_crew.specs.Gathering.{HasJoined, IsJoined, JoinsSeat}
use Rattle.dp_crew.proofs.WorkLemmas.{all-later, known-none}

-- the name of a job's seat, if it has one
abbrev pub seat_name : {E O M : Type 0} → Option (SeatValue E O M) → Option (List ℕ)
seat_name None = None
seat_name (Some seat) = Some seat.view.name

-- a flag that was raised, or was raised now
abbrev pub Stays : Bool → Bool → Type 0
Stays old new = old ≡ true → new ≡ true

-- ---- a longer log

module _ {W P E O M R T : Type 0} (rules : Rules P E O M R T) (may : M → E → O → M → Type 0)
    (see : Sight W R T) (goes_on : GoesOn rules may) (start : M)
    (log longer : List (Entry E O M)) (shut : rules.begins start) (legal : IsLegal may start longer)
    (begins : IsPrefix log longer) where
  pub runs-later : (who : ℕ) (runs : List (LinkRun P E O M R T))
      → AllByRecursion (rules.is_run (left_by start log) who) runs
      → AllByRecursion (rules.is_run (left_by start longer) who) runs
  runs-later who runs h =
      all-later (rules.is_run (left_by start log) who) (rules.is_run (left_by start longer) who)
      runs (λ run r. goes_on start log longer who run shut legal begins r) h

  -- what fits stays so, if the flags stay
  pub fits-later : (most : ℕ) (memory wire more fault : Bool) (who : ℕ) (part : Part W P E O M R T)
      → Stays memory more → Stays wire fault
      → Fits rules see (left_by start log) most memory wire who part
      → Fits rules see (left_by start longer) most more fault who part
  fits-later most memory wire more fault who part up failed h = record {
    each = runs-later who part.runs h.each;
    numbers = h.numbers;
    links = h.links;
    few = h.few;
    all = all h.all;
    faults = faults h.faults;
    ran_out = λ raised. up (h.ran_out raised);
  }
    where
      has : HasFailed see wire part → HasFailed see fault part
      has f = (f.0, failed f.1)

      all : {A : Type 0} → A ⊎ (memory ≡ true) ⊎ HasFailed see wire part
          → A ⊎ (more ≡ true) ⊎ HasFailed see fault part
      all (inl a) = inl a
      all (inr (inl m)) = inr (inl (up m))
      all (inr (inr f)) = inr (inr (has f))

      faults : {A : Type 0} → A ⊎ HasFailed see wire part → A ⊎ HasFailed see fault part
      faults (inl a) = inl a
      faults (inr f) = inr (has f)

-- the acts of a seat that was joined stay where they are
pub joined-later : {E O M : Type 0} (v w : View E O M) (name : Option (List ℕ)) (acts : List
    (Entry E O M))
    → ((o : List ℕ × List (Entry E O M)) → IsIn o v.olds → IsIn o w.olds)
    → HasJoined v name acts → HasJoined w name acts
joined-later v w None acts kept h = h
joined-later v w (Some name) acts kept h = kept (name, acts) h

-- ---- what a job adds

-- the job's seat was joined into a seat that was so before and is so now; others are out
pub record Adds {W P E O M R T : Type 0} (rules : Rules P E O M R T) (see : Sight W R T)
    (start : M) (most : ℕ) (v w : View E O M)
    (flags : Flags) (who : ℕ) (wire : W) (job : JobValue W P E O M) : Type 0 where
  pub part : Part W P E O M R T
  pub wire_is : part.wire ≡ wire
  pub now_is : part.now ≡ job.wire
  pub name_is : part.name ≡ seat_name job.seat
  pub joined : IsJoined rules see start w most flags who part
  pub reports : job.worked.reports.items ≡ map (λ run. run.report) part.runs
  pub few : length part.runs ≤ most
  pub fault : job.worked.fault ≡ has_fault rules (acts_of part.runs)
  pub failed : job.worked.wire ≡ true → HasFailed see flags.wire part
  pub name : w.name ≡ v.name
  pub mine : w.mine ≡ v.mine
  pub begins : IsPrefix v.seen w.seen
  pub kept : (o : List ℕ × List (Entry E O M)) → IsIn o v.olds → IsIn o w.olds
  pub others : (o : List ℕ × List (Entry E O M)) → IsIn o w.olds
      → IsIn o v.olds ⊎ IsIn o.0 (option_to_list part.name) ⊎ (o.1 ≡ [])
  pub apart : (n : List ℕ) → IsIn n (option_to_list part.name) → ¬ IsIn n (old_names v.olds)
  pub back : (out : List (List ℕ)) → AllBackBut (option_to_list part.name ++ out) v
      → AllBackBut out w

-- the names that a seat made and that acted nothing
idle : {E O M : Type 0} (o : List ℕ × List (Entry E O M)) (names : List (List ℕ)) → IsIn o (map
    (λ n. (n, [])) names)
    → o.1 ≡ []
idle o [] h = absurd h
idle o (n ∷ names) (inl e) = ap (λ p. p.1) e
idle o (n ∷ names) (inr h) = idle o names h

module _ {W P E O M R T : Type 0} (rules : Rules P E O M R T) (may : M → E → O → M → Type 0)
    (see : Sight W R T) (hall : HallValue M) (most : ℕ) (goes_on : GoesOn rules may)
    (v w : View E O M) (flags : Flags) (old new : JobValue W P E O M)
    (shut : rules.begins hall.start) (legal : IsLegal may hall.start w.seen)
    (memory : Stays new.worked.memory flags.memory)
    (wire : Stays new.worked.wire flags.wire) where
  -- a job without a seat
  adds-none : w ≡ v → new.seat ≡ None → new.wire ≡ old.wire → new.worked ≡ old.worked
      → old.worked.memory ≡ true → old.worked.reports.items ≡ [] → old.worked.fault ≡ false
      → old.worked.wire ≡ false → Adds rules see hall.start most v w flags old.who old.wire new
  adds-none is none same worked ran_out reports fault faults = record {
    part = part;
    wire_is = refl;
    now_is = refl;
    name_is = ap seat_name (sym none);
    joined = (fits, refl);
    reports = ap (λ (x : Worked P). x.reports.items) worked ∙ reports;
    few = omega arith;
    fault = ap (λ (x : Worked P). x.fault) worked ∙ fault;
    failed = λ e. absurd (no_fault (sym e ∙ ap (λ (x : Worked P). x.wire) worked ∙ faults));
    name = ap (λ (x : View E O M). x.name) is;
    mine = ap (λ (x : View E O M). x.mine) is;
    begins = subst (λ (x : View E O M). IsPrefix v.seen x.seen) (sym is) (prefix_all v.seen);
    kept = λ o h. subst (λ (x : View E O M). IsIn o x.olds) (sym is) h;
    others = λ o h. inl (subst (λ (x : View E O M). IsIn o x.olds) is h);
    apart = λ n h. absurd h;
    back = λ out h. subst (AllBackBut out) (sym is) h;
  }
    where
      part : Part W P E O M R T
      part = record { wire = old.wire; now = new.wire; name = None; runs = [] }

      no_fault : true ≡ false → ⊥
      no_fault e = cc (e)

      up : flags.memory ≡ true
      up = memory (ap (λ (x : Worked P). x.memory) worked ∙ ran_out)

      fits : Fits rules see (left_by hall.start w.seen) most flags.memory flags.wire old.who part
      fits = record {
        each = tt;
        numbers = refl;
        links =
            subst (λ x. WhereKnown (see.links old.wire) (HandsOver {P = P} {E = E} {O = O}
            {M = M} []) (see.links x)) (sym same)
            (known-none P E O M (see.links old.wire));
        few = omega arith;
        all = inr (inl up);
        faults = inl (ap see.faults same);
        ran_out = λ e. up;
      }

  -- a job whose worker worked on its seat
  module _ (u stays given after : View E O M) (cut : SplitsInto u stays given)
      (join : JoinsInto v after w)
      (works : Works rules hall.start old.who most given after (see.links old.wire)
      (see.links new.wire) (see.faults old.wire) (see.faults new.wire) new.worked) where
    abbrev work_part : Part W P E O M R T
    work_part = record {
      wire = old.wire;
      now = new.wire;
      name = Some after.name;
      runs = works.runs;
    }

    work_failed : new.worked.wire ≡ true → HasFailed see flags.wire work_part
    work_failed e = (
      subst (λ b. FaultMatchesWire b (see.faults old.wire) (see.faults new.wire)) e
          works.served.wire,
      wire e,
    )

    work_all : (fault want : Bool) → new.worked.wire ≡ fault → new.worked.memory ≡ want
        → ((length works.runs ≡ most) ⊎ NoneToCome (see.links old.wire) (see.links new.wire))
        ⊎ (flags.memory ≡ true) ⊎ HasFailed see flags.wire work_part
    work_all true want e m = inr (inr (work_failed e))
    work_all false true e m = inr (inl (memory m))
    work_all false false e m = inl (works.all e m)

    work_faults : (fault : Bool) → new.worked.wire ≡ fault
        → (see.faults new.wire ≡ see.faults old.wire) ⊎ HasFailed see flags.wire work_part
    work_faults true e = inr (work_failed e)
    work_faults false e =
        inl (subst (λ b. FaultMatchesWire b (see.faults old.wire) (see.faults new.wire)) e
        works.served.wire)

    work_fits : Fits rules see
        (left_by hall.start w.seen) most flags.memory flags.wire old.who work_part
    work_fits = record {
      each =
          runs-later rules may see goes_on hall.start after.seen w.seen shut legal join.second
          old.who works.runs
          works.served.each;
      numbers = works.served.numbers;
      links = works.served.links;
      few = works.few;
      all = work_all new.worked.wire new.worked.memory refl refl;
      faults = work_faults new.worked.wire refl;
      ran_out = λ e. memory (works.served.memory e);
    }

    abbrev goes : WorksOn given (acts_of works.runs) after
    goes = works.served.goes

    -- the seats that were joined into it, its own and those that it made
    all_olds : w.olds ≡ v.olds ++ (after.name, acts_of works.runs) ∷ map (λ n. (n, [])) goes.idle
    all_olds =
        join.olds
        ∙ ap (λ l. v.olds ++ (after.name, l) ∷ after.olds)
        (goes.mine ∙ ap (λ l. l ++ acts_of works.runs) cut.mine)
        ∙ ap (λ l. v.olds ++ (after.name, acts_of works.runs) ∷ l)
        (goes.olds ∙ ap (λ l. l ++ map (λ n. (n, [])) goes.idle) cut.olds)

    work_kept : (o : List ℕ × List (Entry E O M)) → IsIn o v.olds → IsIn o w.olds
    work_kept o h =
        subst (IsIn o) (sym all_olds) (in_left o v.olds ((after.name, acts_of works.runs)
        ∷ map (λ n. (n, [])) goes.idle) h)

    work_others : (o : List ℕ × List (Entry E O M)) → IsIn o w.olds
        → IsIn o v.olds ⊎ IsIn o.0 (after.name ∷ []) ⊎ (o.1 ≡ [])
    work_others o h =
        ⊎_elim (λ (a : IsIn o v.olds). inl a)
        (λ (b : IsIn o ((after.name, acts_of works.runs) ∷ map (λ n. (n, [])) goes.idle)).
        ⊎_elim (λ (e : o ≡ (after.name, acts_of works.runs)). inr (inl (inl (ap (λ p. p.0) e))))
        (λ (k : IsIn o (map (λ n. (n, [])) goes.idle)). inr (inr (idle o goes.idle k))) b)
        (in_both o v.olds ((after.name, acts_of works.runs) ∷ map (λ n. (n, [])) goes.idle)
        (subst (IsIn o) all_olds h))

    work_apart : (n : List ℕ) → IsIn n (after.name ∷ []) → ¬ IsIn n (old_names v.olds)
    work_apart n (inl e) = λ h. join.apart n (inr h) (inl e)
    work_apart n (inr h) = absurd h

    pub adds-some : seat_name new.seat ≡ Some after.name
        → Adds rules see hall.start most v w flags old.who old.wire new
    adds-some named = record {
      part = work_part;
      wire_is = refl;
      now_is = refl;
      name_is = sym named;
      joined = (
        work_fits,
        subst (IsIn (after.name, acts_of works.runs)) (sym all_olds)
            (in_right (after.name, acts_of works.runs) v.olds ((after.name, acts_of works.runs)
            ∷ map (λ n. (n, [])) goes.idle) (inl refl)),
      );
      reports = works.served.reports;
      few = works.few;
      fault = works.served.fault;
      failed = work_failed;
      name = join.name;
      mine = join.mine;
      begins = join.first;
      kept = work_kept;
      others = work_others;
      apart = work_apart;
      back = λ out h.
          back-join v after w out h (goes.back [] (back-given u stays given cut)) join;
    }

  -- by whether it has a seat
  pub adds : (u stays : View E O M) (wire_is : W) (who : ℕ) → MadeJob hall u stays wire_is who old
      → RanJob rules see hall most old new → JoinsSeat v new.seat w
      → Adds rules see hall.start most v w flags old.who old.wire new
  adds u stays wire_is who made ran joins =
      by_seat old.seat new.seat refl made.seat ran.works joins
    where
      by_seat : (before after : Option (SeatValue E O M)) → new.seat ≡ after
          → MadeSeat hall u stays before old.worked
          → WorksOnSeat rules see hall most old new before after → JoinsSeat v after w
          → Adds rules see hall.start most v w flags old.who old.wire new
      by_seat None None e m r j =
          adds-none j e r.1 r.2 m.1 made.reports made.fault made.wires
      by_seat None (Some after) e m r j = absurd (cc (r.0))
      by_seat (Some given) None e m r j = absurd r
      by_seat (Some given) (Some after) e m r j =
          adds-some u stays given.view after.view m.1 j r.1 (ap seat_name e)
