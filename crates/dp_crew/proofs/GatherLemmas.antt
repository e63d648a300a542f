-- What is gathered, one job after another.
use Rattle.std.proofs.Common.{◌≡◌, ◌⊎◌, ℕ, ◌+◌, ◌-◌, ◌*◌, ◌^◌, ◌≤◌, ◌||◌, Bool, true, false, List}
use Rattle.std.proofs.Common.{[], ◌∷◌, ◌++◌, length, map, reverse, Option, None, Some, flat_map}
use Rattle.std.proofs.Common.{option_to_list, refl, sym, ap, ap₂, subst, subst₂, ◌∙◌, ⊎_elim, inl}
use Rattle.std.proofs.Common.{inr, append-nil, append_assoc, length-append, arith}
use Rattle.std.proofs.Math.Bool.{or-false}
use Rattle.std.proofs.lemmas.Grind.{flat_map-append}
use Rattle.std.proofs.lemmas.List.{map-append, length-map, reverse-append}
use Rattle.std.proofs.lemmas.List.Folds.{list_any-append}
use Rattle.dp_hall.specs.declared.view.Entry.{Entry}
use Rattle.dp_hall.specs.declared.view.View.{View}
use Rattle.dp_hall.specs.Calls.{HallValue, SeatValue, SplitsInto}
use Rattle.dp_hall.specs.Laws.{AllBackBut}
use Rattle.dp_hall.specs.Logs.{IsLegal}
use Rattle.dp_hall.specs.Names.{IsIn, AreDistinct, old_names}
use Rattle.dp_hall.proofs.LawLemmas.{back-split}
use Rattle.dp_hall.proofs.ListLemmas.{in_both, in_left, in_map, in_right, distinct_both}
use Rattle.dp_crew.specs.declared.flags.Flags.{Flags}
use Rattle.dp_crew.specs.Runs.{Rules, GoesOn, acts_of, has_fault}
use Rattle.dp_crew.specs.Parts.{Sight, Part, EachFrom, HasFailed, names_of, reports_of}
use Rattle.dp_crew.specs.Jobs.{JobValue, MadeSeat, MadeJobs, RanJob, RanJobs, WorksOnSeat}
use Rattle.dp_crew.specs.Gathering.{HasJoined, IsJoined, IsFirst, JoinsSeat, Gathers}
use Rattle.dp_crew.proofs.Making.{ran-reverse}
use Rattle.dp_crew.proofs.PartLemmas.{seat_name, Stays, fits-later, joined-later, Adds, adds}

-- ---- parts

module _ {W P E O M R T : Type 0} where
  pub each-later : (X Y : ℕ → Part W P E O M R T → Type 0) (who : ℕ) (parts : List
      (Part W P E O M R T))
      → ((n : ℕ) (part : Part W P E O M R T) → X n part → Y n part)
      → EachFrom X who parts → EachFrom Y who parts
  each-later X Y who [] later h = tt
  each-later X Y who (part ∷ parts) later h =
      (later who part h.0, each-later X Y (who + 1) parts later h.1)

  each-more : (X : ℕ → Part W P E O M R T → Type 0) (who n : ℕ) (parts : List (Part W P E O M R T))
      (part : Part W P E O M R T) → EachFrom X who parts → n ≡ who + length parts → X n part
      → EachFrom X who (parts ++ part ∷ [])
  each-more X who n [] part h e last =
      let same : n ≡ who = omega (arith, e) in (subst (λ k. X k part) same last, tt)
  each-more X who n (first ∷ parts) part h e last =
      (h.0, each-more X (who + 1) n parts part h.1 (omega (arith, e)) last)

  names-more : (parts : List (Part W P E O M R T)) (part : Part W P E O M R T)
      → names_of (parts ++ part ∷ []) ≡ names_of parts ++ option_to_list part.name
  names-more parts part =
      flat_map-append (λ (p : Part W P E O M R T). option_to_list p.name) parts (part ∷ [])
      ∙ ap (λ l. names_of parts ++ l) (append-nil (option_to_list part.name))

  reports-more : (parts : List (Part W P E O M R T)) (part : Part W P E O M R T)
      → reports_of (parts ++ part ∷ [])
      ≡ reports_of parts ++ map (λ run. run.report) part.runs
  reports-more parts part =
      flat_map-append (λ (p : Part W P E O M R T). map (λ run. run.report) p.runs) parts (part ∷ [])
      ∙ ap (λ l. reports_of parts ++ l) (append-nil (map (λ run. run.report) part.runs))

  -- the names of parts that were joined are names of seats that were joined
  named : (rules : Rules P E O M R T) (see : Sight W R T) (start : M) (v : View E O M) (most : ℕ)
      (flags : Flags) (who : ℕ)
      (parts : List (Part W P E O M R T)) (n : List ℕ)
      → EachFrom (IsJoined rules see start v most flags) who parts
      → IsIn n (names_of parts) → IsIn n (old_names v.olds)
  named rules see start v most flags who [] n h inside = absurd inside
  named rules see start v most flags who (part ∷ parts) n h inside =
      ⊎_elim (λ (a : IsIn n (option_to_list part.name)). own part.name h.0.1 a)
      (λ (b : IsIn n (names_of parts)). named rules see start v most flags (who + 1) parts n h.1 b)
      (in_both n (option_to_list part.name) (names_of parts) inside)
    where
      own : (name : Option (List ℕ)) → HasJoined v name (acts_of part.runs)
          → IsIn n (option_to_list name) → IsIn n (old_names v.olds)
      own None joined a = absurd a
      own (Some name) joined (inl e) =
          subst (λ x. IsIn x (old_names v.olds)) (sym e)
          (in_map (λ (o : List ℕ × List (Entry E O M)). o.0)
          (name, acts_of part.runs) v.olds joined)
      own (Some name) joined (inr a) = absurd a

one_name : (name : Option (List ℕ)) → AreDistinct (option_to_list name)
one_name None = tt
one_name (Some name) = ((λ h. h), tt)

-- ---- one job more

or-first : (a b : Bool) → Stays a (a || b)
or-first true b e = refl
or-first false b e = absurd (cc (e))

or-second : (a b : Bool) → Stays b (a || b)
or-second true b e = refl
or-second false b e = e

module _ {W P E O M R T : Type 0} (rules : Rules P E O M R T) (may : M → E → O → M → Type 0)
    (see : Sight W R T) (start : M) (most : ℕ) (goes_on : GoesOn rules may)
    (v w : View E O M) (shut : rules.begins start) (legal : IsLegal may start w.seen)
    (small : most ≤ 2 ^ 32 - 1) (old new : Flags) (job : JobValue W P E O M)
    (memory : new.memory ≡ old.memory || job.worked.memory)
    (fault : new.fault ≡ old.fault || job.worked.fault)
    (wire : new.wire ≡ old.wire || job.worked.wire) where
  pub gathers-more : (out : List (List ℕ)) (done wires : List W) (reports : List P)
      (who : ℕ) (made : W)
      → Gathers rules see start most v (option_to_list
      (seat_name job.seat) ++ out) done wires reports old
      → who ≡ length done → Adds rules see start most v w new who made job
      → Gathers rules see start most w out (done ++ made ∷ []) (wires ++ job.wire ∷ [])
      (reports ++ job.worked.reports.items) new
  gathers-more out done wires reports who made g count a = record {
    parts = g.parts ++ a.part ∷ [];
    before =
        map-append (λ (p : Part W P E O M R T). p.wire) g.parts (a.part ∷ [])
        ∙ ap₂ (λ l x. l ++ x ∷ []) g.before a.wire_is;
    after =
        map-append (λ (p : Part W P E O M R T). p.now) g.parts (a.part ∷ [])
        ∙ ap₂ (λ l x. l ++ x ∷ []) g.after a.now_is;
    each = each;
    reports_are =
        ap₂ (λ l m. l ++ m) g.reports_are a.reports ∙ sym (reports-more g.parts a.part);
    few = few;
    others = λ o h. subst (λ l. IsIn o.0 l ⊎ (o.1 ≡ [])) (sym (names-more g.parts a.part))
        (others o h);
    names =
        subst AreDistinct (sym (names-more g.parts a.part))
        (distinct_both (names_of g.parts) (option_to_list a.part.name) g.names
        (one_name a.part.name)
        (λ n x y. a.apart n y (named rules see start v most old 0 g.parts n g.each x)));
    name = a.name ∙ g.name;
    mine = a.mine ∙ g.mine;
    back =
        a.back out (subst (λ o. AllBackBut (option_to_list o ++ out) v) (sym a.name_is) g.back);
    fault =
        fault
        ∙ ap₂ (λ x y. x || y) g.fault (a.fault ∙ sym (or-false (faulty a.part)))
        ∙ sym (list_any-append faulty g.parts (a.part ∷ []));
    wire = λ e. wire_cause old.wire refl (sym wire ∙ e);
  }
    where
      faulty : Part W P E O M R T → Bool
      faulty part = has_fault rules (acts_of part.runs)

      up : Stays old.memory new.memory
      up e = memory ∙ or-first old.memory job.worked.memory e

      failed : Stays old.wire new.wire
      failed e = wire ∙ or-first old.wire job.worked.wire e

      place : who ≡ 0 + length g.parts
      place =
          let n = ap length g.before in
          omega (arith, count, n, length-map g.parts (λ (p : Part W P E O M R T). p.wire))

      each : EachFrom (IsJoined rules see start w most new) 0 (g.parts ++ a.part ∷ [])
      each =
          each-more (IsJoined rules see start w most new) 0 who g.parts a.part
          (each-later (IsJoined rules see start v most old)
          (IsJoined rules see start w most new) 0 g.parts
          (λ n part h. (
            fits-later rules may see goes_on start v.seen w.seen shut legal a.begins most
                old.memory old.wire
                new.memory new.wire n part up failed h.0,
            joined-later v w part.name (acts_of part.runs) a.kept h.1,
          )) g.each) place a.joined

      few : length (reports ++ job.worked.reports.items)
          ≤ length (g.parts ++ a.part ∷ []) * (2 ^ 32 - 1)
      few =
          let own = ap length a.reports in
          omega (
            arith,
            small,
            g.few,
            a.few,
            own,
            length-append reports job.worked.reports.items,
            length-append g.parts (a.part ∷ []),
            length-map a.part.runs (λ run. run.report),
          )

      others : (o : List ℕ × List (Entry E O M)) → IsIn o w.olds
          → IsIn o.0 (names_of g.parts ++ option_to_list a.part.name) ⊎ (o.1 ≡ [])
      others o h = new_one (a.others o h)
        where
          earlier : IsIn o.0 (names_of g.parts) ⊎ (o.1 ≡ [])
              → IsIn o.0 (names_of g.parts ++ option_to_list a.part.name) ⊎ (o.1 ≡ [])
          earlier (inl x) = inl (in_left o.0 (names_of g.parts) (option_to_list a.part.name) x)
          earlier (inr e) = inr e

          new_one : IsIn o v.olds ⊎ IsIn o.0 (option_to_list a.part.name) ⊎ (o.1 ≡ [])
              → IsIn o.0 (names_of g.parts ++ option_to_list a.part.name) ⊎ (o.1 ≡ [])
          new_one (inl x) = earlier (g.others o x)
          new_one (inr (inl x)) =
              inl (in_right o.0 (names_of g.parts) (option_to_list a.part.name) x)
          new_one (inr (inr e)) = inr e

      wire_cause : (b : Bool) → old.wire ≡ b → old.wire || job.worked.wire ≡ true
          → (part : Part W P E O M R T) × IsIn part
          (g.parts ++ a.part ∷ []) × HasFailed see new.wire part
      wire_cause true before e =
          let h = g.wire before in
          (h.0, in_left h.0 g.parts (a.part ∷ []) h.1, (h.2.0, failed before))
      wire_cause false before e =
          let now : job.worked.wire ≡ true = sym (ap (λ x. x || job.worked.wire) before) ∙ e in
          (a.part, in_right a.part g.parts (a.part ∷ []) (inl refl), a.failed now)

-- ---- all jobs

-- the names of the seats of jobs
abbrev pub seat_names : {W P E O M : Type 0} → List (JobValue W P E O M) → List (List ℕ)
seat_names jobs = flat_map (λ job. option_to_list (seat_name job.seat)) jobs

module _ {E O M : Type 0} where
  -- What making jobs leaves of the seat from which the others are split. Those of these names are
  -- out.
  record Leaves (v w : View E O M) (out : List (List ℕ)) : Type 0 where
    pub name : w.name ≡ v.name
    pub mine : w.mine ≡ v.mine
    pub olds : w.olds ≡ v.olds
    pub back : AllBackBut out w

  same-leaves : (v u w : View E O M) (out : List (List ℕ)) → w ≡ u → Leaves v u out
      → Leaves v w out
  same-leaves v u w out is h = subst (λ (x : View E O M). Leaves v x out) (sym is) h

  split-leaves : (v u w given : View E O M) (out : List (List ℕ)) → SplitsInto u w given
      → Leaves v u out → Leaves v w (given.name ∷ out)
  split-leaves v u w given out cut h = record {
    name = ap (λ (x : View E O M). x.name) cut.stays_is ∙ h.name;
    mine = ap (λ (x : View E O M). x.mine) cut.stays_is ∙ h.mine;
    olds = ap (λ (x : View E O M). x.olds) cut.stays_is ∙ h.olds;
    back = back-split u w given out h.back cut;
  }

module _ {W P E O M : Type 0} where
  leaves : (hall : HallValue M) (v w : View E O M) (who : ℕ) (wires : List W)
      (jobs : List (JobValue W P E O M)) → MadeJobs hall v w who wires jobs → AllBackBut [] v
      → Leaves v w (seat_names jobs)
  leaves hall v w who [] [] h back =
      same-leaves v v w [] h (record { name = refl; mine = refl; olds = refl; back = back })
  leaves hall v w who [] (job ∷ jobs) h back = absurd h
  leaves hall v w who (wire ∷ wires) [] h back = absurd h
  leaves hall v w who (wire ∷ wires) (job ∷ jobs) h back =
      one_more job.seat h.2.seat (leaves hall v h.0 (who + 1) wires jobs h.1 back)
    where
      one_more : (seat : Option (SeatValue E O M)) → MadeSeat hall h.0 w seat job.worked
          → Leaves v h.0 (seat_names jobs)
          → Leaves v w (option_to_list (seat_name seat) ++ seat_names jobs)
      one_more None m l = same-leaves v h.0 w (seat_names jobs) m.0 l
      one_more (Some seat) m l = split-leaves v h.0 w seat.view (seat_names jobs) m.1 l

module _ {W P E O M R T : Type 0} (rules : Rules P E O M R T) (see : Sight W R T)
    (hall : HallValue M) (most : ℕ) where
  -- a worker's seat keeps its name
  ran-name : (old new : JobValue W P E O M) → RanJob rules see hall most old new
      → seat_name old.seat ≡ seat_name new.seat
  ran-name old new h = by_seat old.seat new.seat h.works
    where
      by_seat : (before after : Option (SeatValue E O M))
          → WorksOnSeat rules see hall most old new before after
          → seat_name before ≡ seat_name after
      by_seat None after r = ap seat_name (sym r.0)
      by_seat (Some given) None r = absurd r
      by_seat (Some given) (Some after) r = ap (λ n. Some n) (sym r.1.served.goes.name)

  ran-names : (olds news : List (JobValue W P E O M)) → RanJobs rules see hall most olds news
      → seat_names olds ≡ seat_names news
  ran-names [] [] h = refl
  ran-names [] (new ∷ news) h = absurd h
  ran-names (old ∷ olds) [] h = absurd h
  ran-names (old ∷ olds) (new ∷ news) h =
      ap₂ (λ name l. option_to_list name ++ l) (ran-name old new h.0) (ran-names olds news h.1)

  -- the jobs but these were taken in, by the seat that was so at first and is so now
  pub record GatheredSoFar (v w : View E O M) (olds : List W) (jobs : List (JobValue W P E O M))
      (wires : List W) (reports : List P) (flags : Flags) : Type 0 where
    pub done : List W
    pub rest : List W
    pub made : List (JobValue W P E O M)
    pub view : View E O M
    pub are : olds ≡ done ++ rest
    pub were_made : MadeJobs hall v view (length done) rest made
    pub ran : RanJobs rules see hall most made (reverse jobs)
    pub gathers :
        Gathers rules see hall.start most w (seat_names (reverse jobs)) done wires reports flags

  -- none was taken in yet
  pub gathered-none : (v w : View E O M) (olds : List W) (made jobs : List (JobValue W P E O M))
      (wires : List W) (reports : List P) (flags : Flags) → IsFirst v
      → MadeJobs hall v w 0 olds (reverse made) → RanJobs rules see hall most made jobs → wires ≡ []
      → reports ≡ [] → flags.fault ≡ false → flags.wire ≡ false
      → GatheredSoFar v w olds jobs wires reports flags
  gathered-none v w olds made jobs wires reports flags first were_made ran no_wires no_reports fault
      wire =
      let l = leaves hall v w 0 olds (reverse made) were_made first.back in
      let back = ran-reverse rules see hall most made jobs ran in
      record {
        done = [];
        rest = olds;
        made = reverse made;
        view = w;
        are = refl;
        were_made = were_made;
        ran = back;
        gathers = record {
          parts = [];
          before = refl;
          after = sym no_wires;
          each = tt;
          reports_are = no_reports;
          few = omega (arith, ap length no_reports);
          others = λ o h.
              absurd (subst (λ (x : List (List ℕ × List (Entry E O M))). IsIn o x)
              (l.olds ∙ first.olds)
              h);
          names = tt;
          name = l.name ∙ first.name;
          mine = l.mine ∙ first.mine;
          back =
              subst (λ out. AllBackBut out w) (ran-names (reverse made) (reverse jobs) back) l.back;
          fault = fault;
          wire = λ e. absurd (no_fault (sym e ∙ wire));
        };
      }
    where
      no_fault : true ≡ false → ⊥
      no_fault e = cc (e)

  -- one more was taken in
  pub gathered-more : (may : M → E → O → M → Type 0) → GoesOn rules may → (v u w : View E O M)
      (olds : List W)
      (before jobs : List (JobValue W P E O M)) (job : JobValue W P E O M)
      (wires more_wires : List W)
      (reports more_reports : List P) (old new : Flags)
      → rules.begins hall.start → IsLegal may hall.start w.seen → most ≤ 2 ^ 32 - 1
      → new ≡ record {
        memory = old.memory || job.worked.memory;
        fault = old.fault || job.worked.fault;
        wire = old.wire || job.worked.wire;
      } → JoinsSeat u job.seat w → before ≡ jobs ++ job ∷ []
      → more_wires ≡ wires ++ job.wire ∷ []
      → more_reports ≡ reports ++ job.worked.reports.items
      → GatheredSoFar v u olds before wires reports old
      → GatheredSoFar v w olds jobs more_wires more_reports new
  gathered-more may goes_on v u w olds before jobs job wires more_wires reports more_reports old
      new shut
      legal small flags_are joins is wires_are reports_are h =
      subst₂ (λ x y. GatheredSoFar v w olds jobs x y new) (sym wires_are) (sym reports_are)
      (next h.rest h.made h.are h.were_made ran gathers)
    where
      memory : new.memory ≡ old.memory || job.worked.memory
      memory = ap (λ (f : Flags). f.memory) flags_are

      fault : new.fault ≡ old.fault || job.worked.fault
      fault = ap (λ (f : Flags). f.fault) flags_are

      wire : new.wire ≡ old.wire || job.worked.wire
      wire = ap (λ (f : Flags). f.wire) flags_are

      prefix : reverse before ≡ job ∷ reverse jobs
      prefix = ap reverse is ∙ reverse-append jobs (job ∷ [])

      ran : RanJobs rules see hall most h.made (job ∷ reverse jobs)
      ran = subst (RanJobs rules see hall most h.made) prefix h.ran

      gathers : Gathers rules see hall.start most u (option_to_list (seat_name job.seat)
          ++ seat_names (reverse jobs)) h.done wires reports old
      gathers =
          subst (λ l. Gathers rules see hall.start most u
          (seat_names l) h.done wires reports old) prefix
          h.gathers

      up : Stays job.worked.memory new.memory
      up e = memory ∙ or-second old.memory job.worked.memory e

      failed : Stays job.worked.wire new.wire
      failed e = wire ∙ or-second old.wire job.worked.wire e

      next : (rest : List W) (made : List (JobValue W P E O M)) → olds ≡ h.done ++ rest
          → MadeJobs hall v h.view (length h.done) rest made
          → RanJobs rules see hall most made (job ∷ reverse jobs)
          → Gathers rules see hall.start most u (option_to_list (seat_name job.seat)
          ++ seat_names (reverse jobs)) h.done wires reports old
          → GatheredSoFar v w olds jobs (wires ++ job.wire ∷ [])
          (reports ++ job.worked.reports.items) new
      next [] [] are m r g = absurd r
      next [] (one ∷ made) are m r g = absurd m
      next (first ∷ rest) [] are m r g = absurd m
      next (first ∷ rest) (one ∷ made) are m r g = record {
        done = h.done ++ first ∷ [];
        rest = rest;
        made = made;
        view = m.0;
        are = are ∙ sym (append_assoc h.done (first ∷ []) rest);
        were_made =
            subst (λ n. MadeJobs hall v m.0 n rest made)
            (sym (length-append h.done (first ∷ []))) m.1;
        ran = r.1;
        gathers =
            subst (λ x. Gathers rules see hall.start most w (seat_names (reverse jobs))
            (h.done ++ x ∷ []) (wires ++ job.wire ∷ []) (reports ++ job.worked.reports.items) new)
            m.2.wire_is
            (gathers-more rules may see hall.start most goes_on u w shut legal small old new job
            memory fault
            wire (seat_names (reverse jobs)) h.done wires reports one.who one.wire g m.2.who_is
            (adds rules may see hall most goes_on u w new one job shut legal up failed m.0 h.view
            first
            (length h.done) m.2 r.0 joins));
      }

  -- all were
  pub gathered-all : (v w : View E O M) (olds : List W) (jobs : List (JobValue W P E O M))
      (wires : List W) (reports : List P) (flags : Flags) → jobs ≡ []
      → GatheredSoFar v w olds jobs wires reports flags
      → Gathers rules see hall.start most w [] olds wires reports flags
  gathered-all v w olds jobs wires reports flags none h =
      all h.rest h.made h.are h.were_made
      (subst (RanJobs rules see hall most h.made) (ap reverse none) h.ran)
    where
      gathers : Gathers rules see hall.start most w [] h.done wires reports flags
      gathers =
          subst (λ l. Gathers rules see hall.start most w (seat_names
          (reverse l)) h.done wires reports
          flags) none h.gathers

      all : (rest : List W) (made : List (JobValue W P E O M)) → olds ≡ h.done ++ rest
          → MadeJobs hall v h.view (length h.done) rest made → RanJobs rules see hall most made []
          → Gathers rules see hall.start most w [] olds wires reports flags
      all [] made are m r =
          subst (λ l. Gathers rules see hall.start most w [] l wires reports flags)
          (sym (are ∙ append-nil h.done)) gathers
      all (first ∷ rest) [] are m r = absurd m
      all (first ∷ rest) (one ∷ made) are m r = absurd r
