-- What was gathered and what closing the hall left are links that were served.
use Rattle.std.proofs.Common.{◌≡◌, ℕ, ◌+◌, ◌-◌, ◌^◌, ◌<◌, ◌≤◌, Bool, true, false, List, []}
use Rattle.std.proofs.Common.{◌∷◌, length, map, Option, None, Some, unwrap_or, refl, sym, ap}
use Rattle.std.proofs.Common.{subst, ◌∙◌, ⊎_elim, inl, inr, true≢false, arith}
use Rattle.std.specs.Prelude.{if◌then◌else◌}
use Rattle.std.specs.List.{list_any}
use Rattle.std.proofs.lemmas.List.{length-map}
use Rattle.dp_hall.specs.declared.view.Entry.{Entry}
use Rattle.dp_hall.specs.declared.view.View.{View}
use Rattle.dp_hall.specs.Calls.{Closes}
use Rattle.dp_hall.specs.Logs.{left_by, entries_by, is_same_name}
use Rattle.dp_hall.specs.Names.{IsIn, AreDistinct, old_names}
use Rattle.dp_hall.proofs.ListLemmas.{same_self}
use Rattle.dp_crew.specs.declared.flags.Flags.{Flags}
use Rattle.dp_crew.specs.Runs.{Rules, GoesOn, acts_of, has_fault, most_links}
use Rattle.dp_crew.specs.Parts.{Sight, Part, Fits, IsPart, EachFrom, acts_by, names_of}
use Rattle.dp_crew.specs.Parts.{reports_of, ServesAll}
use Rattle.dp_crew.specs.Gathering.{HasJoined, IsJoined, IsFirst, Gathers}
use Rattle.dp_crew.proofs.WorkLemmas.{known-none}
use Rattle.dp_crew.proofs.PartLemmas.{fits-later}
use Rattle.dp_crew.proofs.GatherLemmas.{each-later}

-- ---- logs

module _ {E O M : Type 0} where
  left_out : (b : Bool) (act : Entry E O M) (log : List (Entry E O M))
      → (if b then act ∷ log else log) ≡ [] → (b ≡ false) × (log ≡ [])
  left_out true act log e = absurd (cc (e))
  left_out false act log e = (refl, e)

  -- if a log has no entries by a name, none of it is by that name
  by_nobody : (name : List ℕ) (log : List (Entry E O M)) (act : Entry E O M)
      → entries_by name log ≡ [] → IsIn act log → act.by ≡ name → ⊥
  by_nobody name [] act none h by = h
  by_nobody name (first ∷ log) act none (inl e) by =
      let out = left_out (is_same_name first.by name) first (entries_by name log) none in
      let same : first.by ≡ name = ap (λ (x : Entry E O M). x.by) (sym e) ∙ by in
      true≢false (sym (ap (λ n. is_same_name n name) same ∙ same_self name) ∙ out.0)
  by_nobody name (first ∷ log) act none (inr h) by =
      let out = left_out (is_same_name first.by name) first (entries_by name log) none in
      by_nobody name log act out.1 h by

  -- a name of a list of pairs has its pair there
  pair_of : (n : List ℕ) (olds : List (List ℕ × List (Entry E O M))) → IsIn n (old_names olds)
      → (o : List ℕ × List (Entry E O M)) × IsIn o olds × (n ≡ o.0)
  pair_of n [] h = absurd h
  pair_of n (o ∷ olds) (inl e) = (o, inl refl, e)
  pair_of n (o ∷ olds) (inr h) = let found = pair_of n olds h in (found.0, inr found.1, found.2)

-- ---- the links that were served

module _ {W P E O M R T : Type 0} (rules : Rules P E O M R T) (may : M → E → O → M → Type 0)
    (see : Sight W R T) (start last : M) (most : ℕ) (goes_on : GoesOn rules may)
    (begins : rules.begins start) where
  pub serves-all : (v : View E O M) (old new : List W) (reports : List P) (flags : Flags)
      → Gathers rules see start most v [] old new reports flags → Closes may start v last
      → ServesAll rules may see start last most old new reports flags
  serves-all v old new reports flags g c = record {
    log = log;
    legal = c.legal;
    left = c.left;
    parts = g.parts;
    before = g.before;
    after = g.after;
    each =
        each-later (IsJoined rules see start v most flags)
        (IsPart rules see (left_by start log) log most flags.memory flags.wire) 0 g.parts
        (λ who part h. (
          fits-later rules may see goes_on start v.seen log begins c.legal c.begins most
              flags.memory flags.wire flags.memory flags.wire who part (λ e. e) (λ e. e) h.0,
          logged part.name (acts_of part.runs) h.1,
        )) g.each;
    others = others;
    names = g.names;
    reports_are = g.reports_are;
    fault = g.fault;
    wire = g.wire;
  }
    where
      log : List (Entry E O M)
      log = c.log

      logged : (name : Option (List ℕ)) (acts : List (Entry E O M)) → HasJoined v name acts
          → acts_by name log ≡ acts
      logged None acts h = sym h
      logged (Some name) acts h = c.olds (name, acts) h

      others : (act : Entry E O M) → IsIn act log → IsIn act.by (names_of g.parts)
      others act h = by_old (c.all act h)
        where
          by_old : IsIn act.by ([] ∷ old_names v.olds) → IsIn act.by (names_of g.parts)
          by_old (inl e) = absurd (by_nobody [] log act (c.mine ∙ g.mine) h e)
          by_old (inr k) =
              let o = pair_of act.by v.olds k in
              ⊎_elim
              (λ (a : IsIn o.0.0 (names_of g.parts)).
              subst (λ n. IsIn n (names_of g.parts)) (sym o.2) a)
              (λ (none : o.0.1 ≡ []). absurd (by_nobody o.0.0 log act (c.olds o.0 o.1 ∙ none) h
              o.2)) (g.others o.0 o.1)

-- ---- if nothing ran

module _ {W P E O M R T : Type 0} (rules : Rules P E O M R T) (see : Sight W R T) (start : M)
    (most : ℕ) where
  -- the part of a worker that didn't begin
  abbrev idle_part : W → Part W P E O M R T
  idle_part wire = record { wire = wire; now = wire; name = None; runs = [] }

  abbrev pub idle_parts : List W → List (Part W P E O M R T)
  idle_parts wires = map idle_part wires

  idle_each : (X : ℕ → Part W P E O M R T → Type 0)
      → ((who : ℕ) (wire : W) → X who (idle_part wire)) → (who : ℕ) (wires : List W)
      → EachFrom X who (idle_parts wires)
  idle_each X one who [] = tt
  idle_each X one who (wire ∷ wires) = (one who wire, idle_each X one (who + 1) wires)

  idle_fits : (last : M) (memory failed : Bool) → memory ≡ true → (who : ℕ) (wire : W)
      → Fits rules see last most memory failed who (idle_part wire)
  idle_fits last memory failed up who wire = record {
    each = tt;
    numbers = refl;
    links = known-none P E O M (see.links wire);
    few = omega arith;
    all = inr (inl up);
    faults = inl refl;
    ran_out = λ e. up;
  }

  idle_before : (wires : List W) → map (λ part. part.wire) (idle_parts wires) ≡ wires
  idle_before [] = refl
  idle_before (wire ∷ wires) = ap (λ l. wire ∷ l) (idle_before wires)

  idle_after : (wires : List W) → map (λ part. part.now) (idle_parts wires) ≡ wires
  idle_after [] = refl
  idle_after (wire ∷ wires) = ap (λ l. wire ∷ l) (idle_after wires)

  idle_names : (wires : List W) → names_of (idle_parts wires) ≡ []
  idle_names [] = refl
  idle_names (wire ∷ wires) = idle_names wires

  idle_reports : (wires : List W) → reports_of (idle_parts wires) ≡ []
  idle_reports [] = refl
  idle_reports (wire ∷ wires) = idle_reports wires

  idle_fault : (wires : List W)
      → list_any (λ part. has_fault rules (acts_of part.runs)) (idle_parts wires) ≡ false
  idle_fault [] = refl
  idle_fault (wire ∷ wires) = idle_fault wires

  -- memory ran out before a worker began
  pub gathers-nothing : (v : View E O M) (wires : List W) (reports : List P) (flags : Flags)
      → IsFirst v → reports ≡ [] → flags.memory ≡ true → flags.fault ≡ false
      → flags.wire ≡ false → Gathers rules see start most v [] wires wires reports flags
  gathers-nothing v wires reports flags first none memory fault wire = record {
    parts = idle_parts wires;
    before = idle_before wires;
    after = idle_after wires;
    each =
        idle_each (IsJoined rules see start v most flags)
        (λ who one. (idle_fits (left_by start v.seen) flags.memory flags.wire memory who one, refl))
        0 wires;
    reports_are = none ∙ sym (idle_reports wires);
    few = omega (arith, ap length none);
    others = λ o h.
        absurd (subst (λ (x : List (List ℕ × List (Entry E O M))). IsIn o x) first.olds h);
    names = subst AreDistinct (sym (idle_names wires)) tt;
    name = first.name;
    mine = first.mine;
    back = first.back;
    fault = fault ∙ sym (idle_fault wires);
    wire = λ e. absurd (true≢false (sym e ∙ wire));
  }

  -- so nothing was acted
  pub serves-nothing : (may : M → E → O → M → Type 0) (wires : List W) (reports : List P)
      (flags : Flags) → reports ≡ [] → flags.memory ≡ true → flags.fault ≡ false
      → flags.wire ≡ false → ServesAll rules may see start start most wires wires reports flags
  serves-nothing may wires reports flags none memory fault wire = record {
    log = [];
    legal = tt;
    left = refl;
    parts = idle_parts wires;
    before = idle_before wires;
    after = idle_after wires;
    each =
        idle_each (IsPart rules see start [] most flags.memory flags.wire)
        (λ who one. (idle_fits start flags.memory flags.wire memory who one, refl)) 0 wires;
    others = λ act h. absurd h;
    names = subst AreDistinct (sym (idle_names wires)) tt;
    reports_are = none ∙ sym (idle_reports wires);
    fault = fault ∙ sym (idle_fault wires);
    wire = λ e. absurd (true≢false (sym e ∙ wire));
  }

-- ---- bounds

-- the links to be served are no more than there are numbers of links
pub most-small : (conns : Option ℕ) (most : ℕ) → most < 2 ^ 32
    → most ≡ unwrap_or conns (2 ^ 32 - 1) → most_links conns ≤ 2 ^ 32 - 1
most-small None most fits is = omega arith
most-small (Some conns) most fits is = omega (arith, fits, is)

-- the reports of at most 64 workers can be counted
pub reports-few : {W P E O M R T : Type 0} (rules : Rules P E O M R T) (see : Sight W R T)
    (start : M) (most : ℕ) (v : View E O M) (out : List (List ℕ)) (old new : List W)
    (reports : List P) (flags : Flags) → length old ≤ 64
    → Gathers rules see start most v out old new reports flags → length reports < 2 ^ 64
reports-few {W} {P} {E} {O} {M} {R} {T} rules see start most v out old new reports flags few g =
    let count = ap length g.before in
    let same = length-map g.parts (λ (p : Part W P E O M R T). p.wire) in
    omega (arith, few, g.few, count, same)
