-- A worker serves one link more.
use Rattle.std.proofs.Common.{◌≡◌, ℕ, suc, zero, ◌+◌, ◌||◌, Bool, true, false, List, []}
use Rattle.std.proofs.Common.{◌∷◌, ◌++◌, map, length, Option, None, Some, refl, sym, ap}
use Rattle.std.proofs.Common.{subst, ◌∙◌, append-nil, append_assoc, arith}
use Rattle.std.specs.List.{AllByRecursion, list_any, range_with_len}
use Rattle.std.proofs.Math.Bool.{or-false}
use Rattle.std.proofs.lemmas.Grind.{flat_map-append}
use Rattle.std.proofs.lemmas.List.{map-append}
use Rattle.std.proofs.lemmas.List.Folds.{list_any-append}
use Rattle.dp_hall.specs.declared.view.Entry.{Entry}
use Rattle.dp_hall.specs.declared.view.View.{View}
use Rattle.dp_hall.specs.Logs.{IsLegal, left_by}
use Rattle.dp_wire.specs.Links.{Links, HandsOut, WhereKnown}
use Rattle.dp_crew.specs.declared.service.Served.{Served}
use Rattle.dp_crew.specs.declared.worked.Worked.{Worked}
use Rattle.dp_crew.specs.Runs.{Rules, GoesOn, has_fault, LinkRun, acts_of, HandsOver, WorksOn}
use Rattle.dp_crew.specs.Runs.{ServesLink, HasServed, ServedSoFar, ServesNext, FaultMatchesWire}
use Rattle.dp_crew.specs.Runs.{NoneToCome}
use Rattle.dp_crew.proofs.SeatLemmas.{works-both}

-- ---- lists

range-more : (a n j : ℕ) → a + n ≡ j → range_with_len a (suc n) ≡ range_with_len a n ++ j ∷ []
range-more a zero j e =
    let same : a ≡ j = omega (arith, e) in ap (λ k. k ∷ []) same
range-more a (suc n) j e =
    ap (λ l. a ∷ l) (range-more (a + 1) n j (omega (arith, e)))

pub all-later : {X : Type 0} (P Q : X → Type 0) (xs : List X) → ((x : X) → P x → Q x)
    → AllByRecursion P xs → AllByRecursion Q xs
all-later P Q [] later h = tt
all-later P Q (x ∷ xs) later h = (later x h.0, all-later P Q xs later h.1)

all-more : {X : Type 0} (P : X → Type 0) (xs : List X) (y : X) → AllByRecursion P xs → P y
    → AllByRecursion P (xs ++ y ∷ [])
all-more P [] y h last = (last, tt)
all-more P (x ∷ xs) y h last = (h.0, all-more P xs y h.1 last)

module _ {R T : Type 0} where
  known-stays : (a b : Option (Links R T))
      → WhereKnown a (λ x y. (x.to_come ≡ []) × (y ≡ x)) b → WhereKnown a (λ x y. y ≡ x) b
  known-stays None b h = tt
  known-stays (Some a) None h = absurd h
  known-stays (Some a) (Some b) h = h.1

module _ {P E O M R T : Type 0} where
  acts-more : (runs : List (LinkRun P E O M R T)) (run : LinkRun P E O M R T)
      → acts_of (runs ++ run ∷ []) ≡ acts_of runs ++ run.acts
  acts-more runs run =
      flat_map-append (λ (r : LinkRun P E O M R T). r.acts) runs (run ∷ [])
      ∙ ap (λ l. acts_of runs ++ l) (append-nil run.acts)

  -- the links of a wire after one more was handed out and handed back
  hands-more : (runs : List (LinkRun P E O M R T)) (run : LinkRun P E O M R T) (a b c d : Links R T)
      → HandsOver runs a b → HandsOut b run.given c
      → d ≡ record c { back = c.back ++ run.back ∷ [] } → HandsOver (runs ++ run ∷ []) a d
  hands-more runs run a b c d h out is = record {
    came =
        h.came
        ∙ ap (λ l. map (λ (r : LinkRun P E O M R T). r.given) runs ++ l) out.next
        ∙ sym (append_assoc (map (λ (r : LinkRun P E O M R T). r.given) runs)
        (run.given ∷ []) c.to_come)
        ∙ ap (λ l. l ++ c.to_come)
        (sym (map-append (λ (r : LinkRun P E O M R T). r.given) runs (run ∷ [])))
        ∙ ap (λ (l : Links R T). map (λ (r : LinkRun P E O M R T). r.given) (runs ++ run ∷ [])
        ++ l.to_come) (sym is);
    given =
        ap (λ (l : Links R T). l.given) is
        ∙ out.given
        ∙ ap (λ l. l ++ run.given ∷ []) h.given
        ∙ append_assoc a.given (map (λ (r : LinkRun P E O M R T). r.given) runs) (run.given ∷ [])
        ∙ ap (λ l. a.given ++ l)
        (sym (map-append (λ (r : LinkRun P E O M R T). r.given) runs (run ∷ [])));
    back =
        ap (λ (l : Links R T). l.back) is
        ∙ ap (λ l. l ++ run.back ∷ []) (out.back ∙ h.back)
        ∙ append_assoc a.back (map (λ (r : LinkRun P E O M R T). r.back) runs) (run.back ∷ [])
        ∙ ap (λ l. a.back ++ l)
        (sym (map-append (λ (r : LinkRun P E O M R T). r.back) runs (run ∷ [])));
  }

  known-more : (runs : List (LinkRun P E O M R T)) (run : LinkRun P E O M R T) (a b c d : Option
      (Links R T))
      → WhereKnown a (HandsOver runs) b → WhereKnown b (λ x y. HandsOut x run.given y) c
      → WhereKnown c (λ x y. y ≡ record x { back = x.back ++ run.back ∷ [] }) d
      → WhereKnown a (HandsOver (runs ++ run ∷ [])) d
  known-more runs run None b c d h out is = tt
  known-more runs run (Some a) None c d h out is = absurd h
  known-more runs run (Some a) (Some b) None d h out is = absurd out
  known-more runs run (Some a) (Some b) (Some c) None h out is = absurd is
  known-more runs run (Some a) (Some b) (Some c) (Some d) h out is =
      hands-more runs run a b c d h out is

  known-same : (runs : List (LinkRun P E O M R T)) (a b c : Option (Links R T))
      → WhereKnown a (HandsOver runs) b → WhereKnown b (λ x y. y ≡ x) c
      → WhereKnown a (HandsOver runs) c
  known-same runs None b c h is = tt
  known-same runs (Some a) None c h is = absurd h
  known-same runs (Some a) (Some b) None h is = absurd is
  known-same runs (Some a) (Some b) (Some c) h is = subst (HandsOver runs a) (sym is) h

  none-left : (runs : List (LinkRun P E O M R T)) (a b c : Option (Links R T))
      → WhereKnown a (HandsOver runs) b → WhereKnown b (λ x y. (x.to_come ≡ []) × (y ≡ x)) c
      → NoneToCome a c
  none-left runs None b c h none = tt
  none-left runs (Some a) None c h none = absurd h
  none-left runs (Some a) (Some b) None h none = absurd none
  none-left runs (Some a) (Some b) (Some c) h none =
      ap (λ (l : Links R T). l.to_come) none.1 ∙ none.0

-- no link was handed out
hands-none : (P E O M : Type 0) {R T : Type 0} (a : Links R T)
    → HandsOver {P = P} {E = E} {O = O} {M = M} [] a a
hands-none P E O M a = record {
  came = refl;
  given = sym (append-nil a.given);
  back = sym (append-nil a.back);
}

pub known-none : (P E O M : Type 0) {R T : Type 0} (a : Option (Links R T))
    → WhereKnown a (HandsOver {P = P} {E = E} {O = O} {M = M} []) a
known-none P E O M None = tt
known-none P E O M (Some a) = hands-none P E O M a

-- ---- flags

or-later : (a b c d : Bool) → (a ≡ true → c ≡ true) → b ≡ d → a || b ≡ true → c || d ≡ true
or-later true b c d first same h = ap (λ x. x || d) (first refl)
or-later false b true d first same h = refl
or-later false b false d first same h = sym same ∙ h

-- ---- the run

module _ {P E O M R T : Type 0} (rules : Rules P E O M R T) (may : M → E → O → M → Type 0)
    (start : M) (who : ℕ) where
  -- nothing was served yet
  pub served-none : (v : View E O M) (links : Option (Links R T)) (count : ℕ) (worked : Worked P)
      → WorksOn v [] v → worked.reports.items ≡ []
      → worked.memory ≡ false → worked.fault ≡ false → worked.wire ≡ false
      → ServedSoFar rules start who 0 v v links links count count worked
  served-none v links count worked goes reports memory fault wire = record {
    runs = [];
    served = record {
      reports = reports;
      numbers = refl;
      each = tt;
      goes = goes;
      links = known-none P E O M links;
      memory = λ h. cc (h);
      fault = fault;
      wire = subst (λ b. FaultMatchesWire b count count) (sym wire) refl;
    };
    count = refl;
    going = wire;
  }

  -- one link more was served
  pub served-more : GoesOn rules may → (n : ℕ) (v u w : View E O M)
      (a b c d : Option (Links R T)) (count before now : ℕ) (old new : Worked P)
      (given : R × T) (end : Served R T P)
      → rules.begins start → IsLegal may start w.seen
      → ServedSoFar rules start who n v u a b count before old
      → WhereKnown b (λ x y. HandsOut x given y) c
      → WhereKnown c (λ x y. y ≡ record x { back = x.back ++ (end.rx, end.tx) ∷ [] }) d
      → now ≡ before
      → ServesLink rules (left_by start w.seen) who n u w given end
      → new.reports.items ≡ old.reports.items ++ end.report ∷ []
      → new.memory ≡ old.memory || end.memory → new.fault ≡ old.fault || end.fault
      → new.wire ≡ old.wire
      → ServedSoFar rules start who (n + 1) v w a d count now new
  served-more goes_on n v u w a b c d count before now old new given end begins legal far out is
      same s reports memory fault wire =
      let run : LinkRun P E O M R T = record {
        report = end.report;
        acts = s.acts;
        given = given;
        back = (end.rx, end.tx);
      } in
      let h = far.served in
      let each = all-later (rules.is_run (left_by start u.seen) who)
      (rules.is_run (left_by start w.seen) who) far.runs
      (λ r k. goes_on start u.seen w.seen who r begins legal s.goes.seen k) h.each in
      record {
        runs = far.runs ++ run ∷ [];
        served = record {
          reports =
              reports
              ∙ ap (λ l. l ++ end.report ∷ []) h.reports
              ∙ sym (map-append (λ (r : LinkRun P E O M R T). r.report) far.runs (run ∷ []));
          numbers =
              map-append (λ (r : LinkRun P E O M R T). rules.number r.report) far.runs (run ∷ [])
              ∙ ap (λ k. map (λ (r : LinkRun P E O M R T). rules.number r.report) far.runs
              ++ k ∷ []) s.number
              ∙ ap (λ l. l ++ n ∷ []) h.numbers
              ∙ sym (range-more 0 (length far.runs) n (omega (arith, far.count)))
              ∙ ap (λ k. range_with_len 0 k) (sym (length-more far.runs run));
          each =
              all-more (rules.is_run (left_by start w.seen) who) far.runs run each s.run;
          goes =
              subst (λ l. WorksOn v l w) (sym (acts-more far.runs run))
              (works-both v u w (acts_of far.runs) s.acts h.goes s.goes);
          links = known-more far.runs run a b c d h.links out is;
          memory = λ raised.
              memory ∙ or-later (list_any rules.ran_out far.runs) (rules.ran_out run) old.memory
              end.memory h.memory (sym s.memory)
              (sym (list_any-append rules.ran_out far.runs (run ∷ [])
              ∙ ap (λ x. list_any rules.ran_out far.runs || x) (or-false (rules.ran_out run)))
              ∙ raised);
          fault =
              fault
              ∙ ap (λ x. x || end.fault) h.fault
              ∙ ap (λ x. has_fault rules (acts_of far.runs) || x) s.fault
              ∙ sym (list_any-append (λ (x : Entry E O M). rules.is_fault x.outcome)
              (acts_of far.runs) s.acts)
              ∙ ap (has_fault rules) (sym (acts-more far.runs run));
          wire =
              subst (λ x. FaultMatchesWire x count now) (sym (wire ∙ far.going))
              (same ∙ subst (λ x. FaultMatchesWire x count before) far.going h.wire);
        };
        count = length-more far.runs run ∙ next far.count;
        going = wire ∙ far.going;
      }
    where
      length-more : (xs : List (LinkRun P E O M R T)) (x : LinkRun P E O M R T)
          → length (xs ++ x ∷ []) ≡ suc (length xs)
      length-more [] x = refl
      length-more (y ∷ xs) x = ap suc (length-more xs x)

      next : {m k : ℕ} → m ≡ k → suc m ≡ k + 1
      next e = omega (arith, e)

  -- the seat stays, and what was noted stays but for flags that are raised
  pub served-end : (v w : View E O M) (a b c : Option (Links R T)) (count before now : ℕ)
      (old new : Worked P) (runs : List (LinkRun P E O M R T))
      → HasServed rules start who v w a b count before old runs
      → WhereKnown b (λ x y. y ≡ x) c
      → new.reports.items ≡ old.reports.items → new.fault ≡ old.fault
      → (old.memory ≡ true → new.memory ≡ true) → FaultMatchesWire new.wire count now
      → HasServed rules start who v w a c count now new runs
  served-end v w a b c count before now old new runs h same reports fault memory wire = record {
    reports = reports ∙ h.reports;
    numbers = h.numbers;
    each = h.each;
    goes = h.goes;
    links = known-same runs a b c h.links same;
    memory = λ raised. memory (h.memory raised);
    fault = fault ∙ h.fault;
    wire = wire;
  }

  -- no link was to come
  pub served-last : (n : ℕ) (v w : View E O M) (a b c : Option (Links R T))
      (count before now : ℕ) (old new : Worked P)
      → ServedSoFar rules start who n v w a b count before old
      → WhereKnown b (λ x y. (x.to_come ≡ []) × (y ≡ x)) c → now ≡ before
      → new.reports.items ≡ old.reports.items → new.memory ≡ old.memory
      → new.fault ≡ old.fault → new.wire ≡ old.wire
      → ServesNext false rules start who n v w a c count now new
  served-last n v w a b c count before now old new far none same reports memory fault wire = (
    far.runs,
    served-end v w a b c count before now old new far.runs far.served (known-stays b c none)
        reports fault (λ raised. memory ∙ raised)
        (subst (λ x. FaultMatchesWire x count now) (sym (wire ∙ far.going))
        (same ∙ subst (λ x. FaultMatchesWire x count before) far.going far.served.wire)),
    far.count,
    λ _ _. none-left far.runs a b c far.served.links none,
  )
