-- Each step keeps the rule.
use Rattle.std.proofs.Common.{◌≡◌, ◌≢◌, ◌⊎◌, ℕ, zero, suc, ◌+◌, ◌%◌, ◌^◌, ◌<◌, ◌≤◌}
use Rattle.std.proofs.Common.{eqb, true}
use Rattle.std.proofs.Common.{false, List, [], ◌∷◌, ◌++◌, map, length, get_or, set, sym, refl, ap}
use Rattle.std.proofs.Common.{◌∙◌, subst, ⊎_elim, inl, inr, arith, Option, Some, None, le_refl}
use Rattle.std.proofs.Common.{length-set, length-append, get_or-set_other, get_or-set_same, eq-eqb}
use Rattle.std.proofs.Common.{ne_eqb, true≢false}
use mathlib.Core.Logic.{dite}
use mathlib.Core.Option.{none, some, some-injective, some-ne-none}
use mathlib.Core.Option as maybe
use mathlib.Core.List.{IsPrefix}
use native.Mathlib.Decide.{ℕ_discrete}
use lib.ListN.{get_elem?}
use lib.Seq.{set-get_or, map-set}
use prog.Atomic.{either}
use Rattle.std.specs.declared.snapshot.Snapshot.{Snapshot}
use Rattle.atomic_table.specs.Table.{State, step, keeps, takes, gives, rest, stepped, Allows}
use Rattle.atomic_table.specs.Table.{opening}
use Rattle.atomic_table.proofs.Lists.{at_set, set_here, set_else, set_again, at_map}
use Rattle.dp_hall.specs.declared.view.Entry.{Entry}
use Rattle.dp_hall.specs.declared.view.View.{View}
use Rattle.dp_hall.specs.declared.slot.Stored.{Stored}
use Rattle.dp_hall.specs.Logs.{IsLegal, left_by}
use Rattle.dp_hall.specs.Names.{IsIn, AreDistinct, children, Tag, tag, names_of, Lives, Named}
use Rattle.dp_hall.specs.Names.{Logged}
use Rattle.dp_hall.specs.Rule.{first_view, FitsLog, IsKept, SeatState, took, with_entry}
use Rattle.dp_hall.specs.Rule.{stored_entry, counted, given_back, looked, stayed}
use Rattle.dp_hall.proofs.ListLemmas.{at_inside, prefix_all, prefix_more, in_more, in_map, not_true}
use Rattle.dp_hall.proofs.ListLemmas.{is_not, legal_more, entries_same, entries_other}

module _ {E O M : Type 0} (may : M → E → O → M → Type 0) (start : M) where
  abbrev V : Type 0
  V = View E O M

  abbrev Slot : Type 0
  Slot = Option (Stored E O M)

  abbrev St : Type 0
  St = State Slot V

  abbrev Rule : St → Type 0
  Rule = IsKept may start

  some_is : (a b : V) (o : maybe.Option V) → o ≡ some a → o ≡ some b → a ≡ b
  some_is a b o p q = some-injective a b (sym p ∙ q)

  -- a fact of all views, if one of them changes
  pub views_stay : (P : ℕ → V → Type 0) (vs : List V) (me : ℕ) (w : V) → P me w
      → ((j : ℕ) (v : V) → j ≢ me → get_elem? vs j ≡ some v → P j v)
      → (j : ℕ) (v : V) → get_elem? (set vs me w) j ≡ some v → P j v
  views_stay P vs me w mine others j v e = ⊎_elim (λ (t : (j ≡ me) × (w ≡ v)). subst
      (λ (x : ℕ × V). P x.0 x.1) (λ i. (sym t.0 i, t.1 i)) mine)
      (λ (t : (j ≢ me) × (get_elem? vs j ≡ some v)). others j v t.0 t.1) (at_set vs me j w v e)

  pub tags_stay : (vs : List V) (me : ℕ) (v w : V) → get_elem? vs me ≡ some v → tag w ≡ tag v
      → map tag (set vs me w) ≡ map tag vs
  tags_stay vs me v w at e = map-set tag vs me w ∙ (ap (set (map tag vs) me) e
      ∙ set_again (map tag vs) me (tag v) (at_map tag vs me v at))

  pub lives : (vs : List V) (i : ℕ) (v : V) → get_elem? vs i ≡ some v → v.live ≡ true
      → Lives (map tag vs) i (tag v)
  lives vs i v at live = (at_map tag vs i v at, live)

  -- ---- whose turn it is, if one view changes

  -- a view that holds, if the one that changed held before if it holds now
  pub held_before : (vs : List V) (me : ℕ) (v w : V) → get_elem? vs me ≡ some v
      → (w.holds ≡ true → v.holds ≡ true)
      → (j : ℕ) (u : V) → get_elem? (set vs me w) j ≡ some u
      → u.holds ≡ true
      → (x : V) × (get_elem? vs j ≡ some x) × (x.holds ≡ true)
  held_before vs me v w at back = views_stay (λ j u. u.holds ≡ true
      → (x : V) × (get_elem? vs j ≡ some x) × (x.holds ≡ true)) vs me w (λ h. (v, at, back h))
      (λ j u _ here h. (u, here, h))

  pub one_stays : (vs : List V) (me : ℕ) (v w : V) → get_elem? vs me ≡ some v
      → (w.holds ≡ true → v.holds ≡ true)
      → ((i j : ℕ) (x y : V) → get_elem? vs i ≡ some x → get_elem? vs j ≡ some y
      → x.holds ≡ true → y.holds ≡ true → i ≡ j)
      → (i j : ℕ) (x y : V) → get_elem? (set vs me w) i ≡ some x
      → get_elem? (set vs me w) j ≡ some y → x.holds ≡ true → y.holds ≡ true → i ≡ j
  one_stays vs me v w at back one i j x y here there hx hy =
      let p = held_before vs me v w at back i x here hx in let q = held_before vs me v w at back j y
      there hy in
      one i j p.0 q.0 p.1 q.1 p.2 q.2

  pub some_stays : (vs : List V) (me : ℕ) (v w : V) → get_elem? vs me ≡ some v
      → (v.holds ≡ true → w.holds ≡ true) → (i : ℕ) (x : V) → get_elem? vs i ≡ some x
      → x.holds ≡ true
      → (j : ℕ) × (y : V) × (get_elem? (set vs me w) j ≡ some y) × (y.holds ≡ true)
  some_stays vs me v w at on i x here h = dite (ℕ_discrete i me)
      (λ e. let is : x ≡ v = some_is x v (get_elem? vs me)
      (ap (get_elem? vs) (sym e) ∙ here) at in (
        me,
        w,
        set_here vs me w (at_inside vs me v at),
        on
            (ap (λ (z : V). z.holds) (sym is) ∙ h),
      ))
      (λ ne. (i, x, set_else vs me i w ne ∙ here, h))

  -- a step that changes no word and no slot, and of one view neither its names nor whether it holds
  pub unmoved : (s : St) (r : Rule s) (i me : ℕ) (v w : V) → get_elem? s.views me ≡ some v
      → tag w ≡ tag v → w.holds ≡ v.holds → FitsLog start r.log w
      → Rule record {
        words = set s.words i (get_or s.words i 0);
        homes = s.homes;
        views = set
            s.views me w;
      }
  unmoved s r i me v w at same holds fits =
      subst (λ (ws : List ℕ). Rule record { words = ws; homes = s.homes; views = set s.views me w })
      (sym (set-get_or s.words i 0)) record {
        log = r.log;
        legal = r.legal;
        turn = record {
          wide = r.turn.wide;
          count = r.turn.count;
          home = r.turn.home;
          nobody = λ z. views_stay (λ j u. u.holds ≡ false) s.views me w
              (holds ∙ r.turn.nobody z me v at) (λ j u _ here. r.turn.nobody z j u here);
          somebody = λ n. let t = r.turn.somebody n in some_stays s.views me v w at (λ h. holds ∙ h)
              t.0 t.1 t.2 t.3;
          one = one_stays s.views me v w at (λ h. sym holds ∙ h) r.turn.one;
        };
        each = views_stay (λ j u. FitsLog start r.log u) s.views me w fits
            (λ j u _ here. r.each j u here);
        named = subst (λ (ts : List (Tag E O M)). Named ts) (sym (tags_stay s.views me v w at same))
            r.named;
        logged = subst (λ (ts : List (Tag E O M)). Logged ts r.log)
            (sym (tags_stay s.views me v w at same)) r.logged;
      }

  -- what is in hand, and what it tells
  abbrev slot_or : Stored E O M → Slot → Stored E O M
  slot_or d None = d
  slot_or d (Some y) = y

  abbrev in_hand : Stored E O M → List (ℕ × Slot) → Stored E O M
  in_hand d [] = d
  in_hand d (x ∷ xs) = slot_or d x.1

  abbrev last_or : Snapshot E × Snapshot O → Option (Snapshot E × Snapshot O)
      → Snapshot E × Snapshot O
  last_or p None = p
  last_or p (Some q) = q

  -- a live seat's name is no old one
  old_apart : (ts : List (Tag E O M)) → Named ts → (i j : ℕ) (s t : Tag E O M)
      (o : List ℕ × List (Entry E O M)) → Lives ts i s → Lives ts j t → IsIn o s.olds → t.name ≢ o.0
  old_apart ts named i j s t o here there inside eq =
      let old : IsIn o.0 (map (λ (x : List ℕ × List (Entry E O M)). x.0) s.olds) = in_map
      (λ (x : List ℕ × List (Entry E O M)). x.0) o s.olds inside in
      let p : i ≡ j = named.apart i j s t o.0 here there (inr old) (inl (sym eq)) in
      let same : s ≡ t = some-injective s t (sym here.0 ∙ (ap (get_elem? ts) p ∙ there.0)) in
      (named.distinct i s here).0 (subst (λ (n : List ℕ). IsIn n
      (map (λ (x : List ℕ × List (Entry E O M)). x.0) s.olds))
      (sym eq ∙ ap (λ (z : Tag E O M). z.name) (sym same)) old)

  -- ---- the steps

  pub looks : (slots id : ℕ) (me : SeatState E O M) → Allows Rule slots id me 0 (λ n. n)
      (looked (step slots 0 0 0 none) me)
  looks slots id me s r deep at small =
      let n : ℕ = get_or s.words 0 0 in let v : V = me.0 in let w : V = record v { known = n } in
      let f = r.each id v at in let count = r.turn.count in
      let more : v.known ≤ n = let h = f.known_log in omega arith in
      let below : length v.seen ≤ n = let h = f.seen_known in omega arith in (
        w,
        keeps,
        tt,
        unmoved s r 0 id v w at refl refl record {
          begins = f.begins;
          seen_prefix = f.seen_prefix;
          other_prefix = f.other_prefix;
          known_log = omega arith;
          seen_known = below;
          mine = f.mine;
          mine_seen = f.mine_seen;
          held = f.held;
          idle = f.idle;
        },
        (refl, refl, more, λ h. count ∙ ap length (sym (f.held h))),
      )

  -- a word behind those that the rule reads
  pub stays : (slots id i k : ℕ) (f : ℕ → ℕ) (me : SeatState E O M) → 1 < i
      → Allows Rule slots id me i f (stayed (step slots i k 0 none) me)
  stays slots id i k f me far s r deep at small =
      let v : V = me.0 in let n : ℕ = f (get_or s.words i 0) in
      let turned : get_or (set s.words i n) 1 0 ≡ get_or s.words 1 0 =
      get_or-set_other s.words i 1 n 0 (λ e. omega (arith, e, far)) in (
        v,
        keeps,
        tt,
        record {
          log = r.log;
          legal = r.legal;
          turn = record {
            wide = length-set s.words i n ∙ r.turn.wide;
            count = get_or-set_other s.words i 0 n 0 (λ e. omega (arith, e, far)) ∙ r.turn.count;
            home = λ z. r.turn.home (sym turned ∙ z);
            nobody = λ z. views_stay (λ j u. u.holds ≡ false) s.views id v
                (r.turn.nobody (sym turned ∙ z) id v at)
                (λ j u _ here. r.turn.nobody (sym turned ∙ z) j u here);
            somebody = λ ne. let t = r.turn.somebody (λ z. ne (turned ∙ z)) in
                some_stays s.views id v v at (λ h. h) t.0 t.1 t.2 t.3;
            one = one_stays s.views id v v at (λ h. h) r.turn.one;
          };
          each = views_stay (λ j u. FitsLog start r.log u) s.views id v (r.each id v at)
              (λ j u _ here. r.each j u here);
          named = subst (λ (ts : List (Tag E O M)). Named ts)
              (sym (tags_stay s.views id v v at refl)) r.named;
          logged = subst (λ (ts : List (Tag E O M)). Logged ts r.log)
              (sym (tags_stay s.views id v v at refl)) r.logged;
        },
        (refl, refl),
      )

  pub takes_turn : (slots id : ℕ) (me : SeatState E O M) → me.1 ≡ [] → me.0.live ≡ true
      → me.0.holds ≡ false
      → Allows Rule slots id me 1 (λ n. either (eqb n 0) 1 n) (took may (step slots 1 0 1 none) me)
  takes_turn slots id me empty live free s r deep at small =
      let n : ℕ = get_or s.words 1 0 in let v : V = me.0 in let f = r.each id v at in let wide =
      r.turn.wide in dite (ℕ_discrete n 0)
      (λ hit.
      let home = r.turn.home hit in let stored : Stored E O M = home.0 in
      let w : V = record v { holds = true; seen = r.log; known = length r.log } in
      let now : get_or (set s.words 1 1) 1 0 ≡ 1 = get_or-set_same s.words 1 1 0 (omega arith) in
      let alone : (i : ℕ) (x : V) → get_elem? (set s.views id w) i ≡ some x → x.holds ≡ true
      → i ≡ id =
      views_stay (λ i x. x.holds ≡ true → i ≡ id) s.views id w (λ _. refl)
      (λ i x _ here h. absurd (is_not x.holds h (r.turn.nobody hit i x here))) in (
        w,
        takes 0 (Some stored),
        home.1,
        subst (λ b. Rule (stepped s 1 (either b 1 n) id me.1 w (takes 0 (Some stored))))
            (sym (eq-eqb n 0 hit)) record {
              log = r.log;
              legal = r.legal;
              turn = record {
                wide = length-set s.words 1 1 ∙ wide;
                count = get_or-set_other s.words 1 0 1 0 (λ e. omega arith) ∙ r.turn.count;
                home = λ z. absurd (omega arith);
                nobody = λ z. absurd (omega arith);
                somebody = λ _. (id, w, set_here s.views id w (at_inside s.views id v at), refl);
                one = λ i j x y here there hx hy. alone i x here hx ∙ sym (alone j y there hy);
              };
              each = views_stay (λ j u. FitsLog start r.log u) s.views id w
                  record {
                    begins = f.begins;
                    seen_prefix = prefix_all r.log;
                    other_prefix = f.other_prefix;
                    known_log = le_refl (length r.log);
                    seen_known = le_refl (length r.log);
                    mine = f.mine;
                    mine_seen = f.mine;
                    held = λ _. refl;
                    idle = λ dead. absurd (is_not v.live live dead);
                  }
                  (λ j u _ here. r.each j u here);
              named = subst (λ (ts : List (Tag E O M)). Named ts)
                  (sym (tags_stay s.views id v w at refl)) r.named;
              logged = subst (λ (ts : List (Tag E O M)). Logged ts r.log)
                  (sym (tags_stay s.views id v w at refl)) r.logged;
            },
        (
          (λ _. (
            stored,
            ap (λ l. (0, Some stored) ∷ l) empty,
            record {
              view = refl;
              longer = f.seen_prefix;
              more = f.known_log;
              legal = (start, f.begins live, r.legal, home.2);
              mine = f.mine live;
            },
          )),
          (λ miss. absurd (miss hit)),
        ),
      ))
      (λ miss. (
        v,
        keeps,
        tt,
        subst (λ b. Rule (stepped s 1 (either b 1 n) id me.1 v keeps)) (sym (ne_eqb n 0 miss))
            (unmoved s r 1 id v v at refl refl f),
        ((λ hit. absurd (miss hit)), (λ _. (refl, refl))),
      ))

  pub counts : (slots id : ℕ) (me : SeatState E O M) (stored : Stored E O M) (event : Snapshot E)
      (outcome : Snapshot O) (m : M)
      → me.1 ≡ (0, Some stored) ∷ [] → stored.last ≡ Some (event, outcome) → me.0.live ≡ true
      → me.0.holds ≡ true → me.0.start ≡ Some m
      → may (left_by m me.0.seen) event.value outcome.value stored.machine.value
      → length me.0.seen + 1 < 2 ^ 64
      → Allows Rule slots id me 0 (λ n. (n + 1) % 2 ^ 64) (counted (step slots 0 1 0 none) me)
  counts slots id me stored event outcome m hand last live holds begins may_step room s r deep at
      small =
      let v : V = me.0 in let f = r.each id v at in let wide = r.turn.wide in
      let e : Entry E O M = stored_entry v stored.machine.value event outcome in
      let w : V = with_entry v e in
      let all : v.seen ≡ r.log = f.held holds in
      let long : length v.seen ≡ length r.log = ap length all in
      let n : ℕ = get_or s.words 0 0 in
      let count : n ≡ length r.log = r.turn.count in
      let n' : ℕ = length r.log + 1 in
      let next : n' ≡ (n + 1) % 2 ^ 64 = omega arith in
      let longer : length (r.log ++ e ∷ []) ≡ n' = omega (arith, length-append r.log (e ∷ [])) in
      let begun : Some start ≡ Some m = sym (f.begins live) ∙ begins in
      let turned : get_or (set s.words 0 n') 1 0 ≡ get_or s.words 1 0 = get_or-set_other s.words 0 1
      n' 0 (λ z. omega arith) in
      let taken : get_or s.words 1 0 ≢ 0 = λ z. is_not v.holds holds (r.turn.nobody z id v at) in
      let apart : (j : ℕ) (u : V) → j ≢ id → get_elem? s.views j ≡ some u → (name : List ℕ)
      → IsIn name (names_of (tag u)) → u.live ≡ true → e.by ≢ name =
      λ j u other here name inside alive same.
      other (r.named.apart j id (tag u) (tag v) name (lives s.views j u here alive)
      (lives s.views id v at live) inside (inl (sym same))) in
      let steps : IsLegal may start (r.log ++ e ∷ []) = legal_more may start r.log e r.legal
      (subst (λ (z : M × List (Entry E O M)). may (left_by z.0 z.1) event.value outcome.value
      stored.machine.value) (λ i. (sym (some_inside start m begun) i, all i)) may_step) in (
        w,
        keeps,
        tt,
        subst (λ (k : ℕ). Rule (stepped s 0 k id me.1 w keeps)) next record {
          log = r.log ++ e ∷ [];
          legal = steps;
          turn = record {
            wide = length-set s.words 0 n' ∙ wide;
            count = get_or-set_same s.words 0 n' 0 (omega arith) ∙ sym longer;
            home = λ z. absurd (taken (sym turned ∙ z));
            nobody = λ z. absurd (taken (sym turned ∙ z));
            somebody = λ _. let t = r.turn.somebody taken in some_stays s.views id v w at (λ h. h)
                t.0 t.1 t.2 t.3;
            one = one_stays s.views id v w at (λ h. h) r.turn.one;
          };
          each = views_stay (λ j u. FitsLog start (r.log ++ e ∷ []) u) s.views id w
              record {
                begins = f.begins;
                seen_prefix = subst (λ (l : List (Entry E O M)). IsPrefix (v.seen ++ e ∷ [])
                    (l ++ e ∷ [])) all (prefix_all (v.seen ++ e ∷ []));
                other_prefix = prefix_more v.other r.log e f.other_prefix;
                known_log = omega arith;
                seen_known = omega (arith, length-append v.seen (e ∷ []));
                mine = λ _. entries_same v.name r.log e refl ∙ ap (λ l. l ++ e ∷ []) (f.mine live);
                mine_seen = λ _. entries_same v.name v.seen e refl
                    ∙ ap (λ l. l ++ e ∷ []) (f.mine_seen live);
                held = λ _. ap (λ l. l ++ e ∷ []) all;
                idle = λ dead. absurd (is_not v.live live dead);
              }
              (λ j u other here. let g = r.each j u here in record {
                begins = g.begins;
                seen_prefix = prefix_more u.seen r.log e g.seen_prefix;
                other_prefix = prefix_more u.other r.log e g.other_prefix;
                known_log = let h = g.known_log in omega arith;
                seen_known = g.seen_known;
                mine = λ alive. entries_other u.name r.log e
                    (apart j u other here u.name (inl refl) alive) ∙ g.mine alive;
                mine_seen = g.mine_seen;
                held = λ h. absurd (other (r.turn.one j id u v here at h holds));
                idle = g.idle;
              });
          named = subst (λ (ts : List (Tag E O M)). Named ts)
              (sym (tags_stay s.views id v w at refl)) r.named;
          logged = subst (λ (ts : List (Tag E O M)). Logged ts (r.log ++ e ∷ []))
              (sym (tags_stay s.views id v w at refl)) record {
                by = λ x inside. ⊎_elim (λ (h : IsIn x r.log). r.logged.by x h)
                    (λ (is : x ≡ e). (
                      id,
                      tag v,
                      lives s.views id v at live,
                      inl
                          (ap (λ (z : Entry E O M). z.by) is),
                    )) (in_more x e r.log inside);
                olds = λ i t o alive inside. entries_other o.0 r.log e
                    (old_apart (map tag s.views) r.named i id t (tag v) o alive
                    (lives s.views id v at live) inside) ∙ r.logged.olds i t o alive inside;
              };
        },
        λ d ev out is says. last_told d ev out is says,
      )
    where
      some_inside : (a b : M) → Some a ≡ Some b → a ≡ b
      some_inside a b p = cc (p)

      last_told : (d : Stored E O M) (ev : Snapshot E) (out : Snapshot O) → me.1 ≡ (0, Some d) ∷ []
          → d.last ≡ Some (ev, out)
          → (with_entry me.0 (stored_entry me.0 stored.machine.value event outcome)
          ≡ with_entry me.0 (stored_entry me.0 d.machine.value ev out)) × (me.1 ≡ me.1)
      last_told d ev out is says =
          let same : stored ≡ d = ap (in_hand stored) (sym hand ∙ is) in
          let pair : (event, outcome) ≡ (ev, out) = ap (last_or (event, outcome))
          (sym last ∙ (ap (λ (z : Stored E O M). z.last) same ∙ says)) in (
            (λ i. with_entry me.0 (stored_entry me.0 (same i).machine.value (pair i).0 (pair i).1)),
            refl,
          )

  pub gives_turn : (slots id : ℕ) (me : SeatState E O M) (stored : Stored E O M) (m : M) → 0 < slots
      → me.1 ≡ (0, Some stored) ∷ [] → me.0.live ≡ true → me.0.holds ≡ true → me.0.start ≡ Some m
      → stored.machine.value ≡ left_by m me.0.seen → Allows Rule slots id me 1 (λ _. 0)
      (λ _. given_back (step slots 1 0 0 none) me 0)
  gives_turn slots id me stored m some_slot hand live holds begins machine s r deep at small =
      let v : V = me.0 in let w : V = record v { holds = false } in let f = r.each id v at in let
      wide = r.turn.wide in
      let now : get_or (set s.words 1 0) 1 0 ≡ 0 = get_or-set_same s.words 1 0 0 (omega arith) in
      let begun : m ≡ start = some_is' m start (sym begins ∙ f.begins live) in
      let left : stored.machine.value ≡ left_by start r.log = machine
      ∙ (λ i. left_by (begun i) (f.held holds i)) in
      let others : (j : ℕ) (u : V) → j ≢ id → get_elem? s.views j ≡ some u → u.holds ≡ false =
      λ j u other here. not_true u.holds (λ h. other (r.turn.one j id u v here at h holds)) in
      let nobody : (j : ℕ) (u : V) → get_elem? (set s.views id w) j ≡ some u
      → u.holds ≡ false = views_stay (λ j u. u.holds ≡ false) s.views id w refl others in (
        w,
        gives,
        tt,
        subst (λ (c : List (ℕ × Slot)). Rule (stepped s 1 0 id c w gives)) (sym hand) record {
          log = r.log;
          legal = r.legal;
          turn = record {
            wide = length-set s.words 1 0 ∙ wide;
            count = get_or-set_other s.words 1 0 0 0 (λ e. omega arith) ∙ r.turn.count;
            home = λ _. (stored, set_here s.homes 0 (some (Some stored)) (omega arith), left);
            nobody = λ _. nobody;
            somebody = λ n. absurd (n now);
            one = λ i j x y here there hx hy. absurd (is_not x.holds hx (nobody i x here));
          };
          each = views_stay (λ j u. FitsLog start r.log u) s.views id w
              record {
                begins = f.begins;
                seen_prefix = f.seen_prefix;
                other_prefix = f.other_prefix;
                known_log = f.known_log;
                seen_known = f.seen_known;
                mine = f.mine;
                mine_seen = f.mine_seen;
                held = λ h. absurd (true≢false (sym h));
                idle = λ _. refl;
              }
              (λ j u _ here. r.each j u here);
          named = subst (λ (ts : List (Tag E O M)). Named ts)
              (sym (tags_stay s.views id v w at refl)) r.named;
          logged = subst (λ (ts : List (Tag E O M)). Logged ts r.log)
              (sym (tags_stay s.views id v w at refl)) r.logged;
        },
        (refl, ap rest hand),
      )
    where
      some_is' : (a b : M) → Some a ≡ Some b → a ≡ b
      some_is' a b p = cc (p)

  -- ---- the start

  only : {A : Type 0} (a b : A) (i : ℕ) → get_elem? (a ∷ []) i ≡ some b → (i ≡ 0) × (a ≡ b)
  only a b zero e = (refl, some-injective a b e)
  only a b (suc i) e = absurd (some-ne-none b (sym e))

  pub opens : (stored : Stored E O M) → stored.machine.value ≡ start
      → Rule (opening (0 ∷ 0 ∷ 0 ∷ 0 ∷ 0 ∷ []) (Some stored ∷ []) (first_view start))
  opens stored is = record {
    log = [];
    legal = tt;
    turn = record {
      wide = refl;
      count = refl;
      home = λ _. (stored, refl, is);
      nobody = λ _ i v at. ap (λ (z : V). z.holds) (sym (only (first_view start) v i at).1);
      somebody = λ n. absurd (n refl);
      one = λ i j v w here there _ _. (only (first_view start) v i here).0
          ∙ sym (only (first_view start) w j there).0;
    };
    each = λ i v at. subst (λ (z : V). FitsLog start [] z)
        (only (first_view start) v i at).1 record {
          begins = λ _. refl;
          seen_prefix = ([], refl);
          other_prefix = ([], refl);
          known_log = le_refl 0;
          seen_known = le_refl 0;
          mine = λ _. refl;
          mine_seen = λ _. refl;
          held = λ h. absurd (true≢false (sym h));
          idle = λ _. refl;
        };
    named = record {
      apart = λ i j s t n here there _ _. (only (tag (first_view start)) s i here.0).0
          ∙ sym (only (tag (first_view start)) t j there.0).0;
      distinct = λ i s here. subst (λ (z : Tag E O M). AreDistinct (names_of z))
          (only (tag (first_view start)) s i here.0).1 ((λ h. h), tt);
      made = λ i s n here inside. absurd (subst (λ (z : Tag E O M). IsIn n z.made)
          (sym (only (tag (first_view start)) s i here.0).1) inside);
      first = (0, tag (first_view start), (refl, refl), inl refl);
      given = λ i s n here inside. absurd (subst (λ (z : Tag E O M). IsIn n z.made)
          (sym (only (tag (first_view start)) s i here.0).1) inside);
      once = λ i j s t n here there _ _. (only (tag (first_view start)) s i here.0).0
          ∙ sym (only (tag (first_view start)) t j there.0).0;
      counted = λ i s here. subst (λ (z : Tag E O M). z.splits ≡ children z.name z.made)
          (only (tag (first_view start)) s i here.0).1 refl;
      maker = λ i s n here inside. first_name n (subst (λ (z : Tag E O M). IsIn n (names_of z))
          (sym (only (tag (first_view start)) s i here.0).1) inside);
      fresh = λ i j s t k more here there inside. absurd (no_child k more
          (subst (λ (z : Tag E O M × Tag E O M). IsIn (z.0.name ++ k ∷ more) (names_of z.1))
          (λ c. (
            sym (only (tag (first_view start)) s i here.0).1 c,
            sym
                (only (tag (first_view start)) t j there.0).1 c,
          )) inside));
    };
    logged = record {
      by = λ e inside. absurd inside;
      olds = λ i s o here inside. absurd (subst (λ (z : Tag E O M). IsIn o z.olds)
          (sym (only (tag (first_view start)) s i here.0).1) inside);
    };
  }
    where
      first_name : (n : List ℕ) → IsIn n ([] ∷ []) → (n ≡ [])
          ⊎ ((j : ℕ) × (t : Tag E O M) × Lives (map tag (first_view start ∷ [])) j t
          × IsIn n t.made)
      first_name n (inl e) = inl e
      first_name n (inr h) = absurd h

      no_child : (k : ℕ) (more : List ℕ) → IsIn (k ∷ more) ([] ∷ []) → ⊥
      no_child k more (inl e) = absurd (cc (e))
      no_child k more (inr h) = h
