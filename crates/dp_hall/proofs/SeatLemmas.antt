-- SeatLemmas that are split, joined and confirmed keep the rule; and what is left when all are
-- joined.
use Rattle.std.proofs.Common.{◌≡◌, ◌≢◌, ℕ, zero, suc, ◌+◌, ◌<◌, ◌≤◌, Bool, true, false, List, []}
use Rattle.std.proofs.Common.{◌∷◌, ◌++◌, map, length, get_or, set, max, sym, refl, ap, ◌∙◌, subst}
use Rattle.std.proofs.Common.{⊎_elim, inl, inr, arith, Option, Some, le_refl, length-set}
use Rattle.std.proofs.Common.{length-append, true≢false}
use Rattle.std.specs.Prelude.{nat_le, if◌then◌else◌}
use Rattle.std.proofs.lemmas.Bool.Decides.{nat_tests}
use mathlib.Core.Logic.{dite}
use mathlib.Core.Option.{none, some, some-injective}
use mathlib.Core.List.{IsPrefix, map-append}
use native.Mathlib.Decide.{ℕ_discrete}
use lib.ListN.{get_elem?}
use lib.Seq.{map-set}
use Rattle.atomic_table.specs.Table.{State, step, keeps, Allows, Splits, Joins}
use Rattle.atomic_table.proofs.Lists.{at_set, set_here, set_else, at_map}
use Rattle.dp_hall.specs.declared.view.Entry.{Entry}
use Rattle.dp_hall.specs.declared.view.View.{View}
use Rattle.dp_hall.specs.declared.slot.Stored.{Stored}
use Rattle.dp_hall.specs.Logs.{IsLegal, left_by, entries_by}
use Rattle.dp_hall.specs.Names.{IsIn, AreDistinct, Tag, tag, names_of, Lives, Named, Logged}
use Rattle.dp_hall.specs.Calls.{IsSound, IsAlone, Closes}
use Rattle.dp_hall.specs.Rule.{spent_view, FitsLog, IsKept, SeatState, confirmed, child_name}
use Rattle.dp_hall.specs.Rule.{split_left, split_right, joined, longer, shorter}
use Rattle.dp_hall.proofs.ListLemmas.{at_end, in_both, in_prefix, prefix_between, legal_prefix}
use Rattle.dp_hall.proofs.ListLemmas.{entries_none, entries_between, is_not}
use Rattle.dp_hall.proofs.NameLemmas.{same_tag, named_split, logged_split, by_nobody, named_join}
use Rattle.dp_hall.proofs.NameLemmas.{logged_join}
use Rattle.dp_hall.proofs.StepLemmas.{lives, views_stay, unmoved, one_stays, some_stays}

module _ {E O M : Type 0} (may : M → E → O → M → Type 0) (start : M) where
  abbrev V : Type 0
  V = View E O M

  abbrev St : Type 0
  St = State (Option (Stored E O M)) V

  abbrev Rule : St → Type 0
  Rule = IsKept may start

  -- ---- a split

  -- a fact of all views after a split
  after_split : (P : ℕ → V → Type 0) (vs : List V) (id : ℕ) (l w : V) → P id l → P (length vs) w
      → ((j : ℕ) (u : V) → j ≢ id → get_elem? vs j ≡ some u → P j u)
      → (j : ℕ) (u : V) → get_elem? (set vs id l ++ w ∷ []) j ≡ some u → P j u
  after_split P vs id l w one two others j u e = ⊎_elim
      (λ (h : get_elem? (set vs id l) j ≡ some u). views_stay may start P vs id l one others j u h)
      (λ (h : (j ≡ length (set vs id l)) × (w ≡ u)). subst (λ (x : ℕ × V). P x.0 x.1)
      (λ i. (sym (h.0 ∙ length-set vs id l) i, h.1 i)) two)
      (at_end (set vs id l) w u j e)

  pub splits : (id : ℕ) (v : V) → v.live ≡ true → Splits Rule id v (split_left v) (split_right v)
  splits id v live s r at =
      let l : V = split_left v in let w : V = split_right v in let vs : List V = s.views in let f =
      r.each id v at in
      let ts : List (Tag E O M) = map tag vs in
      let here : Lives ts id (tag v) = lives may start vs id v at live in
      let tags : map tag (set vs id l ++ w ∷ []) ≡ set ts id (tag l) ++ tag w ∷ [] =
      map-append tag (set vs id l) (w ∷ []) ∙ ap (λ (x : List (Tag E O M)). x ++ tag w ∷ [])
      (map-set tag vs id l) in
      let nobody : (e : Entry E O M) → IsIn e r.log → e.by ≢ child_name v = by_nobody ts r.named id
      (tag v) here r.log r.logged in
      record {
        log = r.log;
        legal = r.legal;
        turn = record {
          wide = r.turn.wide;
          count = r.turn.count;
          home = r.turn.home;
          nobody = λ z. after_split (λ _ u. u.holds ≡ false) vs id l w (r.turn.nobody z id v at)
              refl (λ j u _ h. r.turn.nobody z j u h);
          somebody = λ n. let t = r.turn.somebody n in let q = some_stays may start vs id v l at
              (λ h. h) t.0 t.1 t.2 t.3 in (q.0, q.1, longer_at (set vs id l) w q.0 q.1 q.2, q.3);
          one = λ i j x y p q hx hy.
              let a = held p' vs id l w i x p hx at in let b = held p' vs id l w j y q hy at in
              r.turn.one i j a.0 b.0 a.1 b.1 a.2 b.2;
        };
        each = after_split (λ _ u. FitsLog start r.log u) vs id l w
            record {
              begins = f.begins;
              seen_prefix = f.seen_prefix;
              other_prefix = f.other_prefix;
              known_log = f.known_log;
              seen_known = f.seen_known;
              mine = f.mine;
              mine_seen =
                  f.mine_seen;
              held = f.held;
              idle = f.idle;
            }
            record {
              begins = λ _. f.begins live;
              seen_prefix = f.seen_prefix;
              other_prefix = (r.log, refl);
              known_log = f.known_log;
              seen_known = f.seen_known;
              mine = λ _. entries_none (child_name v) r.log nobody;
              mine_seen = λ _. entries_none (child_name v) v.seen
                  (λ e h. nobody e (in_prefix e v.seen r.log f.seen_prefix h));
              held = λ h. absurd (true≢false (sym h));
              idle = λ _. refl;
            }
            (λ j u _ h. r.each j u h);
        named = subst (λ (x : List (Tag E O M)). Named x) (sym tags)
            (named_split ts r.named id (tag v) here);
        logged = subst (λ (x : List (Tag E O M)). Logged x r.log) (sym tags)
            (logged_split ts r.named id (tag v) here r.log r.logged);
      }
    where
      p' : Unit {0}
      p' = tt

      longer_at : (xs : List V) (a : V) (i : ℕ) (b : V) → get_elem? xs i ≡ some b
          → get_elem? (xs ++ a ∷ []) i ≡ some b
      longer_at xs a i b e = Rattle.atomic_table.proofs.Lists.at_longer xs (a ∷ []) i b e

      -- who holds after the split held before
      held : Unit {0} → (vs : List V) (id : ℕ) (l w : V) (i : ℕ) (x : V)
          → get_elem? (set vs id (split_left v) ++ split_right v ∷ []) i ≡ some x → x.holds ≡ true
          → get_elem? vs id ≡ some v
          → (y : V) × (get_elem? vs i ≡ some y) × (y.holds ≡ true)
      held _ vs id l w i x p hx at = after_split (λ i x. x.holds ≡ true
          → (y : V) × (get_elem? vs i ≡ some y) × (y.holds ≡ true)) vs id (split_left v)
          (split_right v)
          (λ h. (v, at, h)) (λ h. absurd (true≢false (sym h))) (λ j u _ here h. (u, here, h)) i x p
          hx

  -- ---- a join

  the_longer : (xs ys zs : List (Entry E O M)) → IsPrefix xs zs → IsPrefix ys zs
      → IsPrefix (longer xs ys) zs × IsPrefix (shorter xs ys) zs
  the_longer xs ys zs p q = cases (nat_le (length ys) (length xs))
    where
      cases : (b : Bool) → IsPrefix (if b then xs else ys) zs × IsPrefix (if b then ys else xs) zs
      cases true = (p, q)
      cases false = (q, p)

  as_long : (xs ys : List (Entry E O M)) (a b : ℕ) → length xs ≤ a → length ys ≤ b
      → length (longer xs ys) ≤ max a b
  as_long xs ys a b p q = cases (nat_le (length ys) (length xs))
    where
      cases : (t : Bool) → length (if t then xs else ys) ≤ max a b
      cases true = omega arith
      cases false = omega arith

  pub joins : (id : ℕ) (v : V) (o : ℕ) (w : V) → v.live ≡ true → w.live ≡ true → v.holds ≡ false
      → w.holds ≡ false → Joins Rule id v o w (joined v w) spent_view
  joins id v o w live live' free free' s r at apart there =
      let vs : List V = s.views in let b : V = joined v w in let z : V = spent_view in let f =
      r.each id v at in
      let was : get_elem? vs o ≡ some w = sym (set_else vs id o b apart)
      ∙ there in let g = r.each o w was in
      let ts : List (Tag E O M) = map tag vs in
      let here : Lives ts id (tag v) = lives may start vs id v at live in
      let here' : Lives ts o (tag w) = lives may start vs o w was live' in
      let tags : map tag (set (set vs id b) o z) ≡ set (set ts id (tag b)) o (tag z) = map-set tag
      (set vs id b) o z ∙ ap (λ (x : List (Tag E O M)). set x o (tag z)) (map-set tag vs id b)
      in
      let ends = the_longer v.seen w.seen r.log f.seen_prefix g.seen_prefix in
      record {
        log = r.log;
        legal = r.legal;
        turn = record {
          wide = r.turn.wide;
          count = r.turn.count;
          home = r.turn.home;
          nobody = λ n. views_stay may start (λ _ u. u.holds ≡ false) (set vs id b) o z refl
              (λ j u _ h. views_stay may start (λ _ x. x.holds ≡ false) vs id b free
              (λ i x _ e. r.turn.nobody n i x e) j u h);
          somebody = λ n. let t = r.turn.somebody n in
              let not_o : t.0 ≢ o = λ e. is_not t.1.holds t.3
              (ap (λ (x : V). x.holds) (some-injective t.1 w
              (sym t.2 ∙ (ap (get_elem? vs) e ∙ was))) ∙ free') in
              let not_id : t.0 ≢ id = λ e. is_not t.1.holds t.3
              (ap (λ (x : V). x.holds) (some-injective t.1 v
              (sym t.2 ∙ (ap (get_elem? vs) e ∙ at))) ∙ free) in (
                t.0,
                t.1,
                set_else (set vs id b) o t.0 z not_o
                    ∙ (set_else vs id t.0 b not_id ∙ t.2),
                t.3,
              );
          one = one_stays may start (set vs id b) o w z there (λ h. absurd (true≢false (sym h)))
              (one_stays may start vs id v b at (λ h. h) r.turn.one);
        };
        each = views_stay may start (λ _ u. FitsLog start r.log u) (set vs id b) o z
            record {
              begins = λ h. absurd (true≢false (sym h));
              seen_prefix = (r.log, refl);
              other_prefix = (r.log, refl);
              known_log = omega arith;
              seen_known = le_refl 0;
              mine = λ h. absurd (true≢false (sym h));
              mine_seen = λ h. absurd (true≢false (sym h));
              held = λ h. absurd (true≢false (sym h));
              idle = λ _. refl;
            }
            (λ j u _ h. views_stay may start (λ _ x. FitsLog start r.log x) vs id b
            record {
              begins = f.begins;
              seen_prefix = ends.0;
              other_prefix = ends.1;
              known_log = let p = f.known_log in let q = g.known_log in omega arith;
              seen_known = as_long v.seen w.seen v.known w.known f.seen_known g.seen_known;
              mine = f.mine;
              mine_seen = λ a. own v.seen w.seen r.log v.name v.mine f.seen_prefix g.seen_prefix
                  (f.mine_seen a) (f.mine a);
              held = λ h. absurd (is_not v.holds h free);
              idle = λ _. free;
            }
            (λ i x _ e. r.each i x e) j u h);
        named = subst (λ (x : List (Tag E O M)). Named x) (sym tags)
            (named_join ts r.named id (tag v) here o (tag w) here' w.mine apart);
        logged = subst (λ (x : List (Tag E O M)). Logged x r.log) (sym tags)
            (logged_join ts r.named id (tag v) here o (tag w) here' w.mine apart r.log r.logged
            (g.mine live'));
      }
    where
      own : (xs ys log : List (Entry E O M)) (name : List ℕ) (mine : List (Entry E O M))
          → IsPrefix xs log → IsPrefix ys log → entries_by name xs ≡ mine
          → entries_by name log ≡ mine → entries_by name (longer xs ys) ≡ mine
      own xs ys log name mine p q a c = cases (nat_le (length ys) (length xs))
          (λ t. grind (arith, nat_tests))
        where
          cases : (t : Bool) → (t ≡ false → length xs ≤ length ys)
              → entries_by name (if t then xs else ys) ≡ mine
          cases true le = a
          cases false le = entries_between name xs ys log (prefix_between xs ys log p q (le refl)) q
              (a ∙ sym c) ∙ a

  -- ---- a look that confirms

  pub confirms : (slots id : ℕ) (me : SeatState E O M) → me.0.live ≡ true
      → Allows Rule slots id me 0 (λ n. n) (confirmed may (step slots 0 0 0 none) me)
  confirms slots id me live s r deep at small =
      let v : V = me.0 in let w : V = record v { other = [] } in let f = r.each id v at in (
        w,
        keeps,
        tt,
        unmoved may start s r 0 id v w at refl refl
            record {
              begins = f.begins;
              seen_prefix = f.seen_prefix;
              other_prefix = (r.log, refl);
              known_log = f.known_log;
              seen_known = f.seen_known;
              mine = f.mine;
              mine_seen =
                  f.mine_seen;
              held = f.held;
              idle = f.idle;
            },
        (
          refl,
          refl,
          record {
            legal = λ m0 is. legal_prefix may m0 v.seen r.log f.seen_prefix
                (subst (λ (m : M). IsLegal may m r.log) (begun start m0 (sym (f.begins live) ∙ is))
                r.legal);
            seen_known = f.seen_known;
            mine = f.mine_seen live;
            prefix = λ le. prefix_between v.other v.seen r.log f.other_prefix f.seen_prefix le;
            distinct = r.named.distinct id (tag v) (lives may start s.views id v at live);
            fresh = λ k more inside. below (map tag s.views) r.named id (tag v)
                (lives may start s.views id v at live) k more inside;
            counted = r.named.counted id (tag v) (lives may start s.views id v at live);
          },
        ),
      )
    where
      -- a name that goes on from a seat's, and that it has or made
      below : (ts : List (Tag E O M)) → Named ts → (i : ℕ) (t : Tag E O M) → Lives ts i t
          → (k : ℕ) (more : List ℕ) → IsIn (t.name ++ k ∷ more) (names_of t ++ t.made)
          → k < t.splits
      below ts named i t here k more inside = ⊎_elim
          (λ (h : IsIn (t.name ++ k ∷ more) (names_of t)). named.fresh i i t t k more here here h)
          (λ (h : IsIn (t.name ++ k ∷ more) t.made). let g = named.given i t (t.name ++ k ∷ more)
          here h in named.fresh i g.0 t g.1 k more here g.2 g.3)
          (in_both (t.name ++ k ∷ more) (names_of t) t.made inside)

      begun : (a c : M) → Some a ≡ Some c → a ≡ c
      begun a c p = cc (p)

  -- ---- the end

  module _ (s : St) (r : Rule s) (id : ℕ) (v : V) (at : get_elem? s.views id ≡ some v)
      (live : v.live ≡ true) (free : v.holds ≡ false) (first : v.name ≡ [])
      (back : (n : List ℕ) → IsIn n v.made → IsIn n (map (λ (o : List ℕ × List (Entry E O M)). o.0)
      v.olds)) where
    abbrev ts : List (Tag E O M)
    ts = map tag s.views

    me : Lives ts id (tag v)
    me = lives may start s.views id v at live

    -- each name of a live seat is one of this seat's
    all_mine : (fuel : ℕ) (n : List ℕ) (j : ℕ) (t : Tag E O M) → length n < fuel → Lives ts j t
        → IsIn n (names_of t) → IsIn n (names_of (tag v))
    all_mine zero n j t less there inside = absurd (omega arith)
    all_mine (suc fuel) n j t less there inside = ⊎_elim
        (λ (e : n ≡ []). inl (e ∙ sym first))
        (λ (m : (k : ℕ) × (u : Tag E O M) × Lives ts k u × IsIn n u.made).
        let c = r.named.made m.0 m.1 n m.2 m.3 in
        let long = ap length c.2 in
        let shorter' : length c.0 < fuel = omega (arith, long, length-append c.0 (c.1 ∷ [])) in
        let mine = all_mine fuel c.0 m.0 m.1 shorter' m.2 c.3 in
        let same : m.0 ≡ id = r.named.apart m.0 id m.1 (tag v) c.0 m.2 me c.3 mine in
        inr (back n (subst (λ (z : Tag E O M). IsIn n z.made)
        (same_tag ts m.0 id m.1 (tag v) m.2 me same) m.3)))
        (r.named.maker j t n there inside)

    only : (j : ℕ) (t : Tag E O M) → Lives ts j t → j ≡ id
    only j t there = r.named.apart j id t (tag v) t.name there me (inl refl)
        (all_mine (length t.name + 1) t.name j t (omega arith) there (inl refl))

    -- nobody has the turn, so the machine is at home
    pub at_home : (stored : Stored E O M) × (get_elem? s.homes 0 ≡ some (some (Some stored)))
        × (stored.machine.value ≡ left_by start r.log)
    at_home = r.turn.home (zero_or (get_or s.words 1 0) (λ n.
        let t = r.turn.somebody n in held_by t.0 t.1 t.2 t.3 t.1.live refl))
      where
        held_by : (i : ℕ) (u : V) → get_elem? s.views i ≡ some u → u.holds ≡ true → (b : Bool)
            → u.live ≡ b → ⊥
        held_by i u here h true alive =
            let same : i ≡ id = only i (tag u) (lives may start s.views i u here alive) in
            is_not u.holds h (ap (λ (x : V). x.holds) (some-injective u v
            (sym here ∙ (ap (get_elem? s.views) same ∙ at))) ∙ free)
        held_by i u here h false dead = is_not u.holds h ((r.each i u here).idle dead)

        zero_or : (n : ℕ) → (n ≢ 0 → ⊥) → n ≡ 0
        zero_or n h = dite (ℕ_discrete n 0) (λ e. e) (λ ne. absurd (h ne))

    pub all_by : (e : Entry E O M) → IsIn e r.log → IsIn e.by (names_of (tag v))
    all_by e inside = let q = r.logged.by e inside in all_mine (length e.by + 1) e.by q.0 q.1
        (omega arith) q.2 q.3

  -- what is left when the seat of the start has all the others in it
  pub closes_with : (s : St) (r : Rule s) (id : ℕ) (v : V) → get_elem? s.views id ≡ some v
      → IsSound may v → IsAlone v
      → (stored : Stored E O M) × (get_elem? s.homes 0 ≡ some (some (Some stored)))
      × Closes may start v stored.machine.value
  closes_with s r id v at sound alone =
      let home = at_home s r id v at sound.live sound.rests alone.name alone.back in
      let here : Lives (map tag s.views) id (tag v) = lives may start s.views id v at sound.live in
      let f = r.each id v at in (
        home.0,
        home.1,
        record {
          log = r.log;
          legal = r.legal;
          left = home.2;
          begins = f.seen_prefix;
          mine = subst (λ (n : List ℕ). entries_by n r.log ≡ v.mine) alone.name (f.mine sound.live);
          olds = λ o inside. r.logged.olds id (tag v) o here inside;
          distinct = subst (λ (n : List ℕ). AreDistinct (n
              ∷ map (λ (o : List ℕ × List (Entry E O M)). o.0) v.olds)) alone.name
              (r.named.distinct id (tag v) here);
          all = λ e inside. subst (λ (n : List ℕ). IsIn e.by
              (n ∷ map (λ (o : List ℕ × List (Entry E O M)). o.0) v.olds)) alone.name
              (all_by s r id v at sound.live sound.rests alone.name alone.back e inside);
        },
      )
