-- The rule on names, if a seat is split and if two are joined.
use Rattle.std.proofs.Common.{◌≡◌, ◌≢◌, ◌⊎◌, ℕ, ◌+◌, ◌<◌, true, false, List, [], ◌∷◌, ◌++◌, length}
use Rattle.std.proofs.Common.{set, sym, refl, ap, ◌∙◌, subst, ⊎_elim, inl, inr, arith, length-set}
use Rattle.std.proofs.Common.{length-append, append_assoc, true≢false}
use mathlib.Core.Logic.{dite}
use mathlib.Core.Option.{some, some-injective}
use mathlib.Core.List.{map-append}
use native.Mathlib.Decide.{ℕ_discrete}
use lib.ListN.{get_elem?}
use Rattle.atomic_table.proofs.Lists.{at_set, set_here, set_else, at_longer, at_last}
use Rattle.dp_hall.specs.declared.view.Entry.{Entry}
use Rattle.dp_hall.specs.Logs.{entries_by}
use Rattle.dp_hall.specs.Names.{IsIn, AreDistinct, Tag, names_of, IsChild, is_child_of, children}
use Rattle.dp_hall.specs.Names.{Lives, Named, Logged}
use Rattle.dp_hall.proofs.ListLemmas.{at_inside, in_left, in_right, in_both, in_more, at_end}
use Rattle.dp_hall.proofs.ListLemmas.{distinct_both, same_prefix, snoc_cut, snoc_same, not_true}
use Rattle.dp_hall.proofs.ListLemmas.{child-is, children-one, children-none}

module _ {E O M : Type 0} where
  abbrev old_name : List ℕ × List (Entry E O M) → List ℕ
  old_name o = o.0

  pub same_tag : (ts : List (Tag E O M)) (i j : ℕ) (s t : Tag E O M) → Lives ts i s → Lives ts j t
      → i ≡ j → s ≡ t
  same_tag ts i j s t here there p = some-injective s t (sym here.0
      ∙ (ap (get_elem? ts) p ∙ there.0))

  -- the seat that made a name, and the new seat of that name
  abbrev pub making : Tag E O M → List ℕ → Tag E O M
  making t n = record t { made = t.made ++ n ∷ []; splits = t.splits + 1 }

  abbrev pub newcomer : List ℕ → Tag E O M
  newcomer n = record { live = true; name = n; olds = []; made = []; splits = 0 }

  module _ (ts : List (Tag E O M)) (r : Named ts) (id : ℕ) (v : Tag E O M) (at : Lives ts id v)
    where
      abbrev n : List ℕ
      n = v.name ++ v.splits ∷ []

      abbrev l : Tag E O M
      l = making v n

      abbrev w : Tag E O M
      w = newcomer n

      abbrev after : List (Tag E O M)
      after = set ts id l ++ w ∷ []

      pub unused : (j : ℕ) (t : Tag E O M) → Lives ts j t → IsIn n (names_of t) → ⊥
      unused j t there inside = let h = r.fresh id j v t v.splits [] at there inside in absurd
          (omega (arith, h))

      inside : id < length ts
      inside = at_inside ts id v at.0

      Where : ℕ → Tag E O M → Type 0
      Where j s = ((j ≡ id) × (s ≡ l)) ⊎ (((j ≡ length ts) × (s ≡ w)) ⊎ ((j ≢ id) × Lives ts j s))

      where_is : (j : ℕ) (s : Tag E O M) → Lives after j s
          → ((j ≡ id) × (s ≡ l)) ⊎ (((j ≡ length ts) × (s ≡ w)) ⊎ ((j ≢ id) × Lives ts j s))
      where_is j s here = ⊎_elim
          (λ (e : get_elem? (set ts id l) j ≡ some s). ⊎_elim
          (λ (x : (j ≡ id) × (l ≡ s)). inl (x.0, sym x.1))
          (λ (x : (j ≢ id) × (get_elem? ts j ≡ some s)). inr (inr (x.0, (x.1, here.1))))
          (at_set ts id j l s e))
          (λ (x : (j ≡ length (set ts id l)) × (w ≡ s)). inr
          (inl (x.0 ∙ length-set ts id l, sym x.1)))
          (at_end (set ts id l) w s j here.0)

      still : (k : ℕ) (u : Tag E O M) → k ≢ id → Lives ts k u → Lives after k u
      still k u other there = (
        at_longer (set ts id l) (w ∷ []) k u
            (set_else ts id k l other ∙ there.0),
        there.1,
      )

      left_lives : Lives after id l
      left_lives = (at_longer (set ts id l) (w ∷ []) id l (set_here ts id l inside), at.1)

      right_lives : Lives after (length ts) w
      right_lives = (at_last (set ts id l) w (length ts) (length-set ts id l), refl)

      -- if a name of the seats after the split was before it: with the same seat, or nowhere
      Was : ℕ → List ℕ → Type 0
      Was j x = ((t : Tag E O M) × Lives ts j t × IsIn x (names_of t)) ⊎ ((x ≡ n) × (j ≡ length ts))

      was : (j : ℕ) (s : Tag E O M) (x : List ℕ) → Lives after j s → IsIn x (names_of s)
          → ((t : Tag E O M) × Lives ts j t × IsIn x (names_of t)) ⊎ ((x ≡ n) × (j ≡ length ts))
      was j s x here inside = ⊎_elim
          (λ (a : (j ≡ id) × (s ≡ l)). inl (
            v,
            (ap (get_elem? ts) a.0 ∙ at.0, at.1),
            subst
                (λ (z : Tag E O M). IsIn x (names_of z)) a.1 inside,
          ))
          (λ (b : ((j ≡ length ts) × (s ≡ w)) ⊎ ((j ≢ id) × Lives ts j s)). ⊎_elim
          (λ (c : (j ≡ length ts) × (s ≡ w)). inr (
            single (subst
                (λ (z : Tag E O M). IsIn x (names_of z)) c.1 inside),
            c.0,
          ))
          (λ (c : (j ≢ id) × Lives ts j s). inl (s, c.1, inside)) b)
          (where_is j s here)
        where
          single : IsIn x (n ∷ []) → x ≡ n
          single (inl e) = e
          single (inr h) = absurd h

      -- a live seat before the split, after it
      moved : (P : Tag E O M → Type 0) → (P v → P l) → (k : ℕ) (u : Tag E O M) → Lives ts k u → P u
          → (i : ℕ) × (t : Tag E O M) × Lives after i t × P t
      moved P on k u there h = dite (ℕ_discrete k id)
          (λ e. (id, l, left_lives, on (subst P (same_tag ts k id u v there at e) h)))
          (λ other. (k, u, still k u other there, h))

      -- if a name in a `made` after the split was before it: with the same seat, or it is the
      -- new one
      made_was : (j : ℕ) (s : Tag E O M) (x : List ℕ) → Lives after j s → IsIn x s.made
          → ((t : Tag E O M) × Lives ts j t × IsIn x t.made) ⊎ ((x ≡ n) × (j ≡ id))
      made_was j s x here p = ⊎_elim
          (λ (a : (j ≡ id) × (s ≡ l)). ⊎_elim
          (λ (h : IsIn x v.made). inl (v, (ap (get_elem? ts) a.0 ∙ at.0, at.1), h))
          (λ (e : x ≡ n). inr (e, a.0))
          (in_more x n v.made (subst (λ (z : Tag E O M). IsIn x z.made) a.1 p)))
          (λ (b : ((j ≡ length ts) × (s ≡ w)) ⊎ ((j ≢ id) × Lives ts j s)). ⊎_elim
          (λ (c : (j ≡ length ts) × (s ≡ w)).
          absurd (subst (λ (z : Tag E O M). IsIn x z.made) c.1 p))
          (λ (c : (j ≢ id) × Lives ts j s). inl (s, c.1, p)) b)
          (where_is j s here)

      -- the new name is in no `made` of before
      unmade : (j : ℕ) (t : Tag E O M) → Lives ts j t → IsIn n t.made → ⊥
      unmade j t there p = let g = r.given j t n there p in unused g.0 g.1 g.2 g.3

      pub named_split : Named after
      named_split = record {
        apart = λ i j s t x here there p q. ⊎_elim
            (λ (a : (u : Tag E O M) × Lives ts i u × IsIn x (names_of u)). ⊎_elim
            (λ (b : (u : Tag E O M) × Lives ts j u × IsIn x (names_of u)). r.apart i j a.0 b.0 x a.1
            b.1 a.2 b.2)
            (λ (b : (x ≡ n) × (j ≡ length ts)). absurd (unused i a.0 a.1
            (subst (λ (z : List ℕ). IsIn z (names_of a.0)) b.0 a.2))) (was j t x there q))
            (λ (a : (x ≡ n) × (i ≡ length ts)). ⊎_elim
            (λ (b : (u : Tag E O M) × Lives ts j u × IsIn x (names_of u)). absurd
            (unused j b.0 b.1 (subst (λ (z : List ℕ). IsIn z (names_of b.0)) a.0 b.2)))
            (λ (b : (x ≡ n) × (j ≡ length ts)). a.1 ∙ sym b.1) (was j t x there q))
            (was i s x here p);
        distinct = λ i s here. ⊎_elim
            (λ (a : (i ≡ id) × (s ≡ l)). subst (λ (z : Tag E O M). AreDistinct (names_of z))
            (sym a.1) (r.distinct id v at))
            (λ (b : ((i ≡ length ts) × (s ≡ w)) ⊎ ((i ≢ id) × Lives ts i s)). ⊎_elim
            (λ (c : (i ≡ length ts) × (s ≡ w)). subst (λ (z : Tag E O M). AreDistinct (names_of z))
            (sym c.1) ((λ h. h), tt))
            (λ (c : (i ≢ id) × Lives ts i s). r.distinct i s c.1) b)
            (where_is i s here);
        made = λ i s x here p. ⊎_elim
            (λ (a : (i ≡ id) × (s ≡ l)). subst (λ (z : Tag E O M). IsChild x (names_of z)) (sym a.1)
            (⊎_elim (λ (h : IsIn x v.made). r.made id v x at h)
            (λ (e : x ≡ n). (v.name, v.splits, e, inl refl))
            (in_more x n v.made (subst (λ (z : Tag E O M). IsIn x z.made) a.1 p))))
            (λ (b : ((i ≡ length ts) × (s ≡ w)) ⊎ ((i ≢ id) × Lives ts i s)). ⊎_elim
            (λ (c : (i ≡ length ts) × (s ≡ w)). absurd (subst (λ (z : Tag E O M). IsIn x z.made) c.1
            p))
            (λ (c : (i ≢ id) × Lives ts i s). r.made i s x c.1 p) b)
            (where_is i s here);
        maker = λ i s x here p. ⊎_elim
            (λ (a : (u : Tag E O M) × Lives ts i u × IsIn x (names_of u)). ⊎_elim
            (λ (e : x ≡ []). inl e)
            (λ (m : (j : ℕ) × (t : Tag E O M) × Lives ts j t × IsIn x t.made). inr
            (moved (λ z. IsIn x z.made) (λ h. in_left x v.made (n ∷ []) h) m.0 m.1 m.2 m.3))
            (r.maker i a.0 x a.1 a.2))
            (λ (a : (x ≡ n) × (i ≡ length ts)). inr (
              id,
              l,
              left_lives,
              in_right x v.made (n ∷ [])
                  (inl a.0),
            ))
            (was i s x here p);
        first = let f = r.first in moved (λ z. IsIn [] (names_of z)) (λ h. h) f.0 f.1 f.2 f.3;
        given = λ i s x here p. ⊎_elim
            (λ (a : (u : Tag E O M) × Lives ts i u × IsIn x u.made). let g = r.given i a.0 x a.1 a.2
            in moved (λ z. IsIn x (names_of z)) (λ h. h) g.0 g.1 g.2 g.3)
            (λ (a : (x ≡ n) × (i ≡ id)). (length ts, w, right_lives, inl a.0))
            (made_was i s x here p);
        once = λ i j s t x here there p q. ⊎_elim
            (λ (a : (u : Tag E O M) × Lives ts i u × IsIn x u.made). ⊎_elim
            (λ (b : (u : Tag E O M) × Lives ts j u × IsIn x u.made).
            r.once i j a.0 b.0 x a.1 b.1 a.2 b.2)
            (λ (b : (x ≡ n) × (j ≡ id)). absurd (unmade i a.0 a.1
            (subst (λ (z : List ℕ). IsIn z a.0.made) b.0 a.2)))
            (made_was j t x there q))
            (λ (a : (x ≡ n) × (i ≡ id)). ⊎_elim
            (λ (b : (u : Tag E O M) × Lives ts j u × IsIn x u.made). absurd
            (unmade j b.0 b.1 (subst (λ (z : List ℕ). IsIn z b.0.made) a.0 b.2)))
            (λ (b : (x ≡ n) × (j ≡ id)). a.1 ∙ sym b.1)
            (made_was j t x there q))
            (made_was i s x here p);
        counted = λ i s here. ⊎_elim
            (λ (a : (i ≡ id) × (s ≡ l)).
            subst (λ (z : Tag E O M). z.splits ≡ children z.name z.made) (sym a.1)
            (ap (λ c. c + 1) (r.counted id v at) ∙ sym (children-one v.name v.made v.splits)))
            (λ (b : ((i ≡ length ts) × (s ≡ w)) ⊎ ((i ≢ id) × Lives ts i s)). ⊎_elim
            (λ (c : (i ≡ length ts) × (s ≡ w)). subst (λ (z : Tag E O M). z.splits
            ≡ children z.name z.made) (sym c.1) refl)
            (λ (c : (i ≢ id) × Lives ts i s). r.counted i s c.1) b)
            (where_is i s here);
        fresh = λ i j s t k more here there p. ⊎_elim
            (λ (a : (u : Tag E O M) × Lives ts j u × IsIn (s.name ++ k ∷ more) (names_of u)).
            old_next i j s a.0 k more here a.1 a.2)
            (λ (a : (s.name ++ k ∷ more ≡ n) × (j ≡ length ts)). new_next i s k more here a.0)
            (was j t (s.name ++ k ∷ more) there p);
      }
        where
          -- a name of before that goes on from a seat's
          old_next : (i j : ℕ) (s u : Tag E O M) (k : ℕ) (more : List ℕ) → Lives after i s
              → Lives ts j u → IsIn (s.name ++ k ∷ more) (names_of u) → k < s.splits
          old_next i j s u k more here there p = ⊎_elim
              (λ (a : (i ≡ id) × (s ≡ l)). subst (λ (z : Tag E O M). k < z.splits) (sym a.1)
              (let h : k < v.splits = r.fresh id j v u k more at there
              (subst (λ (z : Tag E O M). IsIn (z.name ++ k ∷ more) (names_of u)) a.1 p) in omega
              (arith, h)))
              (λ (b : ((i ≡ length ts) × (s ≡ w)) ⊎ ((i ≢ id) × Lives ts i s)). ⊎_elim
              (λ (c : (i ≡ length ts) × (s ≡ w)).
              let q : IsIn (n ++ k ∷ more) (names_of u) = subst
              (λ (z : Tag E O M). IsIn (z.name ++ k ∷ more) (names_of u)) c.1 p in
              let q' : IsIn (v.name ++ v.splits ∷ (k ∷ more)) (names_of u) = subst
              (λ (z : List ℕ). IsIn z (names_of u)) (append_assoc v.name (v.splits ∷ [])
              (k ∷ more)) q in
              let h = r.fresh id j v u v.splits (k ∷ more) at there q' in absurd (omega (arith, h)))
              (λ (c : (i ≢ id) × Lives ts i s). r.fresh i j s u k more c.1 there p) b)
              (where_is i s here)

          heads : (a b : ℕ) (xs ys : List ℕ) → a ∷ xs ≡ b ∷ ys → a ≡ b
          heads a b xs ys e = cc (e)

          -- the new name goes on from a seat's
          new_next : (i : ℕ) (s : Tag E O M) (k : ℕ) (more : List ℕ) → Lives after i s
              → s.name ++ k ∷ more ≡ n → k < s.splits
          new_next i s k more here e = ⊎_elim
              (λ (a : (i ≡ id) × (s ≡ l)).
              let same : k ∷ more ≡ v.splits ∷ [] = same_prefix v.name (k ∷ more) (v.splits ∷ [])
              (subst (λ (z : Tag E O M). z.name ++ k ∷ more ≡ n) a.1 e) in
              let h : k ≡ v.splits = heads k v.splits more [] same in
              subst (λ (z : Tag E O M). k < z.splits) (sym a.1) (omega (arith, h)))
              (λ (b : ((i ≡ length ts) × (s ≡ w)) ⊎ ((i ≢ id) × Lives ts i s)). ⊎_elim
              (λ (c : (i ≡ length ts) × (s ≡ w)).
              let h = ap length (subst (λ (z : Tag E O M). z.name ++ k ∷ more ≡ n) c.1 e) in absurd
              (omega (arith, h, length-append n (k ∷ more))))
              (λ (c : (i ≢ id) × Lives ts i s). ⊎_elim
              (λ (same : s.name ≡ v.name). absurd (c.0 (r.apart i id s v s.name c.1 at (inl refl)
              (inl same))))
              (λ (cut : (init : List ℕ) × (v.name ≡ s.name ++ k ∷ init)).
              r.fresh i id s v k cut.0 c.1 at (inl (sym cut.1)))
              (snoc_cut s.name v.name more k v.splits e)) b)
              (where_is i s here)

      pub logged_split : (log : List (Entry E O M)) → Logged ts log → Logged after log
      logged_split log g = record {
        by = λ e p. let q = g.by e p in
            moved (λ z. IsIn e.by (names_of z)) (λ h. h) q.0 q.1 q.2 q.3;
        olds = λ i s o here p. ⊎_elim
            (λ (a : (i ≡ id) × (s ≡ l)). g.olds id v o at (subst (λ (z : Tag E O M). IsIn o z.olds)
            a.1 p))
            (λ (b : ((i ≡ length ts) × (s ≡ w)) ⊎ ((i ≢ id) × Lives ts i s)). ⊎_elim
            (λ (c : (i ≡ length ts) × (s ≡ w)). absurd (subst (λ (z : Tag E O M). IsIn o z.olds) c.1
            p))
            (λ (c : (i ≢ id) × Lives ts i s). g.olds i s o c.1 p) b)
            (where_is i s here);
      }

      -- no entry has the new name
      pub by_nobody : (log : List (Entry E O M)) → Logged ts log → (e : Entry E O M) → IsIn e log
          → e.by ≢ n
      by_nobody log g e p same = let q = g.by e p in unused q.0 q.1 q.2
          (subst (λ (z : List ℕ). IsIn z (names_of q.1)) same q.3)

  -- ---- a join

  abbrev pub absorbing : Tag E O M → Tag E O M → List (Entry E O M) → Tag E O M
  absorbing v w mine = record v {
    olds = v.olds ++ (w.name, mine) ∷ w.olds;
    made = v.made
        ++ w.made;
  }

  abbrev pub gone : Tag E O M
  gone = record { live = false; name = []; olds = []; made = []; splits = 0 }

  module _ (ts : List (Tag E O M)) (r : Named ts) (id : ℕ) (v : Tag E O M) (at : Lives ts id v)
      (o : ℕ) (w : Tag E O M) (there : Lives ts o w) (mine : List (Entry E O M)) (other : o ≢ id)
    where
      abbrev b : Tag E O M
      b = absorbing v w mine

      abbrev joined_tags : List (Tag E O M)
      joined_tags = set (set ts id b) o gone

      names_b : names_of b ≡ names_of v ++ names_of w
      names_b = ap (λ l. v.name ∷ l) (map-append old_name v.olds ((w.name, mine) ∷ w.olds))

      where_j : (j : ℕ) (s : Tag E O M) → Lives joined_tags j s
          → ((j ≡ id) × (s ≡ b)) ⊎ ((j ≢ id) × (j ≢ o) × Lives ts j s)
      where_j j s here = ⊎_elim
          (λ (a : (j ≡ o) × (gone ≡ s)). absurd (true≢false
          (sym here.1 ∙ ap (λ (z : Tag E O M). z.live) (sym a.1))))
          (λ (a : (j ≢ o) × (get_elem? (set ts id b) j ≡ some s)). ⊎_elim
          (λ (c : (j ≡ id) × (b ≡ s)). inl (c.0, sym c.1))
          (λ (c : (j ≢ id) × (get_elem? ts j ≡ some s)). inr (c.0, a.0, (c.1, here.1)))
          (at_set ts id j b s a.1))
          (at_set (set ts id b) o j gone s here.0)

      stays : (k : ℕ) (u : Tag E O M) → k ≢ id → k ≢ o → Lives ts k u → Lives joined_tags k u
      stays k u p q here = (
        set_else (set ts id b) o k gone q
            ∙ (set_else ts id k b p ∙ here.0),
        here.1,
      )

      both_live : Lives joined_tags id b
      both_live = (
        set_else (set ts id b) o id gone (λ e. other (sym e))
            ∙ set_here ts id b (at_inside ts id v at.0),
        at.1,
      )

      -- if a name in a list of a seat's was before the join, if the two lists were put together
      Came : (Tag E O M → List (List ℕ)) → ℕ → List ℕ → Type 0
      Came f j x = (i : ℕ) × (t : Tag E O M) × Lives ts i t × IsIn x (f t)
          × (((i ≢ o) × (j ≡ i)) ⊎ ((i ≡ o) × (j ≡ id)))

      came : (f : Tag E O M → List (List ℕ)) → f b ≡ f v ++ f w
          → (j : ℕ) (s : Tag E O M) (x : List ℕ) → Lives joined_tags j s → IsIn x (f s)
          → (i : ℕ) × (t : Tag E O M) × Lives ts i t × IsIn x (f t)
          × (((i ≢ o) × (j ≡ i)) ⊎ ((i ≡ o) × (j ≡ id)))
      came f both j s x here p = ⊎_elim
          (λ (a : (j ≡ id) × (s ≡ b)). ⊎_elim
          (λ (h : IsIn x (f v)). (id, v, at, h, inl ((λ e. other (sym e)), a.0)))
          (λ (h : IsIn x (f w)). (o, w, there, h, inr (refl, a.0)))
          (in_both x (f v) (f w) (subst (IsIn x) both (subst (λ (z : Tag E O M). IsIn x (f z)) a.1
          p))))
          (λ (a : (j ≢ id) × (j ≢ o) × Lives ts j s). (j, s, a.2, p, inl (a.1, refl)))
          (where_j j s here)

      -- what is in one seat's list alone stays so
      one_seat : (f : Tag E O M → List (List ℕ)) → f b ≡ f v ++ f w
          → ((i j : ℕ) (s t : Tag E O M) (x : List ℕ) → Lives ts i s → Lives ts j t → IsIn x (f s)
          → IsIn x (f t) → i ≡ j)
          → (i j : ℕ) (s t : Tag E O M) (x : List ℕ) → Lives joined_tags i s → Lives joined_tags j t
          → IsIn x (f s) → IsIn x (f t) → i ≡ j
      one_seat f both one i j s t x here there' p q =
          let a = came f both i s x here p in let c = came f both j t x there' q in let same : a.0
          ≡ c.0 = one a.0 c.0 a.1 c.1 x a.2 c.2 a.3 c.3 in
          ⊎_elim
          (λ (f : (a.0 ≢ o) × (i ≡ a.0)). ⊎_elim (λ (g : (c.0 ≢ o) × (j ≡ c.0)). f.1
          ∙ (same ∙ sym g.1)) (λ (g : (c.0 ≡ o) × (j ≡ id)). absurd (f.0 (same ∙ g.0))) c.4)
          (λ (f : (a.0 ≡ o) × (i ≡ id)). ⊎_elim (λ (g : (c.0 ≢ o) × (j ≡ c.0)). absurd
          (g.0 (sym same ∙ f.0))) (λ (g : (c.0 ≡ o) × (j ≡ id)). f.1 ∙ sym g.1) c.4)
          a.4

      -- what the second seat's names made are no children of the first one's
      not_mine : (x : List ℕ) → IsIn x w.made → is_child_of v.name x ≡ false
      not_mine x h = not_true (is_child_of v.name x) (λ t.
          let c = r.made o w x there h in let q = child-is v.name x t in
          let same : c.0 ≡ v.name = snoc_same c.0 v.name c.1 q.0 (sym c.2 ∙ q.1) in
          other (r.apart o id w v c.0 there at c.3 (inl same)))

      -- a fact of a live seat before the join is one of a live seat after it
      kept_by : (P : Tag E O M → Type 0) → (P v → P b) → (P w → P b) → (k : ℕ) (u : Tag E O M)
          → Lives ts k u → P u → (i : ℕ) × (t : Tag E O M) × Lives joined_tags i t × P t
      kept_by P one two k u here h = dite (ℕ_discrete k id)
          (λ e. (id, b, both_live, one (subst P (same_tag ts k id u v here at e) h)))
          (λ p. dite (ℕ_discrete k o) (λ e. (
            id,
            b,
            both_live,
            two
                (subst P (same_tag ts k o u w here there e) h),
          )) (λ q. (k, u, stays k u p q here, h)))

      kept_names : (x : List ℕ) (k : ℕ) (u : Tag E O M) → Lives ts k u → IsIn x (names_of u)
          → (i : ℕ) × (t : Tag E O M) × Lives joined_tags i t × IsIn x (names_of t)
      kept_names x = kept_by (λ z. IsIn x (names_of z)) (λ h. subst (IsIn x) (sym names_b)
          (in_left x (names_of v) (names_of w) h))
          (λ h. subst (IsIn x) (sym names_b) (in_right x (names_of v) (names_of w) h))

      pub named_join : Named joined_tags
      named_join = record {
        apart = one_seat names_of names_b r.apart;
        once = one_seat (λ z. z.made) refl r.once;
        first = let f = r.first in kept_names [] f.0 f.1 f.2 f.3;
        given = λ i s x here p. let a = came (λ z. z.made) refl i s x here p in let g = r.given a.0
            a.1 x a.2 a.3 in kept_names x g.0 g.1 g.2 g.3;
        counted = λ i s here. ⊎_elim
            (λ (a : (i ≡ id) × (s ≡ b)).
            subst (λ (z : Tag E O M). z.splits ≡ children z.name z.made) (sym a.1)
            (r.counted id v at ∙ sym (children-none v.name v.made w.made not_mine)))
            (λ (a : (i ≢ id) × (i ≢ o) × Lives ts i s). r.counted i s a.2)
            (where_j i s here);
        distinct = λ i s here. ⊎_elim
            (λ (a : (i ≡ id) × (s ≡ b)). subst (λ (z : Tag E O M). AreDistinct (names_of z))
            (sym a.1) (subst AreDistinct (sym names_b)
            (distinct_both (names_of v) (names_of w) (r.distinct id v at) (r.distinct o w there)
            (λ x p q. other (r.apart o id w v x there at q p)))))
            (λ (a : (i ≢ id) × (i ≢ o) × Lives ts i s). r.distinct i s a.2)
            (where_j i s here);
        made = λ i s x here p. ⊎_elim
            (λ (a : (i ≡ id) × (s ≡ b)). subst (λ (z : Tag E O M). IsChild x (names_of z)) (sym a.1)
            (⊎_elim
            (λ (h : IsIn x v.made). let c = r.made id v x at h in (
              c.0,
              c.1,
              c.2,
              subst (IsIn c.0) (sym names_b)
                  (in_left c.0 (names_of v) (names_of w) c.3),
            ))
            (λ (h : IsIn x w.made). let c = r.made o w x there h in (
              c.0,
              c.1,
              c.2,
              subst (IsIn c.0) (sym names_b)
                  (in_right c.0 (names_of v) (names_of w) c.3),
            ))
            (in_both x v.made w.made (subst (λ (z : Tag E O M). IsIn x z.made) a.1 p))))
            (λ (a : (i ≢ id) × (i ≢ o) × Lives ts i s). r.made i s x a.2 p)
            (where_j i s here);
        maker = λ i s x here p. let a = came names_of names_b i s x here p in ⊎_elim
            (λ (e : x ≡ []). inl e)
            (λ (m : (j : ℕ) × (t : Tag E O M) × Lives ts j t × IsIn x t.made). inr
            (kept_by (λ z. IsIn x z.made) (λ h. in_left x v.made w.made h)
            (λ h. in_right x v.made w.made h) m.0 m.1 m.2 m.3))
            (r.maker a.0 a.1 x a.2 a.3);
        fresh = λ i j s t k more here there' p. let c = came names_of names_b j t
            (s.name ++ k ∷ more) there' p in ⊎_elim
            (λ (a : (i ≡ id) × (s ≡ b)). subst (λ (z : Tag E O M). k < z.splits) (sym a.1)
            (r.fresh id c.0 v c.1 k more at c.2 (subst
            (λ (z : Tag E O M). IsIn (z.name ++ k ∷ more) (names_of c.1)) a.1 c.3)))
            (λ (a : (i ≢ id) × (i ≢ o) × Lives ts i s). r.fresh i c.0 s c.1 k more a.2 c.2 c.3)
            (where_j i s here);
      }

      pub logged_join : (log : List (Entry E O M)) → Logged ts log → entries_by w.name log ≡ mine
          → Logged joined_tags log
      logged_join log g own = record {
        by = λ e p. let q = g.by e p in kept_names e.by q.0 q.1 q.2 q.3;
        olds = λ i s x here p. ⊎_elim
            (λ (a : (i ≡ id) × (s ≡ b)). ⊎_elim
            (λ (h : IsIn x v.olds). g.olds id v x at h)
            (λ (h : IsIn x ((w.name, mine) ∷ w.olds)). of_other log g own x h)
            (in_both x v.olds ((w.name, mine) ∷ w.olds) (subst
            (λ (z : Tag E O M). IsIn x z.olds) a.1 p)))
            (λ (a : (i ≢ id) × (i ≢ o) × Lives ts i s). g.olds i s x a.2 p)
            (where_j i s here);
      }
        where
          of_other : (log : List (Entry E O M)) → Logged ts log → entries_by w.name log ≡ mine
              → (x : (List ℕ × List (Entry E O M))) → IsIn x ((w.name, mine) ∷ w.olds)
              → entries_by x.0 log ≡ x.1
          of_other log g own x (inl e) =
              subst (λ (z : (List ℕ × List (Entry E O M))). entries_by z.0 log ≡ z.1) (sym e) own
          of_other log g own x (inr h) = g.olds o w x there h
