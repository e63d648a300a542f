-- What the calls of seats add up to.
use Rattle.std.specs.Prelude.{sum_by}
use Rattle.std.proofs.Common.{◌≡◌, ◌⊎◌, ℕ, ◌+◌, List, [], ◌∷◌, ◌++◌, length, sym, refl, ap, ◌∙◌}
use Rattle.std.proofs.Common.{subst, ⊎_elim, inl, inr, arith, Bool, append_assoc}
use Rattle.std.proofs.lemmas.List.Sums.{sum_by-cons}
use mathlib.Core.List.{map-append}
use Rattle.dp_hall.specs.declared.view.Entry.{Entry}
use Rattle.dp_hall.specs.declared.view.View.{View}
use Rattle.dp_hall.specs.declared.listener.Acted.{Acted}
use Rattle.dp_hall.specs.Logs.{is_same_name, entries_by}
use Rattle.dp_hall.specs.Names.{IsIn, AreDistinct, old_names}
use Rattle.dp_hall.specs.Calls.{ActsEach, SplitsInto, JoinsInto, IsAlone, Closes}
use Rattle.dp_hall.specs.Rule.{child_name}
use Rattle.dp_hall.specs.Laws.{Continues, Rejoins, AllBackBut, entry_count}
use Rattle.dp_hall.proofs.ListLemmas.{in_more, in_both, in_left, in_right, same_self, same_not}

module _ {E O M : Type 0} where
  pub each-continues : (v w : View E O M) (follows : O → Bool) (events : List E) (acted : Acted O)
      (acts : ActsEach follows v events acted w) → Continues v acts.entries w
  each-continues v w follows events acted acts =
      let g = acts.grows in
      let same = ap (λ (x : View E O M). x.known) g.same in
      let more = g.more in record {
        mine = g.mine;
        seen = (
          g.between ++ acts.entries,
          sym (append_assoc v.seen g.between acts.entries)
              ∙ sym g.seen,
        );
        known = omega (arith, more, same);
        same = g.same ∙ (λ i. record v { mine = w.mine; seen = w.seen; known = sym same i });
      }

  -- ---- which seats are still to be joined

  pub back-calls : (v w : View E O M) (xs : List (Entry E O M)) (out : List (List ℕ))
      → AllBackBut out v → Continues v xs w → AllBackBut out w
  back-calls v w xs out back a = λ n inside.
      subst (λ (l : List (List ℕ × List (Entry E O M))). IsIn n (old_names l) ⊎ IsIn n out)
      (sym (ap (λ (x : View E O M). x.olds) a.same))
      (back n (subst (λ (l : List (List ℕ)). IsIn n l) (ap (λ (x : View E O M). x.made) a.same)
      inside))

  pub back-split : (v stays given : View E O M) (out : List (List ℕ)) → AllBackBut out v
      → SplitsInto v stays given → AllBackBut (given.name ∷ out) stays
  back-split v stays given out back s = λ n inside.
      subst (λ (x : View E O M). IsIn n (old_names x.olds) ⊎ IsIn n (given.name ∷ out))
      (sym s.stays_is) (⊎_elim
      (λ (h : IsIn n v.made). ⊎_elim (λ (a : IsIn n (old_names v.olds)). inl a)
      (λ (b : IsIn n out). inr (inr b)) (back n h))
      (λ (e : n ≡ given.name). inr (inl e))
      (in_more n given.name v.made (subst (λ (x : View E O M). IsIn n x.made) s.stays_is inside)))

  pub back-given : (v stays given : View E O M) → SplitsInto v stays given → AllBackBut [] given
  back-given v stays given s = λ n inside. absurd (subst (IsIn n) s.made inside)

  pub back-join : (v w both : View E O M) (out : List (List ℕ)) → AllBackBut (w.name ∷ out) v
      → AllBackBut [] w → JoinsInto v w both → AllBackBut out both
  back-join v w both out back theirs j = λ n inside.
      let olds : old_names both.olds ≡ old_names v.olds ++ (w.name ∷ old_names w.olds) =
      ap old_names j.olds ∙ map-append (λ (o : List ℕ × List (Entry E O M)). o.0) v.olds
      ((w.name, w.mine) ∷ w.olds) in
      let right : IsIn n (w.name ∷ old_names w.olds) → IsIn n (old_names both.olds) = λ h. subst
      (IsIn n) (sym olds) (in_right n (old_names v.olds) (w.name ∷ old_names w.olds) h) in
      ⊎_elim
      (λ (h : IsIn n v.made). ⊎_elim
      (λ (a : IsIn n (old_names v.olds)). inl (subst (IsIn n) (sym olds)
      (in_left n (old_names v.olds) (w.name ∷ old_names w.olds) a)))
      (λ (b : IsIn n (w.name ∷ out)). ⊎_elim (λ (e : n ≡ w.name). inl (right (inl e)))
      (λ (c : IsIn n out). inr c) b) (back n h))
      (λ (h : IsIn n w.made). ⊎_elim (λ (a : IsIn n (old_names w.olds)). inl (right (inr a)))
      (λ (no : ⊥). absurd no) (theirs n h))
      (in_both n v.made w.made (subst (IsIn n) j.made inside))

  pub back-pair : (v w : View E O M) (xs ys : List (Entry E O M)) (out : List (List ℕ))
      → AllBackBut out v → Rejoins v xs ys w → AllBackBut out w
  back-pair v w xs ys out back r = λ n inside.
      let olds : old_names w.olds ≡ old_names v.olds ++ child_name v ∷ [] =
      ap old_names r.olds ∙ map-append (λ (o : List ℕ × List (Entry E O M)). o.0) v.olds
      ((child_name v, ys) ∷ []) in
      ⊎_elim
      (λ (h : IsIn n v.made). ⊎_elim
      (λ (a : IsIn n (old_names v.olds)). inl (subst (IsIn n) (sym olds)
      (in_left n (old_names v.olds) (child_name v ∷ []) a)))
      (λ (b : IsIn n out). inr b) (back n h))
      (λ (e : n ≡ child_name v). inl (subst (IsIn n) (sym olds)
      (in_right n (old_names v.olds) (child_name v ∷ []) (inl e))))
      (in_more n (child_name v) v.made (subst (IsIn n) r.made inside))

  pub back-close : (v : View E O M) → v.name ≡ [] → AllBackBut [] v → IsAlone v
  back-close v name back = record {
    name = name;
    back = λ n inside. ⊎_elim
        (λ (a : IsIn n (old_names v.olds)). a) (λ (no : ⊥). absurd no) (back n inside);
  }

  -- ---- as many entries as the seats have

  -- the entries by all of these names
  abbrev total : List (List ℕ) → List (Entry E O M) → ℕ
  total [] log = 0
  total (n ∷ ns) log = length (entries_by n log) + total ns log

  total_none : (ns : List (List ℕ)) (log : List (Entry E O M)) → log ≡ [] → total ns log ≡ 0
  total_none [] log none = refl
  total_none (n ∷ ns) log none =
      let rest = total_none ns log none in let own = ap (λ l. length (entries_by n l)) none in
      omega (arith, rest, own)

  -- an entry by none of these names adds nothing
  total_other : (ns : List (List ℕ)) (e : Entry E O M) (log : List (Entry E O M)) → ¬ IsIn e.by ns
      → total ns (e ∷ log) ≡ total ns log
  total_other [] e log out = refl
  total_other (n ∷ ns) e log out =
      let rest = total_other ns e log (λ h. out (inr h)) in
      rw (same_not e.by n (λ same. out (inl same))) (ap (λ k. length (entries_by n log) + k) rest)

  total_one : (ns : List (List ℕ)) (e : Entry E O M) (log : List (Entry E O M)) → AreDistinct ns
      → IsIn e.by ns → total ns (e ∷ log) ≡ total ns log + 1
  total_one [] e log d inside = absurd inside
  total_one (n ∷ ns) e log d (inl same) =
      let rest = total_other ns e log (λ h. d.0 (subst (λ (x : List ℕ). IsIn x ns) same h)) in
      rw (ap (λ x. is_same_name x n) same ∙ same_self n) (omega (arith, rest))
  total_one (n ∷ ns) e log d (inr inside) =
      let rest = total_one ns e log d.1 inside in
      rw (same_not e.by n (λ same. d.0 (subst (λ (x : List ℕ). IsIn x ns) same inside)))
      (omega (arith, rest))

  total_all : (ns : List (List ℕ)) (log : List (Entry E O M)) → AreDistinct ns
      → ((e : Entry E O M) → IsIn e log → IsIn e.by ns) → total ns log ≡ length log
  total_all ns [] d all = total_none ns [] refl
  total_all ns (e ∷ log) d all =
      let rest = total_all ns log d (λ x h. all x (inr h)) in
      let one = total_one ns e log d (all e (inl refl)) in
      omega (arith, rest, one)

  total_olds : (olds : List (List ℕ × List (Entry E O M))) (log : List (Entry E O M))
      → ((o : List ℕ × List (Entry E O M)) → IsIn o olds → entries_by o.0 log ≡ o.1)
      → total (old_names olds) log ≡ sum_by (λ o. length o.1) olds
  total_olds [] log stand = refl
  total_olds (o ∷ olds) log stand =
      let rest = total_olds olds log (λ x h. stand x (inr h)) in
      (λ i. length (stand o (inl refl) i) + rest i) ∙ sym
      (sum_by-cons (λ (x : List ℕ × List (Entry E O M)). length x.1) o olds)

  pub as_many : (may : M → E → O → M → Type 0) (start m : M) (v : View E O M)
      (c : Closes may start v m) → length c.log ≡ entry_count v
  as_many may start m v c =
      sym (total_all ([] ∷ old_names v.olds) c.log c.distinct c.all)
      ∙ (λ i. length (c.mine i) + total_olds v.olds c.log c.olds i)
