-- Strokes after acts that stand alone: they are those of the acts by themselves, with the older
-- groups, which stay as they were.
use Rattle.std.proofs.Common.{◌≡◌, ℕ, ◌+◌, ◌-◌, ◌≤◌, ◌<◌, ◌==◌, Bool, true, false, if◌then◌else◌}
use Rattle.std.proofs.Common.{List, [], ◌∷◌, ◌++◌, length, take, drop, map, Option, None, Some}
use Rattle.std.proofs.Common.{refl, sym, ap, subst, ◌∙◌, arith, length-append, append_assoc, suc}
use Rattle.std.proofs.Common.{inl, inr}
use Rattle.std.specs.List.{find, slice_get}
use Rattle.std.specs.Option.{option_map, option_or}
use Rattle.std.proofs.lemmas.Bool.{cases_Bool, cases_lt, eqb-true}
use Rattle.std.proofs.lemmas.List.{map-append, drop-append-le}
use Rattle.std.proofs.lemmas.List.Folds.{find-append}
use Rattle.std.proofs.Math.Seq.{drop-append-add, take-append-add}
use Rattle.std.proofs.Math.ListN.{drop_of_length-le}
use Rattle.dp_board.specs.declared.act.Act.{Act}
use Rattle.dp_board.specs.declared.act.Act.TheVariants.{Point, Undo, Redo, Draw, Depth}
use Rattle.dp_board.specs.declared.act.UserAct.{UserAct}
use Rattle.dp_board.specs.Strokes.{Window, Groups, Strokes, last_few, cut, window_with, is_among}
use Rattle.dp_board.specs.Strokes.{is_eligible, last_of, without_last, without, where_eligible}
use Rattle.dp_board.specs.Strokes.{moved, groups_with, groups_after, concerned, after_act}
use Rattle.dp_board.proofs.TimesLemmas.{one, times, one_same, one_other, times-append, times-drop}
use Rattle.dp_board.proofs.TimesLemmas.{is_among-none, is_among-some, times-none, times-some}
use Rattle.dp_board.proofs.TimesLemmas.{without_last-push, find-among}
use Rattle.dp_board.proofs.StepLemmas.{where_eligible-is}
use Rattle.dp_board.proofs.RenamingLemmas.{IsInjective, is_among-renamed, choice-renamed}
use Rattle.dp_board.proofs.RenamingLemmas.{find-renamed, last_few-renamed, last_of-renamed}
use Rattle.dp_board.proofs.RenamingLemmas.{without_last-renamed, without-renamed}

-- ---- names that are n more, after older ones

-- n more
abbrev pub up : ℕ → ℕ → ℕ
up n p = p + n

pub up-injective : (n : ℕ) → IsInjective (up n)
up-injective n x y same = omega (arith, same)

-- all of them are below n
abbrev pub IsOld : ℕ → List ℕ → Type 0
IsOld n xs = (h : ℕ) → n ≤ h → times h xs ≡ 0

-- what is not among the first ones is among all exactly if it is among the rest
pub among-rest : (xs ys : List ℕ) (h : ℕ) → times h xs ≡ 0 → is_among (xs ++ ys) h ≡ is_among ys h
among-rest xs ys h none = elim (cases_Bool (is_among ys h)) [
  | inl among ↦ is_among-some (xs ++ ys) h
      (omega (arith, times-append h xs ys, times-some ys h among)) ∙ sym among
  | inr other ↦ is_among-none (xs ++ ys) h
      (omega (arith, times-append h xs ys, times-none ys h other, none)) ∙ sym other
]

-- what is not among the last ones is among all exactly if it is among the first
pub among-first : (xs ys : List ℕ) (h : ℕ) → times h ys ≡ 0
    → is_among (xs ++ ys) h ≡ is_among xs h
among-first xs ys h none = elim (cases_Bool (is_among xs h)) [
  | inl among ↦ is_among-some (xs ++ ys) h
      (omega (arith, times-append h xs ys, times-some xs h among)) ∙ sym among
  | inr other ↦ is_among-none (xs ++ ys) h
      (omega (arith, times-append h xs ys, times-none xs h other, none)) ∙ sym other
]

-- names that are n more are none below n
pub times-up : (n h : ℕ) (xs : List ℕ) → h < n → times h (map (up n) xs) ≡ 0
times-up n h [] less = refl
times-up n h (x ∷ xs) less =
    omega (arith, one_other (up n x) h (omega arith), times-up n h xs less)

-- the last is among them
pub last-among : (xs : List ℕ) (g : ℕ) → last_of xs ≡ Some g → 1 ≤ times g xs
last-among xs g is =
    let k : times g (without_last xs ++ g ∷ []) ≡ times g xs =
    ap (times g) (without_last-push xs g is) in
    omega (arith, times-append g (without_last xs) (g ∷ []), one_same g g refl)

slice_get-rest : (xs ys : List ℕ) (i : ℕ) → slice_get (xs ++ ys) (length xs + i) ≡ slice_get ys i
slice_get-rest [] ys i = ap (slice_get ys) (omega arith)
slice_get-rest (x ∷ xs) ys i =
    let next : length (x ∷ xs) + i ≡ suc (length xs + i) = omega arith in
    ap (slice_get (x ∷ xs ++ ys)) next ∙ slice_get-rest xs ys i

-- the last of all is the last of the rest, if there is one
pub last_of-rest : (xs : List ℕ) (y : ℕ) (ys : List ℕ) → last_of (xs ++ y ∷ ys) ≡ last_of (y ∷ ys)
last_of-rest xs y ys =
    let at : length (xs ++ y ∷ ys) - 1 ≡ length xs + (length (y ∷ ys) - 1) =
    omega (arith, length-append xs (y ∷ ys)) in
    ap (slice_get (xs ++ y ∷ ys)) at ∙ slice_get-rest xs (y ∷ ys) (length (y ∷ ys) - 1)

without_last-rest : (xs : List ℕ) (y : ℕ) (ys : List ℕ)
    → without_last (xs ++ y ∷ ys) ≡ xs ++ without_last (y ∷ ys)
without_last-rest xs y ys =
    let at : length (xs ++ y ∷ ys) - 1 ≡ length xs + (length (y ∷ ys) - 1) =
    omega (arith, length-append xs (y ∷ ys)) in
    ap (λ k. take k (xs ++ y ∷ ys)) at ∙ take-append-add xs (y ∷ ys) (length (y ∷ ys) - 1)

without-head : (b : Bool) (x g : ℕ) (xs ys : List ℕ)
    → (b ≡ false → without g (xs ++ ys) ≡ without g xs ++ ys)
    → (if b then xs ++ ys else x ∷ without g (xs ++ ys))
    ≡ (if b then xs else x ∷ without g xs) ++ ys
without-head true x g xs ys rest = refl
without-head false x g xs ys rest = ap (λ zs. x ∷ zs) (rest refl)

-- one of the first ones is taken out of these
without-first : (g : ℕ) (xs ys : List ℕ) → 1 ≤ times g xs
    → without g (xs ++ ys) ≡ without g xs ++ ys
without-first g [] ys some = absurd (omega arith)
without-first g (x ∷ xs) ys some =
    without-head (x == g) x g xs ys
    (λ other. let k : one (x == g) ≡ 0 = ap one other in
    without-first g xs ys (omega (arith, some)))

drop-both : (k : ℕ) (xs ys : List ℕ) → drop k (xs ++ ys) ≡ drop k xs ++ drop (k - length xs) ys
drop-both k xs ys = elim (cases_lt k (length xs)) [
  | inl inside ↦
      let none : 0 ≡ k - length xs = omega arith in
      drop-append-le k xs ys (omega arith) ∙ ap (λ n. drop k xs ++ drop n ys) none
  | inr past ↦
      let whole : k ≡ length xs + (k - length xs) = omega arith in
      let none : [] ≡ drop k xs = sym (drop_of_length-le xs past) in
      ap (λ n. drop n (xs ++ ys)) whole ∙ drop-append-add xs ys (k - length xs)
      ∙ ap (λ zs. zs ++ drop (k - length xs) ys) none
]

push-up : (n p q : ℕ) (xs : List ℕ) → p ≡ up n q
    → map (up n) xs ++ p ∷ [] ≡ map (up n) (xs ++ q ∷ [])
push-up n p q xs same =
    ap (λ k. map (up n) xs ++ k ∷ []) same ∙ sym (map-append (up n) xs (q ∷ []))

-- ---- the window

-- v has the Points of w, n later, after older ones
pub record LaterWindow (n : ℕ) (v w : Window) : Type 0 where
  pub depth : v.depth ≡ w.depth
  pub olds : List ℕ
  pub old : IsOld n olds
  pub points : v.points ≡ olds ++ map (up n) w.points

later-window_with : {Op : Type 0} → (n p q : ℕ) (act : Act Op) (v w : Window) → p ≡ up n q
    → LaterWindow n v w
    → LaterWindow n (window_with p act v) (window_with q act w)
later-window_with n p q Point v w same h = record {
  depth = h.depth;
  olds = h.olds;
  old = h.old;
  points = ap (λ ps. ps ++ p ∷ []) h.points ∙ append_assoc h.olds (map (up n) w.points) (p ∷ [])
      ∙ ap (λ ps. h.olds ++ ps) (push-up n p q w.points same);
}
later-window_with n p q (Depth d) v w same h =
    record { depth = refl; olds = h.olds; old = h.old; points = h.points }
later-window_with n p q _ v w same h = h

later-cut : (n : ℕ) (v w : Window) → LaterWindow n v w → LaterWindow n (cut v) (cut w)
later-cut n v w h =
    let all = h.olds ++ map (up n) w.points in
    let k : ℕ = length all - w.depth in
    let left : k - length h.olds ≡ length (map (up n) w.points) - w.depth =
    omega (arith, length-append h.olds (map (up n) w.points)) in
    record {
      depth = h.depth;
      olds = drop k h.olds;
      old = λ g above. omega (arith, times-drop g k h.olds, h.old g above);
      points = ap (λ d. last_few d v.points) h.depth ∙ ap (last_few w.depth) h.points
          ∙ drop-both k h.olds (map (up n) w.points)
          ∙ ap (λ m. drop k h.olds ++ drop m (map (up n) w.points)) left
          ∙ ap (λ ps. drop k h.olds ++ ps) (last_few-renamed (up n) w.depth w.points);
    }

later-eligible : (n : ℕ) (v w : Window) → LaterWindow n v w → (group : ℕ)
    → is_eligible v (up n group) ≡ is_eligible w group
later-eligible n v w h group =
    ap (λ ps. is_among ps (up n group)) h.points
    ∙ among-rest h.olds (map (up n) w.points) (up n group) (h.old (up n group) (omega arith))
    ∙ is_among-renamed (up n) (up-injective n) w.points group

later-where : (n : ℕ) (v w : Window) → LaterWindow n v w → (o : Option ℕ)
    → where_eligible v (option_map (up n) o) ≡ option_map (up n) (where_eligible w o)
later-where n v w h None = refl
later-where n v w h (Some group) =
    ap (λ b. if b then Some (up n group) else None) (later-eligible n v w h group)
    ∙ choice-renamed (up n) (is_eligible w group) group None

-- ---- the groups

-- g has the groups of h, n later, after the done ones `first` and before older undone ones
pub record LaterGroups (n : ℕ) (first : List ℕ) (g h : Groups) : Type 0 where
  pub done : g.done ≡ first ++ map (up n) h.done
  pub olds : List ℕ
  pub old : IsOld n olds
  pub undone : g.undone ≡ map (up n) h.undone ++ olds

pub record Later (n : ℕ) (first : List ℕ) (s t : Strokes) : Type 0 where
  pub position : s.position ≡ up n t.position
  pub window : LaterWindow n s.window t.window
  pub groups : LaterGroups n first s.groups t.groups

option-none : (o : Option ℕ) → ((g : ℕ) → o ≡ Some g → ⊥) → o ≡ None
option-none None free = refl
option-none (Some g) free = absurd (free g refl)

-- the group that is moved, if it is none of the older ones
abbrev pub IsYoung : ℕ → Option ℕ → Type 0
IsYoung n o = (group : ℕ) → o ≡ Some group → n ≤ group

later-undoable : (n : ℕ) (first : List ℕ) (v w : Window) → LaterWindow n v w → IsOld n first
    → (done : List ℕ) → IsYoung n (where_eligible v (last_of (first ++ map (up n) done)))
    → where_eligible v (last_of (first ++ map (up n) done))
    ≡ option_map (up n) (where_eligible w (last_of done))
later-undoable n first v w h old [] young =
    option-none (where_eligible v (last_of (first ++ []))) (λ g is.
    let among : 1 ≤ times g (first ++ []) =
    last-among (first ++ []) g (where_eligible-is v (last_of (first ++ [])) g is).0 in
    omega (arith, among, times-append g first [], old g (young g is)))
later-undoable n first v w h old (x ∷ xs) young =
    ap (where_eligible v) (last_of-rest first (up n x) (map (up n) xs)
    ∙ last_of-renamed (up n) (x ∷ xs))
    ∙ later-where n v w h (last_of (x ∷ xs))

or-none : (f : ℕ → ℕ) (a o : Option ℕ) → (a ≡ None → o ≡ None)
    → option_or (option_map f a) o ≡ option_map f a
or-none f None o none = none refl
or-none f (Some g) o none = refl

later-redoable : (n : ℕ) (v w : Window) → LaterWindow n v w → (undone olds : List ℕ) → IsOld n olds
    → IsYoung n (find (is_eligible v) (map (up n) undone ++ olds))
    → find (is_eligible v) (map (up n) undone ++ olds)
    ≡ option_map (up n) (find (is_eligible w) undone)
later-redoable n v w h undone olds old young =
    let first : find (is_eligible v) (map (up n) undone)
    ≡ option_map (up n) (find (is_eligible w) undone) =
    find-renamed (up n) (is_eligible v) (is_eligible w) (later-eligible n v w h) undone in
    let rest = find (is_eligible v) olds in
    let split = find-append (is_eligible v) (map (up n) undone) olds
    ∙ ap (λ o. option_or o rest) first in
    split
    ∙ or-none (up n) (find (is_eligible w) undone) rest
    (λ none. option-none rest (λ g is.
    let whole : find (is_eligible v) (map (up n) undone ++ olds) ≡ Some g =
    split ∙ ap (λ o. option_or (option_map (up n) o) rest) none ∙ is in
    omega (arith, (find-among (is_eligible v) olds g is).0, old g (young g whole))))

-- both move the same group, if it is none of the older ones
later-moved : {Op : Type 0} → (n : ℕ) (first : List ℕ) (s t : Strokes) (act : Act Op)
    → IsOld n first → Later n first s t → IsYoung n (moved s act)
    → moved s act ≡ option_map (up n) (moved t act)
later-moved n first s t (Undo who) old h young =
    ap (λ xs. where_eligible s.window (last_of xs)) h.groups.done
    ∙ later-undoable n first s.window t.window h.window old t.groups.done
    (subst (λ xs. IsYoung n (where_eligible s.window (last_of xs))) h.groups.done young)
later-moved n first s t (Redo who) old h young =
    ap (find (is_eligible s.window)) h.groups.undone
    ∙ later-redoable n s.window t.window h.window t.groups.undone h.groups.olds h.groups.old
    (subst (λ xs. IsYoung n (find (is_eligible s.window) xs)) h.groups.undone young)
later-moved n first s t _ old h young = refl

later-without_last : (n : ℕ) (first done : List ℕ) (g : ℕ) → last_of done ≡ Some g
    → without_last (first ++ map (up n) done) ≡ first ++ map (up n) (without_last done)
later-without_last n first [] g is = let wrong : None ≡ Some g = is in cc
later-without_last n first (x ∷ xs) g is =
    without_last-rest first (up n x) (map (up n) xs)
    ∙ ap (λ ys. first ++ ys) (without_last-renamed (up n) (x ∷ xs))

later-without : (n : ℕ) (undone olds : List ℕ) (g : ℕ) → 1 ≤ times g undone
    → without (up n g) (map (up n) undone ++ olds) ≡ map (up n) (without g undone) ++ olds
later-without n undone olds g some =
    let among : is_among (map (up n) undone) (up n g) ≡ true =
    is_among-renamed (up n) (up-injective n) undone g ∙ is_among-some undone g some in
    without-first (up n g) (map (up n) undone) olds
    (times-some (map (up n) undone) (up n g) among)
    ∙ ap (λ xs. xs ++ olds) (without-renamed (up n) (up-injective n) g undone)

later-push : (n : ℕ) (first : List ℕ) (p q : ℕ) (xs ys : List ℕ) → p ≡ up n q
    → xs ≡ first ++ map (up n) ys → xs ++ p ∷ [] ≡ first ++ map (up n) (ys ++ q ∷ [])
later-push n first p q xs ys same is =
    ap (λ zs. zs ++ p ∷ []) is ∙ append_assoc first (map (up n) ys) (p ∷ [])
    ∙ ap (λ zs. first ++ zs) (push-up n p q ys same)

-- an act keeps the groups so, if both move the same one
later-groups_with : {Op : Type 0} → (n : ℕ) (first : List ℕ) (s t : Strokes) (act : Act Op)
    (o : Option ℕ) → moved t act ≡ o → Later n first s t
    → LaterGroups n first (groups_with s.position (option_map (up n) o) act s.groups)
    (groups_with t.position o act t.groups)
later-groups_with n first s t Point o is h = record {
  done = later-push n first s.position t.position s.groups.done t.groups.done h.position
      h.groups.done;
  olds = [];
  old = λ g above. refl;
  undone = refl;
}
later-groups_with n first s t (Undo who) (Some group) is h = record {
  done = ap without_last h.groups.done
      ∙ later-without_last n first t.groups.done group
      (where_eligible-is t.window (last_of t.groups.done) group is).0;
  olds = h.groups.olds;
  old = h.groups.old;
  undone = ap (λ xs. up n group ∷ xs) h.groups.undone;
}
later-groups_with n first s t (Redo who) (Some group) is h = record {
  done = later-push n first (up n group) group s.groups.done t.groups.done refl h.groups.done;
  olds = h.groups.olds;
  old = h.groups.old;
  undone = ap (without (up n group)) h.groups.undone
      ∙ later-without n t.groups.undone h.groups.olds group
      (find-among (is_eligible t.window) t.groups.undone group is).0;
}
later-groups_with n first s t (Draw op) o is h =
    record { done = h.groups.done; olds = []; old = λ g above. refl; undone = refl }
later-groups_with n first s t _ _ is h = h.groups

later-groups_after : {Op : Type 0} → (n : ℕ) (first : List ℕ) (s t : Strokes) (act : Act Op)
    → IsOld n first → Later n first s t → IsYoung n (moved s act)
    → LaterGroups n first (groups_after s act) (groups_after t act)
later-groups_after n first s t act old h young =
    subst (λ o. LaterGroups n first (groups_with s.position o act s.groups)
    (groups_with t.position (moved t act) act t.groups))
    (sym (later-moved n first s t act old h young))
    (later-groups_with n first s t act (moved t act) refl h)

later-choice : (n : ℕ) (first : List ℕ) (b : Bool) (g h i j : Groups)
    → (b ≡ true → LaterGroups n first g i) → LaterGroups n first h j
    → LaterGroups n first (if b then g else h) (if b then i else j)
later-choice n first true g h i j left right = left refl
later-choice n first false g h i j left right = right

-- an act that moves none of the older groups keeps the strokes so
pub later-after_act : {Op : Type 0} → (user n : ℕ) (first : List ℕ) (s t : Strokes)
    (a : UserAct Op) → IsOld n first
    → (concerned a ≡ user → IsYoung n (moved s a.act)) → Later n first s t
    → Later n first (after_act user s a) (after_act user t a)
later-after_act user n first s t a old young h = record {
  position = omega (arith, h.position);
  window = later-cut n (window_with s.position a.act s.window)
      (window_with t.position a.act t.window)
      (later-window_with n s.position t.position a.act s.window t.window h.position h.window);
  groups = later-choice n first (concerned a == user) (groups_after s a.act) s.groups
      (groups_after t a.act) t.groups
      (λ same. later-groups_after n first s t a.act old h
      (young (eqb-true (concerned a) user same)))
      h.groups;
}
