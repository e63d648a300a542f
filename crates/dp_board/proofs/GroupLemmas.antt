-- Each group of a user is named by the position of a Point of that user.
use Rattle.std.proofs.Common.{◌≡◌, ℕ, ◌-◌, ◌==◌, Bool, true, false, List, [], ◌∷◌, ◌++◌, length}
use Rattle.std.proofs.Common.{Option, Some, None, refl, ap, sym, ◌∙◌, subst, append_assoc}
use Rattle.std.proofs.Common.{length-append, arith, suc, zero}
use Rattle.std.specs.Prelude.{if◌then◌else◌}
use Rattle.std.specs.List.{All, fold, position_or_len, slice_get}
use Rattle.std.proofs.lemmas.Bool.{eqb-true}
use Rattle.std.proofs.lemmas.List.Folds.{find_at}
use Rattle.std.proofs.lemmas.List.Elements.{All-nil, All-cons, All-head, All-tail, All-push}
use Rattle.std.proofs.lemmas.List.Elements.{All-take, All-weaker}
use Rattle.dp_board.specs.declared.act.Act.{Act}
use Rattle.dp_board.specs.declared.act.Act.TheVariants.{Point, Undo, Redo, Draw, Depth, Other}
use Rattle.dp_board.specs.declared.act.UserAct.{UserAct}
use Rattle.dp_board.specs.Strokes.{Window, Groups, Strokes, no_groups, no_strokes, is_eligible}
use Rattle.dp_board.specs.Strokes.{last_of, without, where_eligible, undoable, redoable, undo, redo}
use Rattle.dp_board.specs.Strokes.{concerned_by, concerned, groups_after, after_act, strokes, moved}
use Rattle.dp_board.specs.Laws.{point_of, IsPointOf, GroupsArePoints, MovedIsAPoint}

-- P holds of each group
record AllGroups (P : ℕ → Type 0) (g : Groups) : Type 0 where
  pub done : All P g.done
  pub undone : All P g.undone

-- what stands at a place stands there in a longer list, too
slice_get-append : {X : Type 0} → (xs ys : List X) (i : ℕ) (x : X) → slice_get xs i ≡ Some x
    → slice_get (xs ++ ys) i ≡ Some x
slice_get-append [] ys i x is = cc
slice_get-append (y ∷ xs) ys zero x is = is
slice_get-append (y ∷ xs) ys (suc i) x is = slice_get-append xs ys i x is

-- the last stands after all others
slice_get-last : {X : Type 0} → (xs : List X) (x : X) → slice_get (xs ++ x ∷ []) (length xs)
    ≡ Some x
slice_get-last [] x = refl
slice_get-last (y ∷ xs) x = slice_get-last xs x

-- what holds of each holds of the one at a place
All-slice_get : (P : ℕ → Type 0) (xs : List ℕ) (i x : ℕ) → All P xs → slice_get xs i ≡ Some x → P x
All-slice_get P [] i x all is = let wrong : None ≡ Some x = is in cc
All-slice_get P (y ∷ xs) zero x all is = let same : y ≡ x = cc in subst P same (All-head P y xs all)
All-slice_get P (y ∷ xs) (suc i) x all is = All-slice_get P xs i x (All-tail P y xs all) is

-- what holds of each holds of those but for one
All-without : (P : ℕ → Type 0) (group : ℕ) (xs : List ℕ) → All P xs → All P (without group xs)
All-without P group [] all = all
All-without P group (x ∷ xs) all =
    elim (x == group) as (λ b. All P (if b then xs else x ∷ without group xs)) [
      | true ↦ All-tail P x xs all
      | false ↦ All-cons P x (without group xs) (All-head P x xs all)
          (All-without P group xs (All-tail P x xs all))
    ]

-- a choice, by its cases
if_cases : {A : Type 0} → (Q : A → Type 0) (b : Bool) (x y : A) → (b ≡ true → Q x)
    → (b ≡ false → Q y) → Q (if b then x else y)
if_cases Q true x y holds fails = holds refl
if_cases Q false x y holds fails = fails refl

-- an eligible group is the one that was asked for
where_eligible-Some : (w : Window) (o : Option ℕ) (group : ℕ) → where_eligible w o ≡ Some group
    → o ≡ Some group
where_eligible-Some w None group is = is
where_eligible-Some w (Some other) group is =
    if_cases (λ (r : Option ℕ). r ≡ Some group → Some other ≡ Some group) (is_eligible w other)
    (Some other) None (λ _ same. same) (λ _ same. cc) is

-- what holds of each group holds after an undo
AllGroups-undo : (P : ℕ → Type 0) (o : Option ℕ) (g : Groups)
    → ((group : ℕ) → o ≡ Some group → P group) → AllGroups P g → AllGroups P (undo o g)
AllGroups-undo P None g here all = all
AllGroups-undo P (Some group) g here all = record {
  done = All-take P (length g.done - 1) g.done all.done;
  undone = All-cons P group g.undone (here group refl) all.undone;
}

-- what holds of each group holds after a redo
AllGroups-redo : (P : ℕ → Type 0) (o : Option ℕ) (g : Groups)
    → ((group : ℕ) → o ≡ Some group → P group) → AllGroups P g → AllGroups P (redo o g)
AllGroups-redo P None g here all = all
AllGroups-redo P (Some group) g here all = record {
  done = All-push P g.done group all.done (here group refl);
  undone = All-without P group g.undone all.undone;
}

-- the group that an Undo moves is a done one
undoable-holds : (P : ℕ → Type 0) (w : Window) (g : Groups) (group : ℕ) → AllGroups P g
    → undoable w g ≡ Some group → P group
undoable-holds P w g group all is = All-slice_get P g.done (length g.done - 1) group all.done
    (where_eligible-Some w (last_of g.done) group is)

-- the group that a Redo moves is an undone one
redoable-holds : (P : ℕ → Type 0) (w : Window) (g : Groups) (group : ℕ) → AllGroups P g
    → redoable w g ≡ Some group → P group
redoable-holds P w g group all is =
    All-slice_get P g.undone (position_or_len (is_eligible w) g.undone) group all.undone
    (sym (find_at (is_eligible w) g.undone) ∙ is)

-- an act of a sender
abbrev act_by : {Op : Type 0} → ℕ → Act Op → UserAct Op
act_by sender act = record { user = sender; act = act }

-- the groups are Points of a longer history, too
AllGroups-append : {Op : Type 0} → (user : ℕ) (before rest : List (UserAct Op)) (g : Groups)
    → AllGroups (IsPointOf user before) g → AllGroups (IsPointOf user (before ++ rest)) g
AllGroups-append {Op} user before rest g all =
    let weaker : (k : ℕ) → IsPointOf user before k → IsPointOf user (before ++ rest) k = λ k is.
    slice_get-append before rest k (point_of {Op = Op} user) is in
    record {
      done = All-weaker (IsPointOf user before) (IsPointOf user (before ++ rest)) weaker g.done
          all.done;
      undone = All-weaker (IsPointOf user before) (IsPointOf user (before ++ rest)) weaker g.undone
          all.undone;
    }

-- an act that concerns the user leaves groups that are Points
groups_after-are_points : {Op : Type 0} → (user : ℕ) (before : List (UserAct Op)) (s : Strokes)
    (sender : ℕ) (act : Act Op) → s.position ≡ length before → concerned_by sender act ≡ user
    → AllGroups (IsPointOf user (before ++ act_by sender act ∷ [])) s.groups
    → AllGroups (IsPointOf user (before ++ act_by sender act ∷ [])) (groups_after s act)
groups_after-are_points {Op} user before s sender Point here same all =
    let P : ℕ → Type 0 = IsPointOf user (before ++ act_by {Op = Op} sender Point ∷ []) in
    let stands : P s.position = subst P (sym here) (slice_get-last before (act_by sender Point)
    ∙ ap (λ u. Some (act_by {Op = Op} u Point)) same) in
    record { done = All-push P s.groups.done s.position all.done stands; undone = All-nil P }
groups_after-are_points user before s sender (Undo who) here same all =
    AllGroups-undo (IsPointOf user (before ++ act_by sender (Undo who) ∷ []))
    (undoable s.window s.groups) s.groups (λ group is. undoable-holds
    (IsPointOf user (before ++ act_by sender (Undo who) ∷ [])) s.window s.groups group all is)
    all
groups_after-are_points user before s sender (Redo who) here same all =
    AllGroups-redo (IsPointOf user (before ++ act_by sender (Redo who) ∷ []))
    (redoable s.window s.groups) s.groups (λ group is. redoable-holds
    (IsPointOf user (before ++ act_by sender (Redo who) ∷ [])) s.window s.groups group all is)
    all
groups_after-are_points user before s sender (Draw op) here same all =
    record {
      done = all.done;
      undone = All-nil (IsPointOf user
          (before ++ act_by sender (Draw op) ∷ []));
    }
groups_after-are_points user before s sender (Depth d) here same all = all
groups_after-are_points user before s sender Other here same all = all

-- each act leaves groups that are Points
after_act-are_points : {Op : Type 0} → (user : ℕ) (before : List (UserAct Op)) (s : Strokes)
    (a : UserAct Op) → s.position ≡ length before → AllGroups (IsPointOf user before) s.groups
    → AllGroups (IsPointOf user (before ++ a ∷ [])) (after_act user s a).groups
after_act-are_points user before s a here all =
    let more = AllGroups-append user before (a ∷ []) s.groups all in
    if_cases (AllGroups (IsPointOf user (before ++ a ∷ []))) (concerned a == user)
    (groups_after s a.act) s.groups
    (λ same. groups_after-are_points user before s a.user a.act here
    (eqb-true (concerned a) user same) more)
    (λ other. more)

-- the groups after more acts are Points
fold-are_points : {Op : Type 0} → (user : ℕ) (before rest : List (UserAct Op)) (s : Strokes)
    → s.position ≡ length before → AllGroups (IsPointOf user before) s.groups
    → AllGroups (IsPointOf user (before ++ rest)) (fold (after_act user) s rest).groups
fold-are_points user before [] s here all = AllGroups-append user before [] s.groups all
fold-are_points user before (a ∷ rest) s here all =
    subst (λ acts. AllGroups (IsPointOf user acts) (fold (after_act user) (after_act user s a)
    rest).groups) (append_assoc before (a ∷ []) rest)
    (fold-are_points user (before ++ a ∷ []) rest (after_act user s a)
    (omega (arith, here, length-append before (a ∷ [])))
    (after_act-are_points user before s a here all))

-- the groups after a history are Points
strokes-are_points : {Op : Type 0} → (depth user : ℕ) (acts : List (UserAct Op))
    → AllGroups (IsPointOf user acts) (strokes depth user acts).groups
strokes-are_points {Op} depth user acts =
    let none : AllGroups (IsPointOf {Op = Op} user []) no_groups = record {
      done = All-nil (IsPointOf {Op = Op} user []);
      undone = All-nil
          (IsPointOf {Op = Op} user []);
    } in
    fold-are_points user [] acts (no_strokes depth) refl none

-- each group of a user is named by the position of a Point of that user
pub groups_are_points : (Op : Type 0) → GroupsArePoints Op
groups_are_points Op depth user acts = let all = strokes-are_points depth user acts in
    (all.done, all.undone)

-- what holds of each group holds of the one that an act moves
moved-holds : {Op : Type 0} → (P : ℕ → Type 0) (s : Strokes) (act : Act Op) (group : ℕ)
    → AllGroups P s.groups → moved s act ≡ Some group → P group
moved-holds P s (Undo who) group all is = undoable-holds P s.window s.groups group all is
moved-holds P s (Redo who) group all is = redoable-holds P s.window s.groups group all is
moved-holds P s Point group all is = let wrong : None ≡ Some group = is in cc
moved-holds P s (Draw op) group all is = let wrong : None ≡ Some group = is in cc
moved-holds P s (Depth d) group all is = let wrong : None ≡ Some group = is in cc
moved-holds P s Other group all is = let wrong : None ≡ Some group = is in cc

-- the group that an act moves is named by the position of a Point of the user whom the act concerns
pub moved_is_a_point : (Op : Type 0) → MovedIsAPoint Op
moved_is_a_point Op depth before a group is =
    moved-holds (IsPointOf (concerned a) before) (strokes depth (concerned a) before) a.act group
    (strokes-are_points depth (concerned a) before) is
