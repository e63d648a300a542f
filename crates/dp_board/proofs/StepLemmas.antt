-- What one more act changes in the groups of a user.
use Rattle.std.proofs.Common.{◌≡◌, ◌≢◌, ℕ, ◌+◌, ◌-◌, ◌<◌, ◌≤◌, ◌==◌, Bool, true, false}
use Rattle.std.proofs.Common.{List, [], ◌∷◌, ◌++◌, length, Option, Some, None, refl, ap}
use Rattle.std.proofs.Common.{sym, ◌∙◌, arith, subst, inl, inr}
use Rattle.std.specs.List.{fold}
use Rattle.std.proofs.lemmas.Bool.{cases_eq}
use Rattle.dp_board.specs.declared.act.Act.{Act}
use Rattle.dp_board.specs.declared.act.Act.TheVariants.{Point, Undo, Redo, Draw, Depth, Other}
use Rattle.dp_board.specs.declared.act.UserAct.{UserAct}
use Rattle.dp_board.specs.Strokes.{Window, Groups, Strokes, no_strokes, is_eligible, is_among}
use Rattle.dp_board.specs.Strokes.{last_of, without_last, where_eligible, undoable}
use Rattle.dp_board.specs.Strokes.{redoable, undo, redo, concerned, groups_after, after_act}
use Rattle.dp_board.specs.Strokes.{strokes, moved, window_after}
use Rattle.dp_board.specs.Moves.{is_redo}
use Rattle.dp_board.proofs.TimesLemmas.{one, times, one_le, one_same, one_other, times-append}
use Rattle.dp_board.proofs.TimesLemmas.{times-drop, is_among-none, is_among-some, times-none}
use Rattle.dp_board.proofs.TimesLemmas.{times-some, without_last-push, times-without, find-among}
use Rattle.dp_board.proofs.TimesLemmas.{if_cases}

-- how many times a group is among those of a user
abbrev pub total : ℕ → Groups → ℕ
total h g = times h g.done + times h g.undone

-- each group was opened before, and is among those of the user once at most
pub record IsSound (s : Strokes) : Type 0 where
  pub below : (h : ℕ) → s.position ≤ h → total h s.groups ≡ 0
  pub once : (h : ℕ) → total h s.groups ≤ 1
  pub seen : (h : ℕ) → s.position ≤ h → times h s.window.points ≡ 0

-- an eligible group is the one that was asked for, and is eligible
pub where_eligible-is : (w : Window) (o : Option ℕ) (group : ℕ) → where_eligible w o ≡ Some group
    → (o ≡ Some group) × (is_eligible w group ≡ true)
where_eligible-is w None group is = let wrong : None ≡ Some group = is in cc
where_eligible-is w (Some other) group is =
    if_cases (λ (r : Option ℕ). r ≡ Some group → (Some other ≡ Some group)
    × (is_eligible w group ≡ true)) (is_eligible w other) (Some other) None
    (λ yes same. let e : other ≡ group = cc in (same, subst (λ g. is_eligible w g ≡ true) e yes))
    (λ no same. let wrong : None ≡ Some group = same in cc) is

-- an Undo that moves a group
pub total-undo : (w : Window) (g : Groups) (o : Option ℕ) (h : ℕ) → undoable w g ≡ o
    → total h (undo o g) ≡ total h g
total-undo w g None h is = refl
total-undo w g (Some group) h is =
    let last = without_last-push g.done group (where_eligible-is w (last_of g.done) group is).0 in
    let k : times h (without_last g.done ++ group ∷ []) ≡ times h g.done = ap (times h) last in
    omega (arith, times-append h (without_last g.done) (group ∷ []))

-- a Redo that moves a group
pub total-redo : (w : Window) (g : Groups) (o : Option ℕ) (h : ℕ) → redoable w g ≡ o
    → total h (redo o g) ≡ total h g
total-redo w g None h is = refl
total-redo w g (Some group) h is =
    let found = find-among (is_eligible w) g.undone group is in
    omega (arith, times-without h group g.undone found.0, times-append h g.done (group ∷ []))

-- an act leaves no group more than once, but for the one that it opens
total-groups_after : {Op : Type 0} → (s : Strokes) (act : Act Op) (h : ℕ)
    → total h (groups_after s act) ≤ total h s.groups + one (s.position == h)
total-groups_after s Point h = omega (arith, times-append h s.groups.done (s.position ∷ []))
total-groups_after s (Undo who) h =
    omega (arith, total-undo s.window s.groups (undoable s.window s.groups) h refl)
total-groups_after s (Redo who) h =
    omega (arith, total-redo s.window s.groups (redoable s.window s.groups) h refl)
total-groups_after s (Draw op) h = omega arith
total-groups_after s (Depth d) h = omega arith
total-groups_after s Other h = omega arith

-- an act brings no Point into reach but its own
pub times-window_after : {Op : Type 0} → (position : ℕ) (act : Act Op) (w : Window) (h : ℕ)
    → times h (window_after position act w).points ≤ times h w.points + one (position == h)
times-window_after position Point w h =
    omega (
      arith,
      times-append h w.points (position ∷ []),
      times-drop h (length (w.points ++ position ∷ []) - w.depth) (w.points ++ position ∷ []),
    )
times-window_after position (Undo who) w h =
    omega (arith, times-drop h (length w.points - w.depth) w.points)
times-window_after position (Redo who) w h =
    omega (arith, times-drop h (length w.points - w.depth) w.points)
times-window_after position (Draw op) w h =
    omega (arith, times-drop h (length w.points - w.depth) w.points)
times-window_after position (Depth d) w h =
    omega (arith, times-drop h (length w.points - d) w.points)
times-window_after position Other w h =
    omega (arith, times-drop h (length w.points - w.depth) w.points)

-- the Points in reach after an act, whoever's it is
pub times-after_act : {Op : Type 0} → (user : ℕ) (s : Strokes) (a : UserAct Op) (h : ℕ)
    → times h (after_act user s a).window.points ≤ times h s.window.points + one (s.position == h)
times-after_act user s a h = times-window_after s.position a.act s.window h

-- the groups of a user after an act, whoever's it is
pub total-after_act : {Op : Type 0} → (user : ℕ) (s : Strokes) (a : UserAct Op) (h : ℕ)
    → total h (after_act user s a).groups ≤ total h s.groups + one (s.position == h)
total-after_act user s a h =
    if_cases (λ g. total h g ≤ total h s.groups + one (s.position == h)) (concerned a == user)
    (groups_after s a.act) s.groups (λ same. total-groups_after s a.act h) (λ other. omega arith)

-- an act leaves sound strokes
pub IsSound-after_act : {Op : Type 0} → (user : ℕ) (s : Strokes) (a : UserAct Op) → IsSound s
    → IsSound (after_act user s a)
IsSound-after_act user s a was = record {
  below = λ h up. omega (
    arith,
    total-after_act user s a h,
    was.below h (omega arith),
    one_other s.position h (omega arith),
  );
  once = λ h. elim (cases_eq s.position h) [
    | inl same ↦ omega (
      arith,
      total-after_act user s a h,
      was.below h (omega arith),
      one_le (s.position == h),
    )
    | inr differ ↦ omega (
      arith,
      total-after_act user s a h,
      was.once h,
      one_other s.position h differ,
    )
  ];
  seen = λ h up. omega (
    arith,
    times-window_after s.position a.act s.window h,
    was.seen h (omega arith),
    one_other s.position h (omega arith),
  );
}

IsSound-fold : {Op : Type 0} → (user : ℕ) (acts : List (UserAct Op)) (s : Strokes) → IsSound s
    → IsSound (fold (after_act user) s acts)
IsSound-fold user [] s was = was
IsSound-fold user (a ∷ acts) s was =
    IsSound-fold user acts (after_act user s a) (IsSound-after_act user s a was)

-- the strokes after a history are sound
pub IsSound-strokes : {Op : Type 0} → (depth user : ℕ) (acts : List (UserAct Op))
    → IsSound (strokes depth user acts)
IsSound-strokes depth user acts = IsSound-fold user acts (no_strokes depth)
    (record { below = λ h up. refl; once = λ h. omega arith; seen = λ h up. refl })

-- the group that an act moves is in reach, and is among those of the user
pub moved-is : {Op : Type 0} → (s : Strokes) (act : Act Op) (group : ℕ) → moved s act ≡ Some group
    → (is_eligible s.window group ≡ true) × (1 ≤ total group s.groups)
moved-is s (Undo who) group is =
    let e = where_eligible-is s.window (last_of s.groups.done) group is in
    let last = without_last-push s.groups.done group e.0 in
    let k : times group (without_last s.groups.done ++ group ∷ []) ≡ times group s.groups.done =
    ap (times group) last in (
      e.1,
      omega (
        arith,
        times-append group (without_last s.groups.done) (group ∷ []),
        one_same group group refl,
      ),
    )
moved-is s (Redo who) group is =
    let found = find-among (is_eligible s.window) s.groups.undone group is in
    (found.1, omega (arith, found.0))
moved-is s Point group is = let wrong : None ≡ Some group = is in cc
moved-is s (Draw op) group is = let wrong : None ≡ Some group = is in cc
moved-is s (Depth d) group is = let wrong : None ≡ Some group = is in cc
moved-is s Other group is = let wrong : None ≡ Some group = is in cc

-- two lists that have a group alike
is_among-same : (xs ys : List ℕ) (h : ℕ) → times h xs ≡ times h ys → is_among xs h ≡ is_among ys h
is_among-same xs ys h same = by_answer (is_among ys h) refl
  where
    by_answer : (b : Bool) → is_among ys h ≡ b → is_among xs h ≡ b
    by_answer true is = is_among-some xs h (omega (arith, times-some ys h is, same))
    by_answer false is = is_among-none xs h (omega (arith, times-none ys h is, same))

-- if an act moves no group, those that were opened before stay done, or not
pub done-unmoved : {Op : Type 0} → (s : Strokes) (act : Act Op) (h : ℕ) → h < s.position
    → moved s act ≡ None → is_among (groups_after s act).done h ≡ is_among s.groups.done h
done-unmoved s Point h before none =
    is_among-same (s.groups.done ++ s.position ∷ []) s.groups.done h
    (omega (
      arith,
      times-append h s.groups.done (s.position ∷ []),
      one_other s.position h (omega arith),
    ))
done-unmoved s (Undo who) h before none =
    ap (λ o. is_among (undo o s.groups).done h) none
done-unmoved s (Redo who) h before none =
    ap (λ o. is_among (redo o s.groups).done h) none
done-unmoved s (Draw op) h before none = refl
done-unmoved s (Depth d) h before none = refl
done-unmoved s Other h before none = refl

-- an act that moves a group makes it done by a Redo and not done by an Undo
pub done-moved : {Op : Type 0} → (s : Strokes) (act : Act Op) (group : ℕ) → IsSound s
    → moved s act ≡ Some group → is_among (groups_after s act).done group ≡ is_redo act
done-moved s (Undo who) group sound is =
    ap (λ o. is_among (undo o s.groups).done group) is
    ∙ is_among-none (without_last s.groups.done) group
    (let e = where_eligible-is s.window (last_of s.groups.done) group is in
    let last = without_last-push s.groups.done group e.0 in
    let k : times group (without_last s.groups.done ++ group ∷ []) ≡ times group s.groups.done =
    ap (times group) last in
    omega (
      arith,
      times-append group (without_last s.groups.done) (group ∷ []),
      one_same group group refl,
      sound.once group,
    ))
done-moved s (Redo who) group sound is =
    ap (λ o. is_among (redo o s.groups).done group) is
    ∙ is_among-some (s.groups.done ++ group ∷ []) group
    (omega (arith, times-append group s.groups.done (group ∷ []), one_same group group refl))
done-moved s Point group sound is = let wrong : None ≡ Some group = is in cc
done-moved s (Draw op) group sound is = let wrong : None ≡ Some group = is in cc
done-moved s (Depth d) group sound is = let wrong : None ≡ Some group = is in cc
done-moved s Other group sound is = let wrong : None ≡ Some group = is in cc

-- an act that moves a group leaves the others done, or not
pub done-others : {Op : Type 0} → (s : Strokes) (act : Act Op) (group h : ℕ) → h ≢ group
    → moved s act ≡ Some group → is_among (groups_after s act).done h ≡ is_among s.groups.done h
done-others s (Undo who) group h differ is =
    ap (λ o. is_among (undo o s.groups).done h) is
    ∙ is_among-same (without_last s.groups.done) s.groups.done h
    (let e = where_eligible-is s.window (last_of s.groups.done) group is in
    let last = without_last-push s.groups.done group e.0 in
    let k : times h (without_last s.groups.done ++ group ∷ []) ≡ times h s.groups.done =
    ap (times h) last in
    let other : group ≢ h = λ same. differ (sym same) in
    omega (
      arith,
      times-append h (without_last s.groups.done) (group ∷ []),
      one_other group h other,
    ))
done-others s (Redo who) group h differ is =
    ap (λ o. is_among (redo o s.groups).done h) is
    ∙ is_among-same (s.groups.done ++ group ∷ []) s.groups.done h
    (let other : group ≢ h = λ same. differ (sym same) in
    omega (arith, times-append h s.groups.done (group ∷ []), one_other group h other))
done-others s Point group h differ is = let wrong : None ≡ Some group = is in cc
done-others s (Draw op) group h differ is = let wrong : None ≡ Some group = is in cc
done-others s (Depth d) group h differ is = let wrong : None ≡ Some group = is in cc
done-others s Other group h differ is = let wrong : None ≡ Some group = is in cc
