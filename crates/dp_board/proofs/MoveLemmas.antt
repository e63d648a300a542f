-- How the flags of a history go on with one more act, and which are final.
use Rattle.std.proofs.Common.{◌≡◌, ◌≢◌, ℕ, ◌+◌, ◌<◌, ◌≤◌, ◌==◌, Bool, true, false, ◌&&◌}
use Rattle.std.proofs.Common.{List, [], ◌∷◌, ◌++◌, length, take, map, Option, Some, None, refl, ap}
use Rattle.std.proofs.Common.{sym, ◌∙◌, arith, inl, inr, ◌⊎◌, suc, zero, append_assoc, eq-eqb}
use Rattle.std.proofs.Common.{length-append}
use Rattle.std.specs.Prelude.{if◌then◌else◌}
use Rattle.std.specs.List.{fold, slice_get}
use Rattle.std.specs.Option.{option_map}
use Rattle.std.proofs.lemmas.Bool.{ne_eqb, cases_eq, cases_lt}
use Rattle.std.proofs.lemmas.Grind.{fold-append}
use Rattle.std.proofs.lemmas.List.{append-nil, map-append, take-map, take-append-le, length-map}
use Rattle.std.proofs.lemmas.Option.{slice_get-map, slice_get_within}
use Rattle.dp_board.specs.declared.act.Act.{Act}
use Rattle.dp_board.specs.declared.act.Act.TheVariants.{Point, Undo, Redo, Draw, Depth, Other}
use Rattle.dp_board.specs.declared.act.UserAct.{UserAct}
use Rattle.dp_board.specs.declared.join.Join.{Join}
use Rattle.dp_board.specs.declared.join.Join.TheVariants.{NoCommand, GroupZero, InGroup}
use Rattle.dp_board.specs.Strokes.{Strokes, no_strokes, is_among, is_eligible}
use Rattle.dp_board.specs.Strokes.{last_of, without_last, concerned, groups_after, after_act}
use Rattle.dp_board.specs.Strokes.{strokes, moved}
use Rattle.dp_board.specs.Strokes.{moved_by}
use Rattle.dp_board.specs.Flags.{joined, is_group_drawn, flag_of, flags_from, drawn_flags}
use Rattle.dp_board.specs.Joins.{join_in, join_of, joins_from, joins}
use Rattle.dp_board.specs.Moves.{is_draw, is_redo, flag_with, flags_with, IsOutOfReach, IsFinal}
use Rattle.dp_board.specs.Moves.{FlagsGoOn, FlagsMove, FlagsStayBefore, JoinsComeLater}
use Rattle.dp_board.specs.Moves.{MovedIsInReach, FinalFlagsStay}
use Rattle.dp_board.specs.Laws.{CutOutStaysOut}
use Rattle.dp_board.proofs.TimesLemmas.{times, one_same, one_other, times-append}
use Rattle.dp_board.proofs.TimesLemmas.{is_among-none, is_among-some, times-none, times-some}
use Rattle.dp_board.proofs.TimesLemmas.{without_last-push, if_cases}
use Rattle.dp_board.proofs.StepLemmas.{total, IsSound, IsSound-strokes}
use Rattle.dp_board.proofs.StepLemmas.{moved-is, done-unmoved, done-moved, done-others}
use Rattle.dp_board.proofs.StepLemmas.{total-after_act, times-after_act}
use Rattle.dp_board.proofs.TableLemmas.{strokes-push}
use Rattle.dp_board.proofs.WindowLemmas.{position-is}

-- what joined so is drawn at the end of a history
abbrev drawn_in : {Op : Type 0} → ℕ → List (UserAct Op) → Join → Bool
drawn_in depth all NoCommand = false
drawn_in depth all GroupZero = true
drawn_in depth all (InGroup user group) = is_among (strokes depth user all).groups.done group

-- the flag of an act, by what it joined
drawn_in-join_in : {Op : Type 0} → (depth : ℕ) (all : List (UserAct Op)) (user : ℕ)
    (group : Option ℕ) → drawn_in depth all (join_in user group)
    ≡ is_group_drawn (strokes depth user all).groups.done group
drawn_in-join_in depth all user None = refl
drawn_in-join_in depth all user (Some group) = refl

drawn_in-join_of : {Op : Type 0} → (depth : ℕ) (all before : List (UserAct Op)) (user : ℕ)
    (act : Act Op) → drawn_in depth all (join_of user (strokes depth user before).groups act)
    ≡ flag_of depth all before user act
drawn_in-join_of depth all before user (Draw op) =
    drawn_in-join_in depth all user (joined depth user before)
drawn_in-join_of depth all before user Point = refl
drawn_in-join_of depth all before user (Undo who) = refl
drawn_in-join_of depth all before user (Redo who) = refl
drawn_in-join_of depth all before user (Depth d) = refl
drawn_in-join_of depth all before user Other = refl

map-drawn_in : {Op : Type 0} → (depth : ℕ) (all before rest : List (UserAct Op))
    → map (drawn_in depth all) (joins_from depth before rest) ≡ flags_from depth all before rest
map-drawn_in depth all before [] = refl
map-drawn_in depth all before (a ∷ rest) =
    ap (λ flag. flag ∷ map (drawn_in depth all) (joins_from depth (before ++ a ∷ []) rest))
    (drawn_in-join_of depth all before a.user a.act)
    ∙ ap (λ flags. flag_of depth all before a.user a.act ∷ flags)
    (map-drawn_in depth all (before ++ a ∷ []) rest)

-- the flags of a history, by what its acts joined
flags-by_joins : {Op : Type 0} → (depth : ℕ) (acts : List (UserAct Op))
    → drawn_flags depth acts ≡ map (drawn_in depth acts) (joins depth acts)
flags-by_joins depth acts = sym (map-drawn_in depth acts [] acts)

joins_from-append : {Op : Type 0} → (depth : ℕ) (before xs ys : List (UserAct Op))
    → joins_from depth before (xs ++ ys)
    ≡ joins_from depth before xs ++ joins_from depth (before ++ xs) ys
joins_from-append depth before [] ys =
    ap (λ b. joins_from depth b ys) (sym (append-nil before))
joins_from-append depth before (a ∷ xs) ys =
    ap (λ js. join_of a.user (strokes depth a.user before).groups a.act ∷ js)
    (joins_from-append depth (before ++ a ∷ []) xs ys
    ∙ ap (λ b. joins_from depth (before ++ a ∷ []) xs ++ joins_from depth b ys)
    (append_assoc before (a ∷ []) xs))

-- what the acts of a longer history joined
pub joins-append : {Op : Type 0} → (depth : ℕ) (xs ys : List (UserAct Op))
    → joins depth (xs ++ ys) ≡ joins depth xs ++ joins_from depth xs ys
joins-append depth xs ys = joins_from-append depth [] xs ys

-- an act has a join
length-joins_from : {Op : Type 0} → (depth : ℕ) (before rest : List (UserAct Op))
    → length (joins_from depth before rest) ≡ length rest
length-joins_from depth before [] = refl
length-joins_from depth before (a ∷ rest) =
    ap suc (length-joins_from depth (before ++ a ∷ []) rest)

pub length-joins : {Op : Type 0} → (depth : ℕ) (acts : List (UserAct Op))
    → length (joins depth acts) ≡ length acts
length-joins depth acts = length-joins_from depth [] acts

-- the group that a command joins is among the done ones
last_of-among : (done : List ℕ) (group : ℕ) → last_of done ≡ Some group → 1 ≤ times group done
last_of-among done group is =
    let last = without_last-push done group is in
    let k : times group (without_last done ++ group ∷ []) ≡ times group done =
    ap (times group) last in
    omega (arith, times-append group (without_last done) (group ∷ []), one_same group group refl)

join_in-is : (user : ℕ) (o : Option ℕ) (u g : ℕ) → join_in user o ≡ InGroup u g → o ≡ Some g
join_in-is user None u g is = let wrong : GroupZero ≡ InGroup u g = is in cc
join_in-is user (Some group) u g is = let e : InGroup user group ≡ InGroup u g = is in cc

-- an act joins a group that was opened before
join_of-later : {Op : Type 0} → (s : Strokes) (sender : ℕ) (act : Act Op) (user group : ℕ)
    → IsSound s → join_of sender s.groups act ≡ InGroup user group → group < s.position
join_of-later s sender (Draw op) user group sound is =
    let among = last_of-among s.groups.done group
    (join_in-is sender (last_of s.groups.done) user group is) in
    elim (cases_lt group s.position) [
      | inl before ↦ before
      | inr later ↦ absurd (omega (arith, sound.below group later, among))
    ]
join_of-later s sender Point user group sound is =
    let wrong : NoCommand ≡ InGroup user group = is in cc
join_of-later s sender (Undo who) user group sound is =
    let wrong : NoCommand ≡ InGroup user group = is in cc
join_of-later s sender (Redo who) user group sound is =
    let wrong : NoCommand ≡ InGroup user group = is in cc
join_of-later s sender (Depth d) user group sound is =
    let wrong : NoCommand ≡ InGroup user group = is in cc
join_of-later s sender Other user group sound is =
    let wrong : NoCommand ≡ InGroup user group = is in cc

joins_from-later : {Op : Type 0} → (depth : ℕ) (before rest : List (UserAct Op))
    (place user group : ℕ) → slice_get (joins_from depth before rest) place
    ≡ Some (InGroup user group) → group < length before + place
joins_from-later depth before [] place user group is =
    let wrong : None ≡ Some (InGroup user group) = is in cc
joins_from-later depth before (a ∷ rest) zero user group is =
    let e : join_of a.user (strokes depth a.user before).groups a.act ≡ InGroup user group = cc in
    omega (
      arith,
      position-is depth a.user before,
      join_of-later (strokes depth a.user before) a.user a.act user group
          (IsSound-strokes depth a.user before) e,
    )
joins_from-later depth before (a ∷ rest) (suc place) user group is =
    omega (
      arith,
      length-append before (a ∷ []),
      joins_from-later depth (before ++ a ∷ []) rest place user group is,
    )

-- an act joins groups whose Points come before it
pub joins_come_later : (Op : Type 0) → JoinsComeLater Op
joins_come_later Op depth acts place user group is =
    omega (arith, joins_from-later depth [] acts place user group is)

-- what joined so joined a group that was opened before a position
abbrev IsEarlier : ℕ → Join → Type 0
IsEarlier n NoCommand = Unit {0}
IsEarlier n GroupZero = Unit {0}
IsEarlier n (InGroup user group) = group < n

earlier-join : {Op : Type 0} → (depth : ℕ) (acts : List (UserAct Op)) (place : ℕ) (join : Join)
    → slice_get (joins depth acts) place ≡ Some join → IsEarlier place join
earlier-join depth acts place NoCommand is = tt
earlier-join depth acts place GroupZero is = tt
earlier-join {Op} depth acts place (InGroup user group) is =
    joins_come_later Op depth acts place user group is

earlier-weaker : (n m : ℕ) (join : Join) → n ≤ m → IsEarlier n join → IsEarlier m join
earlier-weaker n m NoCommand le is = tt
earlier-weaker n m GroupZero le is = tt
earlier-weaker n m (InGroup user group) le is = omega arith

-- one of the acts joined a group that was opened before the end
earlier-end : {Op : Type 0} → (depth : ℕ) (acts : List (UserAct Op)) (place : ℕ) (join : Join)
    → slice_get (joins depth acts) place ≡ Some join → IsEarlier (length acts) join
earlier-end depth acts place join is =
    earlier-weaker place (length acts) join
    (omega (arith, slice_get_within (joins depth acts) place join is, length-joins depth acts))
    (earlier-join depth acts place join is)

-- the done groups of a user after an act, whoever's it is
done-push : {Op : Type 0} → (depth user : ℕ) (acts : List (UserAct Op)) (a : UserAct Op) (h : ℕ)
    → (b : Bool) → (concerned a == user) ≡ b
    → is_among (strokes depth user (acts ++ a ∷ [])).groups.done h
    ≡ is_among (if b then groups_after (strokes depth user acts) a.act
    else (strokes depth user acts).groups).done h
done-push depth user acts a h b is =
    ap (λ s. is_among s.groups.done h) (strokes-push depth user acts a)
    ∙ ap (λ c. is_among (if c then groups_after (strokes depth user acts) a.act
    else (strokes depth user acts).groups).done h) is

-- if an act moves no group, what was joined stays drawn, or not
drawn_in-unmoved : {Op : Type 0} → (depth : ℕ) (acts : List (UserAct Op)) (a : UserAct Op)
    (join : Join) → moved_by depth acts a ≡ None → IsEarlier (length acts) join
    → drawn_in depth (acts ++ a ∷ []) join ≡ drawn_in depth acts join
drawn_in-unmoved depth acts a NoCommand none before = refl
drawn_in-unmoved depth acts a GroupZero none before = refl
drawn_in-unmoved depth acts a (InGroup user group) none before =
    elim (cases_eq (concerned a) user) [
      | inl same ↦ done-push depth user acts a group true (eq-eqb (concerned a) user same)
          ∙ done-unmoved (strokes depth user acts) a.act group
          (omega (arith, position-is depth user acts))
          (ap (λ u. moved (strokes depth u acts) a.act) (sym same) ∙ none)
      | inr differ ↦ done-push depth user acts a group false (ne_eqb (concerned a) user differ)
    ]

-- the flag if the user and the group are those that were asked for
flag_with-here : (user group : ℕ) (flag old : Bool) (u g : ℕ) → u ≡ user → g ≡ group
    → flag_with user group flag (InGroup u g) old ≡ flag
flag_with-here user group flag old u g same here =
    ap (λ b. if b && (g == group) then flag else old) (eq-eqb u user same)
    ∙ ap (λ b. if b then flag else old) (eq-eqb g group here)

flag_with-user : (user group : ℕ) (flag old : Bool) (u g : ℕ) → u ≢ user
    → flag_with user group flag (InGroup u g) old ≡ old
flag_with-user user group flag old u g differ =
    ap (λ b. if b && (g == group) then flag else old) (ne_eqb u user differ)

flag_with-group : (user group : ℕ) (flag old : Bool) (u g : ℕ) → g ≢ group
    → flag_with user group flag (InGroup u g) old ≡ old
flag_with-group user group flag old u g differ =
    ap (λ b. if (u == user) && b then flag else old) (ne_eqb g group differ)
    ∙ both (u == user)
  where
    both : (b : Bool) → (if b && false then flag else old) ≡ old
    both true = refl
    both false = refl

-- an act that moves a group changes what is drawn of it
drawn_in-moved : {Op : Type 0} → (depth : ℕ) (acts : List (UserAct Op)) (a : UserAct Op)
    (group : ℕ) (join : Join) → moved_by depth acts a ≡ Some group
    → drawn_in depth (acts ++ a ∷ []) join
    ≡ flag_with (concerned a) group (is_redo a.act) join (drawn_in depth acts join)
drawn_in-moved depth acts a group NoCommand is = refl
drawn_in-moved depth acts a group GroupZero is = refl
drawn_in-moved depth acts a group (InGroup user g) is =
    let old = drawn_in depth acts (InGroup user g) in
    elim (cases_eq (concerned a) user) [
      | inl same ↦
          let here : moved (strokes depth user acts) a.act ≡ Some group =
          ap (λ u. moved (strokes depth u acts) a.act) (sym same) ∙ is in
          let pushed = done-push depth user acts a g true (eq-eqb (concerned a) user same) in
          elim (cases_eq g group) [
            | inl it ↦ pushed
                ∙ ap (λ h. is_among (groups_after (strokes depth user acts) a.act).done h) it
                ∙ done-moved (strokes depth user acts) a.act group
                (IsSound-strokes depth user acts) here
                ∙ sym (flag_with-here (concerned a) group (is_redo a.act) old user g (sym same) it)
            | inr differ ↦ pushed
                ∙ done-others (strokes depth user acts) a.act group g differ here
                ∙ sym (flag_with-group (concerned a) group (is_redo a.act) old user g differ)
          ]
      | inr differ ↦
          let other : user ≢ concerned a = λ same. differ (sym same) in
          done-push depth user acts a g false (ne_eqb (concerned a) user differ)
          ∙ sym (flag_with-user (concerned a) group (is_redo a.act) old user g other)
    ]

-- lists made by functions that agree at each place
map-agree : (f g : Join → Bool) (js : List Join) → ((place : ℕ) (join : Join)
    → slice_get js place ≡ Some join → f join ≡ g join) → map f js ≡ map g js
map-agree f g [] agree = refl
map-agree f g (j ∷ js) agree =
    ap (λ b. b ∷ map f js) (agree 0 j refl)
    ∙ ap (λ bs. g j ∷ bs) (map-agree f g js (λ place join is. agree (suc place) join is))

map-flag_with : (f g : Join → Bool) (user group : ℕ) (flag : Bool) (js : List Join)
    → ((join : Join) → f join ≡ flag_with user group flag join (g join))
    → map f js ≡ flags_with user group flag js (map g js)
map-flag_with f g user group flag [] agree = refl
map-flag_with f g user group flag (j ∷ js) agree =
    ap (λ b. b ∷ map f js) (agree j)
    ∙ ap (λ bs. flag_with user group flag j (g j) ∷ bs)
    (map-flag_with f g user group flag js agree)

-- the flag of the last act
last_flag : {Op : Type 0} → (depth : ℕ) (acts : List (UserAct Op)) (sender : ℕ) (act : Act Op)
    → flag_of depth (acts ++ (record { user = sender; act = act }) ∷ []) acts sender act
    ≡ is_draw act
last_flag depth acts sender (Draw op) =
    let a : UserAct _ = record { user = sender; act = Draw op } in
    ap (λ done. is_group_drawn done (joined depth sender acts))
    (ap (λ s. s.groups.done) (strokes-push depth sender acts a)
    ∙ if_cases (λ g. g.done ≡ (strokes depth sender acts).groups.done) (sender == sender)
    (groups_after (strokes depth sender acts) a.act) (strokes depth sender acts).groups
    (λ yes. refl) (λ no. refl))
    ∙ drawn_last (strokes depth sender acts).groups.done (joined depth sender acts) refl
  where
    drawn_last : (done : List ℕ) (o : Option ℕ) → last_of done ≡ o → is_group_drawn done o ≡ true
    drawn_last done None is = refl
    drawn_last done (Some group) is = is_among-some done group (last_of-among done group is)
last_flag depth acts sender Point = refl
last_flag depth acts sender (Undo who) = refl
last_flag depth acts sender (Redo who) = refl
last_flag depth acts sender (Depth d) = refl
last_flag depth acts sender Other = refl

-- the flags of a history with one more act, by what its acts joined
flags-push : {Op : Type 0} → (depth : ℕ) (acts : List (UserAct Op)) (a : UserAct Op)
    → drawn_flags depth (acts ++ a ∷ [])
    ≡ map (drawn_in depth (acts ++ a ∷ [])) (joins depth acts) ++ is_draw a.act ∷ []
flags-push depth acts a =
    let all = acts ++ a ∷ [] in
    flags-by_joins depth all
    ∙ ap (map (drawn_in depth all)) (joins-append depth acts (a ∷ []))
    ∙ map-append (drawn_in depth all) (joins depth acts) (joins_from depth acts (a ∷ []))
    ∙ ap (λ b. map (drawn_in depth all) (joins depth acts) ++ b ∷ [])
    (drawn_in-join_of depth all acts a.user a.act ∙ last_flag depth acts a.user a.act)

-- if an act moves no group the flags stay, and a command that comes last is drawn
pub flags_go_on : (Op : Type 0) → FlagsGoOn Op
flags_go_on Op depth acts a none =
    flags-push depth acts a
    ∙ ap (λ flags. flags ++ is_draw a.act ∷ [])
    (map-agree (drawn_in depth (acts ++ a ∷ [])) (drawn_in depth acts) (joins depth acts)
    (λ place join is. drawn_in-unmoved depth acts a join none
    (earlier-end depth acts place join is))
    ∙ sym (flags-by_joins depth acts))

-- an act that moves a group is no command
moved-no_draw : {Op : Type 0} → (s : Strokes) (act : Act Op) (group : ℕ)
    → moved s act ≡ Some group → is_draw act ≡ false
moved-no_draw s (Draw op) group is = let wrong : None ≡ Some group = is in cc
moved-no_draw s Point group is = refl
moved-no_draw s (Undo who) group is = refl
moved-no_draw s (Redo who) group is = refl
moved-no_draw s (Depth d) group is = refl
moved-no_draw s Other group is = refl

-- an act that moves a group changes the flags of that group, and no others
pub flags_move : (Op : Type 0) → FlagsMove Op
flags_move Op depth acts a group is =
    flags-push depth acts a
    ∙ ap (λ b. map (drawn_in depth (acts ++ a ∷ [])) (joins depth acts) ++ b ∷ [])
    (moved-no_draw (strokes depth (concerned a) acts) a.act group is)
    ∙ ap (λ flags. flags ++ false ∷ [])
    (map-flag_with (drawn_in depth (acts ++ a ∷ [])) (drawn_in depth acts) (concerned a) group
    (is_redo a.act) (joins depth acts) (λ join. drawn_in-moved depth acts a group join is)
    ∙ ap (flags_with (concerned a) group (is_redo a.act) (joins depth acts))
    (sym (flags-by_joins depth acts)))

-- what stands at a place of a part stands there in the whole
slice_get-take : {X : Type 0} → (n : ℕ) (xs : List X) (place : ℕ) (x : X)
    → slice_get (take n xs) place ≡ Some x → (slice_get xs place ≡ Some x) × (place < n)
slice_get-take zero xs place x is = let wrong : None ≡ Some x = is in cc
slice_get-take (suc n) [] place x is = let wrong : None ≡ Some x = is in cc
slice_get-take (suc n) (y ∷ xs) zero x is = (is, omega arith)
slice_get-take (suc n) (y ∷ xs) (suc place) x is =
    let rest = slice_get-take n xs place x is in (rest.0, omega (arith, rest.1))

-- an act that comes no later than a Point did not join its group
flag_with-earlier : (user group : ℕ) (flag old : Bool) (join : Join) (place : ℕ)
    → IsEarlier place join → place ≤ group → flag_with user group flag join old ≡ old
flag_with-earlier user group flag old NoCommand place before le = refl
flag_with-earlier user group flag old GroupZero place before le = refl
flag_with-earlier user group flag old (InGroup u g) place before le =
    flag_with-group user group flag old u g (omega arith)

-- the group that an act moves was opened before
moved-earlier : {Op : Type 0} → (depth : ℕ) (acts : List (UserAct Op)) (a : UserAct Op) (group : ℕ)
    → moved_by depth acts a ≡ Some group → group < length acts
moved-earlier depth acts a group is =
    let s = strokes depth (concerned a) acts in
    let among = (moved-is s a.act group is).1 in
    elim (cases_lt group (length acts)) [
      | inl before ↦ before
      | inr later ↦ absurd (omega (
        arith,
        among,
        position-is depth (concerned a) acts,
        (IsSound-strokes depth (concerned a) acts).below group
            (omega (arith, position-is depth (concerned a) acts)),
      ))
    ]

-- the flags up to the Point of the group that an act moves stay
pub flags_stay_before : (Op : Type 0) → FlagsStayBefore Op
flags_stay_before Op depth acts a group count is le =
    let js = joins depth acts in
    let f = drawn_in depth (acts ++ a ∷ []) in
    ap (take count) (flags-push depth acts a)
    ∙ take-append-le count (map f js) (is_draw a.act ∷ [])
    (omega (arith, length-map js f, length-joins depth acts, moved-earlier depth acts a group is))
    ∙ take-map f count js
    ∙ map-agree f (drawn_in depth acts) (take count js) (λ place join here.
    let at = slice_get-take count js place join here in
    drawn_in-moved depth acts a group join is
    ∙ flag_with-earlier (concerned a) group (is_redo a.act) (drawn_in depth acts join) join place
    (earlier-join depth acts place join at.0) (omega (arith, at.1)))
    ∙ sym (take-map (drawn_in depth acts) count js)
    ∙ ap (take count) (sym (flags-by_joins depth acts))

-- the group that an act moves is in reach
pub moved_is_in_reach : (Op : Type 0) → MovedIsInReach Op
moved_is_in_reach Op depth acts a group is =
    (moved-is (strokes depth (concerned a) acts) a.act group is).0

-- a group that no later act can move
abbrev IsSettled : Strokes → ℕ → Type 0
IsSettled s g = (times g s.window.points ≡ 0) ⊎ (total g s.groups ≡ 0)

settled : (s : Strokes) (g : ℕ) → IsOutOfReach s g → IsSettled s g
settled s g (inl out) = inl (times-none s.window.points g out)
settled s g (inr gone) =
    inr (omega (arith, times-none s.groups.done g gone.0, times-none s.groups.undone g gone.1))

-- it stays one
IsSettled-after_act : {Op : Type 0} → (user : ℕ) (s : Strokes) (a : UserAct Op) (g : ℕ)
    → g < s.position → IsSettled s g → IsSettled (after_act user s a) g
IsSettled-after_act user s a g before (inl out) =
    inl (omega (arith, times-after_act user s a g, one_other s.position g (omega arith)))
IsSettled-after_act user s a g before (inr gone) =
    inr (omega (arith, total-after_act user s a g, one_other s.position g (omega arith)))

-- no act moves it
IsSettled-unmoved : {Op : Type 0} → (s : Strokes) (act : Act Op) (g group : ℕ) → IsSettled s g
    → moved s act ≡ Some group → g ≢ group
IsSettled-unmoved s act g group (inl out) is same =
    let m = (moved-is s act group is).0 in
    let k : 1 ≤ times group s.window.points = times-some s.window.points group m in
    let e : times g s.window.points ≡ times group s.window.points =
    ap (λ h. times h s.window.points) same in
    absurd (omega arith)
IsSettled-unmoved s act g group (inr gone) is same =
    let m = (moved-is s act group is).1 in
    let e : total g s.groups ≡ total group s.groups = ap (λ h. total h s.groups) same in
    absurd (omega (arith, m))

-- it stays done, or not
done-settled : {Op : Type 0} → (user : ℕ) (s : Strokes) (a : UserAct Op) (g : ℕ) → g < s.position
    → IsSettled s g → is_among (after_act user s a).groups.done g ≡ is_among s.groups.done g
done-settled user s a g before is =
    if_cases (λ gs. is_among gs.done g ≡ is_among s.groups.done g) (concerned a == user)
    (groups_after s a.act) s.groups (λ same. by_move (moved s a.act) refl) (λ other. refl)
  where
    by_move : (o : Option ℕ) → moved s a.act ≡ o
        → is_among (groups_after s a.act).done g ≡ is_among s.groups.done g
    by_move None none = done-unmoved s a.act g before none
    by_move (Some group) some =
        done-others s a.act group g (IsSettled-unmoved s a.act g group is some) some

fold-settled : {Op : Type 0} → (user : ℕ) (later : List (UserAct Op)) (s : Strokes) (g : ℕ)
    → g < s.position → IsSettled s g
    → is_among (fold (after_act user) s later).groups.done g ≡ is_among s.groups.done g
fold-settled user [] s g before is = refl
fold-settled user (a ∷ later) s g before is =
    fold-settled user later (after_act user s a) g (omega arith)
    (IsSettled-after_act user s a g before is)
    ∙ done-settled user s a g before is

-- a Point that is out of reach stays so
fold-cut_out : {Op : Type 0} → (user : ℕ) (more : List (UserAct Op)) (s : Strokes) (point : ℕ)
    → point < s.position → times point s.window.points ≡ 0
    → times point (fold (after_act user) s more).window.points ≡ 0
fold-cut_out user [] s point before out = out
fold-cut_out user (a ∷ more) s point before out =
    fold-cut_out user more (after_act user s a) point (omega arith)
    (omega (arith, times-after_act user s a point, one_other s.position point (omega arith)))

-- a Point that was cut out stays out
pub cut_out_stays_out : (Op : Type 0) → CutOutStaysOut Op
cut_out_stays_out Op depth user acts more point before out =
    let s = strokes depth user acts in
    ap (λ t. is_eligible t.window point)
    (fold-append (after_act user) (no_strokes depth) acts more)
    ∙ is_among-none (fold (after_act user) s more).window.points point
    (fold-cut_out user more s point (omega (arith, position-is depth user acts))
    (times-none s.window.points point out))

-- what joined a group that no later act can move stays drawn, or not
drawn_in-final : {Op : Type 0} → (depth : ℕ) (acts later : List (UserAct Op)) (join : Join)
    → IsEarlier (length acts) join → IsFinal depth acts join
    → drawn_in depth (acts ++ later) join ≡ drawn_in depth acts join
drawn_in-final depth acts later NoCommand before is = refl
drawn_in-final depth acts later GroupZero before is = refl
drawn_in-final depth acts later (InGroup user group) before is =
    ap (λ s. is_among s.groups.done group)
    (fold-append (after_act user) (no_strokes depth) acts later)
    ∙ fold-settled user later (strokes depth user acts) group
    (omega (arith, position-is depth user acts)) (settled (strokes depth user acts) group is)

-- what stands at a place stands there in a longer list, too
slice_get-append : {X : Type 0} → (xs ys : List X) (i : ℕ) (x : X) → slice_get xs i ≡ Some x
    → slice_get (xs ++ ys) i ≡ Some x
slice_get-append [] ys i x is = let wrong : None ≡ Some x = is in cc
slice_get-append (y ∷ xs) ys zero x is = is
slice_get-append (y ∷ xs) ys (suc i) x is = slice_get-append xs ys i x is

flag-at : {Op : Type 0} → (depth : ℕ) (acts : List (UserAct Op)) (place : ℕ) (join : Join)
    → slice_get (joins depth acts) place ≡ Some join
    → slice_get (drawn_flags depth acts) place ≡ Some (drawn_in depth acts join)
flag-at depth acts place join is =
    ap (λ flags. slice_get flags place) (flags-by_joins depth acts)
    ∙ slice_get-map (drawn_in depth acts) (joins depth acts) place
    ∙ ap (option_map (drawn_in depth acts)) is

-- an act that joined what can't be undone or brought back has the same flag in each longer history
pub final_flags_stay : (Op : Type 0) → FinalFlagsStay Op
final_flags_stay Op depth acts later place join is final =
    let longer = ap (λ js. slice_get js place) (joins-append depth acts later)
    ∙ slice_get-append (joins depth acts) (joins_from depth acts later) place join is in
    flag-at depth (acts ++ later) place join longer
    ∙ ap Some (drawn_in-final depth acts later join (earlier-end depth acts place join is) final)
    ∙ sym (flag-at depth acts place join is)
