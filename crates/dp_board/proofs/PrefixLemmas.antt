-- A history that begins without a Point: its beginning is drawn whole, and what comes after it is
-- drawn as it is alone.
use Rattle.std.proofs.Common.{◌≡◌, ℕ, ◌+◌, ◌-◌, ◌==◌, true, false, List, [], ◌∷◌, ◌++◌, length}
use Rattle.std.proofs.Common.{refl, sym, ap, subst, ◌∙◌, arith, append_assoc}
use Rattle.std.proofs.lemmas.List.{append-nil}
use Rattle.std.proofs.Math.Seq.{drop-nil}
use Rattle.dp_board.specs.declared.act.Act.{Act}
use Rattle.dp_board.specs.declared.act.Act.TheVariants.{Point, Undo, Redo, Draw, Depth, Other}
use Rattle.dp_board.specs.declared.act.UserAct.{UserAct}
use Rattle.dp_board.specs.Strokes.{Window, Strokes, no_groups, undo, redo}
use Rattle.dp_board.specs.Strokes.{undoable, redoable, clear_undone, window_after, groups_after}
use Rattle.dp_board.specs.Strokes.{concerned, after_act, strokes, last_of, last_few}
use Rattle.dp_board.specs.Flags.{is_group_drawn, flag_of}
use Rattle.dp_board.specs.Commands.{command_of, all_commands}
use Rattle.dp_board.specs.Laws.{is_point, HasNoPoint, depth_after, PrefixesWithoutPoints}
use Rattle.dp_board.proofs.TimesLemmas.{if_cases}
use Rattle.dp_board.proofs.TableLemmas.{strokes-push}
use Rattle.dp_board.proofs.WindowLemmas.{depth_is_in_force}
use Rattle.dp_board.proofs.RenamedStrokes.{AllRenamed, MovesUp, renamed-after, drawn_from}
use Rattle.dp_board.proofs.RenamedStrokes.{drawn-after}

-- no group was opened, and no Point is in reach
record HasNone (s : Strokes) : Type 0 where
  pub points : s.window.points ≡ []
  pub groups : s.groups ≡ no_groups

-- an act that is no Point leaves the window empty
window-none : {Op : Type 0} → (position : ℕ) (act : Act Op) (w : Window) → is_point act ≡ false
    → w.points ≡ [] → (window_after position act w).points ≡ []
window-none position Point w free none = let wrong : true ≡ false = free in cc
window-none position (Undo who) w free none =
    ap (λ ps. last_few w.depth ps) none ∙ drop-nil (0 - w.depth)
window-none position (Redo who) w free none =
    ap (λ ps. last_few w.depth ps) none ∙ drop-nil (0 - w.depth)
window-none position (Draw op) w free none =
    ap (λ ps. last_few w.depth ps) none ∙ drop-nil (0 - w.depth)
window-none position (Depth d) w free none = ap (λ ps. last_few d ps) none ∙ drop-nil (0 - d)
window-none position Other w free none =
    ap (λ ps. last_few w.depth ps) none ∙ drop-nil (0 - w.depth)

-- it opens no group
groups-none : {Op : Type 0} → (s : Strokes) (act : Act Op) → is_point act ≡ false
    → s.groups ≡ no_groups → groups_after s act ≡ no_groups
groups-none s Point free none = let wrong : true ≡ false = free in cc
groups-none s (Undo who) free none = ap (λ g. undo (undoable s.window g) g) none
groups-none s (Redo who) free none = ap (λ g. redo (redoable s.window g) g) none
groups-none s (Draw op) free none = ap clear_undone none
groups-none s (Depth d) free none = none
groups-none s Other free none = none

none-after_act : {Op : Type 0} → (user : ℕ) (s : Strokes) (a : UserAct Op)
    → is_point a.act ≡ false → HasNone s → HasNone (after_act user s a)
none-after_act user s a free none = record {
  points = window-none s.position a.act s.window free none.points;
  groups = if_cases (λ g. g ≡ no_groups) (concerned a == user) (groups_after s a.act) s.groups
      (λ yes. groups-none s a.act free none.groups) (λ other. none.groups);
}

-- for no user
abbrev NoneHas : {Op : Type 0} → ℕ → List (UserAct Op) → Type 0
NoneHas depth acts = (user : ℕ) → HasNone (strokes depth user acts)

none-push : {Op : Type 0} → (depth : ℕ) (acts : List (UserAct Op)) (a : UserAct Op)
    → is_point a.act ≡ false → NoneHas depth acts → NoneHas depth (acts ++ a ∷ [])
none-push depth acts a free none user =
    subst HasNone (sym (strokes-push depth user acts a))
    (none-after_act user (strokes depth user acts) a free (none user))

none-append : {Op : Type 0} → (depth : ℕ) (before acts : List (UserAct Op)) → HasNoPoint acts
    → NoneHas depth before → NoneHas depth (before ++ acts)
none-append depth before [] free none =
    subst (NoneHas depth) (sym (append-nil before)) none
none-append depth before (a ∷ acts) free none =
    subst (NoneHas depth) (append_assoc before (a ∷ []) acts)
    (none-append depth (before ++ a ∷ []) acts free.1 (none-push depth before a free.0 none))

-- a command is drawn if its user has no group
first-drawn : {Op : Type 0} → (depth : ℕ) (all before : List (UserAct Op)) (user : ℕ)
    (act : Act Op) → NoneHas depth before
    → command_of act (flag_of depth all before user act) ≡ command_of act true
first-drawn depth all before user (Draw op) none =
    ap (λ g. command_of (Draw op)
    (is_group_drawn (strokes depth user all).groups.done (last_of g.done))) (none user).groups
first-drawn depth all before user Point none = refl
first-drawn depth all before user (Undo who) none = refl
first-drawn depth all before user (Redo who) none = refl
first-drawn depth all before user (Depth d) none = refl
first-drawn depth all before user Other none = refl

-- the beginning is drawn whole
drawn-first : {Op : Type 0} → (depth : ℕ) (all before acts after : List (UserAct Op))
    → HasNoPoint acts → NoneHas depth before → drawn_from depth all before (acts ++ after)
    ≡ all_commands acts ++ drawn_from depth all (before ++ acts) after
drawn-first depth all before [] after free none =
    ap (λ acts. drawn_from depth all acts after) (sym (append-nil before))
drawn-first depth all before (a ∷ acts) after free none =
    let rest = drawn_from depth all (before ++ a ∷ []) (acts ++ after) in
    ap (λ ops. ops ++ rest) (first-drawn depth all before a.user a.act none)
    ∙ ap (λ ops. command_of a.act true ++ ops)
    (drawn-first depth all (before ++ a ∷ []) acts after free.1
    (none-push depth before a free.0 none))
    ∙ sym (append_assoc (command_of a.act true) (all_commands acts)
    (drawn_from depth all ((before ++ a ∷ []) ++ acts) after))
    ∙ ap (λ b. (command_of a.act true ++ all_commands acts) ++ drawn_from depth all b after)
    (append_assoc before (a ∷ []) acts)

-- what comes after it is drawn as it is alone, from the depth that it leaves
pub prefixes_without_points : (Op : Type 0) → PrefixesWithoutPoints Op
prefixes_without_points Op depth before after free =
    let none : NoneHas depth before = none-append depth [] before free
    (λ user. record { points = refl; groups = refl }) in
    let d = depth_after depth before in
    let n = length before in
    let f : ℕ → ℕ = λ p. p + n in
    let up : MovesUp f 0 n = record {
      injective = λ x y same. omega (arith, same);
      above = λ p le. refl;
    } in
    let here : AllRenamed {Op = Op} f d depth [] before = λ user. record {
      window = record {
        depth = depth_is_in_force Op depth user before;
        points = (none user).points;
      };
      groups = record {
        done = ap (λ g. g.done) (none user).groups;
        undone = ap (λ g. g.undone) (none user).groups;
      };
    } in
    drawn-first depth (before ++ after) [] before after free
    (λ user. record { points = refl; groups = refl })
    ∙ ap (λ ops. all_commands before ++ ops)
    (drawn-after f 0 n d depth after (before ++ after) [] before after up
    (renamed-after f 0 n d depth [] before after up (omega arith) (omega arith) here) here
    (omega arith) (omega arith))
