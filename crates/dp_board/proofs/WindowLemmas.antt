-- The window has the last Points of a history, if no depth was set, and the depth that was set
-- last.
use Rattle.std.proofs.Common.{◌≡◌, ℕ, ◌+◌, ◌-◌, List, [], ◌∷◌, ◌++◌, length, take, drop}
use Rattle.std.proofs.Common.{Some, None, unwrap_or, refl, ap, sym, ◌∙◌}
use Rattle.std.proofs.Common.{append_assoc, length-append, length-take, length-drop, arith}
use Rattle.std.proofs.lemmas.List.{take-append-drop, append-nil}
use Rattle.std.proofs.Math.Seq.{drop-append-add, drop-nil}
use Rattle.std.specs.List.{fold}
use Rattle.dp_board.specs.declared.act.Act.{Act}
use Rattle.dp_board.specs.declared.act.Act.TheVariants.{Point, Undo, Redo, Draw, Depth, Other}
use Rattle.dp_board.specs.declared.act.UserAct.{UserAct}
use Rattle.dp_board.specs.Strokes.{Window, Groups, Strokes, no_strokes, no_groups, last_few}
use Rattle.dp_board.specs.Strokes.{window_after, after_act, strokes}
use Rattle.dp_board.specs.Laws.{point_at, points_from, depth_in, HasNoDepth, depth_after}
use Rattle.dp_board.specs.Laws.{WindowIsOfLastPoints, DepthIsInForce}
use Rattle.dp_board.specs.FirstStrokes.{first_reach, first_after, first_groups, FirstStrokesStay}

-- what doesn't count among the last few may be missing in front
last_few-append : {X : Type 0} → (n : ℕ) (xs ys : List X)
    → last_few n (last_few n xs ++ ys) ≡ last_few n (xs ++ ys)
last_few-append n xs ys =
    let over : ℕ = length xs - n in
    let prefix = take over xs in
    let back = drop over xs ++ ys in
    let whole : prefix ++ back ≡ xs ++ ys = sym (append_assoc prefix (drop over xs) ys)
    ∙ ap (λ zs. zs ++ ys) (take-append-drop over xs) in
    let count : length (prefix ++ back) - n ≡ length prefix
    + (length back - n) = omega (
      arith,
      length-append prefix back,
      length-append (drop over xs)
          ys,
      length-take over xs,
      length-drop over xs,
    ) in
    sym (drop-append-add prefix back (length back - n))
    ∙ ap (λ k. drop k (prefix ++ back)) (sym count)
    ∙ ap (last_few n) whole

-- ---- the position

fold-position : {Op : Type 0} → (user : ℕ) (acts : List (UserAct Op)) (s : Strokes)
    → (fold (after_act user) s acts).position ≡ s.position + length acts
fold-position user [] s = omega arith
fold-position user (a ∷ acts) s =
    let rest : (fold (after_act user) (after_act user s a) acts).position
    ≡ s.position + 1 + length acts =
    fold-position user acts (after_act user s a) in omega arith

-- the position of a user's strokes is the length of the history
pub position-is : {Op : Type 0} → (depth user : ℕ) (acts : List (UserAct Op))
    → (strokes depth user acts).position ≡ length acts
position-is depth user acts =
    let e : (strokes depth user acts).position ≡ 0 + length acts =
    fold-position user acts (no_strokes depth) in omega arith

-- ---- the depth

-- the depth of the window after an act
window_after-depth : {Op : Type 0} → (position : ℕ) (act : Act Op) (w : Window)
    → (window_after position act w).depth ≡ unwrap_or (depth_in act) w.depth
window_after-depth position Point w = refl
window_after-depth position (Undo who) w = refl
window_after-depth position (Redo who) w = refl
window_after-depth position (Draw op) w = refl
window_after-depth position (Depth d) w = refl
window_after-depth position Other w = refl

fold-depth : {Op : Type 0} → (user : ℕ) (acts : List (UserAct Op)) (s : Strokes)
    → (fold (after_act user) s acts).window.depth ≡ depth_after s.window.depth acts
fold-depth user [] s = refl
fold-depth user (a ∷ acts) s =
    fold-depth user acts (after_act user s a)
    ∙ ap (λ d. depth_after d acts) (window_after-depth s.position a.act s.window)

-- the depth in force is the last that was set
pub depth_is_in_force : (Op : Type 0) → DepthIsInForce Op
depth_is_in_force Op depth user acts = fold-depth user acts (no_strokes depth)

-- ---- the Points

-- a window that has the last of some Points stays as it is by an act that is none
window_cut : (w : Window) (points : List ℕ) → w.points ≡ last_few w.depth points
    → last_few w.depth w.points ≡ last_few w.depth (points ++ [])
window_cut w points has =
    ap (last_few w.depth) (has ∙ sym (append-nil (last_few w.depth points)))
    ∙ last_few-append w.depth points []

-- the window has the last of the Points after an act that sets no depth, too
window_after-points : {Op : Type 0} → (position : ℕ) (act : Act Op) (w : Window) (points : List ℕ)
    → depth_in act ≡ None → w.points ≡ last_few w.depth points
    → (window_after position act w).points ≡ last_few w.depth (points ++ point_at position act)
window_after-points position Point w points none has =
    ap (λ xs. last_few w.depth (xs ++ position ∷ [])) has
    ∙ last_few-append w.depth points (position ∷ [])
window_after-points position (Undo who) w points none has = window_cut w points has
window_after-points position (Redo who) w points none has = window_cut w points has
window_after-points position (Draw op) w points none has = window_cut w points has
window_after-points position (Depth d) w points none has =
    let wrong : Some d ≡ None = none in cc
window_after-points position Other w points none has = window_cut w points has

-- the window after more acts, from one that has the last of some Points
fold-is_of_last_points : {Op : Type 0} → (user : ℕ) (acts : List (UserAct Op)) (s : Strokes)
    (depth : ℕ) (points : List ℕ) → HasNoDepth acts → s.window.depth ≡ depth
    → s.window.points ≡ last_few depth points
    → let t = fold (after_act user) s acts in (t.window.depth ≡ depth)
    × (t.window.points ≡ last_few depth (points ++ points_from s.position acts))
fold-is_of_last_points user [] s depth points none same has =
    (same, has ∙ ap (last_few depth) (sym (append-nil points)))
fold-is_of_last_points user (a ∷ acts) s depth points none same has =
    let more = points ++ point_at s.position a.act in
    let stays = window_after-depth s.position a.act s.window
    ∙ ap (λ o. unwrap_or o s.window.depth) none.0 ∙ same in
    let grows = window_after-points s.position a.act s.window points none.0
    (has ∙ ap (λ d. last_few d points) (sym same)) ∙ ap (λ d. last_few d more) same in
    let rest = fold-is_of_last_points user acts (after_act user s a) depth more none.1 stays grows
    in (
      rest.0,
      rest.1 ∙ ap (last_few depth)
          (append_assoc points (point_at s.position a.act) (points_from (s.position + 1) acts)),
    )

-- the position and the window are those of the history
pub window_is_of_last_points : (Op : Type 0) → WindowIsOfLastPoints Op
window_is_of_last_points Op depth user acts none =
    let are = fold-is_of_last_points user acts (no_strokes depth) depth [] none refl
    (sym (drop-nil (0 - depth))) in
    record { position = position-is depth user acts; depth_stays = are.0; points = are.1 }

-- ---- the strokes of the first profile

-- the Points of a history with one more act
points-push : {Op : Type 0} → (position : ℕ) (before : List (UserAct Op)) (a : UserAct Op)
    → points_from position (before ++ a ∷ [])
    ≡ points_from position before ++ point_at (position + length before) a.act
points-push position [] a =
    append-nil (point_at position a.act)
    ∙ ap (λ p. point_at p a.act) (omega arith)
points-push position (b ∷ before) a =
    ap (λ ps. point_at position b.act ++ ps) (points-push (position + 1) before a)
    ∙ sym (append_assoc (point_at position b.act) (points_from (position + 1) before)
    (point_at (position + 1 + length before) a.act))
    ∙ ap (λ p. points_from position (b ∷ before) ++ point_at p a.act) (omega arith)

abbrev reached : ℕ → Window → Groups → Strokes
reached n w g = record { position = n; window = w; groups = g }

-- an act that sets no depth takes such strokes to such strokes
first_reach-after_act : {Op : Type 0} → (depth user : ℕ) (before : List (UserAct Op)) (g : Groups)
    (a : UserAct Op) → depth_in a.act ≡ None → after_act user (first_reach depth before g) a
    ≡ first_reach depth (before ++ a ∷ []) (first_after depth user before g a)
first_reach-after_act depth user before g a none =
    let s = first_reach depth before g in
    let h = first_after depth user before g a in
    let w = window_after s.position a.act s.window in
    let longer : length before + 1 ≡ length (before ++ a ∷ []) =
    omega (arith, length-append before (a ∷ [])) in
    let deep : w.depth ≡ depth = window_after-depth s.position a.act s.window
    ∙ ap (λ o. unwrap_or o depth) none in
    let points : w.points ≡ last_few depth (points_from 0 (before ++ a ∷ [])) =
    window_after-points s.position a.act s.window (points_from 0 before) none refl
    ∙ ap (λ p. last_few depth (points_from 0 before ++ point_at p a.act)) (omega arith)
    ∙ ap (last_few depth) (sym (points-push 0 before a)) in
    ap (λ n. reached n w h) longer
    ∙ ap (λ d. reached (length (before ++ a ∷ [])) (record { depth = d; points = w.points }) h) deep
    ∙ ap (λ ps. reached (length (before ++ a ∷ [])) (record { depth = depth; points = ps }) h)
    points

-- the strokes after more acts are those of the first profile
fold-first : {Op : Type 0} → (depth user : ℕ) (before rest : List (UserAct Op)) (g : Groups)
    → HasNoDepth rest → fold (after_act user) (first_reach depth before g) rest
    ≡ first_reach depth (before ++ rest) (first_groups depth user before g rest)
fold-first depth user before [] g none =
    ap (λ acts. first_reach depth acts g) (sym (append-nil before))
fold-first depth user before (a ∷ rest) g none =
    let h = first_after depth user before g a in
    ap (λ s. fold (after_act user) s rest) (first_reach-after_act depth user before g a none.0)
    ∙ fold-first depth user (before ++ a ∷ []) rest h none.1
    ∙ ap (λ acts. first_reach depth acts (first_groups depth user (before ++ a ∷ []) h rest))
    (append_assoc before (a ∷ []) rest)

-- a history that sets no depth has the strokes of the first profile
pub first_strokes_stay : (Op : Type 0) → FirstStrokesStay Op
first_strokes_stay Op depth user acts none =
    ap (λ points. fold (after_act user) (record {
      position = 0;
      window = record { depth = depth; points = points };
      groups = no_groups;
    }) acts) (sym (drop-nil (0 - depth)))
    ∙ fold-first depth user [] acts no_groups none
