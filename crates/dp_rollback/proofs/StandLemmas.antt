-- What stands for a history goes on to stand for it with one more act.
use Rattle.std.proofs.Common.{◌≡◌, ℕ, ◌+◌, ◌-◌, ◌<◌, ◌≤◌, Bool, true, false}
use Rattle.std.proofs.Common.{List, [], ◌∷◌, ◌++◌, length, take, drop, map, get_or, Option, Some}
use Rattle.std.proofs.Common.{None, refl, ap, sym, ◌∙◌, arith, subst}
use Rattle.std.specs.Prelude.{if◌then◌else◌, nat_lt, unwrap_or}
use Rattle.std.specs.List.{fold, All, Contains}
use Rattle.std.specs.List.Sorted.{IsNonDecreasing}
use Rattle.std.specs.Option.{ForSome, option_map}
use Rattle.std.proofs.lemmas.Bool.{ltb-true, ltb-false}
use Rattle.std.proofs.lemmas.List.{append-nil, take-append-le, drop-append-le, drop-drop, drop-map}
use Rattle.std.proofs.lemmas.List.{take_all, take-append-drop, drop-take, take-take, get_or-map}
use Rattle.std.proofs.lemmas.List.{length-map, map-append}
use Rattle.std.proofs.lemmas.List.Elements.{All-nil, All-cons, All-append, All-drop, All-map}
use Rattle.std.proofs.lemmas.List.Elements.{All-contains}
use Rattle.std.proofs.lemmas.List.Sorted.{IsNonDecreasingBy-drop}
use Rattle.std.proofs.lemmas.List.Concat.{flat_map-append}
use Rattle.std.proofs.lemmas.Grind.{fold-append}
use Rattle.dp_board.specs.declared.act.Act.{Act}
use Rattle.dp_board.specs.declared.act.Act.TheVariants.{Point, Undo, Redo, Draw, Depth, Other}
use Rattle.dp_board.specs.declared.act.UserAct.{UserAct}
use Rattle.dp_board.specs.Strokes.{Window, Strokes, concerned, strokes, moved, moved_by, last_few}
use Rattle.dp_board.specs.Strokes.{window_after}
use Rattle.dp_board.specs.Commands.{command_of}
use Rattle.dp_board.specs.Laws.{depth_in}
use Rattle.dp_board.specs.Replay.{replay}
use Rattle.dp_board.specs.Table.{Table, IsTableAfter, next_strokes, moved_in, oldest_in}
use Rattle.dp_board.specs.Table.{table_with}
use Rattle.dp_board.proofs.RisingLemmas.{rising-push}
use Rattle.dp_board.proofs.TableSteps.{window_after-before}
use Rattle.dp_savepoints.specs.declared.kept.KeptAct.{KeptAct}
use Rattle.dp_savepoints.specs.declared.kept.Mark.{Mark}
use Rattle.dp_savepoints.specs.Kept.{kept_of, drawn_command, drawn_among, marked}
use Rattle.dp_savepoints.specs.Saves.{PointSave}
use Rattle.dp_rollback.specs.Rollback.{Rolled, Next, StandsFor, IsInOrder}
use Rattle.dp_savepoints.specs.Kept.{drawn_first}
use Rattle.dp_rollback.specs.Rollback.{let_go, grown, needless, put_on, FitsOn}
use Rattle.dp_savepoints.specs.Saves.{points_of}
use Rattle.dp_rollback.specs.Rollback.{board_at, AreSaved, KeepsReach}
use Rattle.dp_savepoints.specs.Runs.{run_to, saved_anew, save_anew}
use Rattle.dp_savepoints.specs.Marks.{mark_by, kept_in}
use Rattle.dp_rollback.specs.Moves.{kept_from, IsRedrawn, IsDrawnLast, IsDrawnFor}
use Rattle.dp_rollback.specs.Moves.{IsKnown, IsNext, saves_after}
use Rattle.dp_savepoints.specs.Saves.{save_of}
use Rattle.dp_savepoints.specs.Marks.{mark_in}
use Rattle.dp_savepoints.specs.Laws.{Laws}
use Rattle.dp_savepoints.proofs.KeptLemmas.{command_of-is_draw, command_of-false}
use Rattle.dp_savepoints.proofs.HistoryLemmas.{length-kept_of, replay-kept_of, moved-no_draw}
use Rattle.dp_savepoints.proofs.HistoryLemmas.{kept_of-unmoved, kept_of-moved, take-kept_of-moved}
use Rattle.dp_savepoints.proofs.HistoryLemmas.{take-kept_of-unmoved, take-marked}
use Rattle.dp_savepoints.proofs.KeptLemmas.{fold-drawn, kept-push, take-more}

-- without the first acts it stands for the same history
pub StandsFor-let_go : {B Op : Type 0} → (draw : B → Op → B) (blank : B) (depth : ℕ)
    (acts : List (UserAct Op)) (r : Rolled B Op) (count : ℕ) → StandsFor draw blank depth acts r
    → StandsFor draw blank depth acts (let_go count r)
StandsFor-let_go draw blank depth acts r count st = record {
  table = st.table;
  kept = ap (drop count) st.kept ∙ drop-drop count r.base (kept_of depth acts);
  board = st.board;
  saves = st.saves;
}

-- as many acts are kept, from the base on, as the history has
base-within : {B Op : Type 0} → (draw : B → Op → B) (blank : B) (depth : ℕ)
    (acts : List (UserAct Op)) (r : Rolled B Op) → StandsFor draw blank depth acts r → IsInOrder r
    → r.base + length r.kept ≡ length acts
base-within draw blank depth acts r st order = sym order.up_to_end ∙ st.table.position

-- a savepoint is as it was after an act that moves no group
saved-unmoved : {B Op : Type 0} → Laws Op → (draw : B → Op → B) (blank : B) (depth : ℕ)
    (acts : List (UserAct Op)) (a : UserAct Op) (table : Table) (n : ℕ) → a.user < 256
    → IsTableAfter depth acts table → moved_by depth acts a ≡ None → n ≤ length acts
    → board_at draw blank depth acts n ≡ board_at draw blank depth (acts ++ a ∷ []) n
saved-unmoved laws draw blank depth acts a table n sender is none within =
    ap (λ kept. fold draw blank (drawn_among kept)) (sym (take-kept_of-unmoved laws depth acts a
    table n sender is none within))

-- at the end all acts are drawn
saved-whole : {B Op : Type 0} → Laws Op → (draw : B → Op → B) (blank : B) (depth : ℕ)
    (acts : List (UserAct Op))
    → replay draw blank depth acts ≡ board_at draw blank depth acts (length acts)
saved-whole laws draw blank depth acts =
    replay-kept_of laws draw blank depth acts
    ∙ ap (λ kept. fold draw blank (drawn_among kept)) (sym (take_all (length acts)
    (kept_of depth acts) (omega (arith, length-kept_of laws depth acts))))

-- each board is that at its Point
abbrev SavedIn : {B Op : Type 0}
    → (B → Op → B) → B → ℕ → List (UserAct Op) → PointSave B → Type 0
SavedIn draw blank depth acts save = save.board ≡ board_at draw blank depth acts save.point

-- the savepoint of an act, if it is a Point
save_of-in : {B Op : Type 0} → (draw : B → Op → B) (blank : B) (depth : ℕ)
    (acts : List (UserAct Op)) (position : ℕ) (board : B) (act : Act Op)
    → board ≡ board_at draw blank depth acts position
    → All (SavedIn draw blank depth acts) (save_of position board act)
save_of-in draw blank depth acts position board Point saved =
    All-cons (SavedIn draw blank depth acts) (record { point = position; board = board }) [] saved
    (All-nil (SavedIn draw blank depth acts))
save_of-in draw blank depth acts position board (Undo who) saved =
    All-nil (SavedIn draw blank depth acts)
save_of-in draw blank depth acts position board (Redo who) saved =
    All-nil (SavedIn draw blank depth acts)
save_of-in draw blank depth acts position board (Draw op) saved =
    All-nil (SavedIn draw blank depth acts)
save_of-in draw blank depth acts position board (Depth d) saved =
    All-nil (SavedIn draw blank depth acts)
save_of-in draw blank depth acts position board Other saved =
    All-nil (SavedIn draw blank depth acts)

-- an act that moves a group is no Point
save_of-moved : {B Op : Type 0} → (s : Strokes) (draw : B → Op → B) (blank : B) (depth : ℕ)
    (acts : List (UserAct Op)) (position : ℕ) (board : B) (act : Act Op) (group : ℕ)
    → moved s act ≡ Some group → All (SavedIn draw blank depth acts) (save_of position board act)
save_of-moved s draw blank depth acts position board Point group is =
    let wrong : None ≡ Some group = is in cc
save_of-moved s draw blank depth acts position board (Undo who) group is =
    All-nil (SavedIn draw blank depth acts)
save_of-moved s draw blank depth acts position board (Redo who) group is =
    All-nil (SavedIn draw blank depth acts)
save_of-moved s draw blank depth acts position board (Draw op) group is =
    All-nil (SavedIn draw blank depth acts)
save_of-moved s draw blank depth acts position board (Depth d) group is =
    All-nil (SavedIn draw blank depth acts)
save_of-moved s draw blank depth acts position board Other group is =
    All-nil (SavedIn draw blank depth acts)

-- the savepoints after an act
saves-next : {B Op : Type 0} → (draw : B → Op → B) (blank : B) (depth : ℕ)
    (acts : List (UserAct Op)) (table : Table) (board : B) (act : Act Op)
    (saves : List (PointSave B)) → All (SavedIn draw blank depth acts) saves
    → All (SavedIn draw blank depth acts) (save_of table.position board act)
    → All (SavedIn draw blank depth acts) (saves_after table board act saves)
saves-next draw blank depth acts table board act saves all saved =
    let more = saves ++ save_of table.position board act in
    All-drop (SavedIn draw blank depth acts)
    (length more - unwrap_or (depth_in act) table.window.depth) more
    (All-append (SavedIn draw blank depth acts) saves (save_of table.position board act) all saved)

-- a Point that has a savepoint came before the position
point-before : {B : Type 0} → (saves : List (PointSave B)) (n k : ℕ) (d : PointSave B)
    → All (λ point. point < n) (points_of saves) → k < length saves
    → (get_or saves k d).point < n
point-before saves n k d before within =
    omega (
      arith,
      get_or-map (λ save. save.point) saves k d d.point within,
      before k d.point (omega (arith, within, length-map saves (λ save. save.point))),
    )

-- the savepoints after an act that moves no group are as they were
saves-unmoved : {B Op : Type 0} → Laws Op → (draw : B → Op → B) (blank : B) (depth : ℕ)
    (acts : List (UserAct Op)) (a : UserAct Op) (table : Table) (saves : List (PointSave B))
    → a.user < 256 → IsTableAfter depth acts table → moved_by depth acts a ≡ None
    → All (λ point. point < table.position) (points_of saves)
    → All (SavedIn draw blank depth acts) saves
    → All (SavedIn draw blank depth (acts ++ a ∷ [])) saves
saves-unmoved laws draw blank depth acts a table saves sender is none before all = λ k d within.
    all k d within
    ∙ saved-unmoved laws draw blank depth acts a table (get_or saves k d).point sender is none
    (omega (arith, point-before saves table.position k d before within, is.position))

-- the Points that have savepoints came before the position
before-of : {B Op : Type 0} → (r : Rolled B Op) → IsInOrder r
    → All (λ point. point < r.table.position) (points_of r.saves)
before-of r order =
    subst (All (λ point. point < r.table.position)) (sym order.saved.same) order.saved.before

-- an act that moves no group
pub StandsFor-drawn : {B Op : Type 0} → Laws Op → (draw : B → Op → B) (blank : B) (depth : ℕ)
    (acts : List (UserAct Op)) (a : UserAct Op) (r : Rolled B Op) (board : B)
    (saves : List (PointSave B)) → a.user < 256 → concerned a < 256
    → StandsFor draw blank depth acts r → IsInOrder r → moved_by depth acts a ≡ None
    → IsDrawnLast draw r a.act board saves
    → StandsFor draw blank depth (acts ++ a ∷ []) (grown (record {
      act = kept_in r.table a;
      mark = None;
      strokes = next_strokes r.table a;
      board = board;
      saves = saves_after r.table r.board a.act saves;
    }) r)
StandsFor-drawn laws draw blank depth acts a r board saves sender known st order unmoved made =
    let all = kept_of depth acts in
    let k = kept_in r.table a in
    let later = acts ++ a ∷ [] in
    let count = length-kept_of laws depth acts in
    let whole = base-within draw blank depth acts r st order in
    let more = kept_of-unmoved laws depth acts a r.table sender st.table unmoved in
    let drawn : board ≡ replay draw blank depth later =
    made.drawn
    ∙ ap (λ ops. fold draw r.board ops) (sym (command_of-is_draw a.act)
    ∙ sym (append-nil (drawn_command k)))
    ∙ ap (λ b. fold draw b (drawn_among (k ∷ []))) (st.board
    ∙ replay-kept_of laws draw blank depth acts)
    ∙ sym (fold-drawn draw blank all (k ∷ []))
    ∙ ap (λ kept. fold draw blank (drawn_among kept)) (sym more)
    ∙ sym (replay-kept_of laws draw blank depth later) in
    let saved : r.board ≡ board_at draw blank depth later r.table.position =
    st.board
    ∙ saved-whole laws draw blank depth acts
    ∙ ap (board_at draw blank depth acts) (sym st.table.position)
    ∙ saved-unmoved laws draw blank depth acts a r.table r.table.position sender st.table unmoved
    (omega (arith, st.table.position)) in
    record {
      table = laws.next depth acts a r.table known st.table;
      kept = kept-push r.base r.kept all k st.kept (omega (arith, count, whole))
          ∙ ap (drop r.base) (sym more);
      board = drawn;
      saves = saves-next draw blank depth later r.table r.board a.act saves
          (subst (All (SavedIn draw blank depth later)) (sym made.saves_stay)
          (saves-unmoved laws draw blank depth acts a r.table r.saves sender st.table unmoved
          (before-of r order) st.saves))
          (save_of-in draw blank depth later r.table.position r.board a.act saved);
    }

-- a group that moves is in reach
pub record IsBefore {B Op : Type 0} (r : Rolled B Op) (mark : Mark) : Type 0 where
  pub reach : oldest_in r.table ≤ mark.group
  pub before : mark.group < r.table.position

-- what a redraw begins with, and what it draws
record IsBegun {B Op : Type 0} (draw : B → Op → B) (blank : B) (r : Rolled B Op) (mark : Mark)
    (from : B) (all : List (KeptAct Op)) : Type 0 where
  pub start : from ≡ fold draw blank (drawn_among (take (mark.group) all))
  pub rest : map (marked mark) (kept_from r mark) ≡ drop (mark.group) all

-- the acts of a history with the flags of a mark
abbrev marked_of : {Op : Type 0} → ℕ → List (UserAct Op) → Mark → List (KeptAct Op)
marked_of depth acts mark = map (marked mark) (kept_of depth acts)

-- up to the savepoint they are as they were
begun : {B Op : Type 0} → Laws Op → (draw : B → Op → B) (blank : B) (depth : ℕ)
    (acts : List (UserAct Op)) (a : UserAct Op) (r : Rolled B Op) (group : ℕ) (from : B)
    → a.user < 256 → StandsFor draw blank depth acts r → IsInOrder r
    → moved_by depth acts a ≡ Some group → IsBefore r (mark_by a group)
    → Contains r.saves (record { point = group; board = from })
    → IsBegun draw blank r (mark_by a group) from (marked_of depth acts (mark_by a group))
begun laws draw blank depth acts a r group from sender st order some is among =
    let mark = mark_by a group in
    let all = kept_of depth acts in
    let same : take group (map (marked mark) all) ≡ take group all =
    take-marked laws depth acts a r.table group group sender st.table some (omega arith)
    (omega (arith, is.before, st.table.position)) in
    let at : r.base + (group - r.base) ≡ group = omega (arith, order.begins, is.reach) in
    let saved : from ≡ board_at draw blank depth acts group =
    All-contains (SavedIn draw blank depth acts) r.saves (record { point = group; board = from })
    st.saves among in
    record {
      start = saved ∙ ap (λ kept. fold draw blank (drawn_among kept)) (sym same);
      rest = ap (λ kept. map (marked mark) (drop (group - r.base) kept)) st.kept
          ∙ ap (map (marked mark)) (drop-drop (group - r.base) r.base all
          ∙ ap (λ n. drop n all) at)
          ∙ sym (drop-map (marked mark) group all);
    }

-- a part that is drawn from the savepoint on
drawn_part : {B Op : Type 0} → (draw : B → Op → B) (blank : B) (r : Rolled B Op) (mark : Mark)
    (from : B) (all : List (KeptAct Op)) (count : ℕ) → IsBegun draw blank r mark from all
    → fold draw from (drawn_among (take count (map (marked mark) (kept_from r mark))))
    ≡ fold draw blank (drawn_among (take (mark.group + count) all))
drawn_part draw blank r mark from all count is =
    let rest = map (marked mark) (kept_from r mark) in
    ap (λ b. fold draw b (drawn_among (take count rest))) is.start
    ∙ ap (λ kept. fold draw (fold draw blank (drawn_among (take (mark.group) all)))
    (drawn_among (take count kept))) is.rest
    ∙ sym (fold-drawn draw blank (take (mark.group) all) (take count (drop (mark.group) all)))
    ∙ ap (λ kept. fold draw blank (drawn_among kept)) (take-more (mark.group) count all)

-- all that is drawn from the savepoint on
drawn_rest : {B Op : Type 0} → (draw : B → Op → B) (blank : B) (r : Rolled B Op) (mark : Mark)
    (from : B) (all : List (KeptAct Op)) → IsBegun draw blank r mark from all
    → fold draw from (drawn_among (map (marked mark) (kept_from r mark)))
    ≡ fold draw blank (drawn_among all)
drawn_rest draw blank r mark from all is =
    let rest = map (marked mark) (kept_from r mark) in
    ap (λ b. fold draw b (drawn_among rest)) is.start
    ∙ ap (λ kept. fold draw (fold draw blank (drawn_among (take (mark.group) all)))
    (drawn_among kept)) is.rest
    ∙ sym (fold-drawn draw blank (take (mark.group) all) (drop (mark.group) all))
    ∙ ap (λ kept. fold draw blank (drawn_among kept)) (take-append-drop (mark.group) all)

-- the history with an act that moves a group has the commands of the acts with their new flags
drawn_moved : {B Op : Type 0} → Laws Op → (draw : B → Op → B) (blank : B) (depth : ℕ)
    (acts : List (UserAct Op)) (a : UserAct Op) (table : Table) (group : ℕ) → a.user < 256
    → IsTableAfter depth acts table → moved_by depth acts a ≡ Some group
    → replay draw blank depth (acts ++ a ∷ [])
    ≡ fold draw blank (drawn_among (marked_of depth acts (mark_by a group)))
drawn_moved laws draw blank depth acts a table group sender is some =
    let marked_acts = marked_of depth acts (mark_by a group) in
    let k = kept_in table a in
    let no_draw = moved-no_draw (strokes depth (concerned a) acts) a.act group some in
    let nothing : drawn_among (k ∷ []) ≡ [] =
    append-nil (drawn_command k) ∙ ap (command_of a.act) no_draw ∙ command_of-false a.act in
    replay-kept_of laws draw blank depth (acts ++ a ∷ [])
    ∙ ap (λ kept. fold draw blank (drawn_among kept))
    (kept_of-moved laws depth acts a table group sender is some)
    ∙ fold-drawn draw blank marked_acts (k ∷ [])
    ∙ ap (fold draw (fold draw blank (drawn_among marked_acts))) nothing

-- the first commands of the history with that act
first_moved : {B Op : Type 0} → Laws Op → (draw : B → Op → B) (blank : B) (depth : ℕ)
    (acts : List (UserAct Op)) (a : UserAct Op) (table : Table) (group n : ℕ) → a.user < 256
    → IsTableAfter depth acts table → moved_by depth acts a ≡ Some group → n ≤ length acts
    → fold draw blank (drawn_first depth (acts ++ a ∷ []) n)
    ≡ fold draw blank (drawn_among (take n (marked_of depth acts (mark_by a group))))
first_moved laws draw blank depth acts a table group n sender is some within =
    let mark = mark_by a group in
    let all = kept_of depth acts in
    ap (λ kept. fold draw blank (drawn_among (take n kept)))
    (kept_of-moved laws depth acts a table group sender is some)
    ∙ ap (λ kept. fold draw blank (drawn_among kept))
    (take-append-le n (map (marked mark) all) (kept_in table a ∷ [])
    (omega (arith, within, length-kept_of laws depth acts, length-map all (marked mark))))

-- a savepoint after an act that moves a group
saved-moved : {B Op : Type 0} → Laws Op → (draw : B → Op → B) (blank : B) (depth : ℕ)
    (acts : List (UserAct Op)) (a : UserAct Op) (r : Rolled B Op) (group : ℕ) (from old : B) (n : ℕ)
    → a.user < 256 → StandsFor draw blank depth acts r → moved_by depth acts a ≡ Some group
    → IsBegun draw blank r (mark_by a group) from (marked_of depth acts (mark_by a group))
    → n ≤ length acts → old ≡ board_at draw blank depth acts n
    → saved_anew draw (map (marked (mark_by a group)) (kept_from r (mark_by a group))) group from n
    old ≡ board_at draw blank depth (acts ++ a ∷ []) n
saved-moved {B} {Op} laws draw blank depth acts a r group from old n sender st some is within
    saved =
    by_test (nat_lt group n) refl
  where
    later : List (UserAct Op)
    later = acts ++ a ∷ []

    rest : List (KeptAct Op)
    rest = map (marked (mark_by a group)) (kept_from r (mark_by a group))

    by_test : (b : Bool) → nat_lt group n ≡ b
        → saved_anew draw rest group from n old ≡ board_at draw blank depth later n
    by_test true is_later =
        let mark = mark_by a group in
        let all = marked_of depth acts mark in
        let lt = ltb-true group n is_later in
        let at : group + (n - group) ≡ n = omega (arith, lt) in
        ap (λ b. if b then run_to draw rest group from n else old) is_later
        ∙ drawn_part draw blank r mark from all (n - group) is
        ∙ ap (λ m. fold draw blank (drawn_among (take m all))) at
        ∙ sym (first_moved laws draw blank depth acts a r.table group n sender st.table some within)
    by_test false is_later =
        let le = ltb-false group n is_later in
        ap (λ b. if b then run_to draw rest group from n else old) is_later
        ∙ saved
        ∙ ap (λ kept. fold draw blank (drawn_among kept)) (sym (take-kept_of-moved laws depth acts a
        r.table group n sender st.table some (omega (arith, le)) within))

-- an act that moves a group
pub StandsFor-redrawn : {B Op : Type 0} → Laws Op → (draw : B → Op → B) (blank : B) (depth : ℕ)
    (acts : List (UserAct Op)) (a : UserAct Op) (r : Rolled B Op) (group : ℕ) (board : B)
    (saves : List (PointSave B)) → a.user < 256 → concerned a < 256
    → StandsFor draw blank depth acts r → IsInOrder r → moved_by depth acts a ≡ Some group
    → IsBefore r (mark_by a group) → IsRedrawn draw r (mark_by a group) board saves
    → StandsFor draw blank depth (acts ++ a ∷ []) (grown (record {
      act = kept_in r.table a;
      mark = Some (mark_by a group);
      strokes = next_strokes r.table a;
      board = board;
      saves = saves_after r.table r.board a.act saves;
    }) r)
StandsFor-redrawn laws draw blank depth acts a r group board saves sender known st order some is
    made =
    let mark = mark_by a group in
    let all = kept_of depth acts in
    let later = acts ++ a ∷ [] in
    let rest = map (marked mark) (kept_from r mark) in
    let whole = base-within draw blank depth acts r st order in
    let from = made.from in
    let begin = begun laws draw blank depth acts a r group from sender st order some is
    made.begun in
    let drawn : board ≡ replay draw blank depth later =
    made.finished.drawn
    ∙ drawn_rest draw blank r mark from (marked_of depth acts mark) begin
    ∙ sym (drawn_moved laws draw blank depth acts a r.table group sender st.table some) in
    let anew : All (SavedIn draw blank depth later)
    (map (save_anew draw rest group from) r.saves) =
    All-map (SavedIn draw blank depth later) (save_anew draw rest group from) r.saves
    (λ k d within. saved-moved laws draw blank depth acts a r group from (get_or r.saves k d).board
    (get_or r.saves k d).point sender st some begin
    (omega (
      arith,
      st.table.position,
      point-before r.saves r.table.position k d (before-of r order) within,
    )) (st.saves k d within)) in
    record {
      table = laws.next depth acts a r.table known st.table;
      kept = kept-push r.base (map (marked mark) r.kept) (map (marked mark) all)
          (kept_in r.table a) (ap (map (marked mark)) st.kept
          ∙ sym (drop-map (marked mark) r.base all))
          (omega (arith, length-kept_of laws depth acts, length-map all (marked mark), whole))
          ∙ ap (drop r.base) (sym (kept_of-moved laws depth acts a r.table group sender st.table
          some));
      board = drawn;
      saves = saves-next draw blank depth later r.table r.board a.act saves
          (subst (All (SavedIn draw blank depth later)) (sym made.finished.saves_are) anew)
          (save_of-moved (strokes depth (concerned a) acts) draw blank depth later r.table.position
          r.board a.act group some);
    }

-- what is drawn for an act, if it moves a group or not
drawn_for : {B Op : Type 0} → Laws Op → (draw : B → Op → B) (blank : B) (depth : ℕ)
    (acts : List (UserAct Op)) (a : UserAct Op) (r : Rolled B Op) (o : Option ℕ) (board : B)
    (saves : List (PointSave B)) → a.user < 256 → concerned a < 256
    → StandsFor draw blank depth acts r → IsInOrder r → moved_by depth acts a ≡ o
    → ForSome (option_map (mark_by a) o) (λ mark. oldest_in r.table ≤ mark.group)
    → ForSome (option_map (mark_by a) o) (λ mark. mark.group < r.table.position)
    → IsDrawnFor draw r a.act (option_map (mark_by a) o) board saves
    → StandsFor draw blank depth (acts ++ a ∷ []) (grown (record {
      act = kept_in r.table a;
      mark = option_map (mark_by a) o;
      strokes = next_strokes r.table a;
      board = board;
      saves = saves_after r.table r.board a.act saves;
    }) r)
drawn_for laws draw blank depth acts a r None board saves sender known st order is reach before
    made =
    StandsFor-drawn laws draw blank depth acts a r board saves sender known st order is made
drawn_for laws draw blank depth acts a r (Some group) board saves sender known st order is reach
    before made =
    StandsFor-redrawn laws draw blank depth acts a r group board saves sender known st order is
    (record { reach = reach (mark_by a group) refl; before = before (mark_by a group) refl }) made

-- what an act makes of what stands for a history stands for it with the act
pub StandsFor-put_on : {B Op : Type 0} → Laws Op → (draw : B → Op → B) (r : Rolled B Op)
    (a : UserAct Op) (next : Next B Op) → IsKnown r a → IsNext draw r a next
    → (blank : B) (depth : ℕ) (acts : List (UserAct Op)) → StandsFor draw blank depth acts r
    → StandsFor draw blank depth (acts ++ a ∷ []) (put_on next r)
StandsFor-put_on {B} {Op} laws draw r a next known is blank depth acts st =
    let made : Next B Op = record {
      act = kept_in r.table a;
      mark = mark_in r.table a;
      strokes = next_strokes r.table a;
      board = next.board;
      saves = saves_after r.table r.board a.act is.made.old_saves;
    } in
    let same : made ≡ next =
    ap (λ k. record made { act = k }) (sym is.act)
    ∙ ap (λ m. record made { act = next.act; mark = m }) (sym is.mark)
    ∙ ap (λ s. record made { act = next.act; mark = next.mark; strokes = s }) (sym is.strokes)
    ∙ ap (λ xs. record next { saves = xs }) (sym is.made.saves_are) in
    subst (λ n. StandsFor draw blank depth (acts ++ a ∷ []) (put_on n r)) same
    (StandsFor-let_go draw blank depth (acts ++ a ∷ []) (grown made r) (needless (grown made r))
    (drawn_for laws draw blank depth acts a r (moved_in r.table a) next.board is.made.old_saves
    known.sender known.known st known.order
    (sym (laws.moved depth acts a r.table known.known st.table)) known.reach known.before
    is.made.drawn))

-- the last of some, mapped
last_few-map : {X Y : Type 0} → (f : X → Y) (n : ℕ) (xs : List X)
    → map f (last_few n xs) ≡ last_few n (map f xs)
last_few-map f n xs =
    sym (drop-map f (length xs - n) xs)
    ∙ ap (λ m. drop (m - n) (map f xs)) (sym (length-map xs f))

-- the Points that have savepoints after an act
points-next : {B Op : Type 0} → (table : Table) (act : Act Op) (board : B)
    (saves : List (PointSave B)) → points_of saves ≡ table.window.points
    → points_of (saves_after table board act saves)
    ≡ (window_after table.position act table.window).points
points-next {B} {Op} table act board saves same =
    last_few-map (λ save. save.point) (unwrap_or (depth_in act) table.window.depth)
    (saves ++ save_of table.position board act)
    ∙ ap (last_few (unwrap_or (depth_in act) table.window.depth))
    (map-append (λ save. save.point) saves (save_of table.position board act)
    ∙ ap (λ ps. ps ++ points_of (save_of table.position board act)) same)
    ∙ by_act act
  where
    none : (n : ℕ) → last_few n (table.window.points ++ []) ≡ last_few n table.window.points
    none n = ap (last_few n) (append-nil table.window.points)

    by_act : (a : Act Op) → last_few (unwrap_or (depth_in a) table.window.depth)
        (table.window.points ++ points_of (save_of table.position board a))
        ≡ (window_after table.position a table.window).points
    by_act Point = refl
    by_act (Undo who) = none table.window.depth
    by_act (Redo who) = none table.window.depth
    by_act (Draw op) = none table.window.depth
    by_act (Depth d) = none d
    by_act Other = none table.window.depth

-- the Points in reach stay in order
rising-next : {Op : Type 0} → (position : ℕ) (act : Act Op) (w : Window) → IsNonDecreasing w.points
    → All (λ point. point < position) w.points
    → IsNonDecreasing (window_after position act w).points
rising-next position Point w rising before =
    IsNonDecreasingBy-drop (λ p. p) (length (w.points ++ position ∷ []) - w.depth)
    (w.points ++ position ∷ []) (rising-push w.points position rising before)
rising-next position (Undo who) w rising before =
    IsNonDecreasingBy-drop (λ p. p) (length w.points - w.depth) w.points rising
rising-next position (Redo who) w rising before =
    IsNonDecreasingBy-drop (λ p. p) (length w.points - w.depth) w.points rising
rising-next position (Draw op) w rising before =
    IsNonDecreasingBy-drop (λ p. p) (length w.points - w.depth) w.points rising
rising-next position (Depth d) w rising before =
    IsNonDecreasingBy-drop (λ p. p) (length w.points - d) w.points rising
rising-next position Other w rising before =
    IsNonDecreasingBy-drop (λ p. p) (length w.points - w.depth) w.points rising

-- each Point in reach has its savepoint after an act
pub AreSaved-next : {B Op : Type 0} → (table : Table) (act : Act Op) (board : B)
    (saves : List (PointSave B)) → AreSaved table.position table.window.points (points_of saves)
    → AreSaved (table.position + 1) (window_after table.position act table.window).points
    (points_of (saves_after table board act saves))
AreSaved-next table act board saves saved = record {
  same = points-next table act board saves saved.same;
  rising = rising-next table.position act table.window saved.rising saved.before;
  before = window_after-before table.position act table.window saved.before;
}

-- how many Points may be in reach after an act
pub depth-next : {Op : Type 0} → (position : ℕ) (act : Act Op) (w : Window)
    → unwrap_or (depth_in act) w.depth ≡ (window_after position act w).depth
depth-next position Point w = refl
depth-next position (Undo who) w = refl
depth-next position (Redo who) w = refl
depth-next position (Draw op) w = refl
depth-next position (Depth d) w = refl
depth-next position Other w = refl

-- the positions after an act that comes next, if the acts before the first that an act may need
-- are let go
pub KeepsReach-next : {B Op : Type 0} → (table : Table) (a : UserAct Op) (board : B)
    (saves : List (PointSave B)) (base kept base' kept' : ℕ)
    → KeepsReach table base kept (points_of saves)
    → oldest_in table ≤ oldest_in (table_with (next_strokes table a) table)
    → base' ≡ base + (oldest_in (table_with (next_strokes table a) table) - base)
    → base' + kept' ≡ base + kept + 1
    → KeepsReach (table_with (next_strokes table a) table) base' kept'
    (points_of (saves_after table board a.act saves))
KeepsReach-next table a board saves base kept base' kept' is later begins count = record {
  up_to_end = omega (arith, is.up_to_end, count);
  begins = omega (arith, is.begins, later, begins);
  saved = AreSaved-next table a.act board saves is.saved;
}

-- savepoints that are made anew are of the same Points
points-anew : {B Op : Type 0} → (draw : B → Op → B) (kept : List (KeptAct Op)) (start : ℕ)
    (from : B)
    (saves : List (PointSave B))
    → points_of (map (save_anew draw kept start from) saves) ≡ points_of saves
points-anew draw kept start from [] = refl
points-anew draw kept start from (save ∷ saves) =
    ap (λ ps. save.point ∷ ps) (points-anew draw kept start from saves)

-- the savepoints that an act leaves are of the same Points, if it moves a group or not
points-drawn : {B Op : Type 0} → (draw : B → Op → B) (r : Rolled B Op) (act : Act Op)
    (o : Option Mark) (board : B) (saves : List (PointSave B))
    → IsDrawnFor draw r act o board saves → points_of saves ≡ points_of r.saves
points-drawn draw r act None board saves made = ap points_of made.saves_stay
points-drawn draw r act (Some mark) board saves made =
    ap points_of made.finished.saves_are
    ∙ points-anew draw (map (marked mark) (kept_from r mark)) mark.group made.from r.saves

-- what an act makes of it fits it, if there is room
pub FitsOn-made : {B Op : Type 0} → (draw : B → Op → B) (r : Rolled B Op) (a : UserAct Op)
    (next : Next B Op) → IsKnown r a → IsNext draw r a next → 1 ≤ r.spare → FitsOn next r
FitsOn-made draw r a next known is room =
    let made = is.made in
    let same = points-drawn draw r a.act (mark_in r.table a) next.board made.old_saves made.drawn
    in
    let saved : AreSaved (r.table.position + 1)
    (window_after r.table.position a.act r.table.window).points (points_of next.saves) =
    subst (λ saves. AreSaved (r.table.position + 1)
    (window_after r.table.position a.act r.table.window).points (points_of saves))
    (sym made.saves_are)
    (AreSaved-next r.table a.act r.board made.old_saves
    (subst (AreSaved r.table.position r.table.window.points) (sym same) known.order.saved)) in
    record {
      room = room;
      follows = ap (λ s. s.position) is.strokes;
      enough = omega (arith, is.later, known.order.begins);
      saved = subst (λ s. AreSaved s.position s.window.points (points_of next.saves))
          (sym is.strokes) saved;
    }

-- what has no act yet stands for the history without acts
pub StandsFor-new : {B Op : Type 0} → (draw : B → Op → B) (blank : B) (depth : ℕ)
    (r : Rolled B Op) → IsTableAfter {Op = Op} depth [] r.table → r.base ≡ 0 → r.kept ≡ []
    → r.board ≡ blank → r.saves ≡ [] → StandsFor draw blank depth [] r
StandsFor-new {B} {Op} draw blank depth r table base kept board saves = record {
  table = table;
  kept = kept ∙ sym (ap (λ n. drop n (kept_of {Op = Op} depth [])) base);
  board = board;
  saves = subst (All (SavedIn {Op = Op} draw blank depth [])) (sym saves)
      (All-nil (SavedIn {Op = Op} draw blank depth []));
}

-- room for more acts changes nothing of what it stands for
pub StandsFor-spare : {B Op : Type 0} → (draw : B → Op → B) (blank : B) (depth : ℕ)
    (acts : List (UserAct Op)) (r : Rolled B Op) (spare : ℕ) → StandsFor draw blank depth acts r
    → StandsFor draw blank depth acts (record r { spare = spare })
StandsFor-spare draw blank depth acts r spare st = record {
  table = st.table;
  kept = st.kept;
  board = st.board;
  saves = st.saves;
}
