-- The acts of a history as they are kept, with one more.
use Rattle.std.proofs.Common.{◌≡◌, ℕ, ◌+◌, ◌<◌, ◌≤◌, false, List, [], ◌∷◌, ◌++◌}
use Rattle.std.proofs.Common.{length, take, map, Some, None, refl, ap, sym, ◌∙◌}
use Rattle.std.proofs.Common.{arith}
use Rattle.std.specs.List.{fold}
use Rattle.std.proofs.lemmas.List.{take-append-le, length-map}
use Rattle.dp_board.specs.declared.act.Act.{Act}
use Rattle.dp_board.specs.declared.act.Act.TheVariants.{Point, Undo, Redo, Draw, Depth, Other}
use Rattle.dp_board.specs.declared.act.UserAct.{UserAct}
use Rattle.dp_board.specs.Strokes.{Strokes, concerned, strokes, moved, moved_by}
use Rattle.dp_board.specs.Flags.{drawn_flags}
use Rattle.dp_board.specs.Joins.{joins}
use Rattle.dp_board.specs.Replay.{replay}
use Rattle.dp_board.specs.Moves.{is_draw, is_redo, flags_with}
use Rattle.dp_board.specs.Table.{Table, joined_in, IsTableAfter}
use Rattle.dp_savepoints.specs.Kept.{kept_acts, kept_of, drawn_among, marked}
use Rattle.dp_savepoints.specs.Laws.{Laws}
use Rattle.dp_savepoints.specs.Marks.{mark_by, kept_in}
use Rattle.dp_savepoints.proofs.KeptLemmas.{length-kept_acts, kept_acts-push, map-kept_acts}
use Rattle.dp_savepoints.proofs.KeptLemmas.{length-flags_with, take-kept_acts}
use Rattle.dp_savepoints.proofs.KeptLemmas.{drawn_among-kept_acts}

-- an act of each
pub length-kept_of : {Op : Type 0} → Laws Op → (depth : ℕ) (acts : List (UserAct Op))
    → length (kept_of depth acts) ≡ length acts
length-kept_of laws depth acts =
    length-kept_acts acts (joins depth acts) (drawn_flags depth acts) (laws.joins depth acts)
    (laws.flags depth acts)

-- the replay draws the commands that are kept as drawn
pub replay-kept_of : {B Op : Type 0} → Laws Op → (draw : B → Op → B) (blank : B) (depth : ℕ)
    (acts : List (UserAct Op)) → replay draw blank depth acts
    ≡ fold draw blank (drawn_among (kept_of depth acts))
replay-kept_of laws draw blank depth acts =
    sym (ap (fold draw blank) (drawn_among-kept_acts acts (joins depth acts)
    (drawn_flags depth acts) (laws.joins depth acts)))

-- an act that moves a group is no command
pub moved-no_draw : {Op : Type 0} → (s : Strokes) (act : Act Op) (group : ℕ)
    → moved s act ≡ Some group → is_draw act ≡ false
moved-no_draw s (Draw op) group is = let wrong : None ≡ Some group = is in cc
moved-no_draw s Point group is = refl
moved-no_draw s (Undo who) group is = refl
moved-no_draw s (Redo who) group is = refl
moved-no_draw s (Depth d) group is = refl
moved-no_draw s Other group is = refl

-- with an act that moves no group
pub kept_of-unmoved : {Op : Type 0} → Laws Op → (depth : ℕ) (acts : List (UserAct Op))
    (a : UserAct Op) (table : Table) → a.user < 256 → IsTableAfter depth acts table
    → moved_by depth acts a ≡ None
    → kept_of depth (acts ++ a ∷ []) ≡ kept_of depth acts ++ kept_in table a ∷ []
kept_of-unmoved laws depth acts a table small is none =
    ap (λ js. kept_acts (acts ++ a ∷ []) js (drawn_flags depth (acts ++ a ∷ [])))
    (laws.joined depth acts a table small is)
    ∙ ap (kept_acts (acts ++ a ∷ []) (joins depth acts ++ joined_in table a ∷ []))
    (laws.go_on depth acts a none)
    ∙ kept_acts-push acts (joins depth acts) (drawn_flags depth acts) a (joined_in table a)
    (is_draw a.act) (laws.joins depth acts) (laws.flags depth acts)

-- with an act that moves a group
pub kept_of-moved : {Op : Type 0} → Laws Op → (depth : ℕ) (acts : List (UserAct Op))
    (a : UserAct Op) (table : Table) (group : ℕ) → a.user < 256 → IsTableAfter depth acts table
    → moved_by depth acts a ≡ Some group → kept_of depth (acts ++ a ∷ [])
    ≡ map (marked (mark_by a group)) (kept_of depth acts) ++ kept_in table a ∷ []
kept_of-moved laws depth acts a table group small is some =
    let js = joins depth acts in
    let mark = mark_by a group in
    let flags = flags_with (concerned a) group (is_redo a.act) js (drawn_flags depth acts) in
    let no_draw = moved-no_draw (strokes depth (concerned a) acts) a.act group some in
    let count : length flags ≡ length acts =
    length-flags_with (concerned a) group (is_redo a.act) js (drawn_flags depth acts)
    (laws.joins depth acts ∙ sym (laws.flags depth acts)) ∙ laws.flags depth acts in
    ap (λ ys. kept_acts (acts ++ a ∷ []) ys (drawn_flags depth (acts ++ a ∷ [])))
    (laws.joined depth acts a table small is)
    ∙ ap (kept_acts (acts ++ a ∷ []) (js ++ joined_in table a ∷ []))
    (laws.move depth acts a group some
    ∙ ap (λ flag. flags ++ flag ∷ []) (sym no_draw))
    ∙ kept_acts-push acts js flags a (joined_in table a) (is_draw a.act) (laws.joins depth acts)
    count
    ∙ ap (λ kept. kept ++ kept_in table a ∷ [])
    (sym (map-kept_acts mark acts js (drawn_flags depth acts)))

-- the acts up to the Point of the group that moves stay
pub take-kept_of-moved : {Op : Type 0} → Laws Op → (depth : ℕ) (acts : List (UserAct Op))
    (a : UserAct Op) (table : Table) (group n : ℕ) → a.user < 256 → IsTableAfter depth acts table
    → moved_by depth acts a ≡ Some group → n ≤ group + 1 → n ≤ length acts
    → take n (kept_of depth (acts ++ a ∷ [])) ≡ take n (kept_of depth acts)
take-kept_of-moved laws depth acts a table group n small is some before within =
    let all = acts ++ a ∷ [] in
    let js = joins depth acts in
    take-kept_acts n all (joins depth all) (drawn_flags depth all)
    ∙ ap (λ xs. kept_acts xs (take n (joins depth all)) (take n (drawn_flags depth all)))
    (take-append-le n acts (a ∷ []) within)
    ∙ ap (λ ys. kept_acts (take n acts) ys (take n (drawn_flags depth all)))
    (ap (take n) (laws.joined depth acts a table small is)
    ∙ take-append-le n js (joined_in table a ∷ []) (omega (arith, laws.joins depth acts)))
    ∙ ap (kept_acts (take n acts) (take n js)) (laws.stay depth acts a group n some before)
    ∙ sym (take-kept_acts n acts js (drawn_flags depth acts))

pub take-kept_of-unmoved : {Op : Type 0} → Laws Op → (depth : ℕ) (acts : List (UserAct Op))
    (a : UserAct Op) (table : Table) (n : ℕ) → a.user < 256 → IsTableAfter depth acts table
    → moved_by depth acts a ≡ None → n ≤ length acts
    → take n (kept_of depth (acts ++ a ∷ [])) ≡ take n (kept_of depth acts)
take-kept_of-unmoved laws depth acts a table n small is none within =
    ap (take n) (kept_of-unmoved laws depth acts a table small is none)
    ∙ take-append-le n (kept_of depth acts) (kept_in table a ∷ [])
    (omega (arith, length-kept_of laws depth acts))

-- the flags up to that Point are as they were
pub take-marked : {Op : Type 0} → Laws Op → (depth : ℕ) (acts : List (UserAct Op))
    (a : UserAct Op) (table : Table) (group n : ℕ) → a.user < 256 → IsTableAfter depth acts table
    → moved_by depth acts a ≡ Some group → n ≤ group + 1 → n ≤ length acts
    → take n (map (marked (mark_by a group)) (kept_of depth acts)) ≡ take n (kept_of depth acts)
take-marked laws depth acts a table group n small is some before within =
    let all = map (marked (mark_by a group)) (kept_of depth acts) in
    sym (take-append-le n all (kept_in table a ∷ [])
    (omega (
      arith,
      within,
      length-kept_of laws depth acts,
      length-map (kept_of depth acts) (marked (mark_by a group)),
    )))
    ∙ ap (take n) (sym (kept_of-moved laws depth acts a table group small is some))
    ∙ take-kept_of-moved laws depth acts a table group n small is some before within
