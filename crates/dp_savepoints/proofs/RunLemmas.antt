-- A board that is drawn anew, from a savepoint on.
use Rattle.std.proofs.Common.{◌≡◌, ℕ, ◌+◌, ◌-◌, ◌<◌, ◌≤◌, Bool, true, false, List, [], ◌∷◌, ◌++◌}
use Rattle.std.proofs.Common.{length, take, drop, map, get_or, ap, sym, ◌∙◌, arith, refl, subst}
use Rattle.std.proofs.Common.{length-append, None, Some}
use Rattle.std.specs.Prelude.{if◌then◌else◌, nat_lt, sum_by, slice_range, Option, unwrap_or}
use Rattle.std.specs.Prelude.{IfSome}
use Rattle.std.specs.Option.{ForSome, option_to_list}
use Rattle.std.specs.List.{fold, All, Contains}
use Rattle.std.proofs.lemmas.Bool.{ltb-true}
use Rattle.std.proofs.lemmas.List.{take-append-drop, drop-drop, drop-map, take_more, map-append}
use Rattle.std.proofs.lemmas.List.{take-map, length-map, take_all, length-drop, drop_more}
use Rattle.std.proofs.lemmas.List.Concat.{flat_map-append}
use Rattle.std.proofs.lemmas.List.Elements.{All-weaker}
use Rattle.std.proofs.lemmas.List.Sums.{sum_by-append}
use Rattle.std.proofs.lemmas.Grind.{fold-append}
use Rattle.dp_board.specs.Commands.{command_of}
use Rattle.dp_board.specs.Counts.{CountsFew}
use Rattle.dp_board.specs.declared.act.Act.{Act}
use Rattle.dp_board.specs.declared.act.UserAct.{UserAct}
use Rattle.dp_board.specs.Laws.{depth_in}
use Rattle.dp_board.specs.Moves.{flag_with}
use Rattle.dp_board.specs.Strokes.{last_few, concerned, is_eligible}
use Rattle.dp_board.specs.Table.{Table, moved_in, strokes_of}
use Rattle.dp_board.proofs.StepLemmas.{moved-is}
use Rattle.dp_savepoints.specs.declared.kept.KeptAct.{KeptAct}
use Rattle.dp_savepoints.specs.declared.kept.Mark.{Mark}
use Rattle.dp_savepoints.specs.Kept.{marked, drawn_among, commands_among}
use Rattle.dp_savepoints.specs.Saves.{PointSave}
use Rattle.dp_savepoints.specs.Saves.{save_of}
use Rattle.dp_savepoints.specs.Runs.{Running, IsRunning, IsDrawnAnew, LeavesFew, run_to, saved_anew}
use Rattle.dp_savepoints.specs.Runs.{save_anew}
use Rattle.dp_savepoints.proofs.KeptLemmas.{fold-drawn, take-more}

-- it goes on to a later place
pub IsRun-more : {B Op : Type 0} → (draw : B → Op → B) (kept : List (KeptAct Op)) (mark : Mark)
    (old new : Running B) → old.start ≤ old.at → old.at ≤ new.at → new.start ≡ old.start
    → new.at - old.start ≤ length kept
    → new.board ≡ fold draw old.board (drawn_among (map (marked mark)
    (slice_range kept (old.at - old.start) (new.at - old.start))))
    → (from : B) → IsRunning draw (map (marked mark) kept) from old
    → IsRunning draw (map (marked mark) kept) from new
IsRun-more draw kept mark old new begun later start inside made from is =
    let all = map (marked mark) kept in
    let a : ℕ = old.at - old.start in
    let n : ℕ = new.at - old.start - (old.at - old.start) in
    let at : a + n ≡ new.at - new.start = omega (arith, begun, later, start) in
    let part : map (marked mark) (take n (drop a kept)) ≡ take n (drop a all) =
    sym (take-map (marked mark) n (drop a kept))
    ∙ ap (take n) (sym (drop-map (marked mark) a kept)) in
    record {
      begun = omega (arith, begun, later, start);
      within = omega (arith, inside, start, length-map kept (marked mark));
      board = made
          ∙ ap (λ xs. fold draw old.board (drawn_among xs)) part
          ∙ ap (λ b. fold draw b (drawn_among (take n (drop a all)))) is.board
          ∙ sym (fold-drawn draw from (take a all) (take n (drop a all)))
          ∙ ap (λ xs. fold draw from (drawn_among xs)) (take-more a n all)
          ∙ ap (λ m. fold draw from (drawn_among (take m all))) at;
    }

-- what is left to draw at a place is what is drawn up to a later one, and what is left there
pub left-split : {Op : Type 0} → (kept : List (KeptAct Op)) (a b : ℕ) → a ≤ b
    → commands_among (drop a kept)
    ≡ commands_among (slice_range kept a b) ++ commands_among (drop b kept)
left-split kept a b le =
    let n : ℕ = b - a in
    let at : a + n ≡ b = omega (arith, le) in
    sym (ap commands_among (take-append-drop n (drop a kept)))
    ∙ flat_map-append (λ k. command_of k.act.act true) (take n (drop a kept))
    (drop n (drop a kept))
    ∙ ap (λ xs. commands_among (take n (drop a kept)) ++ commands_among xs)
    (drop-drop n a kept ∙ ap (λ m. drop m kept) at)

-- a part of them is drawn
pub LeavesFew-more : {Op : Type 0} → (weight : Op → ℕ) (kept : List (KeptAct Op))
    (a b draws draws' tiles tiles' : ℕ) → a ≤ b
    → draws' ≤ draws + length (commands_among (slice_range kept a b))
    → tiles' ≤ tiles + sum_by weight (commands_among (slice_range kept a b))
    → LeavesFew weight kept a b draws draws' tiles tiles'
LeavesFew-more weight kept a b draws draws' tiles tiles' le few few_tiles =
    let split = left-split kept a b le in
    let part = commands_among (slice_range kept a b) in
    let rest = commands_among (drop b kept) in
    record {
      few_draws = omega (arith, few, ap length split, length-append part rest);
      few_tiles = omega (
        arith,
        few_tiles,
        ap (sum_by weight) split,
        sum_by-append weight part rest,
      );
    }

-- the part is no more than what was left
pub part-few : {Op : Type 0} → (weight : Op → ℕ) (kept : List (KeptAct Op)) (a b : ℕ) → a ≤ b
    → (length (commands_among (slice_range kept a b)) ≤ length (commands_among (drop a kept)))
    × (sum_by weight (commands_among (slice_range kept a b))
    ≤ sum_by weight (commands_among (drop a kept)))
part-few weight kept a b le =
    let split = left-split kept a b le in
    let part = commands_among (slice_range kept a b) in
    let rest = commands_among (drop b kept) in (
      omega (arith, ap length split, length-append part rest),
      omega (arith, ap (sum_by weight) split, sum_by-append weight part rest),
    )

-- what is drawn of that part was left
pub CountsFew-part : {Op : Type 0} → (weight : Op → ℕ) (kept : List (KeptAct Op)) (a b : ℕ)
    (draws draws' draws'' tiles tiles' tiles'' : ℕ) → a ≤ b
    → CountsFew weight (commands_among (slice_range kept a b)) draws draws' tiles tiles'
    → draws'' ≡ draws' → tiles'' ≡ tiles'
    → CountsFew weight (commands_among (drop a kept)) draws draws'' tiles tiles''
CountsFew-part weight kept a b draws draws' draws'' tiles tiles' tiles'' le counts same same_tiles =
    let few = part-few weight kept a b le in
    record {
      draws_rise = omega (arith, counts.draws_rise, same);
      few_draws = omega (arith, counts.few_draws, same, few.0);
      tiles_rise = omega (arith, counts.tiles_rise, same_tiles);
      few_tiles = omega (arith, counts.few_tiles, same_tiles, few.1);
    }

-- the counters were as they are at the entry when these were drawn
pub CountsFew-later : {Op : Type 0} → (weight : Op → ℕ) (ops : List Op)
    (draws draws' draws'' tiles tiles' tiles'' : ℕ) → draws' ≡ draws → tiles' ≡ tiles
    → CountsFew weight ops draws' draws'' tiles' tiles''
    → CountsFew weight ops draws draws'' tiles tiles''
CountsFew-later weight ops draws draws' draws'' tiles tiles' tiles'' same same_tiles counts =
    subst (λ n. CountsFew weight ops n draws'' tiles tiles'') same
    (subst (λ n. CountsFew weight ops draws' draws'' n tiles'') same_tiles counts)

-- if the counters are as they were, few were drawn
pub CountsFew-none : {Op : Type 0} → (weight : Op → ℕ) (ops : List Op)
    (draws draws' tiles tiles' : ℕ) → draws' ≡ draws → tiles' ≡ tiles
    → CountsFew weight ops draws draws' tiles tiles'
CountsFew-none weight ops draws draws' tiles tiles' same same_tiles = record {
  draws_rise = omega (arith, same);
  few_draws = omega (arith, same);
  tiles_rise = omega (arith, same_tiles);
  few_tiles = omega (arith, same_tiles);
}

-- where there is no value there isn't this one
pub no-some : {A : Type 0} (x : A) → None ≡ Some x → ⊥
no-some x some = cc

-- what holds of a value if there is one
pub for-some : {A : Type 0} → (o : Option A) (P : A → Type 0) → IfSome o P → ForSome o P
for-some None P holds = λ x some. absurd (no-some x some)
for-some (Some y) P holds = λ x some. let same : y ≡ x = cc in subst P same holds

-- what is drawn of all, if a part of them and then the rest were
pub CountsFew-rest : {Op : Type 0} → (weight : Op → ℕ) (kept rest : List (KeptAct Op)) (at : ℕ)
    (draws draws' draws'' tiles tiles' tiles'' : ℕ)
    → LeavesFew weight kept 0 at draws draws' tiles tiles' → draws ≤ draws' → tiles ≤ tiles'
    → rest ≡ drop at kept → CountsFew weight (commands_among rest) draws' draws'' tiles' tiles''
    → CountsFew weight (commands_among kept) draws draws'' tiles tiles''
CountsFew-rest weight kept rest at draws draws' draws'' tiles tiles' tiles'' left rise rise_tiles
    rest_is counts =
    let same = ap commands_among rest_is in
    record {
      draws_rise = omega (arith, rise, counts.draws_rise);
      few_draws = omega (arith, left.few_draws, counts.few_draws, ap length same);
      tiles_rise = omega (arith, rise_tiles, counts.tiles_rise);
      few_tiles = omega (arith, left.few_tiles, counts.few_tiles, ap (sum_by weight) same);
    }

-- the next act is drawn, with the flag of a mark
pub redraw-more : {B Op : Type 0} → (draw : B → Op → B) (kept : List (KeptAct Op)) (mark : Mark)
    (i : ℕ) (k : KeptAct Op) (flag : Bool) (board board' : B) → i < length kept
    → k ≡ get_or kept i k → flag ≡ flag_with mark.user mark.group mark.drawn k.join k.drawn
    → board' ≡ fold draw board (command_of k.act.act flag)
    → fold draw board' (drawn_among (map (marked mark) (drop (i + 1) kept)))
    ≡ fold draw board (drawn_among (map (marked mark) (drop i kept)))
redraw-more draw kept mark i k flag board board' within is flag_is made =
    let rest = map (marked mark) (drop (i + 1) kept) in
    let own = command_of k.act.act (flag_with mark.user mark.group mark.drawn k.join k.drawn) in
    ap (λ b. fold draw b (drawn_among rest))
    (made ∙ ap (λ drawn. fold draw board (command_of k.act.act drawn)) flag_is)
    ∙ sym (fold-append draw board own (drawn_among rest))
    ∙ ap (λ xs. fold draw board (drawn_among (map (marked mark) xs)))
    (sym (drop_more kept i k within ∙ ap (λ j. j ∷ drop (i + 1) kept) (sym is)))

-- the savepoint of a Point, if it has come to that
pub saved-run : {B Op : Type 0} → (draw : B → Op → B) (kept : List (KeptAct Op)) (from old : B)
    (run : Running B) (n : ℕ) → IsRunning draw kept from run → (run.start < n → run.at ≡ n)
    → (if nat_lt run.start n then run.board else old) ≡ saved_anew draw kept run.start from n old
saved-run draw kept from old run n is at = by_test (nat_lt run.start n) refl
  where
    by_test : (b : Bool) → nat_lt run.start n ≡ b
        → (if nat_lt run.start n then run.board else old)
        ≡ saved_anew draw kept run.start from n old
    by_test true later =
        ap (λ b. if b then run.board else old) later
        ∙ is.board
        ∙ ap (λ m. fold draw from (drawn_among (take (m - run.start) kept)))
        (at (ltb-true run.start n later))
        ∙ sym (ap (λ b. if b then run_to draw kept run.start from n else old) later)
    by_test false later =
        ap (λ b. if b then run.board else old) later
        ∙ sym (ap (λ b. if b then run_to draw kept run.start from n else old) later)

-- one more savepoint
pub saves-more : {B Op : Type 0} → (draw : B → Op → B) (kept : List (KeptAct Op)) (start : ℕ)
    (from : B) (olds news : List (PointSave B)) (i : ℕ) (old : PointSave B) (board : B)
    → i < length olds → old ≡ get_or olds i old
    → news ≡ map (save_anew draw kept start from) (take i olds)
    → board ≡ saved_anew draw kept start from old.point old.board
    → news ++ (record { point = old.point; board = board }) ∷ []
    ≡ map (save_anew draw kept start from) (take (i + 1) olds)
saves-more draw kept start from olds news i old board within is so_far made =
    let f = save_anew draw kept start from in
    ap (λ xs. xs ++ (record { point = old.point; board = board }) ∷ []) so_far
    ∙ ap (λ b. map f (take i olds) ++ (record { point = old.point; board = b }) ∷ []) made
    ∙ ap (λ s. map f (take i olds) ++ f s ∷ []) is
    ∙ sym (map-append f (take i olds) (get_or olds i old ∷ []))
    ∙ ap (map f) (sym (take_more olds i old within))

-- with the acts that are left, all are drawn
pub run-rest : {B Op : Type 0} → (draw : B → Op → B) (kept : List (KeptAct Op)) (mark : Mark)
    (from : B) (run : Running B) → IsRunning draw (map (marked mark) kept) from run
    → fold draw run.board (drawn_among (map (marked mark) (drop (run.at - run.start) kept)))
    ≡ fold draw from (drawn_among (map (marked mark) kept))
run-rest draw kept mark from run is =
    let all = map (marked mark) kept in
    let a : ℕ = run.at - run.start in
    ap (λ xs. fold draw run.board (drawn_among xs)) (sym (drop-map (marked mark) a kept))
    ∙ ap (λ b. fold draw b (drawn_among (drop a all))) is.board
    ∙ sym (fold-drawn draw from (take a all) (drop a all))
    ∙ ap (λ xs. fold draw from (drawn_among xs)) (take-append-drop a all)

-- a slice from a place on is the list without the elements before it
pub slice-from : {A : Type 0} → (xs ys : List A) (a b : ℕ) → xs ≡ ys → a ≡ b
    → take (length xs - a) (drop a xs) ≡ drop b ys
slice-from xs ys a b same at =
    take_all (length xs - a) (drop a xs) (omega (arith, length-drop a xs))
    ∙ ap (drop a) same ∙ ap (λ n. drop n ys) at

-- the Points that have savepoints come no later than the acts from one in reach on
pub reach-within : {A : Type 0} → (slice kept : List A) (points saved : List ℕ)
    (position oldest base count group : ℕ) → slice ≡ drop (group - base) kept
    → count ≡ length kept → position ≡ base + count → base ≡ oldest → oldest ≤ group
    → saved ≡ points → All (λ point. point < position) points
    → All (λ point. point - group ≤ length slice) saved
reach-within slice kept points saved position oldest base count group slice_is count_is end begins
    reach same before =
    subst (All (λ point. point - group ≤ length slice)) (sym same)
    (All-weaker (λ point. point < position) (λ point. point - group ≤ length slice)
    (λ point below. omega (
      arith,
      below,
      ap length slice_is,
      length-drop (group - base) kept,
      count_is,
      end,
      begins,
      reach,
    )) points before)

-- at its start it has drawn nothing
pub IsRun-begins : {B Op : Type 0} → (draw : B → Op → B) (kept : List (KeptAct Op)) (from : B)
    (run : Running B) → run.at ≡ run.start → run.board ≡ from → IsRunning draw kept from run
IsRun-begins draw kept from run begun board =
    let none : 0 ≡ run.at - run.start = omega (arith, begun) in
    record {
      begun = omega (arith, begun);
      within = omega (arith, begun);
      board = board ∙ ap (λ n. fold draw from (drawn_among (take n kept))) none;
    }

-- the group that an act moves is in reach
pub moved_is_eligible : {Op : Type 0} → (table : Table) (a : UserAct Op) (group : ℕ)
    → moved_in table a ≡ Some group → is_eligible table.window group ≡ true
moved_is_eligible table a group is = (moved-is (strokes_of table (concerned a)) a.act group is).0
