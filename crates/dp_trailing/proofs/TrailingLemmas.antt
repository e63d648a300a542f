-- What trails a history goes on to trail it.
use Rattle.std.proofs.Common.{◌≡◌, ℕ, ◌+◌, ◌-◌, ◌<◌, ◌≤◌, true, List, [], ◌∷◌, ◌++◌, length}
use Rattle.std.proofs.Common.{take, drop, map, Option, Some, None, refl, ap, sym, ◌∙◌, arith}
use Rattle.std.proofs.Common.{length-append, get_or, subst}
use Rattle.std.specs.List.{fold}
use Rattle.std.specs.Option.{ForSome, option_map}
use Rattle.std.proofs.lemmas.List.{take-append-drop, drop-drop, drop-map, drop-take, length-map}
use Rattle.std.proofs.lemmas.List.{append-nil, take_more}
use Rattle.std.proofs.lemmas.List.Concat.{flat_map-append}
use Rattle.dp_board.specs.declared.act.UserAct.{UserAct}
use Rattle.dp_board.specs.Strokes.{concerned, moved_by}
use Rattle.dp_board.specs.Commands.{command_of}
use Rattle.dp_board.specs.Replay.{replay}
use Rattle.dp_board.specs.Table.{IsTableAfter, next_strokes, table_with, moved_in}
use Rattle.dp_savepoints.specs.declared.kept.KeptAct.{KeptAct}
use Rattle.dp_savepoints.specs.declared.kept.Mark.{Mark}
use Rattle.dp_savepoints.specs.Kept.{kept_of, drawn_command, drawn_among, marked}
use Rattle.dp_savepoints.specs.Kept.{commands_among}
use Rattle.dp_savepoints.specs.Laws.{Laws}
use Rattle.dp_savepoints.specs.Kept.{drawn_first}
use Rattle.dp_savepoints.specs.Marks.{mark_by, mark_in, kept_in}
use Rattle.dp_trailing.specs.Trailing.{Trailing, Trails, TrailsReach, IsHeldNext, marked_later}
use Rattle.dp_trailing.specs.Trailing.{with_act, drawn_up_to}
use Rattle.dp_savepoints.proofs.HistoryLemmas.{length-kept_of, replay-kept_of, take-marked}
use Rattle.dp_savepoints.proofs.HistoryLemmas.{kept_of-unmoved, kept_of-moved, take-kept_of-moved}
use Rattle.dp_savepoints.proofs.HistoryLemmas.{take-kept_of-unmoved}
use Rattle.dp_savepoints.proofs.KeptLemmas.{fold-drawn, kept-push, take-more}
use Rattle.dp_savepoints.proofs.KeptLemmas.{length-command_of}

-- the flags of a mark change from the Point of its group on alone
later-marked : {Op : Type 0} → (mark : Mark) (base m : ℕ) (all : List (KeptAct Op))
    → take (base + m) (map (marked mark) all) ≡ take (base + m) all
    → take m (drop base all) ++ map (marked mark) (drop m (drop base all))
    ≡ drop base (map (marked mark) all)
later-marked mark base m all same =
    let flagged = map (marked mark) all in
    let prefix : take m (drop base all) ≡ take m (drop base flagged) =
    sym (drop-take base m all) ∙ ap (drop base) (sym same) ∙ drop-take base m flagged in
    let back : map (marked mark) (drop m (drop base all)) ≡ drop m (drop base flagged) =
    sym (drop-map (marked mark) m (drop base all))
    ∙ ap (drop m) (sym (drop-map (marked mark) base all)) in
    ap (λ xs. xs ++ map (marked mark) (drop m (drop base all))) prefix
    ∙ ap (λ ys. take m (drop base flagged) ++ ys) back
    ∙ take-append-drop m (drop base flagged)

-- as many acts are held, from the base on, as the history has
held-within : {B Op : Type 0} → (draw : B → Op → B) (blank : B) (depth : ℕ)
    (acts : List (UserAct Op)) (t : Trailing B Op) → Trails draw blank depth acts t
    → TrailsReach t → t.base + length t.kept ≡ length acts
held-within draw blank depth acts t tr order = sym order.up_to_end ∙ tr.table.position

-- an act that comes next, if it moves a group or not
trails-next : {B Op : Type 0} → Laws Op → (draw : B → Op → B) (blank : B) (depth : ℕ)
    (acts : List (UserAct Op)) (a : UserAct Op) (t : Trailing B Op) (o : Option ℕ)
    → a.user < 256 → concerned a < 256 → Trails draw blank depth acts t → TrailsReach t
    → moved_by depth acts a ≡ o
    → ForSome (option_map (mark_by a) o) (λ mark. t.base ≤ mark.group)
    → ForSome (option_map (mark_by a) o) (λ mark. mark.group < t.table.position)
    → Trails draw blank depth (acts ++ a ∷ []) (record t {
      table = table_with (next_strokes t.table a) t.table;
      kept = marked_later t.base (option_map (mark_by a) o) t.kept ++ kept_in t.table a ∷ [];
    })
trails-next laws draw blank depth acts a t None sender known tr order is reach before =
    let all = kept_of depth acts in
    let whole = held-within draw blank depth acts t tr order in
    record {
      table = laws.next depth acts a t.table known tr.table;
      kept = kept-push t.base t.kept all (kept_in t.table a) tr.kept
          (omega (arith, length-kept_of laws depth acts, whole))
          ∙ ap (drop t.base) (sym (kept_of-unmoved laws depth acts a t.table sender tr.table is));
      board = tr.board ∙ ap (λ kept. fold draw blank (drawn_among kept))
          (sym (take-kept_of-unmoved laws depth acts a t.table t.base sender tr.table is
          (omega (arith, whole))));
    }
trails-next laws draw blank depth acts a t (Some group) sender known tr order is reach before =
    let mark = mark_by a group in
    let all = kept_of depth acts in
    let m : ℕ = group - t.base in
    let whole = held-within draw blank depth acts t tr order in
    let least : t.base ≤ group = reach mark refl in
    let within : group < t.table.position = before mark refl in
    let later : take m t.kept ++ map (marked mark) (drop m t.kept)
    ≡ drop t.base (map (marked mark) all) =
    ap (λ kept. take m kept ++ map (marked mark) (drop m kept)) tr.kept
    ∙ later-marked mark t.base m all (take-marked laws depth acts a t.table group (t.base + m)
    sender tr.table is (omega (arith, least)) (omega (arith, least, within, tr.table.position))) in
    record {
      table = laws.next depth acts a t.table known tr.table;
      kept = kept-push t.base (take m t.kept ++ map (marked mark) (drop m t.kept))
          (map (marked mark) all) (kept_in t.table a) later
          (omega (arith, length-kept_of laws depth acts, length-map all (marked mark), whole))
          ∙ ap (drop t.base) (sym (kept_of-moved laws depth acts a t.table group sender tr.table
          is));
      board = tr.board ∙ ap (λ kept. fold draw blank (drawn_among kept))
          (sym (take-kept_of-moved laws depth acts a t.table group t.base sender tr.table is
          (omega (arith, least)) (omega (arith, whole))));
    }

-- an act that comes next is held
pub Trails-with_act : {B Op : Type 0} → Laws Op → (draw : B → Op → B) (t : Trailing B Op)
    (a : UserAct Op) → IsHeldNext t a → (blank : B) (depth : ℕ) (acts : List (UserAct Op))
    → Trails draw blank depth acts t → Trails draw blank depth (acts ++ a ∷ []) (with_act a t)
Trails-with_act laws draw t a next blank depth acts tr =
    trails-next laws draw blank depth acts a t (moved_in t.table a) next.sender next.known tr
    next.order (sym (laws.moved depth acts a t.table next.known tr.table)) next.reach next.before

-- whatever the board, the act comes next
pub held-apart : {B Op : Type 0} → (t : Trailing B Op) (a : UserAct Op) (board : B)
    → IsHeldNext t a → IsHeldNext (record t { board = board }) a
held-apart t a board next = record {
  sender = next.sender;
  known = next.known;
  order = next.order;
  reach = next.reach;
  before = next.before;
}

-- the first acts that are held may be drawn and let go
pub Trails-drawn_up_to : {B Op : Type 0} → (draw : B → Op → B) (t : Trailing B Op) (count : ℕ)
    → (blank : B) (depth : ℕ) (acts : List (UserAct Op)) → Trails draw blank depth acts t
    → Trails draw blank depth acts (drawn_up_to draw count t)
Trails-drawn_up_to draw t count blank depth acts tr =
    let all = kept_of depth acts in
    record {
      table = tr.table;
      kept = ap (drop count) tr.kept ∙ drop-drop count t.base all;
      board = ap (λ kept. fold draw t.board (drawn_among (take count kept))) tr.kept
          ∙ ap (λ b. fold draw b (drawn_among (take count (drop t.base all)))) tr.board
          ∙ sym (fold-drawn draw blank (take t.base all) (take count (drop t.base all)))
          ∙ ap (λ kept. fold draw blank (drawn_among kept)) (take-more t.base count all);
    }

-- the first acts that are held are given away: whatever board trailed trails with them
pub given-apart : {B Op : Type 0} → (draw : B → Op → B) (was t : Trailing B Op) (first base : ℕ)
    (given kept : List (KeptAct Op)) → t ≡ was → given ≡ take (first - t.base) t.kept
    → base ≡ t.base + (first - t.base) → kept ≡ drop (first - t.base) t.kept
    → (board blank : B) (depth : ℕ) (acts : List (UserAct Op))
    → Trails draw blank depth acts (record was { board = board })
    → Trails draw blank depth acts (record {
      board = fold draw board (drawn_among given);
      table = t.table;
      base = base;
      kept = kept;
    })
given-apart {B} {Op} draw was t first base given kept same gives moved left
    board blank depth acts trails =
    let n : ℕ = first - t.base in
    let all : Trails draw blank depth acts (drawn_up_to draw n (record t { board = board })) =
    Trails-drawn_up_to draw (record t { board = board }) n blank depth acts
    (subst (λ (s : Trailing B Op). Trails draw blank depth acts (record s { board = board }))
    (sym same) trails) in
    record {
      table = all.table;
      kept = left ∙ all.kept ∙ ap (λ b. drop b (kept_of depth acts)) (sym moved);
      board = ap (λ xs. fold draw board (drawn_among xs)) gives ∙ all.board
          ∙ ap (λ b. fold draw blank (drawn_first depth acts b)) (sym moved);
    }

-- with all acts that are held it is the replay
pub Trails-replay : {B Op : Type 0} → Laws Op → (draw : B → Op → B) (t : Trailing B Op)
    → (blank : B) (depth : ℕ) (acts : List (UserAct Op)) → Trails draw blank depth acts t
    → fold draw t.board (drawn_among t.kept) ≡ replay draw blank depth acts
Trails-replay laws draw t blank depth acts tr =
    let all = kept_of depth acts in
    ap (λ kept. fold draw t.board (drawn_among kept)) tr.kept
    ∙ ap (λ b. fold draw b (drawn_among (drop t.base all))) tr.board
    ∙ sym (fold-drawn draw blank (take t.base all) (drop t.base all))
    ∙ ap (λ kept. fold draw blank (drawn_among kept)) (take-append-drop t.base all)
    ∙ sym (replay-kept_of laws draw blank depth acts)

-- before the first act nothing is drawn or held
pub Trails-new : {B Op : Type 0} → (draw : B → Op → B) (blank : B) (depth : ℕ)
    (t : Trailing B Op) → IsTableAfter {Op = Op} depth [] t.table → t.base ≡ 0 → t.kept ≡ []
    → t.board ≡ blank → Trails draw blank depth [] t
Trails-new {B} {Op} draw blank depth t table base kept board = record {
  table = table;
  kept = kept ∙ sym (ap (λ n. drop n (kept_of {Op = Op} depth [])) base);
  board = board ∙ sym (ap (λ n. fold draw blank (drawn_among (take n (kept_of {Op = Op} depth []))))
      base);
}

-- new flags change no command
commands_among-marked : {Op : Type 0} → (mark : Mark) (kept : List (KeptAct Op))
    → commands_among (map (marked mark) kept) ≡ commands_among kept
commands_among-marked mark [] = refl
commands_among-marked mark (k ∷ kept) =
    ap (λ ops. command_of k.act.act true ++ ops) (commands_among-marked mark kept)

pub commands_among-append : {Op : Type 0} → (xs ys : List (KeptAct Op))
    → commands_among (xs ++ ys) ≡ commands_among xs ++ commands_among ys
commands_among-append xs ys = flat_map-append (λ k. command_of k.act.act true) xs ys

commands_among-later : {Op : Type 0} → (base : ℕ) (mark : Option Mark) (kept : List (KeptAct Op))
    → commands_among (marked_later base mark kept) ≡ commands_among kept
commands_among-later base None kept = refl
commands_among-later base (Some mark) kept =
    let m : ℕ = mark.group - base in
    commands_among-append (take m kept) (map (marked mark) (drop m kept))
    ∙ ap (λ ops. commands_among (take m kept) ++ ops)
    (commands_among-marked mark (drop m kept))
    ∙ sym (commands_among-append (take m kept) (drop m kept))
    ∙ ap commands_among (take-append-drop m kept)

-- an act adds one command at most
pub few-with_act : {B Op : Type 0} → (a : UserAct Op) (t : Trailing B Op)
    → length (commands_among (with_act a t).kept) ≤ length (commands_among t.kept) + 1
few-with_act a t =
    let mark = mark_in t.table a in
    let k = kept_in t.table a in
    omega (
      arith,
      ap length (commands_among-append (marked_later t.base mark t.kept) (k ∷ [])),
      length-append (commands_among (marked_later t.base mark t.kept)) (commands_among (k ∷ [])),
      ap length (commands_among-later t.base mark t.kept),
      length-append (command_of a.act true) [],
      length-command_of a.act true,
    )

-- what is drawn up to a place and what is left are all commands
pub length-drawn_up_to : {Op : Type 0} → (count : ℕ) (kept : List (KeptAct Op))
    → length (commands_among (take count kept)) + length (commands_among (drop count kept))
    ≡ length (commands_among kept)
length-drawn_up_to count kept =
    sym (length-append (commands_among (take count kept)) (commands_among (drop count kept)))
    ∙ ap length (sym (commands_among-append (take count kept) (drop count kept))
    ∙ ap commands_among (take-append-drop count kept))

-- the board with one more act drawn
pub board-next : {B Op : Type 0} → (draw : B → Op → B) (start before after : B)
    (kept : List (KeptAct Op)) (i : ℕ) (k : KeptAct Op) → i < length kept → k ≡ get_or kept i k
    → after ≡ fold draw before (drawn_command k)
    → before ≡ fold draw start (drawn_among (take i kept))
    → after ≡ fold draw start (drawn_among (take (i + 1) kept))
board-next draw start before after kept i k within is made so_far =
    made
    ∙ ap (fold draw before) (sym (append-nil (drawn_command k)))
    ∙ ap (λ b. fold draw b (drawn_among (k ∷ []))) so_far
    ∙ sym (fold-drawn draw start (take i kept) (k ∷ []))
    ∙ ap (λ j. fold draw start (drawn_among (take i kept ++ j ∷ []))) is
    ∙ ap (λ xs. fold draw start (drawn_among xs)) (sym (take_more kept i k within))
