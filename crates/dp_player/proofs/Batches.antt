-- What is read of a recording ahead of what is drawn of it.
use Rattle.std.proofs.Common.{◌≡◌, ◌⊎◌, ℕ, ◌-◌, ◌≤◌, Bool, true, false, List, [], ◌∷◌, ◌++◌, take, drop}
use Rattle.std.proofs.Common.{refl, sym, ap, ◌∙◌, subst, inl, inr, arith}
use Rattle.std.proofs.lemmas.List.{take-append-drop, drop-drop}
use Rattle.std.specs.Io.KnownBytes.{IsAtEnd}
use Rattle.std.specs.Prelude.{Option, Some, None, IfSome}
use Rattle.std.specs.List.{fold}
use Rattle.dp_lines.specs.declared.run_end.RunEnd.{RunEnd}
use Rattle.dp_lines.specs.declared.run_end.RunEnd.TheVariants.{Done, BadLine, ReadFault, WriteFault}
use Rattle.dp_lines.specs.declared.run_end.RunEnd.TheVariants.{LinkFault, Memory, Long, Truncated}
use Rattle.dp_lines.specs.declared.run_end.RunEnd.TheVariants.{BadMessage, Closed, BadHeader}
use Rattle.dp_messages.specs.declared.message.Entry.{Entry}
use Rattle.dp_msg_draw.specs.declared.draw.Draw.{Draw}
use Rattle.dp_plain.specs.Board.{Board}
use Rattle.dp_plain.specs.Commands.{draw}
use Rattle.dp_recording.specs.declared.reader.Phase.{Phase}
use Rattle.dp_recording.specs.Recordings.{HasReadOf}
use Rattle.dp_savepoints.specs.declared.kept.KeptAct.{KeptAct}
use Rattle.dp_savepoints.specs.Kept.{drawn_among}
use Rattle.dp_savepoints.proofs.KeptLemmas.{fold-drawn}
use Rattle.dp_trailing.specs.Trailing.{Trailing}
use Rattle.dp_player.specs.declared.ahead.Ahead.{Ahead}
use Rattle.dp_player.specs.Ahead.{EndsAfter, ShowsFirstOn, board_after, on_board}
use Rattle.dp_viewer.specs.Reading.{AreDue, EndsReading, FaultMatchesWay, ReadsToEnd}
use Rattle.dp_viewer.specs.Reading.{ShowsFirst, TrailsShown}
use Rattle.dp_viewer.specs.Ways.{Way, first_of}
use Rattle.dp_viewer.proofs.Recordings.{shows-further}
use Rattle.dp_viewer.proofs.Replaying.{kept_to_end}

-- a board trails what it does as itself
pub on-own : (t : Trailing Board Draw) (entries : List Entry) → TrailsShown t entries
    → TrailsShown (on_board t.board t) entries
on-own t entries trails = record {
  table = trails.table;
  kept = trails.kept;
  board = trails.board;
}

-- the acts that are drawn and then the others are all acts
pub drawn-more : (on : Board) (n : ℕ) (acts : List (KeptAct Draw))
    → fold draw (fold draw on (drawn_among (take n acts))) (drawn_among (drop n acts))
    ≡ fold draw on (drawn_among acts)
drawn-more on n acts =
    sym (fold-drawn draw on (take n acts) (drop n acts))
    ∙ ap (λ xs. fold draw on (drawn_among xs)) (take-append-drop n acts)

-- an end is one at which the input is read to its end, or not
reads_or_not : (end : RunEnd) → ReadsToEnd end ⊎ (ReadsToEnd end → ⊥)
reads_or_not Done = inl tt
reads_or_not (Truncated n) = inl tt
reads_or_not ReadFault = inr (λ r. r)
reads_or_not Memory = inr (λ r. r)
reads_or_not Long = inr (λ r. r)
reads_or_not (BadMessage n) = inr (λ r. r)
reads_or_not BadHeader = inr (λ r. r)
reads_or_not (BadLine n) = inr (λ r. r)
reads_or_not WriteFault = inr (λ r. r)
reads_or_not LinkFault = inr (λ r. r)
reads_or_not Closed = inr (λ r. r)

-- what the board trails is the same, whatever was read, if another board trails the same entries
pub shows-same : (at : Option ℕ) (input left : Option (List ℕ)) (board later : Trailing Board Draw)
    (due : Option ℕ) (reader : Phase)
    → ((entries : List Entry) → TrailsShown board entries → TrailsShown later entries)
    → ShowsFirst at input left board due reader → ShowsFirst at input left later due reader
shows-same at None left board later due reader same shows = tt
shows-same at (Some bytes) left board later due reader same (all, read, trails, are) =
    (all, read, same (first_of at all) trails, are)

-- an end at which the input isn't read to its end says nothing of the board
pub ends-early : (way : Way) (input : Option (List ℕ)) (left : Option (List ℕ))
    (board other : Trailing Board Draw) (end : RunEnd) → (ReadsToEnd end → ⊥)
    → IfSome input (λ bytes. EndsReading way bytes left board end)
    → IfSome input (λ bytes. EndsReading way bytes left other end)
ends-early way None left board other end early ends = tt
ends-early way (Some bytes) left board other Done early ends = absurd (early tt)
ends-early way (Some bytes) left board other (Truncated n) early ends = absurd (early tt)
ends-early way (Some bytes) left board other ReadFault early ends = ends
ends-early way (Some bytes) left board other Memory early ends = ends
ends-early way (Some bytes) left board other Long early ends = ends
ends-early way (Some bytes) left board other (BadMessage n) early ends = ends
ends-early way (Some bytes) left board other BadHeader early ends = ends
ends-early way (Some bytes) left board other (BadLine n) early ends = absurd ends
ends-early way (Some bytes) left board other WriteFault early ends = absurd ends
ends-early way (Some bytes) left board other LinkFault early ends = absurd ends
ends-early way (Some bytes) left board other Closed early ends = absurd ends

-- when memory ran out nothing is said of the board
pub ends-memory : (way : Way) (input left : Option (List ℕ)) (board : Trailing Board Draw)
    → IfSome input (λ bytes. EndsReading way bytes left board Memory)
ends-memory way None left board = tt
ends-memory way (Some bytes) left board = tt

-- some acts more are drawn
pub drawn-further : (on after all : Board) (done next : ℕ) (acts : List (KeptAct Draw))
    → done ≤ next → after ≡ fold draw on (drawn_among (take (next - done) (drop done acts)))
    → fold draw on (drawn_among (drop done acts)) ≡ all
    → fold draw after (drawn_among (drop next acts)) ≡ all
drawn-further on after all done next acts within is comes =
    let n : ℕ = next - done in
    let rest : drop n (drop done acts) ≡ drop next acts =
    drop-drop n done acts ∙ ap (λ k. drop k acts) (omega (arith, within)) in
    ap (λ b. fold draw b (drawn_among (drop next acts))) is
    ∙ ap (λ xs. fold draw (fold draw on (drawn_among (take n (drop done acts)))) (drawn_among xs))
    (sym rest)
    ∙ drawn-more on n (drop done acts) ∙ comes

-- after a mark of a reset the board that was held trails, and nothing is to be drawn on it
pub goes-marked : (was now : Trailing Board Draw) (blank on : Board) (acts : List (KeptAct Draw))
    → now ≡ record was { board = blank } → on ≡ was.board → acts ≡ [] → (entries : List Entry)
    → TrailsShown (on_board was.board was) entries
    → TrailsShown (on_board (fold draw on (drawn_among acts)) now) entries
goes-marked was now blank on acts same is none entries trails =
    let board : was.board ≡ fold draw on (drawn_among acts) =
    sym (ap (λ xs. fold draw on (drawn_among xs)) none ∙ is) in
    subst (λ (t : Trailing Board Draw).
    TrailsShown (on_board (fold draw on (drawn_among acts)) t) entries) (sym same)
    (subst (λ (b : Board). TrailsShown (on_board b was) entries) board trails)

-- one entry more is held
pub held-further : (marked m : Bool) → marked ≡ m → (left now : Option (List ℕ))
    (board later : Trailing Board Draw) (due less : Option ℕ) (reader next : Phase) (entry : Entry)
    → ((bytes : List ℕ) (es : List Entry) → HasReadOf bytes left es reader
    → HasReadOf bytes now (es ++ entry ∷ []) next)
    → ((at : Option ℕ) (all : List Entry) (on : Board) → AreDue at all due
    → TrailsShown (on_board on board) (first_of at all)
    → TrailsShown (on_board (board_after marked on later) later)
    (first_of at (all ++ entry ∷ [])))
    → ((at : Option ℕ) (all : List Entry) → AreDue at all due → AreDue at (all ++ entry ∷ []) less)
    → (at : Option ℕ) (input : Option (List ℕ)) (on : Board)
    → ShowsFirst at input left (on_board on board) due reader
    → ShowsFirst at input now (on_board (board_after m on later) later) less next
held-further marked m is left now board later due less reader next entry read held fewer
    at input on shows =
    shows-further at input left now (on_board on board)
    (on_board (board_after m on later) later) due less entry reader next read
    (λ at all are trails. subst (λ (b : Bool).
    TrailsShown (on_board (board_after b on later) later) (first_of at (all ++ entry ∷ []))) is
    (held at all on are trails)) fewer shows

-- a batch was read, and what was read is drawn next
pub shows-next : (at : Option ℕ) (input left now : Option (List ℕ)) (on next : Board)
    (old new : Ahead) (later : Trailing Board Draw) (marked : Bool)
    → ((at : Option ℕ) (input : Option (List ℕ)) (on : Board) → ShowsFirstOn at input left on old
    → ShowsFirstOn at input now (board_after marked on new.board) new)
    → ((entries : List Entry)
    → TrailsShown (on_board (board_after marked on new.board) new.board) entries
    → TrailsShown (on_board next later) entries)
    → ShowsFirstOn at input left on old
    → ShowsFirst at input now (on_board next later) new.due new.reader
shows-next at input left now on next old new later marked read goes shows =
    shows-same at input now (on_board (board_after marked on new.board) new.board)
    (on_board next later) new.due new.reader goes (read at input on shows)

-- the end of playing, by the end of reading
module _ (given end : RunEnd) where
  pub told-after : (b : Bool) (way : Way) (input now : Option (List ℕ)) (on drawn : Board)
      (t later : Trailing Board Draw) → later ≡ on_board drawn t → (b ≡ true → drawn ≡ on)
      → EndsAfter b given end
      → IfSome input (λ bytes. EndsReading way bytes now (on_board on t) given)
      → IfSome input (λ bytes. EndsReading way bytes now later end)
  told-after true way input now on drawn t later is same after told =
      subst (λ (b : Trailing Board Draw). IfSome input (λ bytes. EndsReading way bytes now b end))
      (sym is)
      (subst (λ (e : RunEnd).
      IfSome input (λ bytes. EndsReading way bytes now (on_board drawn t) e))
      (sym (after.kept refl))
      (subst (λ (b : Board). IfSome input (λ bytes. EndsReading way bytes now (on_board b t) given))
      (sym (same refl)) told))
  told-after false way input now on drawn t later is same after told =
      by_end (reads_or_not given)
    where
      by_end : ReadsToEnd given ⊎ (ReadsToEnd given → ⊥)
          → IfSome input (λ bytes. EndsReading way bytes now later end)
      by_end (inl to_end) =
          subst (λ (e : RunEnd). IfSome input (λ bytes. EndsReading way bytes now later e))
          (sym (after.memory refl to_end)) (ends-memory way input now later)
      by_end (inr before) =
          subst (λ (e : RunEnd). IfSome input (λ bytes. EndsReading way bytes now later e))
          (sym (after.early refl before))
          (ends-early way input now (on_board on t) later given before told)

  pub fault-after : (b : Bool) (way : Way) (before after : ℕ) → EndsAfter b given end
      → FaultMatchesWay way before after given → FaultMatchesWay way before after end
  fault-after true way before after so fault =
      subst (λ (e : RunEnd). FaultMatchesWay way before after e) (sym (so.kept refl)) fault
  fault-after false way before after so fault = by_end (reads_or_not given)
    where
      by_end : ReadsToEnd given ⊎ (ReadsToEnd given → ⊥) → FaultMatchesWay way before after end
      by_end (inl to_end) =
          subst (λ (e : RunEnd). FaultMatchesWay way before after e)
          (sym (so.memory refl to_end)) (kept_to_end way before after given fault to_end)
      by_end (inr past) =
          subst (λ (e : RunEnd). FaultMatchesWay way before after e)
          (sym (so.early refl past)) fault

  pub to_end-after : (b : Bool) (now : Option (List ℕ)) → EndsAfter b given end
      → (ReadsToEnd given → IsAtEnd now) → ReadsToEnd end → IsAtEnd now
  to_end-after true now so at to_end = at (subst ReadsToEnd (so.kept refl) to_end)
  to_end-after false now so at to_end = by_end (reads_or_not given)
    where
      by_end : ReadsToEnd given ⊎ (ReadsToEnd given → ⊥) → IsAtEnd now
      by_end (inl all) = absurd (subst ReadsToEnd (so.memory refl all) to_end)
      by_end (inr past) = absurd (past (subst ReadsToEnd (so.early refl past) to_end))
