-- What a board trails after one more entry.
use Rattle.std.proofs.Common.{◌≡◌, ℕ, ◌+◌, ◌-◌, ◌≤◌, ◌<◌, not, Bool, true, false, List, [], ◌∷◌}
use Rattle.std.proofs.Common.{◌++◌, length, drop, map, reverse, refl, sym, ap, ◌∙◌, arith}
use Rattle.std.proofs.Common.{subst, inl, inr, ◌⊎◌, cond}
use Rattle.std.specs.Prelude.{Option, Some, None, nat_lt}
use Rattle.std.specs.List.{after_last, prefix_len, suffix_len}
use Rattle.std.specs.Option.{option_map}
use Rattle.std.proofs.lemmas.Bool.{cond-true, cond-false, not_from_false, cases_lt}
use Rattle.std.proofs.lemmas.List.{length_push, reverse-append, length-reverse}
use Rattle.std.proofs.lemmas.List.{drop-append-le, drop_all, map-append, take-append-le, take_all}
use Rattle.std.proofs.lemmas.List.Sums.{prefix_len-le-length}
use Rattle.dp_messages.specs.declared.message.Entry.{Entry}
use Rattle.dp_msg_draw.specs.declared.draw.Draw.{Draw}
use Rattle.dp_board.specs.declared.act.UserAct.{UserAct}
use Rattle.dp_plain.specs.Board.{Board, empty_board}
use Rattle.dp_plain.specs.Commands.{draw}
use Rattle.dp_replay.specs.Replay.{is_mark, undo_depth, user_act_of}
use Rattle.dp_trailing.specs.Trailing.{Trailing, Trails}
use Rattle.dp_viewer.specs.Ways.{first_of}
use Rattle.dp_viewer.specs.Reading.{AreDue, TrailsShown, is_due}

-- how many last items don't pass, with one more item
suffix_len-push : {X : Type 0} (q : X → Bool) (xs : List X) (x : X)
    → suffix_len q (xs ++ x ∷ []) ≡ cond (q x) (1 + suffix_len q xs) 0
suffix_len-push q xs x = ap (prefix_len q) (reverse-append xs (x ∷ []))

-- an item that doesn't pass stands after the others
after_last-fails : {X : Type 0} (p : X → Bool) (xs : List X) (x : X) → p x ≡ false
    → after_last p (xs ++ x ∷ []) ≡ after_last p xs ++ x ∷ []
after_last-fails {X} p xs x fails =
    let q : X → Bool = λ y. not (p y) in
    let n : ℕ = suffix_len q xs in
    let few : n ≤ length xs =
    omega (arith, prefix_len-le-length q (reverse xs), length-reverse xs) in
    let more : suffix_len q (xs ++ x ∷ []) ≡ 1 + n =
    suffix_len-push q xs x ∙ cond-true (not (p x)) (1 + n) 0 (not_from_false (p x) fails) in
    let place : length (xs ++ x ∷ []) - suffix_len q (xs ++ x ∷ []) ≡ length xs - n =
    omega (arith, length_push xs x, few, more) in
    ap (λ k. drop k (xs ++ x ∷ [])) place
    ∙ drop-append-le (length xs - n) xs (x ∷ []) (omega arith)

-- after an item that passes there is none
after_last-passes : {X : Type 0} (p : X → Bool) (xs : List X) (x : X) → p x ≡ true
    → after_last p (xs ++ x ∷ []) ≡ []
after_last-passes {X} p xs x passes =
    let q : X → Bool = λ y. not (p y) in
    let none : suffix_len q (xs ++ x ∷ []) ≡ 0 =
    suffix_len-push q xs x ∙ cond-false (not (p x)) (1 + suffix_len q xs) 0 (ap not passes) in
    ap (λ n. drop (length (xs ++ x ∷ []) - n) (xs ++ x ∷ [])) none
    ∙ drop_all (length (xs ++ x ∷ []) - 0) (xs ++ x ∷ []) (omega arith)

-- a mark of a reset comes next, and a board of no entries begins anew
pub TrailsShown-mark : (later : Trailing Board Draw) (all : List Entry) (entry : Entry)
    → is_mark entry ≡ true → TrailsShown later [] → TrailsShown later (all ++ entry ∷ [])
TrailsShown-mark later all entry mark blank =
    subst (λ (es : List Entry). Trails draw empty_board undo_depth (map user_act_of es) later)
    (sym (after_last-passes is_mark all entry mark)) blank

-- an entry that is no mark of a reset comes next, and the board takes its act
pub TrailsShown-entry : (board later : Trailing Board Draw) (all : List Entry) (entry : Entry)
    → is_mark entry ≡ false
    → ((blank : Board) (depth : ℕ) (acts : List (UserAct Draw))
    → Trails draw blank depth acts board
    → Trails draw blank depth (acts ++ user_act_of entry ∷ []) later)
    → TrailsShown board all → TrailsShown later (all ++ entry ∷ [])
TrailsShown-entry board later all entry other taken trails =
    let before = after_last is_mark all in
    subst (λ (acts : List (UserAct Draw)). Trails draw empty_board undo_depth acts later)
    (sym (ap (map user_act_of) (after_last-fails is_mark all entry other)
    ∙ map-append user_act_of before (entry ∷ [])))
    (taken empty_board undo_depth (map user_act_of before) trails)

-- one of the first entries comes next, of which some are due
pub first_of-due : (at due : Option ℕ) (all : List Entry) (entry : Entry) → AreDue at all due
    → is_due due ≡ true
    → (first_of at all ≡ all) × (first_of at (all ++ entry ∷ []) ≡ all ++ entry ∷ [])
first_of-due None due all entry are some = (refl, refl)
first_of-due (Some n) due all entry are some =
    let within : nat_lt 0 (n - length all) ≡ true = ap is_due (sym are) ∙ some in
    let more : length all < n = by_order (cases_lt (length all) n) within in (
      take_all n all (omega (arith, more)),
      take_all n (all ++ entry ∷ []) (omega (arith, more, length_push all entry)),
    )
  where
    by_order : (length all < n) ⊎ (n ≤ length all) → nat_lt 0 (n - length all) ≡ true
        → length all < n
    by_order (inl more) within = more
    by_order (inr none) within =
        let zero : n - length all ≡ 0 = omega (arith, none) in
        let wrong : false ≡ true = sym (ap (nat_lt 0) zero) ∙ within in absurd cc

-- none is due any more: the next entry is not one of the first
pub first_of-past : (at due : Option ℕ) (all : List Entry) (entry : Entry) → AreDue at all due
    → is_due due ≡ false → first_of at (all ++ entry ∷ []) ≡ first_of at all
first_of-past None due all entry are none =
    let wrong : true ≡ false = ap is_due (sym are) ∙ none in absurd cc
first_of-past (Some n) due all entry are none =
    let past : nat_lt 0 (n - length all) ≡ false = ap is_due (sym are) ∙ none in
    take-append-le n all (entry ∷ []) (by_order (cases_lt (length all) n) past)
  where
    by_order : (length all < n) ⊎ (n ≤ length all) → nat_lt 0 (n - length all) ≡ false
        → n ≤ length all
    by_order (inl more) past = absurd (grind (arith, more, past))
    by_order (inr none) past = none

-- one fewer is due after it
pub AreDue-push : (at due : Option ℕ) (all : List Entry) (entry : Entry) → AreDue at all due
    → AreDue at (all ++ entry ∷ []) (option_map (λ n. n - 1) due)
AreDue-push None due all entry are = ap (option_map (λ n. n - 1)) are
AreDue-push (Some n) due all entry are =
    let less : n - length all - 1 ≡ n - length (all ++ entry ∷ []) =
    omega (arith, length_push all entry) in
    ap (option_map (λ n. n - 1)) are ∙ ap Some less
