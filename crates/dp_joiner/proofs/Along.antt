-- Lines one after the other, with the entries of a link.
use Rattle.std.proofs.Common.{◌≡◌, ◌<◌, ◌≤◌, true, false, Bool, if◌then◌else◌, List, [], ◌∷◌, ◌++◌}
use Rattle.std.proofs.Common.{length, take, drop, refl, sym, ap, ◌∙◌, arith, inl, inr}
use Rattle.std.proofs.lemmas.Bool.{cases_lt}
use Rattle.std.specs.Prelude.{nat_le}
use Rattle.std.proofs.lemmas.Bool.Decides.{nat_tests}
use Rattle.std.proofs.lemmas.List.{drop_all, drop-append-le, length-append, take_all}
use Rattle.std.proofs.lemmas.List.{take-append-le}
use Rattle.dp_messages.specs.declared.message.Entry.{Entry}
use Rattle.dp_schedule.specs.declared.join_action.JoinAction.{JoinAction}
use Rattle.dp_joiner.specs.Joining.{Joining, Progress, Goes, Waits, after_line, along, asked_by}
use Rattle.dp_joiner.specs.Joining.{came_to}

-- one line, with the test of its entries
next_line : Bool → JoinAction → List JoinAction → List Entry → Joining → Progress
next_line true action actions coming j =
    along actions (drop (asked_by action) coming)
    (after_line action (take (asked_by action) coming) j)
next_line false action actions coming j = Waits (after_line action coming j)

along_next_line : (action : JoinAction) (actions : List JoinAction) (coming : List Entry)
    (j : Joining)
    → along (action ∷ actions) coming j
    ≡ next_line (nat_le (asked_by action) (length coming)) action actions coming j
unfolding next_line
along_next_line action actions coming j =
    elim (nat_le (asked_by action) (length coming)) as
    (λ b. (if b then along actions (drop (asked_by action) coming)
    (after_line action (take (asked_by action) coming) j)
    else Waits (after_line action coming j))
    ≡ next_line b action actions coming j) [ true ↦ refl | false ↦ refl ]

-- a line that has enough entries
pub along_enough : (action : JoinAction) (actions : List JoinAction) (coming : List Entry)
    (j : Joining)
    → asked_by action ≤ length coming
    → along (action ∷ actions) coming j ≡ along actions (drop (asked_by action) coming)
    (after_line action (take (asked_by action) coming) j)
unfolding next_line
along_enough action actions coming j enough =
    let test : nat_le (asked_by action) (length coming) ≡ true = grind (arith, nat_tests) in
    along_next_line action actions coming j ∙ ap (λ b. next_line b action actions coming j) test

-- a line that has too few
pub along_few : (action : JoinAction) (actions : List JoinAction) (coming : List Entry)
    (j : Joining)
    → length coming < asked_by action
    → along (action ∷ actions) coming j ≡ Waits (after_line action coming j)
unfolding next_line
along_few action actions coming j few =
    let test : nat_le (asked_by action) (length coming) ≡ false = grind (arith, nat_tests) in
    along_next_line action actions coming j ∙ ap (λ b. next_line b action actions coming j) test

-- if lines go on, the first has enough
enough_of : (action : JoinAction) (actions : List JoinAction) (coming left : List Entry)
    (j now : Joining) → along (action ∷ actions) coming j ≡ Goes now left
    → asked_by action ≤ length coming
enough_of action actions coming left j now goes =
    elim (cases_lt (length coming) (asked_by action)) [
      | inl past ↦ absurd (cc (goes, along_few action actions coming j past))
      | inr within ↦ within
    ]

-- more lines go on from where the first ones come to
pub along_then : (actions more : List JoinAction) (coming left : List Entry) (j now : Joining)
    → along actions coming j ≡ Goes now left
    → along (actions ++ more) coming j ≡ along more left now
along_then [] more coming left j now goes =
    let same : j ≡ now = cc in
    let rest : coming ≡ left = cc in
    cc
along_then (action ∷ actions) more coming left j now goes =
    let enough = enough_of action actions coming left j now goes in
    along_enough action (actions ++ more) coming j enough
    ∙ along_then actions more (drop (asked_by action) coming) left
    (after_line action (take (asked_by action) coming) j) now
    (sym (along_enough action actions coming j enough) ∙ goes)

-- more entries are left
pub along_more : (actions : List JoinAction) (coming left more : List Entry) (j now : Joining)
    → along actions coming j ≡ Goes now left
    → along actions (coming ++ more) j ≡ Goes now (left ++ more)
along_more [] coming left more j now goes =
    let same : j ≡ now = cc in
    let rest : coming ≡ left = cc in
    cc
along_more (action ∷ actions) coming left more j now goes =
    let enough = enough_of action actions coming left j now goes in
    let n = asked_by action in
    let wide : n ≤ length (coming ++ more) = omega (arith, length-append coming more) in
    along_enough action actions (coming ++ more) j wide
    ∙ ap (λ xs. along actions xs (after_line action (take n (coming ++ more)) j))
    (drop-append-le n coming more enough)
    ∙ ap (λ xs. along actions (drop n coming ++ more) (after_line action xs j))
    (take-append-le n coming more enough)
    ∙ along_more actions (drop n coming) left more (after_line action (take n coming) j) now
    (sym (along_enough action actions coming j enough) ∙ goes)

-- the next line goes on with the entries after those of the lines before
pub along_next : (actions : List JoinAction) (action : JoinAction) (coming more : List Entry)
    (j now : Joining) → along actions coming j ≡ Goes now []
    → along (actions ++ action ∷ []) (coming ++ more) j ≡ along (action ∷ []) more now
along_next actions action coming more j now goes =
    along_then actions (action ∷ []) (coming ++ more) more j now
    (along_more actions coming [] more j now goes)

-- one line with as many entries as it asks for
pub along_exact : (action : JoinAction) (coming : List Entry) (j : Joining)
    → length coming ≡ asked_by action
    → along (action ∷ []) coming j ≡ Goes (after_line action coming j) []
along_exact action coming j many =
    along_enough action [] coming j (omega arith)
    ∙ ap (λ xs. Goes (after_line action xs j) (drop (asked_by action) coming))
    (take_all (asked_by action) coming (omega arith))
    ∙ ap (λ xs. Goes (after_line action coming j) xs)
    (drop_all (asked_by action) coming (omega arith))

-- one line with fewer
pub along_short : (action : JoinAction) (coming : List Entry) (j : Joining)
    → length coming < asked_by action
    → along (action ∷ []) coming j ≡ Waits (after_line action coming j)
along_short action coming j few = along_few action [] coming j few

-- how far one line goes, with at most as many entries as it asks for
pub along_one : (action : JoinAction) (coming : List Entry) (j : Joining)
    → length coming ≤ asked_by action
    → came_to (along (action ∷ []) coming j) ≡ after_line action coming j
along_one action coming j within =
    elim (cases_lt (length coming) (asked_by action)) [
      | inl few ↦ ap came_to (along_short action coming j few)
      | inr past ↦ ap came_to (along_exact action coming j (omega arith))
    ]
