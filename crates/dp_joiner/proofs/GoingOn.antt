-- A client that goes on, by more lines and more entries.
use Rattle.std.proofs.Common.{◌≡◌, inl, inr, ℕ, ◌+◌, ◌-◌, ◌≤◌, ◌<◌, List, [], ◌∷◌, ◌++◌, length}
use Rattle.std.proofs.Common.{take, drop, refl, sym, ap, ◌∙◌, subst, append_assoc, arith}
use Rattle.std.proofs.Common.{length-append}
use Rattle.std.specs.Prelude.{Option, None, Some}
use Rattle.std.specs.List.{fold}
use Rattle.std.specs.Option.{option_map_or}
use Rattle.std.proofs.Math.Seq.{take-append-add}
use Rattle.std.proofs.lemmas.Bool.{cases_lt}
use Rattle.std.proofs.lemmas.List.{append-nil, drop-append-le, take-append-le}
use Rattle.std.proofs.lemmas.List.Sums.{fold-append}
use Rattle.dp_messages.specs.declared.message.Entry.{Entry}
use Rattle.dp_schedule.specs.declared.join_action.JoinAction.{JoinAction}
use Rattle.dp_schedule.specs.declared.join_action.JoinAction.TheVariants.{Say, Take, View}
use Rattle.dp_schedule.specs.declared.join_action.JoinAction.TheVariants.{Confirmed, Snapshot}
use Rattle.dp_schedule.specs.declared.join_action.JoinAction.TheVariants.{Reset, Chat}
use Rattle.dp_joiner.specs.Joining.{Joining, Progress, Waits, acted, after_line, along, asked_by}
use Rattle.dp_joiner.specs.Joining.{came_to, caller, greeted, joined, newcomer, printed, took_entry}
use Rattle.dp_join_link.specs.Given.{takeable}
use Rattle.dp_joiner.proofs.Along.{along_enough, along_few}
use Rattle.dp_joiner.proofs.Greeted.{greets}
use Rattle.dp_join_link.proofs.Prefixes.{IsFirstOf}
use Rattle.dp_joiner.proofs.Unique.{longer}

-- ---- first parts

pub first_self : {X : Type 0} (xs : List X) → IsFirstOf xs xs
first_self xs = record { rest = []; whole = sym (append-nil xs) }

pub first_then : {X : Type 0} (xs ys : List X) → IsFirstOf xs (xs ++ ys)
first_then xs ys = record { rest = ys; whole = refl }

pub first_twice : {X : Type 0} (xs ys zs : List X) → IsFirstOf xs ys → IsFirstOf ys zs
    → IsFirstOf xs zs
first_twice {X} xs ys zs a b = record {
  rest = a.rest ++ b.rest;
  whole =
      b.whole ∙ ap (λ (l : List X). l ++ b.rest) a.whole ∙ append_assoc xs a.rest b.rest;
}

-- ---- a client that goes on

-- what the first has printed and written, and may have drawn, is a first part of that of the second
pub record GoesOn (j k : Joining) : Type 0 where
  pub text : IsFirstOf j.text k.text
  pub written : IsFirstOf j.written k.written
  pub due : IsFirstOf j.due k.due

stays : (j : Joining) → GoesOn j j
stays j = record {
  text = first_self j.text;
  written = first_self j.written;
  due = first_self j.due;
}

goes_twice : (j k l : Joining) → GoesOn j k → GoesOn k l → GoesOn j l
goes_twice j k l a b = record {
  text = first_twice j.text k.text l.text a.text b.text;
  written = first_twice j.written k.written l.written a.written b.written;
  due = first_twice j.due k.due l.due a.due b.due;
}

takes_on : (j : Joining) (e : Entry) → GoesOn j (took_entry j e)
takes_on j e = record {
  text = first_then j.text _;
  written = first_then j.written _;
  due = first_then j.due _;
}

prints_on : (j : Joining) (text : List ℕ) → GoesOn j (printed j text)
prints_on j text = record {
  text = first_then j.text text;
  written = first_self j.written;
  due = first_self j.due;
}

folds_on : (es : List Entry) (j : Joining) → GoesOn j (fold took_entry j es)
folds_on [] j = stays j
folds_on (e ∷ es) j =
    goes_twice j (took_entry j e) (fold took_entry (took_entry j e) es) (takes_on j e)
    (folds_on es (took_entry j e))

acts_on : (action : JoinAction) (j : Joining) → GoesOn j (acted action j)
acts_on (Say m) j = record {
  text = first_then j.text _;
  written = first_then j.written _;
  due = first_then j.due _;
}
acts_on (Take count) j = stays j
acts_on View j = prints_on j _
acts_on Confirmed j = prints_on j _
acts_on Snapshot j = prints_on j _
acts_on (Reset keeps) j = record {
  text = first_then j.text _;
  written = first_then j.written _;
  due = first_self j.due;
}
acts_on Chat j = prints_on j _

line_on : (action : JoinAction) (es : List Entry) (j : Joining) → GoesOn j (after_line action es j)
line_on action es j =
    goes_twice j (acted action j) (after_line action es j) (acts_on action j)
    (folds_on es (acted action j))

-- a line with more entries
line_more : (action : JoinAction) (es ds : List Entry) (j : Joining)
    → GoesOn (after_line action es j) (after_line action (es ++ ds) j)
line_more action es ds j =
    subst (GoesOn (after_line action es j)) (sym (fold-append took_entry (acted action j) es ds))
    (folds_on ds (after_line action es j))

lines_on : (actions : List JoinAction) (coming : List Entry) (j : Joining)
    → GoesOn j (came_to (along actions coming j))
lines_on [] coming j = stays j
lines_on (action ∷ actions) coming j =
    let n = asked_by action in
    let next = after_line action (take n coming) j in
    elim (cases_lt (length coming) n) [
      | inl few ↦ subst (λ (p : Progress). GoesOn j (came_to p))
          (sym (along_few action actions coming j few)) (line_on action coming j)
      | inr enough ↦ subst (λ (p : Progress). GoesOn j (came_to p))
          (sym (along_enough action actions coming j enough))
          (goes_twice j next (came_to (along actions (drop n coming) next))
          (line_on action (take n coming) j) (lines_on actions (drop n coming) next))
    ]

-- a line that waits, and more lines with more entries
waits_on : (action : JoinAction) (actions : List JoinAction) (coming extra : List Entry)
    (j : Joining) → length coming < asked_by action
    → GoesOn (after_line action coming j) (came_to (along (action ∷ actions) (coming ++ extra) j))
waits_on action actions coming extra j few =
    let n = asked_by action in
    let all = coming ++ extra in
    elim (cases_lt (length all) n) [
      | inl still ↦ subst (λ (p : Progress). GoesOn (after_line action coming j) (came_to p))
          (sym (along_few action actions all j still)) (line_more action coming extra j)
      | inr enough ↦
          let more = take (n - length coming) extra in
          let next = after_line action (take n all) j in
          let room : n ≡ length coming + (n - length coming) = omega (arith, few) in
          let first : take n all ≡ coming ++ more =
          ap (λ (m : ℕ). take m all) room ∙ take-append-add coming extra (n - length coming) in
          let line : GoesOn (after_line action coming j) next =
          subst (λ (es : List Entry). GoesOn (after_line action coming j) (after_line action es j))
          (sym first) (line_more action coming more j) in
          subst (λ (p : Progress). GoesOn (after_line action coming j) (came_to p))
          (sym (along_enough action actions all j enough))
          (goes_twice (after_line action coming j) next (came_to (along actions (drop n all) next))
          line (lines_on actions (drop n all) next))
    ]

-- more lines with more entries
along_on : (actions more : List JoinAction) (coming extra : List Entry) (j : Joining)
    → GoesOn (came_to (along actions coming j))
    (came_to (along (actions ++ more) (coming ++ extra) j))
along_on [] more coming extra j = lines_on more (coming ++ extra) j
along_on (action ∷ actions) more coming extra j =
    let n = asked_by action in
    let all = coming ++ extra in
    let late = came_to (along (action ∷ (actions ++ more)) all j) in
    elim (cases_lt (length coming) n) [
      | inl few ↦ subst (λ (p : Progress). GoesOn (came_to p) late)
          (sym (along_few action actions coming j few))
          (waits_on action (actions ++ more) coming extra j few)
      | inr enough ↦
          let wide : n ≤ length all = omega (arith, length-append coming extra) in
          let next = after_line action (take n coming) j in
          let same : along (action ∷ (actions ++ more)) all j
          ≡ along (actions ++ more) (drop n coming ++ extra) next =
          along_enough action (actions ++ more) all j wide
          ∙ ap (λ (xs : List Entry). along (actions ++ more) xs (after_line action (take n all) j))
          (drop-append-le n coming extra enough)
          ∙ ap (λ (xs : List Entry). along (actions ++ more) (drop n coming ++ extra)
          (after_line action xs j)) (take-append-le n coming extra enough) in
          subst (λ (p : Progress). GoesOn (came_to p) late)
          (sym (along_enough action actions coming j enough))
          (subst (λ (p : Progress). GoesOn (came_to (along actions (drop n coming) next))
          (came_to p)) (sym same) (along_on actions more (drop n coming) extra next))
    ]

-- ---- from the Hello on

-- how far a client goes that was greeted so
from : List ℕ → List JoinAction → List Entry → Option Joining → Progress
from name actions coming o = option_map_or (λ j. along actions coming j) o (Waits (caller name))

calls_on : (name : List ℕ) (actions : List JoinAction) (ds : List Entry)
    → GoesOn (caller name) (came_to (joined name actions ds))
unfolding from
calls_on name actions [] = stays (caller name)
calls_on name actions (d ∷ ds) = elim (greets d.msg) [
  | inl greet ↦
      let client = greet.client in
      let first : GoesOn (caller name) (newcomer client name) = record {
        text = first_self [];
        written = first_self _;
        due = first_self [];
      } in
      subst (λ (o : Option Joining). GoesOn (caller name)
      (came_to (from name actions (takeable ds) o))) (sym (greet.makes name))
      (goes_twice (caller name) (newcomer client name)
      (came_to (along actions (takeable ds) (newcomer client name))) first
      (lines_on actions (takeable ds) (newcomer client name)))
  | inr none ↦ subst (λ (o : Option Joining). GoesOn (caller name)
      (came_to (from name actions (takeable ds) o))) (sym (none name)) (stays (caller name))
]

greeted_on : (name : List ℕ) (actions more : List JoinAction) (es extra : List Entry)
    (o : Option Joining)
    → GoesOn (came_to (from name actions es o)) (came_to (from name (actions ++ more) (es ++ extra)
    o))
unfolding from
greeted_on name actions more es extra None = stays (caller name)
greeted_on name actions more es extra (Some j) = along_on actions more es extra j

-- more lines over more entries of the link
joined_on : (name : List ℕ) (actions more : List JoinAction) (es ds : List Entry)
    → IsFirstOf es ds
    → GoesOn (came_to (joined name actions es)) (came_to (joined name (actions ++ more) ds))
unfolding from
joined_on name actions more [] ds first = calls_on name (actions ++ more) ds
joined_on name actions more (e ∷ es) ds first =
    let l = longer es first.rest in
    let now = came_to (joined name actions (e ∷ es)) in
    subst (λ (xs : List Entry). GoesOn now (came_to (joined name (actions ++ more) xs)))
    (sym first.whole)
    (subst (λ (xs : List Entry). GoesOn now
    (came_to (from name (actions ++ more) xs (greeted name e.msg)))) (sym l.whole)
    (greeted_on name actions more (takeable es) l.more (greeted name e.msg)))

-- what is come to goes on if the actions are the first of others
pub joined_within : (name : List ℕ) (actions others : List JoinAction) (es ds : List Entry)
    (late : Progress) → IsFirstOf actions others → IsFirstOf es ds → joined name others ds ≡ late
    → GoesOn (came_to (joined name actions es)) (came_to late)
joined_within name actions others es ds late acts first is =
    subst (λ (p : Progress). GoesOn (came_to (joined name actions es)) (came_to p)) is
    (subst (λ (xs : List JoinAction). GoesOn (came_to (joined name actions es))
    (came_to (joined name xs ds))) (sym acts.whole) (joined_on name actions acts.rest es ds first))
