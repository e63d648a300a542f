-- A script and a link come to one outcome.
use Rattle.std.proofs.Common.{◌≡◌, inl, inr, ℕ, true, false, Bool, ◌||◌, if◌then◌else◌, List, []}
use Rattle.std.proofs.Common.{◌∷◌, ◌++◌, length, take, drop, refl, sym, ap, ◌∙◌}
use Rattle.std.specs.Prelude.{Option, Some, None}
use Rattle.std.specs.Option.{option_map_or}
use Rattle.std.proofs.lemmas.Bool.{cases_lt}
use Rattle.dp_messages.specs.declared.message.Entry.{Entry}
use Rattle.dp_messages.specs.Properties.{is_disconnect}
use Rattle.dp_schedule.specs.declared.join_action.JoinAction.{JoinAction}
use Rattle.dp_joiner.specs.Joining.{Joining, Goes, Waits, after_line, along, asked_by, caller}
use Rattle.dp_joiner.specs.Joining.{greeted, joined}
use Rattle.dp_join_link.specs.Given.{is_closed, takeable}
use Rattle.dp_join_link.specs.JoinStanding.{is_ping}
use Rattle.dp_joiner.proofs.Along.{along_enough, along_few, along_more}
use Rattle.dp_joiner.proofs.Greeted.{none_greeted}
use Rattle.dp_join_link.proofs.Prefixes.{IsFirstOf}

-- ---- more entries

-- what is taken of a longer list
pub record Longer (xs ys : List Entry) : Type 0 where
  pub more : List Entry
  pub whole : takeable ys ≡ takeable xs ++ more

longer_by : (d p : Bool) (e : Entry) (xs zs : List Entry) → (more : List Entry)
    × ((if d then [] else (if p then xs ++ zs else e ∷ (xs ++ zs)))
    ≡ (if d then [] else (if p then xs else e ∷ xs)) ++ more)
longer_by true p e xs zs = ([], refl)
longer_by false true e xs zs = (zs, refl)
longer_by false false e xs zs = (zs, refl)

pub longer : (xs ys : List Entry) → Longer xs (xs ++ ys)
longer [] ys = record { more = takeable ys; whole = refl }
longer (e ∷ xs) ys =
    let next = longer xs ys in
    let by = longer_by (is_disconnect e.msg) (is_ping e.msg) e (takeable xs) next.more in
    record {
      more = by.0;
      whole =
          ap (λ (r : List Entry). if is_disconnect e.msg then []
          else (if is_ping e.msg then r else e ∷ r)) next.whole
          ∙ by.1;
    }

-- nothing more is taken of a list that is closed
closed_by : (d p : Bool) (e : Entry) (xs ys : List Entry) → (d ≡ false → xs ≡ ys)
    → (if d then [] else (if p then xs else e ∷ xs))
    ≡ (if d then [] else (if p then ys else e ∷ ys))
closed_by true p e xs ys same = refl
closed_by false true e xs ys same = same refl
closed_by false false e xs ys same = ap (λ (r : List Entry). e ∷ r) (same refl)

or_true : (a b : Bool) → a || b ≡ true → a ≡ false → b ≡ true
or_true true b either absent = absurd (cc (absent))
or_true false b either absent = either

pub takeable-closed : (xs ys : List Entry) → is_closed xs ≡ true
    → takeable (xs ++ ys) ≡ takeable xs
takeable-closed [] ys closed = absurd (cc (closed))
takeable-closed (e ∷ xs) ys closed =
    closed_by (is_disconnect e.msg) (is_ping e.msg) e (takeable (xs ++ ys)) (takeable xs)
    (λ open_. takeable-closed xs ys (or_true (is_disconnect e.msg) (is_closed xs) closed open_))

-- ---- more lines

-- if a line waits, those after it change nothing
along_waits : (actions more : List JoinAction) (coming : List Entry) (j : Joining)
    (waiting : Joining) → along actions coming j ≡ Waits waiting
    → along (actions ++ more) coming j ≡ Waits waiting
along_waits [] more coming j waiting waits = absurd (cc (waits))
along_waits (action ∷ actions) more coming j waiting waits =
    elim (cases_lt (length coming) (asked_by action)) [
      | inl few ↦ along_few action (actions ++ more) coming j few
          ∙ sym (along_few action actions coming j few) ∙ waits
      | inr enough ↦ along_enough action (actions ++ more) coming j enough
          ∙ along_waits actions more (drop (asked_by action) coming)
          (after_line action (take (asked_by action) coming) j) waiting
          (sym (along_enough action actions coming j enough) ∙ waits)
    ]

waits_from : (name : List ℕ) (actions more : List JoinAction) (rest : List Entry)
    (o : Option Joining) (waiting : Joining)
    → option_map_or (λ j. along actions (takeable rest) j) o (Waits (caller name)) ≡ Waits waiting
    → option_map_or (λ j. along (actions ++ more) (takeable rest) j) o (Waits (caller name))
    ≡ Waits waiting
waits_from name actions more rest None waiting waits = waits
waits_from name actions more rest (Some j) waiting waits =
    along_waits actions more (takeable rest) j waiting waits

pub joined_waits : (name : List ℕ) (actions more : List JoinAction) (es : List Entry)
    (waiting : Joining) → joined name actions es ≡ Waits waiting
    → joined name (actions ++ more) es ≡ Waits waiting
joined_waits name actions more [] waiting waits = waits
joined_waits name actions more (first ∷ rest) waiting waits =
    waits_from name actions more rest (greeted name first.msg) waiting waits

-- ---- lines over more entries

-- if all lines are done, they are done in the same way
goes_from : (name : List ℕ) (actions : List JoinAction) (rest more : List Entry)
    (o : Option Joining) (j : Joining) (left : List Entry)
    → option_map_or (λ k. along actions (takeable rest) k) o (Waits (caller name))
    ≡ Goes j left
    → (others : List Entry) × (option_map_or (λ k. along actions (takeable (rest ++ more)) k) o
    (Waits (caller name)) ≡ Goes j others)
goes_from name actions rest more None j left goes = absurd (cc (goes))
goes_from name actions rest more (Some k) j left goes =
    let l = longer rest more in (
      left ++ l.more,
      ap (λ (c : List Entry). along actions c k) l.whole
          ∙ along_more actions (takeable rest) left l.more k j goes,
    )

pub joined_goes : (name : List ℕ) (actions : List JoinAction) (es ds : List Entry) (j : Joining)
    (left : List Entry) → IsFirstOf es ds → joined name actions es ≡ Goes j left
    → (others : List Entry) × (joined name actions ds ≡ Goes j others)
joined_goes name actions [] ds j left first goes = absurd (cc (goes))
joined_goes name actions (e ∷ es) ds j left first goes =
    let (others, more) = goes_from name actions es first.rest (greeted name e.msg) j left goes in
    (others, ap (joined name actions) first.whole ∙ more)

closed_first : (name : List ℕ) (actions : List JoinAction) (e : Entry) (es more : List Entry)
    (d : Bool) → is_disconnect e.msg ≡ d → d || is_closed es ≡ true
    → joined name actions (e ∷ (es ++ more)) ≡ joined name actions (e ∷ es)
closed_first name actions e es more true is closed =
    let none = none_greeted name e.msg (inl is) in
    ap (λ (o : Option Joining). option_map_or (λ j. along actions (takeable (es ++ more)) j) o
    (Waits (caller name))) none
    ∙ sym (ap (λ (o : Option Joining). option_map_or (λ j. along actions (takeable es) j) o
    (Waits (caller name))) none)
closed_first name actions e es more false is closed =
    ap (λ (c : List Entry). option_map_or (λ j. along actions c j) (greeted name e.msg)
    (Waits (caller name))) (takeable-closed es more closed)

-- entries after one that closes the link change nothing
pub joined_closed : (name : List ℕ) (actions : List JoinAction) (es ds : List Entry)
    → is_closed es ≡ true → IsFirstOf es ds → joined name actions ds ≡ joined name actions es
joined_closed name actions [] ds closed first = absurd (cc (closed))
joined_closed name actions (e ∷ es) ds closed first =
    ap (joined name actions) first.whole
    ∙ closed_first name actions e es first.rest (is_disconnect e.msg) refl closed
