-- A script and a link come to one outcome.
use Rattle.std.proofs.Common.{◌≡◌, ◌⊎◌, inl, inr, ℕ, List, [], ◌∷◌, ◌++◌, refl, sym, ap, ◌∙◌, subst}
use Rattle.std.proofs.lemmas.List.{append_assoc, append-nil}
use Rattle.dp_lines.specs.declared.line.Line.{Line}
use Rattle.dp_lines.specs.Ends.{AreSteps, IsDoable, LinesComeTo, LinesEnd, seen}
use Rattle.dp_lines.specs.Ends as ends
use Rattle.dp_schedule.specs.declared.join_action.JoinAction.{JoinAction}
use Rattle.dp_schedule.specs.JoinGrammar.{Asks}
use Rattle.dp_line_machine.specs.Leaves.{AreFirstOf}
use Rattle.dp_join_link.specs.declared.stops.LinkCause.{LinkCause}
use Rattle.dp_joiner.specs.Joining.{Goes, Waits, joined}
use Rattle.dp_joining.specs.Outcomes.{AllAsk, EndsByLink, EndsByScript, IsJoinStep, JoinComesTo}
use Rattle.dp_joining.specs.Outcomes.{JoinOutcome, link_outcome, script_outcome}
use Rattle.dp_line_machine.specs.Limits.{lines_limit}
use Rattle.dp_join_link.proofs.Prefixes.{IsFirstOf, begin_alike, first_more, first_nil}
use Rattle.dp_joiner.proofs.Unique.{joined_goes, joined_waits}
use Rattle.dp_joiner.proofs.LinkEnds.{LinkLaws, ends_by, ends_same, waits_not_goes}

-- the laws of the crates below
pub record AllLaws : Type 0 where
  pub link : LinkLaws
  pub action : (line : List ℕ) (action other : JoinAction) → Asks line action → Asks line other
      → action ≡ other
  pub lines : (bytes : List ℕ) (done others : List Line) (end last : LinesEnd)
      → LinesComeTo IsJoinStep lines_limit bytes done end
      → LinesComeTo IsJoinStep lines_limit bytes others last → done ≡ others
  pub last : (bytes : List ℕ) (done others : List Line) (end last : LinesEnd)
      → LinesComeTo IsJoinStep lines_limit bytes done end
      → LinesComeTo IsJoinStep lines_limit bytes others last → end ≡ last

-- ---- lines

pub lists_alike : {X : Type 0} (xs ys us vs : List X) → xs ++ us ≡ ys ++ vs
    → IsFirstOf xs ys ⊎ IsFirstOf ys xs
lists_alike [] ys us vs whole = inl (first_nil ys)
lists_alike (x ∷ xs) [] us vs whole = inr (first_nil (x ∷ xs))
lists_alike {X} (x ∷ xs) (y ∷ ys) us vs whole =
    let here : x ≡ y = cc (whole) in
    let there : xs ++ us ≡ ys ++ vs = cc (whole) in
    elim (lists_alike xs ys us vs there) [
      | inl first ↦ inl (subst (λ (z : X). IsFirstOf (z ∷ xs) (y ∷ ys)) (sym here)
          (first_more y xs ys first))
      | inr first ↦ inr (subst (λ (z : X). IsFirstOf (y ∷ ys) (z ∷ xs)) (sym here)
          (first_more y ys xs first))
    ]

same_prefix : {X : Type 0} (xs : List X) (y z : X) (us vs : List X)
    → xs ++ y ∷ us ≡ xs ++ z ∷ vs → y ≡ z
same_prefix [] y z us vs same = cc (same)
same_prefix (x ∷ xs) y z us vs same =
    let there : xs ++ y ∷ us ≡ xs ++ z ∷ vs = cc (same) in
    same_prefix xs y z us vs there

-- the first lines ask for the first actions
asked_first : AllLaws → (lines more : List Line) (actions others : List JoinAction)
    → AllAsk lines actions → AllAsk (lines ++ more) others → IsFirstOf actions others
asked_first laws [] more [] others asked asks = first_nil others
asked_first laws [] more (a ∷ actions) others asked asks = absurd asked
asked_first laws (line ∷ lines) more [] others asked asks = absurd asked
asked_first laws (line ∷ lines) more (a ∷ actions) [] asked asks = absurd asks
asked_first laws (line ∷ lines) more (a ∷ actions) (b ∷ others) (here, asked) (there, asks) =
    let same : a ≡ b = laws.action line.bytes a b here there in
    subst (λ (z : JoinAction). IsFirstOf (z ∷ actions) (b ∷ others)) (sym same)
    (first_more b actions others (asked_first laws lines more actions others asked asks))

-- lines that are the first of others ask for the first of their actions
pub asked_alike : AllLaws → (lines others : List Line) (actions more : List JoinAction)
    → IsFirstOf lines others → AllAsk lines actions → AllAsk others more → IsFirstOf actions more
asked_alike laws lines others actions more first asked asks =
    asked_first laws lines first.rest actions more asked
    (subst (λ (ls : List Line). AllAsk ls more) first.whole asks)

-- lines ask for one list of actions
same_asked : AllLaws → (lines : List Line) (actions others : List JoinAction)
    → AllAsk lines actions → AllAsk lines others → actions ≡ others
same_asked laws [] [] [] asked asks = refl
same_asked laws [] [] (b ∷ others) asked asks = absurd asks
same_asked laws [] (a ∷ actions) others asked asks = absurd asked
same_asked laws (line ∷ lines) [] others asked asks = absurd asked
same_asked laws (line ∷ lines) (a ∷ actions) [] asked asks = absurd asks
same_asked laws (line ∷ lines) (a ∷ actions) (b ∷ others) (here, asked) (there, asks) =
    ap (λ (z : JoinAction). z ∷ actions) (laws.action line.bytes a b here there)
    ∙ ap (λ (r : List JoinAction). b ∷ r) (same_asked laws lines actions others asked asks)

-- steps don't go past a line that is none
past_bad : (begun done : List Line) (line : Line) (after rest more : List Line)
    → begun ≡ done ++ more → AreSteps IsJoinStep begun
    → begun ++ rest ≡ done ++ line ∷ after → (IsDoable IsJoinStep done line → ⊥)
    → IsFirstOf begun done
past_bad begun done line after rest [] is steps whole bad =
    record { rest = []; whole = sym (append-nil done) ∙ sym is ∙ sym (append-nil begun) }
past_bad begun done line after rest (next ∷ more) is steps whole bad =
    let split : done ++ next ∷ (more ++ rest) ≡ done ++ line ∷ after =
    sym (append_assoc done (next ∷ more) rest)
    ∙ ap (λ (ls : List Line). ls ++ rest) (sym is) ∙ whole in
    let same : next ≡ line = same_prefix done next line (more ++ rest) after split in
    absurd (bad (subst (IsDoable IsJoinStep done) same (steps done next more is)))

-- steps that are the first lines are the first of those that are done
pub first_within : (input : List ℕ) (begun done : List Line) (last : LinesEnd)
    → AreFirstOf IsJoinStep (seen lines_limit input) begun
    → LinesComeTo IsJoinStep lines_limit input done last → IsFirstOf begun done
first_within input begun done ends.AllDone prefix comes =
    record { rest = prefix.after; whole = comes.1 ∙ prefix.parts }
first_within input begun done ends.TooLong prefix comes =
    record { rest = prefix.after; whole = comes.1 ∙ prefix.parts }
first_within input begun done (ends.BadLine n) prefix comes =
    elim (lists_alike begun done prefix.after (comes.line ∷ comes.after)
    (sym prefix.parts ∙ comes.next)) [
      | inl first ↦ first
      | inr first ↦ past_bad begun done comes.line comes.after prefix.after first.rest first.whole
          prefix.steps (sym prefix.parts ∙ comes.next) comes.bad
    ]

-- ---- outcomes

by_scripts : AllLaws → (name input link : List ℕ) (a b : JoinOutcome)
    → EndsByScript name input link a → EndsByScript name input link b → a ≡ b
by_scripts laws name input link a b x y =
    let lines : x.done ≡ y.done = laws.lines input x.done y.done x.last y.last x.comes y.comes in
    let last : x.last ≡ y.last = laws.last input x.done y.done x.last y.last x.comes y.comes in
    let actions : x.actions ≡ y.actions =
    same_asked laws y.done x.actions y.actions
    (subst (λ (ls : List Line). AllAsk ls x.actions) lines x.asked) y.asked in
    let goes : joined name y.actions x.entries ≡ Goes x.joining x.left =
    ap (λ (acts : List JoinAction). joined name acts x.entries) (sym actions) ∙ x.goes in
    let same : x.joining ≡ y.joining =
    elim (begin_alike laws.link.frames link x.entries y.entries x.begins y.begins) [
      | inl first ↦
          cc (sym (joined_goes name y.actions x.entries y.entries x.joining x.left first goes).1
          ∙ y.goes)
      | inr first ↦
          cc (sym goes ∙ (joined_goes name y.actions y.entries x.entries y.joining y.left first
          y.goes).1)
    ] in
    x.outcome_is ∙ ap (λ (e : LinesEnd). script_outcome e x.joining) last
    ∙ ap (script_outcome y.last) same ∙ sym y.outcome_is

script_or_link : AllLaws → (name input link : List ℕ) (a b : JoinOutcome)
    → EndsByScript name input link a → EndsByLink name input link b → ⊥
script_or_link laws name input link a b x y =
    let lines = first_within input y.begun x.done x.last y.prefix x.comes in
    let actions = asked_alike laws y.begun x.done y.actions x.actions lines y.asked x.asked in
    let waits : joined name x.actions y.entries ≡ Waits y.waiting =
    ap (λ (acts : List JoinAction). joined name acts y.entries) actions.whole
    ∙ joined_waits name y.actions actions.rest y.entries y.waiting y.waits in
    waits_not_goes laws.link name x.actions link y.entries x.entries y.waiting x.joining x.left
    y.why waits (ends_by link y.entries y.why y.ends) x.begins x.goes

-- two waits, of which the first is of the first of the lines of the second
by_longer : AllLaws → (name input link : List ℕ) (a b : JoinOutcome)
    (x : EndsByLink name input link a) (y : EndsByLink name input link b)
    → IsFirstOf x.begun y.begun → a ≡ b
by_longer laws name input link a b x y lines =
    let actions = asked_alike laws x.begun y.begun x.actions y.actions lines x.asked y.asked in
    let waits : joined name y.actions x.entries ≡ Waits x.waiting =
    ap (λ (acts : List JoinAction). joined name acts x.entries) actions.whole
    ∙ joined_waits name x.actions actions.rest x.entries x.waiting x.waits in
    let alike = ends_same laws.link name y.actions link x.entries y.entries x.why y.why
    (ends_by link x.entries x.why x.ends) (ends_by link y.entries y.why y.ends) in
    let progress : Waits x.waiting ≡ Waits y.waiting = sym waits ∙ alike.progress ∙ y.waits in
    let same : x.waiting ≡ y.waiting = cc (progress) in
    x.outcome_is ∙ ap (λ (why : LinkCause). link_outcome why x.waiting) alike.cause
    ∙ ap (link_outcome y.why) same ∙ sym y.outcome_is

by_links : AllLaws → (name input link : List ℕ) (a b : JoinOutcome)
    → EndsByLink name input link a → EndsByLink name input link b → a ≡ b
by_links laws name input link a b x y =
    elim (lists_alike x.begun y.begun x.prefix.after y.prefix.after
    (sym x.prefix.parts ∙ y.prefix.parts)) [
      | inl first ↦ by_longer laws name input link a b x y first
      | inr first ↦ sym (by_longer laws name input link b a y x first)
    ]

pub one_outcome : AllLaws → (name input link : List ℕ) (a b : JoinOutcome)
    → JoinComesTo name input link a → JoinComesTo name input link b → a ≡ b
one_outcome laws name input link a b (inl x) (inl y) = by_scripts laws name input link a b x y
one_outcome laws name input link a b (inl x) (inr y) =
    absurd (script_or_link laws name input link a b x y)
one_outcome laws name input link a b (inr x) (inl y) =
    absurd (script_or_link laws name input link b a y x)
one_outcome laws name input link a b (inr x) (inr y) = by_links laws name input link a b x y
