-- What an input of lines comes to.
use Rattle.std.proofs.Common.{◌≡◌, ℕ, ◌⊎◌, inl, inr, List, [], ◌∷◌, ◌++◌, refl, sym, ap, ◌∙◌, subst}
use Rattle.std.proofs.Common.{arith}
use Rattle.dp_lines.specs.declared.line.Line.{Line}
use Rattle.dp_lines.specs.Ends.{LinesEnd, AllDone, BadLine, TooLong, AreSteps, IsDoable, StopsAt}
use Rattle.dp_lines.specs.Ends.{LinesComeTo, seen}

-- a list with something in it is not joined to nothing
none_before : (before after : List Line) (line : Line) → [] ≡ before ++ line ∷ after → ⊥
none_before [] after line same = absurd (cc (same))
none_before (first ∷ before) after line same = absurd (cc (same))

pub no_steps : (IsStep : List Line → Line → Type 0) → AreSteps IsStep []
no_steps IsStep before line after same = absurd (none_before before after line same)

-- a place in a list with one more at its end is the last, or a place in the list
last_or_before : (done before : List Line) (last line : Line) (after : List Line)
    → done ++ last ∷ [] ≡ before ++ line ∷ after
    → ((done ≡ before) × (last ≡ line)) ⊎ ((others : List Line) × (done ≡ before ++ line ∷ others))
last_or_before [] [] last line after same = inl (refl, cc (same))
last_or_before [] (first ∷ before) last line after same =
    absurd (none_before before after line (cc (same)))
last_or_before (first ∷ done) [] last line after same =
    let head : first ≡ line = cc (same) in
    inr (done, ap (λ (l : Line). l ∷ done) head)
last_or_before (first ∷ done) (other ∷ before) last line after same =
    let head : first ≡ other = cc (same) in
    let tail : done ++ last ∷ [] ≡ before ++ line ∷ after = cc (same) in
    elim (last_or_before done before last line after tail) [
      | inl (dones, lasts) ↦ inl (
        ap (λ (l : Line). l ∷ done) head
            ∙ ap (λ (ls : List Line). other ∷ ls) dones,
        lasts,
      )
      | inr (others, dones) ↦
          inr (others, ap (λ (l : Line). l ∷ done) head ∙ ap (λ (ls : List Line). other ∷ ls) dones)
    ]

-- one more step
pub one_more_step : (IsStep : List Line → Line → Type 0) (done : List Line) (last : Line)
    → AreSteps IsStep done → IsDoable IsStep done last → AreSteps IsStep (done ++ last ∷ [])
one_more_step IsStep done last steps doable before line after same =
    elim (last_or_before done before last line after same) [
      | inl (dones, lasts) ↦
          subst (λ (l : Line). IsDoable IsStep before l) lasts
          (subst (λ (ls : List Line). IsDoable IsStep ls last) dones doable)
      | inr (others, dones) ↦ steps before line others dones
    ]

-- two places in one list: they are one, or one of them comes first
one_place : (all before others : List Line) (line other : Line) (after more : List Line)
    → all ≡ before ++ line ∷ after → all ≡ others ++ other ∷ more
    → ((before ≡ others) × (line ≡ other)) ⊎ (((rest : List Line)
    × (others ≡ before ++ line ∷ rest)) ⊎ ((rest : List Line)
    × (before ≡ others ++ other ∷ rest)))
one_place all [] [] line other after more first second =
    inl (refl, cc (sym first ∙ second))
one_place all [] (o ∷ others) line other after more first second =
    let head : line ≡ o = cc (sym first ∙ second) in
    inr (inl (others, ap (λ (l : Line). l ∷ others) (sym head)))
one_place all (b ∷ before) [] line other after more first second =
    let head : b ≡ other = cc (sym first ∙ second) in
    inr (inr (before, ap (λ (l : Line). l ∷ before) head))
one_place all (b ∷ before) (o ∷ others) line other after more first second =
    let head : b ≡ o = cc (sym first ∙ second) in
    let tail : before ++ line ∷ after ≡ others ++ other ∷ more = cc (sym first ∙ second) in
    elim (one_place (before ++ line ∷ after) before others line other after more refl tail) [
      | inl (prefixes, lines) ↦ inl (
        ap (λ (l : Line). l ∷ before) head
            ∙ ap (λ (ls : List Line). o ∷ ls) prefixes,
        lines,
      )
      | inr (inl (rest, prefixes)) ↦
          inr (inl (
            rest,
            ap (λ (ls : List Line). o ∷ ls) prefixes
                ∙ ap (λ (l : Line). l ∷ (before ++ line ∷ rest)) (sym head),
          ))
      | inr (inr (rest, prefixes)) ↦
          inr (inr (
            rest,
            ap (λ (ls : List Line). b ∷ ls) prefixes
                ∙ ap (λ (l : Line). l ∷ (others ++ other ∷ rest)) head,
          ))
    ]

-- lines that are all steps don't stop
no_stop : (IsStep : List Line → Line → Type 0) (all done : List Line) (n : ℕ) → AreSteps IsStep all
    → StopsAt IsStep all done n → ⊥
no_stop IsStep all done n steps stop = stop.bad (steps done stop.line stop.after stop.next)

-- lines stop at one place
one_stop : (IsStep : List Line → Line → Type 0) (all done others : List Line) (m n : ℕ)
    → StopsAt IsStep all done m → StopsAt IsStep all others n → (done ≡ others) × (m ≡ n)
one_stop IsStep all done others m n first second =
    elim (one_place all done others first.line second.line first.after second.after first.next
    second.next) [
      | inl (prefixes, lines) ↦ (
        prefixes,
        sym first.number ∙ ap (λ (l : Line). l.number) lines
            ∙ second.number,
      )
      | inr (inl (rest, prefixes)) ↦ absurd (first.bad (second.steps done first.line rest prefixes))
      | inr (inr (rest, prefixes)) ↦
          absurd (second.bad (first.steps others second.line rest prefixes))
    ]

-- an input comes to one end, with one list of lines
pub one_reading : (IsStep : List Line → Line → Type 0) (limit : ℕ) (bytes : List ℕ)
    (done others : List Line) (end last : LinesEnd)
    → LinesComeTo IsStep limit bytes done end → LinesComeTo IsStep limit bytes others last
    → (done ≡ others) × (end ≡ last)
one_reading IsStep limit bytes done others AllDone AllDone first second =
    (first.1 ∙ sym second.1, refl)
one_reading IsStep limit bytes done others AllDone TooLong first second = absurd
    (omega (arith, first.0, second.0))
one_reading IsStep limit bytes done others TooLong AllDone first second = absurd
    (omega (arith, first.0, second.0))
one_reading IsStep limit bytes done others TooLong TooLong first second =
    (first.1 ∙ sym second.1, refl)
one_reading IsStep limit bytes done others (BadLine n) AllDone first second =
    absurd (no_stop IsStep (seen limit bytes) done n (subst (AreSteps IsStep) second.1 second.2)
    first)
one_reading IsStep limit bytes done others (BadLine n) TooLong first second =
    absurd (no_stop IsStep (seen limit bytes) done n (subst (AreSteps IsStep) second.1 second.2)
    first)
one_reading IsStep limit bytes done others (BadLine m) (BadLine n) first second =
    let one = one_stop IsStep (seen limit bytes) done others m n first second in
    (one.0, ap BadLine one.1)
one_reading IsStep limit bytes done others _ (BadLine n) first second =
    absurd (no_stop IsStep (seen limit bytes) others n (subst (AreSteps IsStep) first.1 first.2)
    second)
