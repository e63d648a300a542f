-- What is left of a text, piece by piece.
use Rattle.std.proofs.Common.{◌≡◌, ℕ, ◌+◌, List, ◌++◌, length, sym, ap, ◌∙◌, arith, append_assoc}
use Rattle.std.proofs.Common.{length-append}
use Rattle.dp_lines.specs.declared.line.Line.{Line}
use Rattle.dp_lines.specs.Lines.{ended, open_rest, if_any, lines, numbered}
use Rattle.dp_lines.specs.Held.{Held, ended_from, lines_from, IsLeft}
use Rattle.dp_lines.proofs.Giving.{lines_from_parts}
use Rattle.dp_lines.proofs.Numbering.{numbered-append}
use Rattle.dp_lines.proofs.Pieces.{ended-append, rest-append}

-- the lines of what was fed, with more lines after them
pub lines_after : (all : List ℕ) (done : List Line) (held : Held) (after : List (List ℕ))
    → IsLeft all done held
    → numbered 0 (ended all ++ after) ≡ done ++ (ended_from held
    ++ numbered (held.count + length (ended held.bytes)) after)
lines_after all done held after left =
    let count : 0 + length (ended all) ≡ held.count + length (ended held.bytes) = omega
    (arith, left.count) in
    numbered-append 0 (ended all) after
    ∙ ap (λ (n : ℕ). numbered 0 (ended all) ++ numbered n after) count
    ∙ ap (λ (ls : List Line). ls ++ numbered (held.count + length (ended held.bytes)) after)
    left.whole
    ∙ append_assoc done (ended_from held) _

-- more is fed
pub left_after_feed : (all more : List ℕ) (done : List Line) (old new : Held) → IsLeft all done old
    → new.bytes ≡ old.bytes ++ more → new.count ≡ old.count → new.fed ≡ old.fed + length more
    → IsLeft (all ++ more) done new
left_after_feed all more done old new left bytes count fed =
    let further = ended-append old.bytes more in
    let rest = ap (λ (b : List ℕ). b ++ more) left.rest in
    let grown = ap ended bytes ∙ further in
    let alls = ended-append all more ∙ ap (λ (b : List ℕ). ended all ++ ended b) rest in record {
      whole =
          ap (numbered 0) alls
          ∙ lines_after all done old (ended (open_rest old.bytes ++ more)) left
          ∙ ap (λ (ls : List Line). done ++ ls)
          (sym (numbered-append old.count (ended old.bytes) (ended (open_rest old.bytes ++ more)))
          ∙ ap (λ (ls : List (List ℕ)). numbered old.count ls) (sym grown)
          ∙ ap (λ (n : ℕ). numbered n (ended new.bytes)) (sym count));
      rest =
          rest-append all more ∙ ap open_rest rest ∙ sym (rest-append old.bytes more)
          ∙ ap open_rest (sym bytes);
      count =
          omega (
            arith,
            ap length alls,
            length-append (ended all)
                (ended (open_rest old.bytes ++ more)),
            ap length grown,
            length-append
                (ended old.bytes) (ended (open_rest old.bytes ++ more)),
            left.count,
            count,
          );
      fed = omega (arith, fed, left.fed, length-append all more);
    }

-- nothing more is fed
pub left_at_end : (all : List ℕ) (done : List Line) (held : Held) → IsLeft all done held
    → numbered 0 (lines all) ≡ done ++ lines_from held
left_at_end all done held left =
    lines_after all done held (if_any (open_rest all)) left
    ∙ ap (λ (b : List ℕ). done ++ (ended_from held ++ numbered
    (held.count + length (ended held.bytes)) (if_any b))) left.rest
    ∙ ap (λ (ls : List Line). done ++ ls) (sym (lines_from_parts held))
