-- The numbers of lines, and what is held.
use Rattle.std.proofs.Common.{◌≡◌, ℕ, suc, ◌+◌, inl, inr, true, false, List, [], ◌∷◌, ◌++◌, length}
use Rattle.std.proofs.Common.{take, drop, refl, sym, ap, ◌∙◌, arith}
use Rattle.std.proofs.lemmas.Bool.{cases_Bool, cond-true, cond-false}
use Rattle.std.proofs.lemmas.List.{take-append-drop, drop_more}
use Rattle.dp_lines.specs.declared.line.Line.{Line}
use Rattle.dp_lines.specs.Lines.{newline, ended, open_rest, is_skipped, numbered}
use Rattle.dp_lines.specs.Held.{Held, ended_from}
use Rattle.dp_lines.specs.Taken.{first_line, after_first, Keeps, IsEnd}
use Rattle.dp_lines.proofs.Pieces.{ended_at, rest_at}

-- a line that is passed over is counted
pub numbered_skipped : (n : ℕ) (line : List ℕ) (after : List (List ℕ)) → is_skipped line ≡ true
    → numbered n (line ∷ after) ≡ numbered (n + 1) after
numbered_skipped n line after skipped = cond-true (is_skipped line) _ _ skipped

-- a line that isn't passed over comes first
pub numbered_kept : (n : ℕ) (line : List ℕ) (after : List (List ℕ)) → is_skipped line ≡ false
    → numbered n (line ∷ after) ≡ record { number = n + 1; bytes = line } ∷ numbered (n + 1) after
numbered_kept n line after kept = cond-false (is_skipped line) _ _ kept

-- the numbers go on
pub numbered-append : (n : ℕ) (prefix after : List (List ℕ))
    → numbered n (prefix ++ after) ≡ numbered n prefix ++ numbered (n + length prefix) after
numbered-append n [] after = ap (λ (k : ℕ). numbered k after) (omega arith)
numbered-append n (line ∷ prefix) after =
    let on : n + 1 + length prefix ≡ n + suc (length prefix) = omega arith in
    let rest = numbered-append (n + 1) prefix after ∙ ap
    (λ (k : ℕ). numbered (n + 1) prefix ++ numbered k after) on in
    elim (cases_Bool (is_skipped line)) [
      | inl skipped ↦
          numbered_skipped n line (prefix ++ after) skipped ∙ rest
          ∙ ap (λ (ls : List Line). ls ++ numbered (n + suc (length prefix)) after)
          (sym (numbered_skipped n line prefix skipped))
      | inr kept ↦
          numbered_kept n line (prefix ++ after) kept
          ∙ ap (λ (ls : List Line). record { number = n + 1; bytes = line } ∷ ls) rest
          ∙ ap (λ (ls : List Line). ls ++ numbered (n + suc (length prefix)) after)
          (sym (numbered_kept n line prefix kept))
    ]

-- the bytes around the first newline
around_end : (bytes : List ℕ) (len : ℕ) → IsEnd bytes len
    → bytes ≡ take len bytes ++ newline ∷ drop (len + 1) bytes
around_end bytes len end =
    sym (take-append-drop len bytes)
    ∙ ap (λ (b : List ℕ). take len bytes ++ b) (drop_more bytes len 0 end.within)
    ∙ ap (λ (b : ℕ). take len bytes ++ b ∷ drop (len + 1) bytes) end.at

-- the first line ends there
pub ended_first : (bytes : List ℕ) (len : ℕ) → IsEnd bytes len
    → ended bytes ≡ take len bytes ∷ ended (drop (len + 1) bytes)
ended_first bytes len end =
    ap ended (around_end bytes len end) ∙ ended_at (take len bytes) (drop (len + 1) bytes)
    end.before

pub rest_after : (bytes : List ℕ) (len : ℕ) → IsEnd bytes len
    → open_rest bytes ≡ open_rest (drop (len + 1) bytes)
rest_after bytes len end =
    ap open_rest (around_end bytes len end) ∙ rest_at (take len bytes) (drop (len + 1) bytes)
    end.before

-- more was taken that is passed over
pub keeps_further : (old held new : Held) → Keeps old held → Keeps held new → Keeps old new
keeps_further old held new first second = record {
  lines = second.lines ∙ first.lines;
  count = second.count ∙ first.count;
  rest = second.rest ∙ first.rest;
  fed = second.fed ∙ first.fed;
}

-- taking the first line, with its newline, counts it
pub first_counted : (held : Held) (len : ℕ) → IsEnd held.bytes len
    → held.count + 1 + length (ended (drop (len + 1) held.bytes))
    ≡ held.count + length (ended held.bytes)
first_counted held len end = omega (arith, ap length (ended_first held.bytes len end))

-- so does taking one that is passed over, which changes nothing of the lines to come
pub keeps_after_skipped : (held : Held) (len : ℕ) → IsEnd held.bytes len
    → is_skipped (take len held.bytes) ≡ true → Keeps held (after_first held (len + 1))
keeps_after_skipped held len end skipped = record {
  lines =
      sym (ap (numbered held.count) (ended_first held.bytes len end)
      ∙ numbered_skipped held.count (take len held.bytes) (ended (drop (len + 1) held.bytes))
      skipped);
  count = first_counted held len end;
  rest = sym (rest_after held.bytes len end);
  fed = refl;
}

-- taking one that isn't passed over leaves the lines after it
pub lines_after_kept : (held : Held) (len : ℕ) → IsEnd held.bytes len
    → is_skipped (take len held.bytes) ≡ false
    → ended_from held ≡ first_line held len ∷ ended_from (after_first held (len + 1))
lines_after_kept held len end kept =
    ap (numbered held.count) (ended_first held.bytes len end)
    ∙ numbered_kept held.count (take len held.bytes) (ended (drop (len + 1) held.bytes)) kept
