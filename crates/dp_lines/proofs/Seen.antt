-- The lines that are seen of an input, and those that are given of a prefix of it.
use Rattle.std.proofs.Common.{◌≡◌, ◌≢◌, ℕ, ◌+◌, ◌-◌, ◌<◌, ◌≤◌, ◌⊎◌, inl, inr, true, not, cond}
use Rattle.std.proofs.Common.{nat_lt, nat_le, List, [], ◌∷◌, ◌++◌, length, take, refl, sym, ap, ◌∙◌}
use Rattle.std.proofs.Common.{subst, arith, append_assoc, length-append}
use Rattle.std.specs.Prelude.{IsTrue}
use Rattle.std.proofs.Math.Seq.{take-append-add}
use Rattle.std.proofs.lemmas.Bool.{cases_lt, cases_Bool, cond-true, cond-false, lt-leb, le-leb}
use Rattle.std.proofs.lemmas.Bool.{and_parts, and_from, ltb-true, lt-ltb}
use Rattle.std.proofs.lemmas.List.{append-nil, take_at}
use Rattle.std.proofs.lemmas.List.Elements.{All-append}
use Rattle.dp_lines.specs.declared.line.Line.{Line}
use Rattle.dp_lines.specs.Ends.{seen, lines_of_prefix}
use Rattle.dp_lines.specs.Held.{Held, ended_from, lines_from, IsLeft, NextIsLong}
use Rattle.dp_lines.specs.Lines.{newline, Lacks, line_limit, ended, open_rest, if_any, lines}
use Rattle.dp_lines.specs.Lines.{is_comment, is_skipped, is_overlong, numbered}
use Rattle.dp_lines.proofs.Giving.{lines_from_parts, long_is_kept}
use Rattle.dp_lines.proofs.Left.{lines_after, left_at_end}
use Rattle.dp_lines.proofs.Numbering.{numbered_skipped, numbered_kept}
use Rattle.dp_lines.proofs.OneWay.{rest_lacks}
use Rattle.dp_lines.proofs.Pieces.{Parts, parts_of, last, next, ended_none, rest_none, ended_at}
use Rattle.dp_lines.proofs.Pieces.{ended-append, rest-append}

-- a rest as a line, if it is too long
abbrev pub if_long : List ℕ → List (List ℕ)
if_long rest = cond (is_overlong rest) (rest ∷ []) []

if_long_is : (rest : List ℕ) → is_overlong rest ≡ true → if_long rest ≡ rest ∷ []
if_long_is rest long = cond-true (is_overlong rest) (rest ∷ []) [] long

if_any_is : (rest : List ℕ) → is_overlong rest ≡ true → if_any rest ≡ rest ∷ []
if_any_is [] long = absurd (cc (long))
if_any_is (byte ∷ more) long = refl

-- The lines that are seen of an input of which `all` is a front: the ended ones of a longer front,
-- and what the rest adds, which is itself if it is too long.
pub record Sees (limit : ℕ) (all more : List ℕ) : Type 0 where
  further : List ℕ
  tail : List ℕ → List (List ℕ)
  whole : seen limit (all ++ more) ≡ numbered 0 (ended (all ++ further)
      ++ tail (open_rest (all ++ further)))
  long : (rest : List ℕ) → is_overlong rest ≡ true → tail rest ≡ rest ∷ []

-- an input that is longer than counts is cut
cut_at : (limit : ℕ) (bytes : List ℕ) → limit < length bytes
    → seen limit bytes ≡ numbered 0 (lines_of_prefix (take limit bytes))
cut_at limit bytes over = ap (numbered 0) (cond-false (nat_le (length bytes) limit) _ _
    (lt-leb _ _ over))

-- one that isn't is whole
whole_at : (limit : ℕ) (bytes : List ℕ) → length bytes ≤ limit
    → seen limit bytes ≡ numbered 0 (lines bytes)
whole_at limit bytes within = ap (numbered 0) (cond-true (nat_le (length bytes) limit) _ _
    (le-leb _ _ within))

sees : (limit : ℕ) (all more : List ℕ) → length all ≤ limit → Sees limit all more
sees limit all more counts = elim (cases_lt limit (length (all ++ more))) [
  | inl over ↦
      let to : length all + (limit - length all) ≡ limit = omega arith in
      let prefix = ap (λ (n : ℕ). take n (all ++ more)) (sym to)
      ∙ take-append-add all more (limit - length all) in record {
        further = take (limit - length all) more;
        tail = if_long;
        whole = cut_at limit (all ++ more) over
            ∙ ap (λ (b : List ℕ). numbered 0 (lines_of_prefix b))
            prefix;
        long = if_long_is;
      }
  | inr within ↦ record {
    further = more;
    tail = if_any;
    whole = whole_at limit (all ++ more) within;
    long = if_any_is;
  }
]

-- the lines that were given are the first that are seen, and then those that are left
seen_after : (limit : ℕ) (all more : List ℕ) (done : List Line) (held : Held)
    (s : Sees limit all more)
    → IsLeft all done held
    → seen limit (all ++ more) ≡ done ++ (ended_from held
    ++ numbered (held.count + length (ended held.bytes))
    (ended (open_rest all ++ s.further) ++ s.tail (open_rest (open_rest all ++ s.further))))
seen_after limit all more done held s left =
    s.whole
    ∙ ap (λ (b : List ℕ). numbered 0 (ended (all ++ s.further) ++ s.tail b))
    (rest-append all s.further)
    ∙ ap (λ (ls : List (List ℕ)). numbered 0 (ls ++ s.tail
    (open_rest (open_rest all ++ s.further)))) (ended-append all s.further)
    ∙ ap (numbered 0) (append_assoc (ended all) (ended (open_rest all ++ s.further)) _)
    ∙ lines_after all done held _ left

pub given_seen : (limit : ℕ) (all more : List ℕ) (done : List Line) (held : Held)
    → IsLeft all done held → length all ≤ limit
    → (after : List Line) × (seen limit (all ++ more) ≡ done ++ after)
given_seen limit all more done held left counts =
    let s = sees limit all more counts in
    (_, seen_after limit all more done held s left)

-- bytes that are too long stay so with more after them
long_on : (bytes more : List ℕ) → is_overlong bytes ≡ true → is_overlong (bytes ++ more) ≡ true
long_on [] more long = absurd (cc (long))
long_on (byte ∷ bytes) more long =
    let parts = and_parts (not (is_comment (byte ∷ bytes)))
    (nat_lt line_limit (length (byte ∷ bytes))) long in
    let longer : line_limit < length (byte ∷ (bytes ++ more)) =
    omega (arith, ltb-true line_limit (length (byte ∷ bytes)) parts.1, length-append bytes more) in
    and_from (not (is_comment (byte ∷ (bytes ++ more))))
    (nat_lt line_limit (length (byte ∷ (bytes ++ more)))) parts.0 (lt-ltb _ _ longer)

-- a rest that is too long begins a line that is
record Begins (lines : List (List ℕ)) : Type 0 where
  first : List ℕ
  others : List (List ℕ)
  split : lines ≡ first ∷ others
  long : is_overlong first ≡ true

begins_long : (rest more : List ℕ) (tail : List ℕ → List (List ℕ)) → Lacks newline rest
    → is_overlong rest ≡ true → ((b : List ℕ) → is_overlong b ≡ true → tail b ≡ b ∷ [])
    → Parts newline more → Begins (ended (rest ++ more) ++ tail (open_rest (rest ++ more)))
begins_long rest _ tail lacks long adds (last more none) =
    let all = All-append (λ byte. byte ≢ newline) rest more lacks none in
    let longer = long_on rest more long in record {
      first = rest ++ more;
      others = [];
      split =
          ap (λ (ls : List (List ℕ)). ls ++ tail (open_rest (rest ++ more)))
          (ended_none (rest ++ more) all)
          ∙ ap tail (rest_none (rest ++ more) all) ∙ adds (rest ++ more) longer;
      long = longer;
    }
begins_long rest _ tail lacks long adds (next more part after whole none parts) =
    let all = All-append (λ byte. byte ≢ newline) rest part lacks none in
    let bytes = ap (λ (b : List ℕ). rest ++ b) whole ∙ sym
    (append_assoc rest part (newline ∷ after)) in record {
      first = rest ++ part;
      others = ended after ++ tail (open_rest (rest ++ more));
      split =
          ap (λ (ls : List (List ℕ)). ls ++ tail (open_rest (rest ++ more)))
          (ap ended bytes ∙ ended_at (rest ++ part) after all);
      long = long_on rest part long;
    }

-- the first of two joined lists has the first, or is empty
first_where : (prefix more : List Line) (line : Line) (after : List Line)
    → prefix ++ more ≡ line ∷ after
    → ((others : List Line) × (prefix ≡ line ∷ others)) ⊎ ((prefix ≡ []) × (more ≡ line ∷ after))
first_where [] more line after same = inr (refl, same)
first_where (first ∷ prefix) more line after same =
    let head : first ≡ line = cc (same) in
    inl (prefix, ap (λ (l : Line). l ∷ prefix) head)

-- the line of a rest
line_is_rest : (n : ℕ) (rest : List ℕ) (line : Line) (after : List Line)
    → numbered n (if_any rest) ≡ line ∷ after → line ≡ record { number = n + 1; bytes = rest }
line_is_rest n [] line after same = absurd (cc (same))
line_is_rest n (byte ∷ more) line after same = elim (cases_Bool (is_skipped (byte ∷ more))) [
  | inl skipped ↦ absurd (cc (same, numbered_skipped n (byte ∷ more) [] skipped))
  | inr kept ↦ cc (same, numbered_kept n (byte ∷ more) [] kept)
]

-- a next line that is too long, as it is seen
pub record SeesLong (limit : ℕ) (all more : List ℕ) (done : List Line) (n : ℕ) : Type 0 where
  pub line : Line
  pub after : List Line
  pub split : seen limit (all ++ more) ≡ done ++ line ∷ after
  pub long : IsTrue (is_overlong line.bytes)
  pub number : line.number ≡ n

pub long_seen : (limit : ℕ) (all more : List ℕ) (done : List Line) (held : Held) (n : ℕ)
    → IsLeft all done held → length all ≤ limit → NextIsLong held n → SeesLong limit all more done n
long_seen limit all more done held n left counts found =
    let s = sees limit all more counts in
    let count = held.count + length (ended held.bytes) in
    let to_come = sym (lines_from_parts held) ∙ found.next in
    let whole = seen_after limit all more done held s left in
    elim (first_where (ended_from held) (numbered count (if_any (open_rest held.bytes))) found.line
    found.after to_come) [
      | inl (others, first) ↦ record {
        line = found.line;
        after = _;
        split = whole ∙ ap (λ (ls : List Line). done ++ (ls
            ++ numbered count (ended (open_rest all ++ s.further)
            ++ s.tail (open_rest (open_rest all ++ s.further))))) first;
        long = found.long;
        number = found.number;
      }
      | inr (none, first) ↦
          let is = line_is_rest count (open_rest held.bytes) found.line found.after first in
          let bytes = ap (λ (l : Line). l.bytes) is ∙ sym left.rest in
          let long = subst (λ (b : List ℕ). is_overlong b ≡ true) bytes found.long in
          let begins = begins_long (open_rest all) s.further s.tail (rest_lacks all) long s.long
          (parts_of newline s.further) in record {
            line = record { number = count + 1; bytes = begins.first };
            after = numbered (count + 1) begins.others;
            split =
                whole
                ∙ ap (λ (ls : List Line). done ++ (ls ++ numbered count
                (ended (open_rest all ++ s.further) ++ s.tail
                (open_rest (open_rest all ++ s.further))))) none
                ∙ ap (λ (ls : List Line). done ++ ls)
                (ap (numbered count) begins.split
                ∙ numbered_kept count begins.first begins.others
                (long_is_kept begins.first begins.long).1);
            long = begins.long;
            number = sym (ap (λ (l : Line). l.number) is) ∙ found.number;
          }
    ]

-- if the input is cut, a rest that isn't too long is no line
pub cut_seen : (limit : ℕ) (all more : List ℕ) (done : List Line) (held : Held)
    → IsLeft all done held → length all ≡ limit → more ≢ [] → ended_from held ≡ []
    → ((n : ℕ) → ¬ NextIsLong held n) → seen limit (all ++ more) ≡ done
cut_seen limit all [] done held left counts some none short = absurd (some refl)
cut_seen limit all (byte ∷ more) done held left counts some none short =
    let bytes = all ++ byte ∷ more in
    let over : limit < length bytes = omega (arith, length-append all (byte ∷ more)) in
    let count = held.count + length (ended held.bytes) in
    let whole =
    cut_at limit bytes over
    ∙ ap (λ (b : List ℕ). numbered 0 (lines_of_prefix b)) (take_at all (byte ∷ more) limit counts)
    ∙ lines_after all done held (if_long (open_rest all)) left
    ∙ ap (λ (ls : List Line). done ++ (ls ++ numbered count (if_long (open_rest all)))) none in
    elim (cases_Bool (is_overlong (open_rest all))) [
      | inl long ↦
          let held_long = subst (λ (b : List ℕ). is_overlong b ≡ true) left.rest long in
          absurd (short (count + 1) record {
            line = record { number = count + 1; bytes = open_rest held.bytes };
            after = [];
            next =
                lines_from_parts held
                ∙ ap (λ (ls : List Line). ls ++ numbered count (if_any (open_rest held.bytes))) none
                ∙ ap (numbered count) (if_any_is (open_rest held.bytes) held_long)
                ∙ numbered_kept count (open_rest held.bytes) []
                (long_is_kept (open_rest held.bytes) held_long).1;
            long = held_long;
            number = refl;
          })
      | inr fits ↦
          whole
          ∙ ap (λ (ls : List (List ℕ)). done ++ numbered count ls)
          (cond-false (is_overlong (open_rest all)) (open_rest all ∷ []) [] fits)
          ∙ append-nil done
    ]

pub whole_seen : (limit : ℕ) (all : List ℕ) (done : List Line) (held : Held) → IsLeft all done held
    → length all ≤ limit → seen limit all ≡ done ++ lines_from held
whole_seen limit all done held left counts = whole_at limit all counts
    ∙ left_at_end all done held left
