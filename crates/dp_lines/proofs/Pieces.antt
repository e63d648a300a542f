-- The pieces of a list of bytes, and the lines among them.
use Rattle.std.proofs.Common.{◌≡◌, ◌≢◌, ℕ, suc, ◌-◌, ◌<◌, ◌==◌, inl, inr, false, List, [], ◌∷◌}
use Rattle.std.proofs.Common.{◌++◌, length, take, get_or, refl, sym, ap, ◌∙◌, arith, append_assoc}
use Rattle.std.specs.List.{All}
use Rattle.std.proofs.lemmas.Bool.{ne_eqb, eq-eqb, cases_eq}
use Rattle.std.proofs.lemmas.List.Elements.{All-nil, All-cons}
use Rattle.std.proofs.lemmas.List.Splits.{slice_split_none, slice_split_at, length-slice_split}
use Rattle.dp_lines.specs.Lines.{newline, pieces, Lacks, all_but_last, ended, open_rest}

-- the test of each byte fails if none is the separator
tests_fail : (separator : ℕ) (bytes : List ℕ) → Lacks separator bytes
    → All (λ byte. (byte == separator) ≡ false) bytes
tests_fail separator bytes lacks k d within = ne_eqb (get_or bytes k d) separator (lacks k d within)

-- bytes without a separator are one part
pub pieces_lacking : (separator : ℕ) (bytes : List ℕ) → Lacks separator bytes
    → pieces separator bytes ≡ bytes ∷ []
pieces_lacking separator bytes lacks =
    slice_split_none (λ byte. byte == separator) bytes (tests_fail separator bytes lacks)

-- the first part ends at the first separator
pub pieces_at : (separator : ℕ) (part more : List ℕ) → Lacks separator part
    → pieces separator (part ++ separator ∷ more) ≡ part ∷ pieces separator more
pieces_at separator part more lacks =
    slice_split_at (λ byte. byte == separator) part separator more (tests_fail separator part lacks)
    (eq-eqb separator separator refl)

-- there is a part
pub some_piece : (separator : ℕ) (bytes : List ℕ) → 0 < length (pieces separator bytes)
some_piece separator bytes = omega (arith, length-slice_split (λ byte. byte == separator) bytes)

-- the bytes are parts, each but the last with the separator after it
pub data Parts (separator : ℕ) : List ℕ → Type 0 where
  last : (bytes : List ℕ) → Lacks separator bytes → Parts separator bytes
  next : (bytes part after : List ℕ) → bytes ≡ part ++ separator ∷ after → Lacks separator part
      → Parts separator after → Parts separator bytes

-- one byte more in front that is no separator
longer : (separator byte : ℕ) (bytes : List ℕ) → byte ≢ separator → Parts separator bytes
    → Parts separator (byte ∷ bytes)
longer separator byte _ other (last bytes lacks) =
    last (byte ∷ bytes) (All-cons (λ b. b ≢ separator) byte bytes other lacks)
longer separator byte _ other (next bytes part after whole lacks rest) =
    next (byte ∷ bytes) (byte ∷ part) after (ap (λ (b : List ℕ). byte ∷ b) whole)
    (All-cons (λ b. b ≢ separator) byte part other lacks) rest

-- all bytes are such parts
pub parts_of : (separator : ℕ) (bytes : List ℕ) → Parts separator bytes
parts_of separator [] = last [] (All-nil (λ byte. byte ≢ separator))
parts_of separator (byte ∷ bytes) = elim (cases_eq byte separator) [
  | inl same ↦ next (byte ∷ bytes) [] bytes (ap (λ (b : ℕ). b ∷ bytes) same)
      (All-nil (λ b. b ≢ separator)) (parts_of separator bytes)
  | inr other ↦ longer separator byte bytes other (parts_of separator bytes)
]

-- one more in front
prefix_more : {X : Type 0} (x : X) (xs : List X) → 0 < length xs
    → all_but_last (x ∷ xs) ≡ x ∷ all_but_last xs
prefix_more x [] some = absurd (omega arith)
prefix_more x (y ∷ xs) some =
    let two : suc (suc (length xs)) - 1 ≡ suc (length xs) = omega arith in
    let one : suc (length xs) - 1 ≡ length xs = omega arith in
    ap (λ (k : ℕ). take k (x ∷ y ∷ xs)) two ∙ ap (λ (k : ℕ). x ∷ take k (y ∷ xs)) (sym one)

-- the last of more
last_more : {X : Type 0} (d x : X) (xs : List X) → 0 < length xs
    → get_or (x ∷ xs) (length (x ∷ xs) - 1) d ≡ get_or xs (length xs - 1) d
last_more d x [] some = absurd (omega arith)
last_more d x (y ∷ xs) some =
    let two : suc (suc (length xs)) - 1 ≡ suc (length xs) = omega arith in
    let one : suc (length xs) - 1 ≡ length xs = omega arith in
    ap (λ (k : ℕ). get_or (x ∷ y ∷ xs) k d) two ∙ ap (λ (k : ℕ). get_or (y ∷ xs) k d) (sym one)

-- bytes without a newline have no ended line
pub ended_none : (bytes : List ℕ) → Lacks newline bytes → ended bytes ≡ []
unfolding ended
ended_none bytes lacks = ap all_but_last (pieces_lacking newline bytes lacks)

-- and are their own rest
pub rest_none : (bytes : List ℕ) → Lacks newline bytes → open_rest bytes ≡ bytes
unfolding open_rest
rest_none bytes lacks =
    ap (λ (ps : List (List ℕ)). get_or ps (length ps - 1) []) (pieces_lacking newline bytes lacks)

-- the first line ends at the first newline
pub ended_at : (line more : List ℕ) → Lacks newline line
    → ended (line ++ newline ∷ more) ≡ line ∷ ended more
unfolding ended
ended_at line more lacks =
    ap all_but_last (pieces_at newline line more lacks) ∙ prefix_more line (pieces newline more)
    (some_piece newline more)

-- and what stands after it has the rest
pub rest_at : (line more : List ℕ) → Lacks newline line
    → open_rest (line ++ newline ∷ more) ≡ open_rest more
unfolding open_rest
rest_at line more lacks =
    ap (λ (ps : List (List ℕ)). get_or ps (length ps - 1) []) (pieces_at newline line more lacks)
    ∙ last_more [] line (pieces newline more) (some_piece newline more)

-- the lines of bytes that go on
ended_further : (bytes more : List ℕ) → Parts newline bytes
    → ended (bytes ++ more) ≡ ended bytes ++ ended (open_rest bytes ++ more)
ended_further _ more (last bytes lacks) =
    ap (λ (b : List ℕ). ended (b ++ more)) (sym (rest_none bytes lacks))
    ∙ ap (λ (ls : List (List ℕ)). ls ++ ended (open_rest bytes ++ more))
    (sym (ended_none bytes lacks))
ended_further _ more (next bytes line after whole lacks parts) =
    let longer = ap (λ (b : List ℕ). b ++ more) whole ∙ append_assoc line (newline ∷ after) more in
    let ends = ap ended whole ∙ ended_at line after lacks in
    let rests = ap open_rest whole ∙ rest_at line after lacks in
    ap ended longer ∙ ended_at line (after ++ more) lacks
    ∙ ap (λ (ls : List (List ℕ)). line ∷ ls) (ended_further after more parts)
    ∙ ap (λ (ls : List (List ℕ)). ls ++ ended (open_rest after ++ more)) (sym ends)
    ∙ ap (λ (b : List ℕ). ended bytes ++ ended (b ++ more)) (sym rests)

pub ended-append : (bytes more : List ℕ)
    → ended (bytes ++ more) ≡ ended bytes ++ ended (open_rest bytes ++ more)
ended-append bytes more = ended_further bytes more (parts_of newline bytes)

-- the rest of bytes that go on
rest_further : (bytes more : List ℕ) → Parts newline bytes
    → open_rest (bytes ++ more) ≡ open_rest (open_rest bytes ++ more)
rest_further _ more (last bytes lacks) =
    ap (λ (b : List ℕ). open_rest (b ++ more)) (sym (rest_none bytes lacks))
rest_further _ more (next bytes line after whole lacks parts) =
    let longer = ap (λ (b : List ℕ). b ++ more) whole ∙ append_assoc line (newline ∷ after) more in
    let rests = ap open_rest whole ∙ rest_at line after lacks in
    ap open_rest longer ∙ rest_at line (after ++ more) lacks
    ∙ rest_further after more parts
    ∙ ap (λ (b : List ℕ). open_rest (b ++ more)) (sym rests)

pub rest-append : (bytes more : List ℕ)
    → open_rest (bytes ++ more) ≡ open_rest (open_rest bytes ++ more)
rest-append bytes more = rest_further bytes more (parts_of newline bytes)
