-- Rows whose bytes lie one after another, and pages of rows.
use Rattle.std.proofs.Common.{◌≡◌, ℕ, ◌+◌, ◌-◌, ◌<◌, ◌≤◌, List, [], ◌∷◌, ◌++◌, length, take, drop}
use Rattle.std.proofs.Common.{get_or, zero, suc, refl, sym, ap, ◌∙◌, arith}
use Rattle.std.proofs.Math.Seq.{drop-append_seam, take-length}
use Rattle.std.proofs.lemmas.List.{drop-append-le, take-append-le, length-append, length-drop}
use Rattle.std.proofs.lemmas.List.{length-take, get_or_append_left, get_or_at}
use Rattle.std.proofs.lemmas.List.{get_or-append_right, get_or_read, get_or_past, append-nil}
use Rattle.std.proofs.lemmas.List.{nil_from_length}
use Rattle.std.proofs.lemmas.List.FromFn.{length-range_with_len, get_or-range_with_len}
use Rattle.std.specs.List.{slice_get, range_with_len}
use Rattle.std.specs.Option.{option_map_or}
use Rattle.dp_keeper.specs.Log.{row_at, rows_from, log_end, RiseTo}

-- ---- numbers

one-more : (n : ℕ) → n + 1 ≡ suc n
one-more n = omega (arith)

-- one number more follows the others
range-more : (first n : ℕ)
    → range_with_len first (suc n) ≡ range_with_len first n ++ (first + n) ∷ []
range-more first zero = ap (λ k. k ∷ []) (omega (arith))
range-more first (suc n) = ap (λ xs. first ∷ xs)
    (range-more (first + 1) n
    ∙ ap (λ k. range_with_len (first + 1) n ++ k ∷ []) (omega (arith)))

-- a number that follows the others is added by counting it
pub number-more : (first count n : ℕ) (others : List ℕ) → length others ≡ 0 → n ≡ first + count
    → range_with_len first (count + 1) ++ others
    ≡ (range_with_len first count ++ others) ++ n ∷ []
number-more first count n others none next =
    ap (λ xs. range_with_len first (count + 1) ++ xs) (nil_from_length others none)
    ∙ append-nil (range_with_len first (count + 1))
    ∙ ap (range_with_len first) (one-more count)
    ∙ range-more first count
    ∙ ap (λ k. range_with_len first count ++ k ∷ []) (sym next)
    ∙ ap (λ xs. xs ++ n ∷ []) (sym (append-nil (range_with_len first count)))
    ∙ ap (λ xs. (range_with_len first count ++ xs) ++ n ∷ []) (sym (nil_from_length others none))

pub number-within : (first count place : ℕ) (others : List ℕ) → place < count
    → first + place ≡ get_or (range_with_len first count ++ others) place 0
number-within first count place others within =
    sym (get_or_append_left (range_with_len first count) others 0 place
    (omega (arith, length-range_with_len first count, within))
    ∙ get_or-range_with_len first count place 0 within)

pub number-after : (first count place n : ℕ) (others slice : List ℕ) → slice ≡ others
    → count ≤ place → place - count < length slice → n ≡ get_or slice (place - count) n
    → n ≡ get_or (range_with_len first count ++ others) place 0
number-after first count place n others slice same past within is =
    get_or_read slice (place - count) n within is 0
    ∙ ap (λ xs. get_or xs (place - count) 0) same
    ∙ sym (get_or-append_right (range_with_len first count) others count place 0
    (length-range_with_len first count) past)

pub number-past : (first count place : ℕ) (others slice : List ℕ) → slice ≡ others
    → count ≤ place → length slice ≤ place - count
    → 0 ≡ get_or (range_with_len first count ++ others) place 0
number-past first count place others slice same past beyond =
    sym (get_or_past slice (place - count) 0 beyond)
    ∙ ap (λ xs. get_or xs (place - count) 0) same
    ∙ sym (get_or-append_right (range_with_len first count) others count place 0
    (length-range_with_len first count) past)

-- ---- a row more

-- the last place is no earlier than the first
rises : (last at : ℕ) (ends : List ℕ) → RiseTo last at ends → at ≤ last
rises last at [] r = omega (arith, r)
rises last at (end ∷ ends) r = omega (arith, r.0, rises last end ends r.1)

-- the bytes of a row stay if more come after them
row-stays : (bytes more : List ℕ) (at end : ℕ) → at ≤ end → end ≤ length bytes
    → take (end - at) (drop at (bytes ++ more)) ≡ take (end - at) (drop at bytes)
row-stays bytes more at end rise within =
    ap (take (end - at)) (drop-append-le at bytes more (omega (arith, rise, within)))
    ∙ take-append-le (end - at) (drop at bytes) more
    (omega (arith, length-drop at bytes, rise, within))

pub rows-more : (bytes more numbers : List ℕ) (index at n : ℕ) (ends : List ℕ)
    → RiseTo (length bytes) at ends → length numbers ≡ index + length ends
    → rows_from (bytes ++ more) (numbers ++ n ∷ []) index at (ends ++ length (bytes ++ more) ∷ [])
    ≡ rows_from bytes numbers index at ends ++ record { n = n; bytes = more } ∷ []
rows-more bytes more numbers index at n [] r same =
    ap (λ m. record {
      n = m;
      bytes = take (length (bytes ++ more) - at) (drop at (bytes ++ more));
    } ∷ []) (get_or_at numbers n [] 0 index (omega (arith, same)))
    ∙ ap (λ b. record { n = n; bytes = b } ∷ [])
    (ap (λ k. take (length (bytes ++ more) - k) (drop k (bytes ++ more))) r
    ∙ ap (take (length (bytes ++ more) - length bytes)) (drop-append_seam bytes more)
    ∙ ap (λ k. take k more) (omega (arith, length-append bytes more))
    ∙ take-length more)
rows-more bytes more numbers index at n (end ∷ ends) r same =
    ap (λ m. row_at (bytes ++ more) at end m
    ∷ rows_from (bytes ++ more) (numbers ++ n ∷ []) (index + 1) end
    (ends ++ length (bytes ++ more) ∷ []))
    (get_or_append_left numbers (n ∷ []) 0 index (omega (arith, same)))
    ∙ ap (λ b. record { n = get_or numbers index 0; bytes = b }
    ∷ rows_from (bytes ++ more) (numbers ++ n ∷ []) (index + 1) end
    (ends ++ length (bytes ++ more) ∷ []))
    (row-stays bytes more at end r.0 (rises (length bytes) end ends r.1))
    ∙ ap (λ rows. row_at bytes at end (get_or numbers index 0) ∷ rows)
    (rows-more bytes more numbers (index + 1) end n ends r.1 (omega (arith, same)))

pub rise-more : (old last at : ℕ) (ends : List ℕ) → RiseTo old at ends → old ≤ last
    → RiseTo last at (ends ++ last ∷ [])
rise-more old last at [] r grows = (omega (arith, r, grows), refl)
rise-more old last at (end ∷ ends) r grows = (r.0, rise-more old last end ends r.1 grows)

-- ---- rows from a place on

last-there : (end : ℕ) (ends : List ℕ) (a b : ℕ)
    → option_map_or (λ e. e) (slice_get (end ∷ ends) (length ends)) a
    ≡ option_map_or (λ e. e) (slice_get (end ∷ ends) (length ends)) b
last-there end [] a b = refl
last-there end (next ∷ ends) a b = last-there next ends a b

one-off : (n : ℕ) → suc n - 1 ≡ n
one-off n = omega (arith)

-- where the rows after a first one end
end-next : (at end : ℕ) (ends : List ℕ) → log_end at (end ∷ ends) ≡ log_end end ends
end-next at end [] = refl
end-next at end (next ∷ ends) =
    ap (λ k. option_map_or (λ e. e) (slice_get (end ∷ next ∷ ends) k) at)
    (one-off (suc (length ends)))
    ∙ last-there next ends at end
    ∙ ap (λ k. option_map_or (λ e. e) (slice_get (next ∷ ends) k) end)
    (sym (one-off (length ends)))

one-later : (index n : ℕ) → index + suc n ≡ index + 1 + n
one-later index n = omega (arith)

rows-after : (bytes numbers : List ℕ) (index at n : ℕ) (ends : List ℕ)
    → rows_from bytes numbers (index + n) (log_end at (take n ends)) (drop n ends)
    ≡ drop n (rows_from bytes numbers index at ends)
rows-after bytes numbers index at zero ends =
    ap (λ k. rows_from bytes numbers k at ends) (omega (arith))
rows-after bytes numbers index at (suc n) [] = refl
rows-after bytes numbers index at (suc n) (end ∷ ends) =
    ap (λ k. rows_from bytes numbers (index + suc n) k (drop n ends))
    (end-next at end (take n ends))
    ∙ ap (λ k. rows_from bytes numbers k (log_end end (take n ends)) (drop n ends))
    (one-later index n)
    ∙ rows-after bytes numbers (index + 1) end n ends

rows-first : (bytes numbers : List ℕ) (index at n : ℕ) (ends : List ℕ)
    → rows_from bytes numbers index at (take n ends)
    ≡ take n (rows_from bytes numbers index at ends)
rows-first bytes numbers index at zero ends = refl
rows-first bytes numbers index at (suc n) [] = refl
rows-first bytes numbers index at (suc n) (end ∷ ends) =
    ap (λ rows. row_at bytes at end (get_or numbers index 0) ∷ rows)
    (rows-first bytes numbers (index + 1) end n ends)

-- the rows from a place on, at most `most`
pub rows-cut : (bytes numbers : List ℕ) (from most : ℕ) (ends : List ℕ)
    → rows_from bytes numbers from (log_end 0 (take from ends)) (take most (drop from ends))
    ≡ take most (drop from (rows_from bytes numbers 0 0 ends))
rows-cut bytes numbers from most ends =
    rows-first bytes numbers from (log_end 0 (take from ends)) most (drop from ends)
    ∙ ap (λ k. take most
    (rows_from bytes numbers k (log_end 0 (take from ends)) (drop from ends))) (omega (arith))
    ∙ ap (take most) (rows-after bytes numbers 0 0 from ends)

-- ---- pages over two lists

none-left : (n : ℕ) → 0 ≡ 0 - n
none-left n = omega (arith)

all-left : (n : ℕ) → suc n ≡ suc n - 0
all-left n = omega (arith)

both-less : (n m : ℕ) → n - m ≡ suc n - suc m
both-less n m = omega (arith)

take-both : {X : Type 0} (n : ℕ) (xs ys : List X)
    → take n (xs ++ ys) ≡ take n xs ++ take (n - length xs) ys
take-both zero [] ys = refl
take-both zero (x ∷ xs) ys = ap (λ k. take k ys) (none-left (suc (length xs)))
take-both (suc n) [] ys = ap (λ k. take k ys) (all-left n)
take-both (suc n) (x ∷ xs) ys =
    ap (λ l. x ∷ l) (take-both n xs ys)
    ∙ ap (λ k. x ∷ (take n xs ++ take k ys)) (both-less n (length xs))

drop-both : {X : Type 0} (n : ℕ) (xs ys : List X)
    → drop n (xs ++ ys) ≡ drop n xs ++ drop (n - length xs) ys
drop-both zero [] ys = refl
drop-both zero (x ∷ xs) ys = ap (λ k. (x ∷ xs) ++ drop k ys) (none-left (suc (length xs)))
drop-both (suc n) [] ys = ap (λ k. drop k ys) (all-left n)
drop-both (suc n) (x ∷ xs) ys =
    drop-both n xs ys ∙ ap (λ k. drop n xs ++ drop k ys) (both-less n (length xs))

-- a page of both is one of the first, and what is left of it one of the second
pub page-both : {X : Type 0} (from most : ℕ) (xs ys : List X)
    → take most (drop from (xs ++ ys))
    ≡ take most (drop from xs)
    ++ take (most - length (take most (drop from xs))) (drop (from - length xs) ys)
page-both from most xs ys =
    ap (take most) (drop-both from xs ys)
    ∙ take-both most (drop from xs) (drop (from - length xs) ys)
    ∙ ap (λ k. take most (drop from xs) ++ take k (drop (from - length xs) ys))
    (omega (arith, length-take most (drop from xs)))
