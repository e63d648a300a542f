-- A part of a list that is written.
use Rattle.std.proofs.Common.{◌≡◌, ℕ, ◌+◌, ◌-◌, ◌<◌, ◌≤◌, List, ◌++◌, length, get_or, take, drop}
use Rattle.std.proofs.Common.{◌∙◌, ap, arith}
use Rattle.std.proofs.lemmas.List.{get_or_append_left, get_or-append_right, get_or-take}
use Rattle.std.proofs.lemmas.List.{get_or-drop, length-take-le}
use borrow.Rule.Slice.PartMut.{post_of, put_mid}

-- a place before the part
pub part_below : {X : Type 0} (a k i : ℕ) (xs ys : List X) (d : X) → i < a → a ≤ length xs
    → get_or (put_mid a k xs ys) i d ≡ get_or xs i d
part_below a k i xs ys d below fits =
    get_or_append_left (take a xs) (ys ++ post_of a k xs) d i
    (omega (arith, length-take-le a xs fits)) ∙ get_or-take a xs i d below

-- a place of the part
pub part_within : {X : Type 0} (a k i j : ℕ) (xs ys : List X) (d : X) → i ≡ a + j → j < length ys
    → a ≤ length xs → get_or (put_mid a k xs ys) i d ≡ get_or ys j d
part_within a k i j xs ys d place within fits =
    let past = get_or-append_right (take a xs) (ys ++ post_of a k xs) a i d
    (length-take-le a xs fits) (omega arith) in
    let index : i - a ≡ j = omega arith in
    rw index at past ∙ get_or_append_left ys (post_of a k xs) d j within

-- a place after the part
pub part_above : {X : Type 0} (a k i : ℕ) (xs ys : List X) (d : X) → a + k ≤ i → length ys ≡ k
    → a ≤ length xs → get_or (put_mid a k xs ys) i d ≡ get_or xs i d
part_above a k i xs ys d above len fits =
    let past = get_or-append_right (take a xs) (ys ++ post_of a k xs) a i d
    (length-take-le a xs fits) (omega arith) in
    let rest = get_or-append_right ys (post_of a k xs) k (i - a) d len (omega arith) in
    let index : a + (k + (i - a - k)) ≡ i = omega arith in
    past ∙ (rest ∙ (get_or-drop k (drop a xs) (i - a - k) d
    ∙ (get_or-drop a xs (k + (i - a - k)) d ∙ ap (λ n. get_or xs n d) index)))
