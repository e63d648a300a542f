-- Rows whose places are changed one after the other.
use Rattle.std.proofs.Common.{◌≡◌, ℕ, ◌+◌, ◌<◌, ◌≤◌, ◌≢◌, List, [], ◌∷◌, ◌++◌, length, get_or, set}
use Rattle.std.proofs.Common.{take, drop, suc, zero, refl, sym, ap, ◌∙◌, arith, add-one, get_or-set_other}
use Rattle.std.proofs.lemmas.List.{take_all, take-append-drop}
use Rattle.dp_blend.specs.Color.{Channels, clear, fade}
use Rattle.dp_blend.specs.Blending.{blend, masked, row_blended, row_filled, row_merged}
use Rattle.dp_blend.specs.declared.modes.Mode.{Mode}
use borrow.Rule.Slice.PartMut.{mid_of, put_mid}

-- the row after f of each x and of the pixel at its place; past their end the row stays
abbrev pub changed : {X : Type 0} → (X → Channels → Channels) → List X → List Channels
    → List Channels
changed f [] row = row
changed f (x ∷ xs) [] = []
changed f (x ∷ xs) (d ∷ row) = f x d ∷ changed f xs row

-- with one more x, one more place of the row is changed
changed-take-suc : {X : Type 0} (f : X → Channels → Channels) (xs : List X) (row : List Channels)
    (k : ℕ) (x : X) (d : Channels)
    → k < length xs → k < length row
    → changed f (take (suc k) xs) row ≡ set (changed f (take k xs) row) k
    (f (get_or xs k x) (get_or (changed f (take k xs) row) k d))
changed-take-suc f [] row k x d h i = absurd (omega arith)
changed-take-suc f (y ∷ ys) [] k x d h i = absurd (omega arith)
changed-take-suc f (y ∷ ys) (e ∷ es) zero x d h i = refl
changed-take-suc f (y ∷ ys) (e ∷ es) (suc k) x d h i =
    ap (λ rest. f y e ∷ rest) (changed-take-suc f ys es k x d (omega arith) (omega arith))

-- a row that is changed up to k is changed to one more if e is written there
pub changed-more : {X : Type 0} (f : X → Channels → Channels) (xs : List X)
    (row now : List Channels) (k : ℕ) (x : X) (d e : Channels)
    → k < length xs → k < length row → now ≡ changed f (take k xs) row
    → e ≡ f (get_or xs k x) (get_or now k d)
    → set now k e ≡ changed f (take (k + 1) xs) row
changed-more f xs row now k x d e h i before written =
    let step = changed-take-suc f xs row k x d h i in
    rw (written, add-one) (sym (rw (← before) at step))

-- and of two places, which were read before the first was written
pub changed-two : {X : Type 0} (f : X → Channels → Channels) (xs : List X) (row now : List Channels)
    (k n : ℕ) (x y : X) (d b e c : Channels)
    → k + 1 < length xs → k + 1 < length row → n ≡ k + 2 → now ≡ changed f (take k xs) row
    → e ≡ f (get_or xs k x) (get_or now k d) → c ≡ f (get_or xs (k + 1) y) (get_or now (k + 1) b)
    → set (set now k e) (k + 1) c ≡ changed f (take n xs) row
changed-two f xs row now k n x y d b e c h i two before first second =
    let one = changed-more f xs row now k x d e (omega arith) (omega arith) before first in
    let other : k + 1 ≢ k = omega arith in
    let kept : get_or (set now k e) (k + 1) b ≡ get_or now (k + 1) b = rw get_or-set_other refl in
    let both = changed-more f xs row (set now k e) (k + 1) y b c h i one
    (second ∙ ap (f (get_or xs (k + 1) y)) (sym kept)) in
    both ∙ ap (λ m. changed f (take m xs) row) (omega arith)

-- a row in which both were written is changed to two more
pub changed-next : {X : Type 0} (f : X → Channels → Channels) (xs : List X) (y : X)
    (row now written : List Channels) (k n : ℕ)
    → k + 1 < length xs → k + 1 < length row → n ≡ k + 2 → now ≡ changed f (take k xs) row
    → written ≡ set (set now k (f (get_or xs k y) (get_or now k clear))) (k + 1)
    (f (get_or xs (k + 1) y) (get_or now (k + 1) clear))
    → written ≡ changed f (take n xs) row
changed-next f xs y row now written k n h i two before is =
    is ∙ changed-two f xs row now k n y y clear clear _ _ h i two before refl refl

-- with all of xs, the whole row is changed
pub changed-all : {X : Type 0} (f : X → Channels → Channels) (xs : List X) (row now : List Channels)
    (k : ℕ)
    → length xs ≤ k → now ≡ changed f (take k xs) row → now ≡ changed f xs row
changed-all f xs row now k h before = before ∙ ap (λ ys. changed f ys row) (take_all k xs h)

-- and so it is once the last place is written
pub changed-last : {X : Type 0} (f : X → Channels → Channels) (xs : List X)
    (row now : List Channels) (k n : ℕ) (x : X) (d e : Channels)
    → length xs ≡ n + 1 → length row ≡ n + 1 → k ≡ n → now ≡ changed f (take k xs) row
    → e ≡ f (get_or xs n x) (get_or now n d) → set now n e ≡ changed f xs row
changed-last f xs row now k n x d e h i same before written =
    let till = before ∙ ap (λ m. changed f (take m xs) row) same in
    changed-all f xs row (set now n e) (n + 1) (omega arith)
    (changed-more f xs row now n x d e (omega arith) (omega arith) till written)

-- the first places of a row are changed as in the whole
changed-front : {X : Type 0} (f : X → Channels → Channels) (n : ℕ) (xs : List X)
    (row : List Channels)
    → changed f (take n xs) (take n row) ++ drop n row ≡ changed f (take n xs) row
changed-front f zero xs row = refl
changed-front f (suc n) [] row = take-append-drop (suc n) row
changed-front f (suc n) (x ∷ xs) [] = refl
changed-front f (suc n) (x ∷ xs) (d ∷ row) = ap (λ rest. f x d ∷ rest) (changed-front f n xs row)

-- a part is changed as in the whole
changed-part : {X : Type 0} (f : X → Channels → Channels) (a n : ℕ) (xs : List X)
    (row : List Channels)
    → a ≤ length xs → a ≤ length row
    → put_mid a n (changed f (take a xs) row)
    (changed f (mid_of a n xs) (mid_of a n (changed f (take a xs) row)))
    ≡ changed f (take (a + n) xs) row
changed-part f zero n xs row h i =
    let e : 0 + n ≡ n = omega arith in
    rw e (changed-front f n xs row)
changed-part f (suc a) n [] row h i = absurd (omega arith)
changed-part f (suc a) n (x ∷ xs) [] h i = absurd (omega arith)
changed-part f (suc a) n (x ∷ xs) (d ∷ row) h i =
    let e : suc a + n ≡ suc (a + n) = omega arith in
    rw e (ap (λ rest. f x d ∷ rest) (changed-part f a n xs row (omega arith) (omega arith)))

-- a row that is changed up to a is changed to m if the part between is changed
changed-stretch : {X : Type 0} (f : X → Channels → Channels) (xs : List X)
    (row now part : List Channels) (a n m : ℕ)
    → a ≤ length xs → a ≤ length row → m ≡ a + n → now ≡ changed f (take a xs) row
    → part ≡ changed f (mid_of a n xs) (mid_of a n now)
    → put_mid a n now part ≡ changed f (take m xs) row
changed-stretch f xs row now part a n m h i more before made =
    rw (made, before, more) (changed-part f a n xs row h i)

-- at each place stands what f gives there
pub get_or-changed : {X : Type 0} (f : X → Channels → Channels) (xs : List X) (row : List Channels)
    (k : ℕ) (x : X) (d : Channels)
    → k < length xs → k < length row → get_or (changed f xs row) k d
    ≡ f (get_or xs k x) (get_or row k d)
get_or-changed f [] row k x d h i = absurd (omega arith)
get_or-changed f (y ∷ ys) [] k x d h i = absurd (omega arith)
get_or-changed f (y ∷ ys) (e ∷ es) zero x d h i = refl
get_or-changed f (y ∷ ys) (e ∷ es) (suc k) x d h i = get_or-changed f ys es k x d (omega arith)
    (omega arith)

-- the rows that the calls leave
pub row_blended-is : (mode : Mode) (src : Channels) (mask : List ℕ) (row : List Channels)
    → row_blended mode src mask row ≡ changed (masked mode src) mask row
row_blended-is mode src [] row = refl
row_blended-is mode src (m ∷ ms) [] = refl
row_blended-is mode src (m ∷ ms) (d ∷ row) = ap (λ rest. masked mode src m d ∷ rest)
    (row_blended-is mode src ms row)

pub row_blended-places : (mode : Mode) (src : Channels) (mask : List ℕ) (row now : List Channels)
    → now ≡ row_blended mode src mask row
    → length mask ≡ length row → (k : ℕ) (d : Channels) → k < length row
    → get_or now k d ≡ masked mode src (get_or mask k 0) (get_or row k d)
row_blended-places mode src mask row now is same k d h =
    rw (is, row_blended-is) (get_or-changed (masked mode src) mask row k 0 d (omega arith) h)

pub row_filled-is : (mode : Mode) (src : Channels) (row : List Channels)
    → row_filled mode src row ≡ changed (λ _ d. blend mode src d) row row
row_filled-is mode src [] = refl
row_filled-is mode src (d ∷ row) = ap (λ rest. blend mode src d ∷ rest) (row_filled-is mode src row)

pub row_merged-is : (mode : Mode) (by : ℕ) (sources row : List Channels)
    → row_merged mode by sources row ≡ changed (λ s d. blend mode (fade s by) d) sources row
row_merged-is mode by [] row = refl
row_merged-is mode by (s ∷ sources) [] = refl
row_merged-is mode by (s ∷ sources) (d ∷ row) = ap (λ rest. blend mode (fade s by) d ∷ rest)
    (row_merged-is mode by sources row)

pub row_merged-places : (mode : Mode) (by : ℕ) (sources row now : List Channels)
    → now ≡ row_merged mode by sources row
    → length sources ≡ length row → (k : ℕ) (s d : Channels) → k < length row
    → get_or now k d ≡ blend mode (fade (get_or sources k s) by) (get_or row k d)
row_merged-places mode by sources row now is same k s d h =
    rw (is, row_merged-is) (get_or-changed (λ s d. blend mode (fade s by) d) sources row k s d
    (omega arith) h)

-- a row that is merged up to a is merged to m if the part between is merged
pub merged-stretch : (mode : Mode) (by : ℕ) (xs row now part : List Channels) (a n m : ℕ)
    → a ≤ length xs → a ≤ length row → m ≡ a + n
    → now ≡ changed (λ s d. blend mode (fade s by) d) (take a xs) row
    → part ≡ row_merged mode by (mid_of a n xs) (mid_of a n now)
    → put_mid a n now part ≡ changed (λ s d. blend mode (fade s by) d) (take m xs) row
merged-stretch mode by xs row now part a n m h i more before made =
    changed-stretch (λ s d. blend mode (fade s by) d) xs row now part a n m h i more before
    (made ∙ row_merged-is mode by (mid_of a n xs) (mid_of a n now))

-- two parts of a row are merged like the whole
pub row_merged-append : (mode : Mode) (by : ℕ) (xs ys a b : List Channels) → length xs ≡ length a
    → row_merged mode by xs a ++ row_merged mode by ys b ≡ row_merged mode by (xs ++ ys) (a ++ b)
row_merged-append mode by [] ys [] b same = refl
row_merged-append mode by [] ys (d ∷ a) b same = absurd (omega arith)
row_merged-append mode by (s ∷ xs) ys [] b same = absurd (omega arith)
row_merged-append mode by (s ∷ xs) ys (d ∷ a) b same =
    ap (λ rest. blend mode (fade s by) d ∷ rest)
    (row_merged-append mode by xs ys a b (omega arith))
