-- A user's own answers in a history, and the sends that they answer.
use Rattle.std.proofs.Common.{◌≡◌, ◌⊎◌, ℕ, zero, suc, ◌+◌, ◌<◌, ◌≤◌, ◌==◌, Bool, true, false, ◌&&◌}
use Rattle.std.proofs.Common.{if◌then◌else◌, List, [], ◌∷◌, ◌++◌, length, take, drop, Some, refl}
use Rattle.std.proofs.Common.{sym, ap, ◌∙◌, arith, append_assoc}
use Rattle.std.specs.Prelude.{nat_lt}
use Rattle.std.specs.List.{slice_get, AllByRecursion}
use Rattle.std.proofs.lemmas.Bool.{lt-ltb, le-ltb, eq-eqb, ne_eqb}
use Rattle.std.proofs.Math.Bool.{and-false}
use Rattle.dp_messages.specs.declared.message.Msg.{Msg}
use Rattle.dp_messages.specs.declared.message.Entry.{Entry}
use Rattle.dp_messages.specs.Properties.{is_filtered}
use Rattle.dp_client.specs.Client.{may_answer}
use Rattle.dp_epochs.specs.State.{entry_of}

-- the answers of a user whose Join stands there, in a list of which the first is the entry of this
-- index
abbrev pub answers_from : ℕ → ℕ → ℕ → List Entry → List Msg
answers_from user at n [] = []
answers_from user at n (entry ∷ entries) =
    (if entry.user == user && may_answer entry.msg && nat_lt at n then entry.msg ∷ [] else [])
    ++ answers_from user at (n + 1) entries

-- no entry is an answer of the user's
abbrev pub NoAnswers : ℕ → List Entry → Type 0
NoAnswers user entries = AllByRecursion (λ entry. entry.user == user && may_answer entry.msg
    ≡ false) entries

pub answers-append : (user at n : ℕ) (xs ys : List Entry)
    → answers_from user at n (xs ++ ys) ≡ answers_from user at n xs
    ++ answers_from user at (n + length xs) ys
answers-append user at n [] ys = let e : n ≡ n + 0 = omega arith in ap
    (λ k. answers_from user at k ys) e
answers-append user at n (x ∷ xs) ys =
    let own : List Msg = if x.user == user && may_answer x.msg && nat_lt at n then x.msg ∷ []
    else [] in
    let e : n + 1 + length xs ≡ n + suc (length xs) = omega arith in
    ap (λ zs. own ++ zs) (answers-append user at (n + 1) xs ys)
    ∙ ap (λ k. own ++ (answers_from user at (n + 1) xs ++ answers_from user at k ys)) e
    ∙ sym (append_assoc own (answers_from user at (n + 1) xs)
    (answers_from user at (n + suc (length xs)) ys))

not_third : (a b c : Bool) → (a && b) ≡ false → (a && b && c) ≡ false
not_third true true c h = cc
not_third true false c h = refl
not_third false b c h = refl

third : (a b c : Bool) → (a && b) ≡ true → (a && b && c) ≡ c
third true true c h = refl
third true false c h = cc
third false b c h = cc

-- a test of three parts, of which the last fails
pub last_false : (a b c : Bool) → c ≡ false → (a && b && c) ≡ false
last_false true true c h = h
last_false true false c h = refl
last_false false b c h = refl

left_out : (b : Bool) (m : Msg) (ms : List Msg) → b ≡ false → (if b then m ∷ [] else []) ++ ms ≡ ms
left_out true m ms h = cc
left_out false m ms h = refl

pub answers-none : (user at n : ℕ) (xs : List Entry) → NoAnswers user xs
    → answers_from user at n xs ≡ []
answers-none user at n [] h = refl
answers-none user at n (x ∷ xs) h =
    left_out (x.user == user && may_answer x.msg && nat_lt at n) x.msg
    (answers_from user at (n + 1) xs)
    (not_third (x.user == user) (may_answer x.msg) (nat_lt at n) h.0)
    ∙ answers-none user at (n + 1) xs h.1

-- none stands up to the Join
pub answers-before : (user at n : ℕ) (xs : List Entry) → n + length xs ≤ at + 1
    → answers_from user at n xs ≡ []
answers-before user at n [] h = refl
answers-before user at n (x ∷ xs) h =
    left_out (x.user == user && may_answer x.msg && nat_lt at n) x.msg
    (answers_from user at (n + 1) xs)
    (last_false (x.user == user) (may_answer x.msg) (nat_lt at n) (le-ltb at n (omega arith)))
    ∙ answers-before user at (n + 1) xs (omega arith)

-- one entry after others
pub answers-push : (user at : ℕ) (xs : List Entry) (x : Entry) (b : Bool)
    → (x.user == user && may_answer x.msg && nat_lt at (length xs)) ≡ b
    → answers_from user at 0 (xs ++ x ∷ []) ≡ answers_from user at 0 xs
    ++ (if b then x.msg ∷ [] else [])
answers-push user at xs x b is =
    let e : 0 + length xs ≡ length xs = omega arith in
    answers-append user at 0 xs (x ∷ [])
    ∙ ap (λ n. answers_from user at 0 xs ++ answers_from user at n (x ∷ [])) e
    ∙ ap (λ c. answers_from user at 0 xs ++ ((if c then x.msg ∷ [] else []) ++ [])) is
    ∙ ap (λ ms. answers_from user at 0 xs ++ ms) (no_more b)
  where
    no_more : (c : Bool) → (if c then x.msg ∷ [] else []) ++ [] ≡ (if c then x.msg ∷ [] else [])
    no_more true = refl
    no_more false = refl

-- an answer among entries
pub answers-at : (user at : ℕ) (xs : List Entry) (x : Entry) (ys : List Entry)
    → (x.user == user && may_answer x.msg && nat_lt at (length xs)) ≡ true
    → answers_from user at 0 (xs ++ x ∷ ys) ≡ answers_from user at 0 xs ++ x.msg
    ∷ answers_from user at (length xs + 1) ys
answers-at user at xs x ys own =
    let e : 0 + length xs ≡ length xs = omega arith in
    answers-append user at 0 xs (x ∷ ys)
    ∙ ap (λ n. answers_from user at 0 xs ++ answers_from user at n (x ∷ ys)) e
    ∙ ap (λ c. answers_from user at 0 xs ++ ((if c then x.msg ∷ [] else [])
    ++ answers_from user at (length xs + 1) ys)) own

-- the user's own entry alone, which may answer, after the index
pub answers-one : (user at n : ℕ) (m : Msg) → may_answer m ≡ true → at < n
    → answers_from user at n (entry_of user m ∷ []) ≡ m ∷ []
answers-one user at n m may above =
    ap (λ b. (if b && may_answer m && nat_lt at n then m ∷ [] else []) ++ [])
    (eq-eqb user user refl)
    ∙ ap (λ b. (if true && b && nat_lt at n then m ∷ [] else []) ++ []) may
    ∙ ap (λ b. (if true && true && b then m ∷ [] else []) ++ []) (lt-ltb at n above)

-- entries that are none of the user's answers leave them
pub answers-same : (user at : ℕ) (xs ys : List Entry) → NoAnswers user ys
    → answers_from user at 0 (xs ++ ys) ≡ answers_from user at 0 xs
answers-same user at xs ys h =
    answers-append user at 0 xs ys
    ∙ ap (λ ms. answers_from user at 0 xs ++ ms) (answers-none user at (0 + length xs) ys h)
    ∙ no_more (answers_from user at 0 xs)
  where
    no_more : (ms : List Msg) → ms ++ [] ≡ ms
    no_more [] = refl
    no_more (m ∷ ms) = ap (λ ns. m ∷ ns) (no_more ms)

-- an entry of another user is none
pub none-other : (user : ℕ) (x : Entry) (xs : List Entry) → (x.user ≡ user → ⊥) → NoAnswers user xs
    → NoAnswers user (x ∷ xs)
none-other user x xs ne h = (ap (λ b. b && may_answer x.msg) (ne_eqb x.user user ne), h)

-- nor is one that can't answer
pub none-mute : (user : ℕ) (x : Entry) (xs : List Entry) → may_answer x.msg ≡ false
    → NoAnswers user xs → NoAnswers user (x ∷ xs)
none-mute user x xs mute h = (
  ap (λ b. x.user == user && b) mute
      ∙ and-false (x.user == user),
  h,
)

pub none-append : (user : ℕ) (xs ys : List Entry) → NoAnswers user xs → NoAnswers user ys
    → NoAnswers user (xs ++ ys)
none-append user [] ys hx hy = hy
none-append user (x ∷ xs) ys hx hy = (hx.0, none-append user xs ys hx.1 hy)

-- ---- what they answer

-- the message answers the send: it is the send, or stands in its place
abbrev pub AnswersTo : Msg → Msg → Type 0
AnswersTo m send = (is_filtered m ≡ true) ⊎ (m ≡ send)

-- each of the messages answers the send at its place
abbrev pub Answer : List Msg → List Msg → Type 0
Answer [] [] = Unit {0}
Answer [] (send ∷ sends) = ⊥
Answer (m ∷ ms) [] = ⊥
Answer (m ∷ ms) (send ∷ sends) = AnswersTo m send × Answer ms sends

pub answer-both : (ms sends more others : List Msg) → Answer ms sends → Answer more others
    → Answer (ms ++ more) (sends ++ others)
answer-both [] [] more others h k = k
answer-both [] (s ∷ sends) more others h k = absurd h
answer-both (n ∷ ms) [] more others h k = absurd h
answer-both (n ∷ ms) (s ∷ sends) more others h k =
    (h.0, answer-both ms sends more others h.1 k)

-- what answers nothing is nothing
pub answer-none : (ms : List Msg) → Answer ms [] → ms ≡ []
answer-none [] h = refl
answer-none (m ∷ ms) h = absurd h

-- the send that the next answer answers, and what was said after it
pub record FirstSend (forked : List Msg) (m : Msg) : Type 0 where
  pub send : Msg
  pub rest : List Msg
  pub is : forked ≡ send ∷ rest
  pub answers : AnswersTo m send

pub first-of : (before : List Msg) (m : Msg) (after sends waits : List Msg)
    → Answer (before ++ m ∷ after) sends
    → FirstSend (drop (length before) (sends ++ waits)) m
first-of [] m after [] waits h = absurd h
first-of [] m after (s ∷ sends) waits h = record {
  send = s;
  rest = sends
      ++ waits;
  is = refl;
  answers = h.0;
}
first-of (n ∷ before) m after [] waits h = absurd h
first-of (n ∷ before) m after (s ∷ sends) waits h = first-of before m after sends waits h.1

-- ---- lists

-- a list around its item of an index
pub split-at : {X : Type 0} (xs : List X) (k : ℕ) (x : X) → slice_get xs k ≡ Some x
    → xs ≡ take k xs ++ x ∷ drop (suc k) xs
split-at [] k x is = cc
split-at (y ∷ xs) zero x is = let same : y ≡ x = cc in ap (λ z. z ∷ xs) same
split-at (y ∷ xs) (suc k) x is = ap (λ zs. y ∷ zs) (split-at xs k x is)

-- if a list goes on after a front, that is longer than the front, and goes on after one more
pub drop-first : {X : Type 0} (n : ℕ) (xs : List X) (x : X) (rest : List X) → drop n xs ≡ x ∷ rest
    → (suc n ≤ length xs) × (drop (suc n) xs ≡ rest)
drop-first zero [] x rest is = cc
drop-first zero (y ∷ xs) x rest is = (omega arith, cc)
drop-first (suc n) [] x rest is = cc
drop-first (suc n) (y ∷ xs) x rest is = let h = drop-first n xs x rest is in
    (omega (arith, h.0), h.1)
