-- A Pull at the end of a feed goes on with it, or says that it has ended.
use Rattle.std.proofs.Common.{◌≡◌, ℕ, suc, ◌+◌, ◌<◌, ◌≤◌, ◌==◌, ◌||◌, Bool, true, false, max}
use Rattle.std.proofs.Common.{if◌then◌else◌, List, [], ◌∷◌, ◌++◌, length, take, drop, Some, refl}
use Rattle.std.proofs.Common.{sym, ap, subst, ◌∙◌, ⊎_elim, inl, inr, arith, append_assoc}
use Rattle.std.proofs.Common.{append-nil, length-append}
use Rattle.std.specs.Prelude.{nat_lt, Contains}
use Rattle.std.specs.List.{AllByRecursion, list_any}
use Rattle.std.proofs.Math.Seq.{take-add, take-append_seam}
use Rattle.std.proofs.lemmas.Bool.{eqb-true, eqb-false, ltb-true, cases_Bool}
use Rattle.std.proofs.lemmas.List.{take-append-drop, length-take}
use mathlib.Core.List.{IsPrefix}
use Rattle.dp_messages.specs.declared.message.Entry.{Entry}
use Rattle.dp_epochs.specs.declared.connection.Place.{Place}
use Rattle.dp_epochs.specs.declared.connection.Ending.{Ending}
use Rattle.dp_epochs.specs.declared.connection.Ending.TheVariants as ending
use Rattle.dp_epochs.specs.declared.connection.Connection.{Connection}
use Rattle.dp_epochs.specs.declared.event.Query.TheVariants.{Pull}
use Rattle.dp_epochs.specs.declared.event.Answer.{Answer}
use Rattle.dp_epochs.specs.declared.event.Answer.TheVariants.{Entries, Gone}
use Rattle.dp_epochs.specs.State.{State, epoch_of, history_of, connection_of}
use Rattle.dp_epochs.specs.Past.{Past, state_of}
use Rattle.dp_epochs.specs.Pull.{page, pulled_from, pulled_by_left, pulled_by_open, pulled_by}
use Rattle.dp_epochs.specs.Pull.{pulled_where, answered}
use Rattle.dp_session_laws.specs.Feeds.{Segment, IsSegment, IsWithin, RisesAbove, RisesFrom, IsFeed}
use Rattle.dp_session_laws.specs.Feeds.{feed_entries, PullsOn, EndsWith, EndsWhere, IsGone}
use Rattle.dp_session_laws.proofs.Growth.{prefix-same, prefix-then, prefix-length, live-history}

-- ---- lists

take_prefix : {X : Type 0} (n : ℕ) (xs : List X) → IsPrefix (take n xs) xs
take_prefix n xs = (drop n xs, take-append-drop n xs)

prefix-is_take : {X : Type 0} (xs ys : List X) → IsPrefix xs ys → take (length xs) ys ≡ xs
prefix-is_take xs ys p = ap (take (length xs)) (sym p.1) ∙ take-append_seam xs p.0

-- a prefix with a page after it
prefix-page : {X : Type 0} (xs ys : List X) (m : ℕ) → IsPrefix xs ys
    → IsPrefix (xs ++ take m (drop (length xs) ys)) ys
prefix-page xs ys m p =
    subst (λ l. IsPrefix l ys)
    (take-add (length xs) m ys
    ∙ ap (λ l. l ++ take m (drop (length xs) ys)) (prefix-is_take xs ys p))
    (take_prefix (length xs + m) ys)

-- of two prefixes the shorter one is a prefix of the other
prefix-shorter : {X : Type 0} (xs ys zs : List X) → IsPrefix xs zs → IsPrefix ys zs
    → length xs ≤ length ys → IsPrefix xs ys
prefix-shorter [] ys zs p q le = (ys, refl)
prefix-shorter (x ∷ xs) [] zs p q le = absurd (omega arith)
prefix-shorter (x ∷ xs) (y ∷ ys) [] p q le =
    let no : x ∷ (xs ++ p.0) ≡ [] = p.1 in cc
prefix-shorter (x ∷ xs) (y ∷ ys) (z ∷ zs) p q le =
    let rest = prefix-shorter xs ys zs (p.0, cc (p.1)) (q.0, cc (q.1)) (omega arith) in
    let same : x ≡ y = cc (p.1, q.1) in
    (rest.0, ap (λ l. x ∷ l) rest.1 ∙ ap (λ w. w ∷ ys) same)

all-changed : {X : Type 0} (P : X → Type 0) (xs : List X) (y z : X)
    → AllByRecursion P (xs ++ y ∷ []) → P z → AllByRecursion P (xs ++ z ∷ [])
all-changed P [] y z all p = (p, tt)
all-changed P (x ∷ xs) y z all p = (all.0, all-changed P xs y z all.1 p)

all-pushed : {X : Type 0} (P : X → Type 0) (xs : List X) (z : X)
    → AllByRecursion P xs → P z → AllByRecursion P (xs ++ z ∷ [])
all-pushed P [] z all p = (p, tt)
all-pushed P (x ∷ xs) z all p = (all.0, all-pushed P xs z all.1 p)

all-last : {X : Type 0} (P : X → Type 0) (xs : List X) (y : X)
    → AllByRecursion P (xs ++ y ∷ []) → P y
all-last P [] y all = all.0
all-last P (x ∷ xs) y all = all-last P xs y all.1

any-rest : (x : ℕ) (xs : List ℕ) (n : ℕ) → x == n ≡ false
    → list_any (λ other. other == n) (x ∷ xs) ≡ true
    → list_any (λ other. other == n) xs ≡ true
any-rest x xs n e is = sym (ap (λ b. b || list_any (λ other. other == n) xs) e) ∙ is

any-first : (x : ℕ) (xs : List ℕ) (n : ℕ) → list_any (λ other. other == n) (x ∷ xs) ≡ true
    → (list_any (λ other. other == n) xs ≡ true → Contains xs n) → Contains (x ∷ xs) n
any-first x xs n is more =
    ⊎_elim (λ (e : x == n ≡ true). (0, omega arith, eqb-true x n e))
    (λ (e : x == n ≡ false).
    let found = more (any-rest x xs n e is) in
    (suc found.0, omega (arith, found.1), found.2))
    (cases_Bool (x == n))

pub any-contains : (xs : List ℕ) (n : ℕ) → list_any (λ other. other == n) xs ≡ true
    → Contains xs n
any-contains [] n is = cc
any-contains (x ∷ xs) n is = any-first x xs n is (any-contains xs n)

-- ---- segments

rises-changed : (epoch : ℕ) (xs : List Segment) (y z : Segment) → z.epoch ≡ y.epoch
    → RisesAbove epoch (xs ++ y ∷ []) → RisesAbove epoch (xs ++ z ∷ [])
rises-changed epoch [] y z same rises = (omega (arith, rises.0, same), tt)
rises-changed epoch (x ∷ xs) y z same rises =
    (rises.0, rises-changed x.epoch xs y z same rises.1)

starts-changed : (epoch : ℕ) (xs : List Segment) (y z : Segment) → z.epoch ≡ y.epoch
    → RisesFrom epoch (xs ++ y ∷ []) → RisesFrom epoch (xs ++ z ∷ [])
starts-changed epoch [] y z same rises = (same ∙ rises.0, tt)
starts-changed epoch (x ∷ xs) y z same rises =
    (rises.0, rises-changed x.epoch xs y z same rises.1)

rises-pushed : (epoch : ℕ) (xs : List Segment) (y z : Segment) → y.epoch < z.epoch
    → RisesAbove epoch (xs ++ y ∷ []) → RisesAbove epoch ((xs ++ y ∷ []) ++ z ∷ [])
rises-pushed epoch [] y z above rises = (rises.0, (above, tt))
rises-pushed epoch (x ∷ xs) y z above rises =
    (rises.0, rises-pushed x.epoch xs y z above rises.1)

starts-pushed : (epoch : ℕ) (xs : List Segment) (y z : Segment) → y.epoch < z.epoch
    → RisesFrom epoch (xs ++ y ∷ []) → RisesFrom epoch ((xs ++ y ∷ []) ++ z ∷ [])
starts-pushed epoch [] y z above rises = (rises.0, (above, tt))
starts-pushed epoch (x ∷ xs) y z above rises =
    (rises.0, rises-pushed x.epoch xs y z above rises.1)

entries-changed : (xs : List Segment) (y : Segment) (list : List Entry)
    → feed_entries (xs ++ record { epoch = y.epoch; entries = y.entries ++ list } ∷ [])
    ≡ feed_entries (xs ++ y ∷ []) ++ list
entries-changed [] y list =
    append-nil (y.entries ++ list) ∙ ap (λ l. l ++ list) (sym (append-nil y.entries))
entries-changed (x ∷ xs) y list =
    ap (λ l. x.entries ++ l) (entries-changed xs y list)
    ∙ sym (append_assoc x.entries (feed_entries (xs ++ y ∷ [])) list)

entries-pushed : (xs : List Segment) (z : Segment)
    → feed_entries (xs ++ z ∷ []) ≡ feed_entries xs ++ z.entries
entries-pushed [] z = append-nil z.entries
entries-pushed (x ∷ xs) z =
    ap (λ l. x.entries ++ l) (entries-pushed xs z)
    ∙ sym (append_assoc x.entries (feed_entries xs) z.entries)

-- ---- entries of a history

-- a connection may get the prefixes of this part of the live history
record Offers (s : State) (e : Ending) (last : Segment) (history : List Entry) : Type 0 where
  pub part : IsPrefix history s.live
  pub within : (xs : List Entry) → IsPrefix xs history
      → IsWithin e (record { epoch = epoch_of s; entries = xs })
  pub so_far : last.epoch ≡ epoch_of s → IsPrefix last.entries history

live-segment : (s : State) (xs : List Entry) → IsPrefix xs s.live
    → IsSegment s (record { epoch = epoch_of s; entries = xs })
live-segment s xs p = (omega arith, subst (IsPrefix xs) (sym (live-history s)) p)

same-epoch : (s : State) (conn : ℕ) (earlier : List Segment) (last : Segment) (most : ℕ)
    (history : List Entry) → (feed : IsFeed s conn (earlier ++ last ∷ []))
    → Offers s feed.connection.ending last history → last.epoch ≡ epoch_of s
    → PullsOn s conn earlier last last.epoch (length last.entries)
    (page (length last.entries) most history)
same-epoch s conn earlier last most history feed offers same =
    let list = page (length last.entries) most history in
    let so_far = offers.so_far same in
    let more : IsPrefix (last.entries ++ list) history =
    prefix-page last.entries history (max 1 most) so_far in
    let next : Segment = record { epoch = last.epoch; entries = last.entries ++ list } in
    record {
      before = earlier;
      next = next;
      feed = record {
        connection = feed.connection;
        is = feed.is;
        rises =
            starts-changed feed.connection.joined.epoch earlier last next refl feed.rises;
        each =
            all-changed (IsSegment s) earlier last next feed.each
            (subst (λ k. IsSegment s (record { epoch = k; entries = last.entries ++ list }))
            (sym same)
            (live-segment s (last.entries ++ list)
            (prefix-then (last.entries ++ list) history s.live more offers.part)));
        within =
            all-changed (IsWithin feed.connection.ending) earlier last next feed.within
            (subst (λ k. IsWithin feed.connection.ending
            (record { epoch = k; entries = last.entries ++ list }))
            (sym same) (offers.within (last.entries ++ list) more));
      };
      epoch_is = refl;
      count = length-append last.entries list;
      entries = entries-changed earlier last list;
    }

new-epoch : (s : State) (conn : ℕ) (earlier : List Segment) (last : Segment) (most : ℕ)
    (history : List Entry) → (feed : IsFeed s conn (earlier ++ last ∷ []))
    → Offers s feed.connection.ending last history → ¬ (last.epoch ≡ epoch_of s)
    → PullsOn s conn earlier last (epoch_of s) 0 (page 0 most history)
new-epoch s conn earlier last most history feed offers other =
    let list = page 0 most history in
    let next : Segment = record { epoch = epoch_of s; entries = list } in
    let first : IsPrefix list history = take_prefix (max 1 most) history in
    let below : last.epoch < epoch_of s =
    omega (arith, other, (all-last (IsSegment s) earlier last feed.each).0) in
    record {
      before = earlier ++ last ∷ [];
      next = next;
      feed = record {
        connection = feed.connection;
        is = feed.is;
        rises =
            starts-pushed feed.connection.joined.epoch earlier last next below feed.rises;
        each =
            all-pushed (IsSegment s) (earlier ++ last ∷ []) next feed.each
            (live-segment s list (prefix-then list history s.live first offers.part));
        within =
            all-pushed (IsWithin feed.connection.ending) (earlier ++ last ∷ []) next
            feed.within (offers.within list first);
      };
      epoch_is = refl;
      count = omega arith;
      entries = entries-pushed (earlier ++ last ∷ []) next;
    }

at-answer : (s : State) (conn : ℕ) (earlier : List Segment) (last : Segment)
    (e a f b : ℕ) (list more : List Entry) → Entries e a list ≡ Entries f b more
    → PullsOn s conn earlier last e a list → PullsOn s conn earlier last f b more
at-answer s conn earlier last e a f b list more same h =
    let epochs : e ≡ f = cc in
    let places : a ≡ b = cc in
    let lists : list ≡ more = cc in
    subst (λ l. PullsOn s conn earlier last f b l) lists
    (subst (λ k. PullsOn s conn earlier last f k list) places
    (subst (λ k. PullsOn s conn earlier last k a list) epochs h))

from-history : (s : State) (conn : ℕ) (earlier : List Segment) (last : Segment) (most : ℕ)
    (history : List Entry) (e a : ℕ) (list : List Entry)
    → (feed : IsFeed s conn (earlier ++ last ∷ []))
    → Offers s feed.connection.ending last history
    → pulled_from s last.epoch (length last.entries) most history ≡ Entries e a list
    → PullsOn s conn earlier last e a list
from-history s conn earlier last most history e a list feed offers is =
    by_epoch (last.epoch == epoch_of s) refl is
  where
    by_epoch : (b : Bool) → last.epoch == epoch_of s ≡ b
        → (if b then Entries last.epoch (length last.entries)
        (page (length last.entries) most history)
        else Entries (epoch_of s) 0 (page 0 most history)) ≡ Entries e a list
        → PullsOn s conn earlier last e a list
    by_epoch true same is =
        at-answer s conn earlier last last.epoch (length last.entries) e a
        (page (length last.entries) most history) list is
        (same-epoch s conn earlier last most history feed offers
        (eqb-true last.epoch (epoch_of s) same))
    by_epoch false apart is =
        at-answer s conn earlier last (epoch_of s) 0 e a (page 0 most history) list is
        (new-epoch s conn earlier last most history feed offers
        (eqb-false last.epoch (epoch_of s) apart))

-- it is never Gone
never-gone : (s : State) (epoch at most : ℕ) (history : List Entry)
    → pulled_from s epoch at most history ≡ Gone → ⊥
never-gone s epoch at most history is = by_epoch (epoch == epoch_of s) is
  where
    by_epoch : (b : Bool) → (if b then Entries epoch at (page at most history)
        else Entries (epoch_of s) 0 (page 0 most history)) ≡ Gone → ⊥
    by_epoch true is = cc
    by_epoch false is = cc

-- ---- what is offered

live-so_far : (s : State) (last : Segment) → IsSegment s last → last.epoch ≡ epoch_of s
    → IsPrefix last.entries s.live
live-so_far s last is same =
    subst (IsPrefix last.entries) (live-history s)
    (subst (λ k. IsPrefix last.entries (history_of s k)) same is.1)

live-offers : (s : State) (last : Segment) → IsSegment s last
    → Offers s ending.Running last s.live
live-offers s last is = record {
  part = prefix-same s.live;
  within = λ xs p. tt;
  so_far = live-so_far s last is;
}

left-offers : (s : State) (place : Place) (last : Segment) → IsSegment s last
    → IsWithin (ending.Left place) last → place.epoch ≡ epoch_of s
    → Offers s (ending.Left place) last (take (place.index + 1) s.live)
left-offers s place last is within here = record {
  part = take_prefix (place.index + 1) s.live;
  within =
      λ xs p.
      inr (
        sym here,
        omega (
          arith,
          prefix-length xs (take (place.index + 1) s.live) p,
          length-take (place.index + 1) s.live,
        ),
      );
  so_far =
      λ same.
      let live = live-so_far s last is same in
      let short : length last.entries ≤ place.index + 1 = not-past within same in
      prefix-shorter last.entries (take (place.index + 1) s.live) s.live live
      (take_prefix (place.index + 1) s.live)
      (omega (
        arith,
        short,
        prefix-length last.entries s.live live,
        length-take (place.index + 1) s.live,
      ));
}
  where
    not-past : IsWithin (ending.Left place) last → last.epoch ≡ epoch_of s
        → length last.entries ≤ place.index + 1
    not-past (inl later) same = absurd (omega (arith, later, same, here))
    not-past (inr (e, short)) same = short

-- ---- the answers

open-pulls : (s : State) (quiet : List ℕ) (conn : ℕ) (earlier : List Segment) (last : Segment)
    (most e a : ℕ) (list : List Entry) → (feed : IsFeed s conn (earlier ++ last ∷ []))
    → feed.connection.ending ≡ ending.Running
    → pulled_by_open s quiet conn last.epoch (length last.entries) most ≡ Entries e a list
    → PullsOn s conn earlier last e a list
open-pulls s quiet conn earlier last most e a list feed how is =
    by_quiet (list_any (λ other. other == conn) quiet) is
  where
    by_quiet : (b : Bool) → (if b then Gone
        else pulled_from s last.epoch (length last.entries) most s.live) ≡ Entries e a list
        → PullsOn s conn earlier last e a list
    by_quiet true is = cc
    by_quiet false is =
        from-history s conn earlier last most s.live e a list feed
        (subst (λ (k : Ending). Offers s k last s.live) (sym how)
        (live-offers s last (all-last (IsSegment s) earlier last feed.each))) is

left-pulls : (s : State) (place : Place) (conn : ℕ) (earlier : List Segment) (last : Segment)
    (most e a : ℕ) (list : List Entry) → (feed : IsFeed s conn (earlier ++ last ∷ []))
    → feed.connection.ending ≡ ending.Left place
    → pulled_by_left s last.epoch (length last.entries) most place ≡ Entries e a list
    → PullsOn s conn earlier last e a list
left-pulls s place conn earlier last most e a list feed how is =
    by_place (place.epoch == epoch_of s) refl is
  where
    part : List Entry
    part = take (place.index + 1) s.live

    from : place.epoch ≡ epoch_of s
        → pulled_from s last.epoch (length last.entries) most part ≡ Entries e a list
        → PullsOn s conn earlier last e a list
    from here is =
        from-history s conn earlier last most part e a list feed
        (subst (λ (k : Ending). Offers s k last part) (sym how)
        (left-offers s place last (all-last (IsSegment s) earlier last feed.each)
        (subst (λ (k : Ending). IsWithin k last) how
        (all-last (IsWithin feed.connection.ending) earlier last feed.within)) here)) is

    by_past : (b : Bool) → place.epoch ≡ epoch_of s
        → (if b then Gone else pulled_from s last.epoch (length last.entries) most part)
        ≡ Entries e a list
        → PullsOn s conn earlier last e a list
    by_past true here is = cc
    by_past false here is = from here is

    by_epoch : (b : Bool) → place.epoch ≡ epoch_of s
        → (if b then (if nat_lt place.index (length last.entries) then Gone
        else pulled_from s last.epoch (length last.entries) most part)
        else pulled_from s last.epoch (length last.entries) most part) ≡ Entries e a list
        → PullsOn s conn earlier last e a list
    by_epoch true here is = by_past (nat_lt place.index (length last.entries)) here is
    by_epoch false here is = from here is

    by_place : (b : Bool) → place.epoch == epoch_of s ≡ b
        → (if b then (if last.epoch == epoch_of s
        then (if nat_lt place.index (length last.entries) then Gone
        else pulled_from s last.epoch (length last.entries) most part)
        else pulled_from s last.epoch (length last.entries) most part) else Gone)
        ≡ Entries e a list
        → PullsOn s conn earlier last e a list
    by_place true same is =
        by_epoch (last.epoch == epoch_of s) (eqb-true place.epoch (epoch_of s) same) is
    by_place false apart is = cc

pulls-by : (s : State) (quiet : List ℕ) (conn : ℕ) (earlier : List Segment) (last : Segment)
    (most e a : ℕ) (list : List Entry) → (feed : IsFeed s conn (earlier ++ last ∷ []))
    → (how : Ending) → feed.connection.ending ≡ how
    → pulled_by s quiet conn last.epoch (length last.entries) most how ≡ Entries e a list
    → PullsOn s conn earlier last e a list
pulls-by s quiet conn earlier last most e a list feed ending.Running how is =
    open-pulls s quiet conn earlier last most e a list feed how is
pulls-by s quiet conn earlier last most e a list feed (ending.Left place) how is =
    left-pulls s place conn earlier last most e a list feed how is
pulls-by s quiet conn earlier last most e a list feed ending.Shut how is = cc

-- the answer for a connection that was given out
answer-by : (past : Past) (conn epoch at most : ℕ) (c : Connection) (answer : Answer)
    → connection_of (state_of past) conn ≡ Some c → answered past (Pull conn epoch at most) ≡ answer
    → pulled_by (state_of past) past.quiet conn epoch at most c.ending ≡ answer
answer-by past conn epoch at most c answer is found =
    sym (ap (pulled_where (state_of past) past.quiet conn epoch at most) is) ∙ found

pub pulls-on : (past : Past) (conn : ℕ) (earlier : List Segment) (last : Segment)
    (most e a : ℕ) (list : List Entry) → IsFeed (state_of past) conn (earlier ++ last ∷ [])
    → answered past (Pull conn last.epoch (length last.entries) most) ≡ Entries e a list
    → PullsOn (state_of past) conn earlier last e a list
pulls-on past conn earlier last most e a list feed is =
    pulls-by (state_of past) past.quiet conn earlier last most e a list feed
    feed.connection.ending refl
    (answer-by past conn last.epoch (length last.entries) most feed.connection
    (Entries e a list) feed.is is)

-- ---- the end

left-gone : (s : State) (place : Place) (last : Segment) (most : ℕ) → IsSegment s last
    → IsWithin (ending.Left place) last → place.epoch ≤ epoch_of s
    → pulled_by_left s last.epoch (length last.entries) most place ≡ Gone
    → EndsWith s (ending.Left place) last
left-gone s place last most segment within inside is =
    by_place (place.epoch == epoch_of s) refl is
  where
    part : List Entry
    part = take (place.index + 1) s.live

    ends : last.epoch ≡ epoch_of s → place.epoch ≡ epoch_of s
        → place.index < length last.entries → IsWithin (ending.Left place) last
        → EndsWith s (ending.Left place) last
    ends same here past (inl later) = absurd (omega (arith, later, same, here))
    ends same here past (inr (e, short)) = inl (e, omega (arith, past, short))

    by_past : (b : Bool) → nat_lt place.index (length last.entries) ≡ b
        → last.epoch ≡ epoch_of s → place.epoch ≡ epoch_of s
        → (if b then Gone else pulled_from s last.epoch (length last.entries) most part) ≡ Gone
        → EndsWith s (ending.Left place) last
    by_past true beyond same here is =
        ends same here (ltb-true place.index (length last.entries) beyond) within
    by_past false apart same here is =
        absurd (never-gone s last.epoch (length last.entries) most part is)

    by_epoch : (b : Bool) → last.epoch == epoch_of s ≡ b → place.epoch ≡ epoch_of s
        → (if b then (if nat_lt place.index (length last.entries) then Gone
        else pulled_from s last.epoch (length last.entries) most part)
        else pulled_from s last.epoch (length last.entries) most part) ≡ Gone
        → EndsWith s (ending.Left place) last
    by_epoch true same here is =
        by_past (nat_lt place.index (length last.entries)) refl
        (eqb-true last.epoch (epoch_of s) same) here is
    by_epoch false apart here is =
        absurd (never-gone s last.epoch (length last.entries) most part is)

    by_place : (b : Bool) → place.epoch == epoch_of s ≡ b
        → (if b then (if last.epoch == epoch_of s
        then (if nat_lt place.index (length last.entries) then Gone
        else pulled_from s last.epoch (length last.entries) most part)
        else pulled_from s last.epoch (length last.entries) most part) else Gone) ≡ Gone
        → EndsWith s (ending.Left place) last
    by_place true same is =
        by_epoch (last.epoch == epoch_of s) refl (eqb-true place.epoch (epoch_of s) same) is
    by_place false apart is =
        let other = eqb-false place.epoch (epoch_of s) apart in inr (omega (arith, other, inside))

gone-by : (past : Past) (conn : ℕ) (last : Segment) (most : ℕ) (c : Connection) (how : Ending)
    → connection_of (state_of past) conn ≡ Some c → c.ending ≡ how → IsSegment (state_of past) last
    → IsWithin how last
    → ((place : Place) → how ≡ ending.Left place → place.epoch ≤ epoch_of (state_of past))
    → pulled_by (state_of past) past.quiet conn last.epoch (length last.entries) most how ≡ Gone
    → IsGone past conn last
gone-by past conn last most c ending.Running there how segment within inside is =
    by_quiet (list_any (λ other. other == conn) past.quiet) refl is
  where
    by_quiet : (b : Bool) → list_any (λ other. other == conn) past.quiet ≡ b
        → (if b then Gone else pulled_from (state_of past) last.epoch (length last.entries) most
        (state_of past).live) ≡ Gone
        → IsGone past conn last
    by_quiet true same is = inl (any-contains past.quiet conn same)
    by_quiet false apart is =
        absurd (never-gone (state_of past) last.epoch (length last.entries) most
        (state_of past).live is)
gone-by past conn last most c (ending.Left place) there how segment within inside is =
    inr (at-connection past conn last c (ending.Left place) there how
    (left-gone (state_of past) place last most segment within (inside place refl) is))
  where
    at-connection : (past : Past) (conn : ℕ) (last : Segment) (c : Connection) (how : Ending)
        → connection_of (state_of past) conn ≡ Some c → c.ending ≡ how
        → EndsWith (state_of past) how last
        → EndsWhere (state_of past) (connection_of (state_of past) conn) last
    at-connection past conn last c how there is h =
        subst (λ o. EndsWhere (state_of past) o last) (sym there)
        (subst (λ (k : Ending). EndsWith (state_of past) k last) (sym is) h)
gone-by past conn last most c ending.Shut there how segment within inside is =
    inr (subst (λ o. EndsWhere (state_of past) o last) (sym there)
    (subst (λ (k : Ending). EndsWith (state_of past) k last) (sym how) tt))

pub pulls-gone : (past : Past) (conn : ℕ) (earlier : List Segment) (last : Segment) (most : ℕ)
    → (feed : IsFeed (state_of past) conn (earlier ++ last ∷ []))
    → ((c : Connection) (place : Place) → connection_of (state_of past) conn ≡ Some c
    → c.ending ≡ ending.Left place → place.epoch ≤ epoch_of (state_of past))
    → answered past (Pull conn last.epoch (length last.entries) most) ≡ Gone
    → IsGone past conn last
pulls-gone past conn earlier last most feed inside is =
    gone-by past conn last most feed.connection feed.connection.ending feed.is refl
    (all-last (IsSegment (state_of past)) earlier last feed.each)
    (all-last (IsWithin feed.connection.ending) earlier last feed.within)
    (λ place how. inside feed.connection place feed.is how)
    (answer-by past conn last.epoch (length last.entries) most feed.connection Gone feed.is is)
