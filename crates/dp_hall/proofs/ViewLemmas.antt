-- What the steps of a call make of a view, put together.
use Rattle.std.proofs.Common.{◌≡◌, ℕ, ◌+◌, ◌≤◌, true, false, List, [], ◌∷◌, ◌++◌, length, sym, refl}
use Rattle.std.proofs.Common.{ap, ◌∙◌, subst, arith, Some, None, le_refl, length-append, zero, suc}
use Rattle.std.proofs.Common.{◌<◌, take, drop, get_or, append-nil}
use Rattle.std.proofs.lemmas.List.{take_more}
use mathlib.Core.List.{IsPrefix, map-append}
use Rattle.dp_hall.specs.declared.view.Entry.{Entry}
use Rattle.dp_hall.specs.declared.view.View.{View}
use Rattle.dp_hall.specs.declared.slot.Stored.{Stored}
use Rattle.dp_hall.specs.Logs.{IsLegal, left_by}
use Rattle.dp_hall.specs.declared.listener.Acted.{Acted}
use Rattle.dp_hall.specs.Holding.{HasTurn, ActsOn, InTurn, ActsInTurn}
use Rattle.std.specs.Prelude.{◌⊎◌, nat_le, Bool, if◌then◌else◌}
use Rattle.std.proofs.Common.{inl, inr, ⊎_elim, append_assoc}
use Rattle.std.proofs.lemmas.Bool.Decides.{nat_tests}
use Rattle.dp_hall.specs.Names.{IsIn, AreDistinct, names}
use Rattle.std.specs.declared.snapshot.Snapshot.{Snapshot}
use Rattle.dp_hall.specs.Rule.{HasTaken, IsConfirmed, with_entry, stored_entry}
use Rattle.dp_hall.specs.Rule.{child_name, split_left, split_right, joined, longer, shorter}
use Rattle.dp_hall.specs.Calls.{IsSound, Acts, Asks, SplitsInto, JoinsInto}
use Rattle.dp_hall.specs.Calls.{IsActOf, AreActs, Grows, ActsEach}
use Rattle.dp_hall.proofs.ListLemmas.{prefix_all, in_more, distinct_apart, same_prefix}
use Rattle.dp_hall.proofs.ListLemmas.{children-one}
use Rattle.dp_hall.proofs.ListLemmas.{left_more, legal_more, entries_same}

module _ {E O M : Type 0} (may : M → E → O → M → Type 0) where
  -- the seat that took the turn has it, whatever count it has read since
  pub has_turn : (v w u : View E O M) (machine : M) (n : ℕ) → v.live ≡ true
      → HasTaken may v w machine → u ≡ record w { known = n } → HasTurn u machine
  has_turn v w u machine n live h e = (
    h.legal.0,
    ap (λ (z : View E O M). z.live) e ∙ (ap (λ (z : View E O M). z.live) h.view ∙ live),
    ap (λ (z : View E O M). z.holds) e ∙ ap (λ (z : View E O M). z.holds) h.view,
    ap (λ (z : View E O M). z.start) e ∙ (ap (λ (z : View E O M). z.start) h.view ∙ h.legal.1),
    h.legal.3 ∙ ap (λ (z : View E O M). left_by h.legal.0 z.seen) (sym e),
  )

  -- and it has it when its entry is counted
  pub counted_turn : (u z : View E O M) (stored : Stored E O M) (ev : Snapshot E) (out : Snapshot O)
      (machine : M) (t : HasTurn u machine)
      → z ≡ with_entry u (stored_entry u stored.machine.value ev out)
      → HasTurn z stored.machine.value
  counted_turn u z stored ev out machine t e = (
    t.0,
    ap (λ (x : View E O M). x.live) e ∙ t.1,
    ap (λ (x : View E O M). x.holds) e ∙ t.2,
    ap (λ (x : View E O M). x.start) e ∙ t.3,
    sym (ap (λ (x : View E O M). left_by t.0 x.seen) e ∙ left_more t.0 u.seen
        (stored_entry u stored.machine.value ev out)),
  )

  pub asked : (v w z : View E O M) (machine : M) → IsSound may v → HasTaken may v w machine
      → z ≡ record w { holds = false } → IsSound may z × Asks v z
  asked v w z machine sound h e =
      let is : z ≡ record v { holds = false; seen = w.seen; known = length w.seen } = e
      ∙ ap (λ (x : View E O M). record x { holds = false }) h.view in
      let rests : v ≡ record v { holds = false } = λ i. record v { holds = sound.rests i } in
      subst (λ (x : View E O M). IsSound may x × Asks v x) (sym is) (
        record {
          live = sound.live;
          rests = refl;
          alone = sound.alone;
          legal = (h.legal.0, h.legal.1, h.legal.2);
          seen_known = le_refl (length w.seen);
          mine = h.mine;
          distinct = sound.distinct;
          fresh = sound.fresh;
          counted = sound.counted;
        },
        record {
          longer = h.longer;
          more = h.more;
          same = λ i. record v { holds = sym sound.rests i; seen = w.seen; known = length w.seen };
        },
      )

  -- a step that is counted
  pub acts_on : (u p f : View E O M) (machine : M) (stored : Stored E O M) (ev : Snapshot E)
      (out : Snapshot O) (event : E) (outcome : O) → HasTurn p machine → p ≡ u → ev.value ≡ event
      → out.value ≡ outcome → may machine event outcome stored.machine.value
      → f ≡ with_entry p (stored_entry p stored.machine.value ev out)
      → ActsOn may u event outcome f
  acts_on u p f machine stored ev out event outcome t same is gives step e = record {
    entry = record { by = u.name; event = event; outcome = outcome; left = stored.machine.value };
    is = record { by_is = refl; event_is = refl };
    outcome_is = refl;
    step = λ m begins. subst (λ (x : M). may x event outcome stored.machine.value)
        (t.4 ∙ (λ i. left_by
        (the_start t.0 m (sym t.3 ∙ (ap (λ (x : View E O M). x.start) same ∙ begins)) i)
        (same i).seen)) step;
    grows = e ∙ (λ i. with_entry (same i) (record {
      by = (same i).name;
      event = is i;
      outcome = gives i;
      left = stored.machine.value;
    }));
  }
    where
      the_start : (a b : M) → Some a ≡ Some b → a ≡ b
      the_start a b e = cc (e)

  -- a turn that was taken
  pub turn_begun : (v w u : View E O M) (machine : M) (n : ℕ) → HasTaken may v w machine
      → u ≡ record w { known = n } → n ≡ length w.seen → InTurn may v u []
  turn_begun v w u machine n h e exact =
      let is : u ≡ record v { holds = true; seen = w.seen; known = length w.seen } =
      e ∙ (λ i. record (h.view i) { known = exact i }) in
      subst (λ (x : View E O M). InTurn may v x []) (sym is) record {
        between = h.longer.0;
        seen = sym h.longer.1 ∙ sym (append-nil (v.seen ++ h.longer.0));
        mine = sym (append-nil v.mine);
        same = refl;
        more = subst (λ (l : List (Entry E O M)). v.known ≤ length l) (sym h.longer.1) h.more;
        legal = λ m begins. subst (λ (x : M). IsLegal may x w.seen)
            (the_start h.legal.0 m (sym h.legal.1 ∙ begins)) h.legal.2;
        own = h.mine;
      }
    where
      the_start : (a b : M) → Some a ≡ Some b → a ≡ b
      the_start a b e = cc (e)

  -- a turn with one act more
  pub turn_goes_on : (v u w : View E O M) (entries : List (Entry E O M)) (event : E) (outcome : O)
      (a : ActsOn may u event outcome w) → InTurn may v u entries
      → InTurn may v w (entries ++ a.entry ∷ [])
  turn_goes_on v u w entries event outcome a h =
      let e : Entry E O M = a.entry in
      let is : w ≡ record v {
        holds = true;
        seen = u.seen ++ e ∷ [];
        mine = u.mine ++ e ∷ [];
        known = length u.seen + 1;
      } = a.grows ∙ ap (λ (x : View E O M). with_entry x e) h.same in
      let long : length (u.seen ++ e ∷ []) ≡ length u.seen
      + 1 = length-append u.seen (e ∷ []) in
      let name : e.by ≡ v.name = a.is.by_is ∙ ap (λ (x : View E O M). x.name) h.same in
      subst (λ (x : View E O M). InTurn may v x (entries ++ e ∷ [])) (sym is) record {
        between = h.between;
        seen = ap (λ l. l ++ e ∷ []) h.seen
            ∙ append_assoc (v.seen ++ h.between) entries (e ∷ []);
        mine = ap (λ l. l ++ e ∷ []) h.mine ∙ append_assoc v.mine entries (e ∷ []);
        same = λ i. record v {
          holds = true;
          seen = u.seen ++ e ∷ [];
          mine = u.mine ++ e ∷ [];
          known = sym long i;
        };
        more = h.more;
        legal = λ m begins. legal_more may m u.seen e (h.legal m begins)
            (a.step m (ap (λ (x : View E O M). x.start) h.same ∙ begins));
        own = entries_same v.name u.seen e name ∙ ap (λ l. l ++ e ∷ []) h.own;
      }

  -- a turn that was given back
  pub turn_ended : (v u z : View E O M) (entries : List (Entry E O M)) → IsSound may v
      → InTurn may v u entries → z ≡ record u { holds = false } → IsSound may z × Grows v entries z
  turn_ended v u z entries sound h e =
      let is : z ≡ record v {
        holds = false;
        seen = u.seen;
        mine = u.mine;
        known = length u.seen;
      } = e ∙ ap (λ (x : View E O M). let y : View E O M = record x { holds = false } in y)
      h.same in
      let long : length u.seen ≡ length (v.seen ++ h.between) + length entries =
      ap length h.seen ∙ length-append (v.seen ++ h.between) entries in
      subst (λ (x : View E O M). IsSound may x × Grows v entries x) (sym is) (
        record {
          live = sound.live;
          rests = refl;
          alone = sound.alone;
          legal = (sound.legal.0, sound.legal.1, h.legal sound.legal.0 sound.legal.1);
          seen_known = le_refl (length u.seen);
          mine = h.own;
          distinct = sound.distinct;
          fresh = sound.fresh;
          counted = sound.counted;
        },
        record {
          between = h.between;
          seen = h.seen;
          more = let more = h.more in omega (arith, long, more);
          mine = h.mine;
          same = λ i. record v {
            holds = sym sound.rests i;
            seen = u.seen;
            mine = u.mine;
            known = length u.seen;
          };
        },
      )

  -- one act of a turn
  pub acts_once : (v u w z : View E O M) (event : E) (outcome : O) → IsSound may v
      → InTurn may v u [] → ActsOn may u event outcome w → z ≡ record w { holds = false }
      → IsSound may z × Acts v event outcome z
  acts_once v u w z event outcome sound h a e =
      let t = turn_ended v w z (a.entry ∷ []) sound (turn_goes_on v u w [] event outcome a h) e in
      let g = t.1 in (
        t.0,
        record {
          entry = a.entry;
          between = g.between;
          event_is = a.is.event_is;
          outcome_is = a.outcome_is;
          by_is = a.is.by_is ∙ ap (λ (x : View E O M). x.name) h.same;
          seen = g.seen;
          more = let more = g.more in omega (arith, more);
          mine = g.mine;
          same = g.same;
        },
      )

  -- ---- several acts of a turn

  acts_more : (follows : O → Bool) (name : List ℕ) (events : List E)
      (entries : List (Entry E O M)) (event : E) (entry : Entry E O M)
      → AreActs follows name events entries → IsActOf name event entry
      → follows entry.outcome ≡ true
      → AreActs follows name (events ++ event ∷ []) (entries ++ entry ∷ [])
  acts_more follows name [] [] event entry acts is on = (is, on, tt)
  acts_more follows name [] (x ∷ entries) event entry acts is on = absurd acts
  acts_more follows name (x ∷ events) [] event entry acts is on = absurd acts
  acts_more follows name (x ∷ events) (y ∷ entries) event entry acts is on =
      (acts.0, acts.1, acts_more follows name events entries event entry acts.2 is on)

  pub none_acted : (follows : O → Bool) (v u : View E O M) (events : List E)
      → InTurn may v u [] → ActsInTurn may follows v (take 0 events) (record {
        count = 0;
        stop = None;
      }) u
  none_acted follows v u [] h = record { entries = []; turn = h; count = refl; by = tt }
  none_acted follows v u (x ∷ events) h = record { entries = []; turn = h; count = refl; by = tt }

  own_name : (v u : View E O M) (entries : List (Entry E O M)) (event : E) (entry : Entry E O M)
      → InTurn may v u entries → IsActOf u.name event entry → IsActOf v.name event entry
  own_name v u entries event entry h is = record {
    by_is = is.by_is ∙ ap (λ (x : View E O M). x.name) h.same;
    event_is = is.event_is;
  }

  pub one_more : (follows : O → Bool) (v u w : View E O M) (events : List E) (i n : ℕ) (x : E)
      (outcome : O) → i < length events → get_or events i x ≡ x
      → ActsOn may u x outcome w → follows outcome ≡ true
      → ActsInTurn may follows v (take i events) (record { count = n; stop = None }) u
      → ActsInTurn may follows v (take (i + 1) events) (record { count = n + 1; stop = None }) w
  one_more follows v u w events i n x outcome inside at a on h =
      let next : take (i + 1) events ≡ take i events ++ x ∷ [] =
      take_more events i x inside ∙ ap (λ y. take i events ++ y ∷ []) at in record {
        entries = h.entries ++ a.entry ∷ [];
        turn = turn_goes_on v u w h.entries x outcome a h.turn;
        count = ap (λ k. k + 1) h.count ∙ sym (length-append h.entries (a.entry ∷ []));
        by = subst (λ l. AreActs follows v.name l (h.entries ++ a.entry ∷ [])) (sym next)
            (acts_more follows v.name (take i events) h.entries x a.entry h.by
            (own_name v u h.entries x a.entry h.turn a.is)
            (ap follows a.outcome_is ∙ on));
      }

  pub last_one : (follows : O → Bool) (v u w : View E O M) (events : List E) (i n : ℕ) (x : E)
      (outcome : O) → i < length events → get_or events i x ≡ x
      → ActsOn may u x outcome w → follows outcome ≡ false
      → ActsInTurn may follows v (take i events) (record { count = n; stop = None }) u
      → ActsInTurn may follows v events (record { count = n + 1; stop = Some outcome }) w
  last_one follows v u w events i n x outcome inside at a off h = record {
    entries = h.entries ++ a.entry ∷ [];
    turn = turn_goes_on v u w h.entries x outcome a h.turn;
    count = ap (λ k. k + 1) h.count ∙ sym (length-append h.entries (a.entry ∷ []));
    by = record {
      earlier = take i events;
      event = x;
      later = drop (suc i) events;
      before = h.entries;
      last = a.entry;
      events_are = split_at events i x inside at;
      entries_are = refl;
      acts = h.by;
      is = own_name v u h.entries x a.entry h.turn a.is;
      outcome_is = a.outcome_is;
      stops = off;
    };
  }
    where
      split_at : (l : List E) (i : ℕ) (x : E) → i < length l → get_or l i x ≡ x
          → l ≡ take i l ++ x ∷ drop (suc i) l
      split_at [] i x less is = absurd (omega (arith, less))
      split_at (y ∷ l) zero x less is = ap (λ z. z ∷ l) is
      split_at (y ∷ l) (suc i) x less is =
          ap (λ t. y ∷ t) (split_at l i x (omega (arith, less)) is)

  -- the turn is given back after them
  pub each_acted : (follows : O → Bool) (v u z : View E O M) (events : List E) (acted : Acted O)
      → IsSound may v → ActsInTurn may follows v events acted u → z ≡ record u { holds = false }
      → IsSound may z × ActsEach follows v events acted z
  each_acted follows v u z events acted sound h e =
      let t = turn_ended v u z h.entries sound h.turn e in
      (t.0, record { entries = h.entries; grows = t.1; count = h.count; by = h.by })

module _ {E O M : Type 0} where
  -- the longer of two lists, of which the shorter begins it
  pub the_longer : (xs ys : List (Entry E O M)) → (length (shorter xs ys) ≤ length (longer xs ys)
      → IsPrefix (shorter xs ys) (longer xs ys))
      → IsPrefix xs (longer xs ys) × IsPrefix ys (longer xs ys)
      × ((longer xs ys ≡ xs) ⊎ (longer xs ys ≡ ys))
  the_longer xs ys = cases (nat_le (length ys) (length xs)) (λ e. grind (arith, nat_tests))
      (λ e. grind (arith, nat_tests))
    where
      cases : (b : Bool) → (b ≡ true → length ys ≤ length xs) → (b ≡ false → length xs ≤ length ys)
          → (length (if b then ys else xs) ≤ length (if b then xs else ys)
          → IsPrefix (if b then ys else xs) (if b then xs else ys))
          → IsPrefix xs (if b then xs else ys) × IsPrefix ys (if b then xs else ys)
          × (((if b then xs else ys) ≡ xs) ⊎ ((if b then xs else ys) ≡ ys))
      cases true le ge h = (prefix_all xs, h (le refl), inl refl)
      cases false le ge h = (h (ge refl), prefix_all ys, inr refl)

  -- the names of two seats as one
  both_names : (v w : View E O M) → names (joined v w) ≡ names v ++ names w
  both_names v w = ap (λ l. v.name ∷ l) (map-append (λ (o : List ℕ × List (Entry E O M)). o.0)
      v.olds ((w.name, w.mine) ∷ w.olds))

  joined_is : (v w : View E O M) → (length (shorter v.seen w.seen) ≤ length (longer v.seen w.seen)
      → IsPrefix (shorter v.seen w.seen) (longer v.seen w.seen))
      → AreDistinct (names (joined v w)) → JoinsInto v w (record (joined v w) { other = [] })
  joined_is v w prefix distinct =
      let t = the_longer v.seen w.seen prefix in record {
        apart = distinct_apart (names v) (names w) (subst AreDistinct (both_names v w) distinct);
        name = refl;
        mine = refl;
        known = refl;
        first = t.0;
        second = t.1;
        one = t.2;
        olds = refl;
        made = refl;
        splits = refl;
      }

module _ {E O M : Type 0} (may : M → E → O → M → Type 0) where
  -- a seat that the whole table shows to be sound
  sound_now : (v : View E O M) → v.live ≡ true → v.holds ≡ false → (m : M) → v.start ≡ Some m
      → IsConfirmed may v → IsSound may (record v { other = [] })
  sound_now v live rests m start c = record {
    live = live;
    rests = rests;
    alone = refl;
    legal = (m, start, c.legal m start);
    seen_known = c.seen_known;
    mine = c.mine;
    distinct = c.distinct;
    fresh = c.fresh;
    counted = c.counted;
  }

  -- two seats as one, when they are confirmed
  pub joined_views : (v w m z : View E O M) → IsSound may v → m ≡ joined v w
      → z ≡ record m { other = [] } → IsConfirmed may m → JoinsInto v w z × IsSound may z
  joined_views v w m z sound is end c =
      let here : IsConfirmed may (joined v w) = subst (IsConfirmed may) is c in
      let last : z ≡ record (joined v w) { other = [] } = end
      ∙ ap (λ (x : View E O M). let y : View E O M = record x { other = [] } in y) is in
      subst (λ (x : View E O M). JoinsInto v w x × IsSound may x) (sym last) (
        joined_is v w here.prefix here.distinct,
        sound_now (joined v w) sound.live sound.rests
            sound.legal.0 sound.legal.1 here,
      )

  -- the seat that stays at a split
  stays_sound : (v : View E O M) → IsSound may v → IsSound may (split_left v)
  stays_sound v sound = record {
    live = sound.live;
    rests = sound.rests;
    alone = sound.alone;
    legal = sound.legal;
    seen_known = sound.seen_known;
    mine = sound.mine;
    distinct = sound.distinct;
    fresh = λ k more inside. ⊎_elim
        (λ (h : IsIn (v.name ++ k ∷ more) (names v ++ v.made)). let less = sound.fresh k more h in
        omega (arith, less))
        (λ (e : v.name ++ k ∷ more ≡ child_name v). let same = heads k v.splits more []
        (same_prefix v.name (k ∷ more) (v.splits ∷ []) e) in omega (arith, same))
        (in_more (v.name ++ k ∷ more) (child_name v) (names v ++ v.made)
        (subst (IsIn (v.name ++ k ∷ more)) (sym (append_assoc (names v) v.made
        (child_name v ∷ []))) inside));
    counted = ap (λ c. c + 1) sound.counted ∙ sym (children-one v.name v.made v.splits);
  }
    where
      heads : (a b : ℕ) (xs ys : List ℕ) → a ∷ xs ≡ b ∷ ys → a ≡ b
      heads a b xs ys e = cc (e)

  -- a split, when the new seat is confirmed
  pub split_views : (v l m z : View E O M) → IsSound may v → l ≡ split_left v → m ≡ split_right v
      → z ≡ record m { other = [] } → IsConfirmed may m
      → SplitsInto v l z × IsSound may l × IsSound may z
  split_views v l m z sound left is end c =
      let here : IsConfirmed may (split_right v) = subst (IsConfirmed may) is c in
      let last : z ≡ split_right v = end ∙ ap (λ (x : View E O M). let y : View E O M = record x
      { other = [] } in y) is in
      subst (λ (x : View E O M × View E O M). SplitsInto v x.0 x.1 × IsSound may x.0
      × IsSound may x.1) (λ i. (sym left i, sym last i)) (
        record {
          stays_is = refl;
          name = refl;
          new = λ h. let less = sound.fresh v.splits [] h in absurd (omega (arith, less));
          seen = refl;
          known = refl;
          mine = refl;
          olds = refl;
          made = refl;
          splits = refl;
        },
        stays_sound v sound,
        sound_now (split_right v) refl refl sound.legal.0 sound.legal.1 here,
      )
