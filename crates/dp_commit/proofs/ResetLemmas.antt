-- What a reset that is being sent may have, and how the next epoch opens.
use Rattle.std.proofs.Common.{◌≡◌, ℕ, zero, suc, ◌+◌, ◌-◌, ◌<◌, ◌≤◌, ◌&&◌, Bool, true, false, cond}
use Rattle.std.proofs.Common.{drop, [], nat_lt, nat_le, is_some, List, ◌∷◌, ◌++◌, length, map}
use Rattle.std.proofs.Common.{Option, None, Some, refl, sym, ap, subst, ◌∙◌, ⊎_elim, arith}
use Rattle.std.proofs.Common.{length-append}
use Rattle.std.specs.List.{filter, filter_map, cons_option, range_with_len, sum_by}
use Rattle.std.specs.Option.{option_map}
use Rattle.std.proofs.lemmas.Bool.{cond_both, cases_Bool, false≢true}
use Rattle.std.proofs.lemmas.Bool.Decides.{nat_tests}
use Rattle.std.proofs.Math.Seq.{drop-length}
use Rattle.std.proofs.lemmas.List.{length-map, drop-map}
use Rattle.dp_msg_draw.specs.declared.draw.Draw.{Draw}
use Rattle.dp_msg_meta.specs.declared.message.Meta.{Meta}
use Rattle.dp_msg_meta.specs.declared.message.Meta.TheVariants.{ResetMark}
use Rattle.dp_messages.specs.declared.message.Entry.{Entry}
use Rattle.dp_acl.specs.Carried.{carried}
use Rattle.dp_acl.specs.Opening.{carried_entries, opening, opening_limit, command_entry, goes_over}
use Rattle.dp_acl.specs.Opening.{last_join, part_limit, server_entry}
use Rattle.dp_epochs.specs.State.{State, Stream, epoch_of, is_present, present_users, user_ids}
use Rattle.dp_epochs.specs.State.{fits_reset, part_bytes, reset_byte_limit, sent_commands, kept_by}
use Rattle.dp_epochs.specs.declared.event.Event.{Event}
use Rattle.dp_epochs.specs.declared.effect.Effect.{Effect}
use Rattle.dp_epochs.specs.declared.effect.Effect.TheVariants.{Reopened}
use Rattle.dp_epochs.specs.Effects.{entries_of, live_after}
use Rattle.dp_epochs.proofs.OpeningLemmas.{kept-few, going-few}
use Rattle.dp_history.specs.declared.frames.HistoryFrames.{HistoryFrames}
use Rattle.dp_history.specs.Made.{AreMadeOf, going_over}
use Rattle.dp_history.specs.declared.item.HistoryItem.{HistoryItem}
use Rattle.dp_history.specs.Items.{commands_in, entry_in}
use Rattle.dp_history.specs.Users.{mark}
use Rattle.dp_history.proofs.MadeLemmas.{made-on}
use Rattle.dp_history.proofs.Ranges.{filter-range_same}
use Rattle.dp_commit.specs.declared.supply.Supply.{Supply}
use Rattle.dp_commit.specs.declared.supply.Supply.TheVariants.{Entries, Opens}
use Rattle.dp_commit.specs.Placed.{AreFramesWith, IsSupply}
use Rattle.dp_commit.specs.Sending.{start_of, stream_in}
use Rattle.dp_commit.proofs.SendingLemmas.{sent-in, length-commands}
use Rattle.dp_commit.proofs.PlacedLemmas.{live-more}
use Rattle.dp_commit.specs.Opened.{with_rest, opening_in}
use Rattle.dp_commit.specs.Tables.{Seen, AreOf}
use Rattle.dp_commit.proofs.StateLemmas.{present-marked}

-- ---- limits

le-minus : (a b n : ℕ) → b ≤ n → nat_le a (n - b) ≡ nat_le (b + a) n
le-minus a b n within = grind (arith, nat_tests)

-- whether the reset that is being sent may have one more command
pub fits-is : (s : State) (t : Seen) → AreOf s t → (stream : Stream) (command : Draw)
    → s.stream ≡ Some stream
    → fits_reset stream.commands command
    ≡ (nat_lt (length t.parts) part_limit
    && nat_le (part_bytes command) (reset_byte_limit - t.part_bytes))
fits-is s t are stream command sent =
    let same = sent-in t.owner t.place (commands_in t.journal t.parts) stream
    (are.reset.stream ∙ sent) in
    let count : length stream.commands ≡ length t.parts =
    ap length same ∙ length-commands t.journal t.parts are.reset.said in
    let bytes : sum_by part_bytes stream.commands ≡ t.part_bytes =
    ap (sum_by part_bytes) same ∙ sym are.reset.size in
    ap (λ n. nat_lt n part_limit
    && nat_le (sum_by part_bytes stream.commands + part_bytes command) reset_byte_limit) count
    ∙ ap (λ n. nat_lt (length t.parts) part_limit
    && nat_le (n + part_bytes command) reset_byte_limit) bytes
    ∙ ap (λ b. nat_lt (length t.parts) part_limit && b)
    (sym (le-minus (part_bytes command) t.part_bytes reset_byte_limit are.reset.within))

-- ---- the opening whole

joined-all : (f : ℕ → Option Entry) (p : ℕ → Bool)
    → ((user : ℕ) → 1 ≤ user → user ≤ 254 → p user ≡ true → is_some (f user) ≡ true)
    → (n low : ℕ) → 1 ≤ low → low + n ≤ 255
    → length (filter_map f (filter p (range_with_len low n)))
    ≡ length (filter p (range_with_len low n))
joined-all f p each zero low above all = refl
joined-all f p each (suc n) low above all =
    let rest = joined-all f p each n (low + 1) (omega arith) (omega arith) in
    ⊎_elim (λ (passes : p low ≡ true).
    ap (λ b. length (filter_map f (cond b (low ∷ filter p (range_with_len (low + 1) n))
    (filter p (range_with_len (low + 1) n))))) passes
    ∙ one-longer (f low) (filter_map f (filter p (range_with_len (low + 1) n)))
    (each low above (omega arith) passes)
    ∙ ap suc rest
    ∙ sym (ap (λ b. length (cond b (low ∷ filter p (range_with_len (low + 1) n))
    (filter p (range_with_len (low + 1) n)))) passes))
    (λ (fails : p low ≡ false).
    ap (λ b. length (filter_map f (cond b (low ∷ filter p (range_with_len (low + 1) n))
    (filter p (range_with_len (low + 1) n))))) fails
    ∙ rest
    ∙ sym (ap (λ b. length (cond b (low ∷ filter p (range_with_len (low + 1) n))
    (filter p (range_with_len (low + 1) n)))) fails))
    (cases_Bool (p low))
  where
    one-longer : {X : Type 0} (o : Option X) (xs : List X) → is_some o ≡ true
        → length (cons_option o xs) ≡ suc (length xs)
    one-longer None xs some = cc
    one-longer (Some x) xs some = refl

sent-commands : (owner place : Option ℕ) (commands : List Draw) → (owner ≡ None → commands ≡ [])
    → sent_commands (option_map (λ conn. record {
      owner = conn;
      commands = commands;
      place = place;
    }) owner) ≡ commands
sent-commands None place commands none = sym (none refl)
sent-commands (Some conn) place commands none = refl

filtered-few : (p : ℕ → Bool) (low n : ℕ) → length (filter p (range_with_len low n)) ≤ n
filtered-few p low zero = omega arith
filtered-few p low (suc n) =
    cond_both (p low) (low ∷ filter p (range_with_len (low + 1) n))
    (filter p (range_with_len (low + 1) n)) (λ (xs : List ℕ). length xs ≤ suc n)
    (λ passes. omega (arith, filtered-few p (low + 1) n))
    (λ fails. omega (arith, filtered-few p (low + 1) n))

module _ (s : State) (t : Seen) (are : AreOf s t) where
  abbrev present : List ℕ
  present = filter (mark t.present) user_ids

  pub present-is : present ≡ present_users s
  unfolding user_ids
  present-is = filter-range_same (mark t.present) (is_present s) 1 254
      (λ k from to. sym (present-marked s t are k (omega arith)))

  pub present-few : length present ≤ 254
  unfolding user_ids
  present-few = filtered-few (mark t.present) 1 254

  joined-present : length (filter_map (last_join s.live) present) ≡ length present
  unfolding user_ids
  joined-present =
      joined-all (last_join s.live) (mark t.present)
      (λ user above below up.
      let by = are.joined user above below up in
      ap is_some by.last ∙ by.some) 254 1 (omega arith) (omega arith)

  commands-sent : sent_commands s.stream ≡ commands_in t.journal t.parts
  commands-sent =
      ap sent_commands (sym are.reset.stream)
      ∙ sent-commands t.owner t.place (commands_in t.journal t.parts)
      (λ no_one. ap (commands_in t.journal) (are.reset.none no_one))

  abbrev kept : List Entry
  kept = kept_by s.stream s.live

  rest-length : length (carried_entries s.live present (commands_in t.journal t.parts) kept)
      ≡ length present + length (carried s.live present) + length t.parts + length kept
  rest-length =
      let joins = filter_map (last_join s.live) present in
      let rights = map server_entry (carried s.live present) in
      let drawn = map command_entry (commands_in t.journal t.parts) in
      length-append (joins ++ rights ++ drawn) kept
      ∙ ap (λ n. n + length kept) (length-append (joins ++ rights) drawn)
      ∙ ap (λ n. n + length drawn + length kept) (length-append joins rights)
      ∙ ap (λ n. n + length rights + length drawn + length kept) joined-present
      ∙ ap (λ n. length present + n + length drawn + length kept)
      (length-map (carried s.live present) server_entry)
      ∙ ap (λ n. length present + length (carried s.live present) + n + length kept)
      (length-map (commands_in t.journal t.parts) command_entry
      ∙ length-commands t.journal t.parts are.reset.said)

  -- what is added makes up the opening
  opens-so : (metas : List Meta) (next count : ℕ) → metas ≡ carried s.live present
      → next ≡ epoch_of s + 1
      → count ≡ length present + length metas + length t.parts + length kept
      → (((([] ++ server_entry (ResetMark next count) ∷ [])
      ++ filter_map (last_join s.live) present) ++ map server_entry metas)
      ++ map command_entry (commands_in t.journal t.parts)) ++ kept
      ≡ opening (epoch_of s + 1) s.live (present_users s) (sent_commands s.stream) kept
  opens-so metas next count metas_are next_is count_is =
      let commands = commands_in t.journal t.parts in
      let number : count ≡ length (carried_entries s.live present commands kept) =
      count_is ∙ ap (λ list. length present + length list + length t.parts + length kept) metas_are
      ∙ sym rest-length in
      ap (λ list. server_entry (ResetMark next count)
      ∷ (filter_map (last_join s.live) present ++ map server_entry list
      ++ map command_entry commands ++ kept)) metas_are
      ∙ ap (λ n. server_entry (ResetMark n count)
      ∷ carried_entries s.live present commands kept) next_is
      ∙ ap (λ n. server_entry (ResetMark (epoch_of s + 1) n)
      ∷ carried_entries s.live present commands kept) number
      ∙ ap (λ users. opening (epoch_of s + 1) s.live users commands kept) present-is
      ∙ ap (λ list. opening (epoch_of s + 1) s.live (present_users s) list kept) (sym commands-sent)

  -- what is added after some entries
  pub rest-is : (first : List Entry) (metas : List Meta) (list : List Entry) → list ≡ kept
      → (((first ++ filter_map (last_join s.live) present) ++ map server_entry metas)
      ++ map command_entry (commands_in t.journal t.parts)) ++ list
      ≡ with_rest s first metas
  rest-is first metas list is =
      ap (λ users. (((first ++ filter_map (last_join s.live) users) ++ map server_entry metas)
      ++ map command_entry (commands_in t.journal t.parts)) ++ list) present-is
      ∙ ap (λ commands. (((first ++ filter_map (last_join s.live) (present_users s))
      ++ map server_entry metas) ++ map command_entry commands) ++ list) (sym commands-sent)
      ∙ ap (λ entries. (((first ++ filter_map (last_join s.live) (present_users s))
      ++ map server_entry metas) ++ map command_entry (sent_commands s.stream)) ++ entries) is

  -- with its mark that makes up the opening
  pub opens-whole : (users count : ℕ) (metas : List Meta) → users ≡ length (present_users s)
      → metas ≡ carried s.live (present_users s)
      → count ≡ users + length metas + length t.parts + length kept
      → opening_in s count metas
      ≡ opening (epoch_of s + 1) s.live (present_users s) (sent_commands s.stream) kept
  opens-whole users count metas users_are metas_are count_is =
      sym (rest-is (server_entry (ResetMark (epoch_of s + 1) count) ∷ []) metas kept refl)
      ∙ opens-so metas (epoch_of s + 1) count (metas_are ∙ ap (carried s.live) (sym present-is))
      refl (omega (arith, count_is, users_are, ap length present-is))

  -- it has few entries
  count-fits : ((epoch : ℕ) (history : List Entry) (users : List ℕ) (commands : List Draw)
      (kept : List Entry) → length users ≤ 254 → length commands ≤ part_limit
      → length (opening epoch history users commands kept) ≤ opening_limit + length kept)
      → (metas : List Meta)
      → metas ≡ carried s.live present
      → length present + length metas + length t.parts + length kept
      < opening_limit + length kept
  count-fits short metas metas_are =
      omega (
        arith,
        short 0 s.live present (commands_in t.journal t.parts) kept present-few
            (omega (arith, length-commands t.journal t.parts are.reset.said, are.reset.many)),
        rest-length,
        ap length metas_are,
      )

  pub after-fits : ((epoch : ℕ) (history : List Entry) (users : List ℕ) (commands : List Draw)
      (kept : List Entry) → length users ≤ 254 → length commands ≤ part_limit
      → length (opening epoch history users commands kept) ≤ opening_limit + length kept)
      → (users : ℕ) (metas : List Meta) → users ≡ length (present_users s)
      → metas ≡ carried s.live (present_users s)
      → users + length metas + length t.parts + length kept < opening_limit + length kept
  after-fits short users metas users_are metas_are =
      omega (
        arith,
        count-fits short metas (metas_are ∙ ap (carried s.live) (sym present-is)),
        users_are,
        ap length present-is,
      )

  abbrev passing : List HistoryItem → List Entry
  passing items = filter (λ e. goes_over e.msg) (map (entry_in t.journal) items)

  -- what the reset keeps, beside the journal
  pub kept-is : passing (drop (start_of t.owner t.place (length t.live)) t.live) ≡ kept
  kept-is = by_case t.owner t.place are.reset.stream
    where
      none : passing (drop (length t.live) t.live) ≡ []
      none = ap passing (drop-length t.live)

      by_case : (o p : Option ℕ) → stream_in t.journal o p t.parts ≡ s.stream
          → passing (drop (start_of o p (length t.live)) t.live) ≡ kept_by s.stream s.live
      by_case (Some conn) (Some at) is =
          ap (filter (λ (e : Entry). goes_over e.msg))
          (sym (drop-map (entry_in t.journal) at t.live) ∙ ap (drop at) are.entries)
          ∙ ap (λ o. kept_by o s.live) is
      by_case (Some conn) None is = none ∙ ap (λ o. kept_by o s.live) is
      by_case None p is = none ∙ ap (λ o. kept_by o s.live) is

  pub kept-short : length kept ≤ length s.live
  kept-short = omega (arith, kept-few s.stream s.live, going-few s.live)

  -- the entries that go over end the new history
  going-last : going_over (drop (start_of t.owner t.place (length t.live))
      (map (entry_in t.journal) t.live)) ≡ kept
  going-last =
      ap going_over
      (drop-map (entry_in t.journal) (start_of t.owner t.place (length t.live)) t.live)
      ∙ kept-is

-- ---- frames

-- the frames that were made of the live history are those of it after the event
pub frames-kept : (s : State) (t : Seen) → AreOf s t → (e : Event) (effect : Effect)
    (supply : Supply) (old new : HistoryFrames) → IsSupply t.journal s e effect supply
    → AreFramesWith (map (entry_in t.journal) t.live)
    (start_of t.owner t.place (length t.live)) supply old new
    → AreMadeOf old s.live → AreMadeOf new (live_after s e effect)
frames-kept s t are e effect (Entries first second) old new is same made =
    subst (AreMadeOf new) (sym (live-more s e effect is.0).0)
    (made-on new s.live (entries_of e effect) (subst (λ f. AreMadeOf f s.live) (sym same) made))
frames-kept s t are e (Reopened conn c) (Opens opened) old new is keeps made =
    let users = present_users s in
    let commands = sent_commands s.stream in
    let kept_now = kept_by s.stream s.live in
    let going = going_over (drop (start_of t.owner t.place (length t.live))
    (map (entry_in t.journal) t.live)) in
    let before = server_entry (ResetMark (epoch_of s + 1)
    (length (carried_entries s.live users commands kept_now)))
    ∷ (filter_map (last_join s.live) users ++ map server_entry (carried s.live users)
    ++ map command_entry commands) in
    let whole : before ++ going ≡ opening (epoch_of s + 1) s.live users commands kept_now =
    ap (λ xs. before ++ xs) (going-last s t are) in
    subst (AreMadeOf new) whole (keeps before
    (sym (length-map opened.live.items (entry_in t.journal)) ∙ ap length is.1.entries
    ∙ sym (ap length whole)))
frames-kept s t are e effect (Opens opened) old new is keeps made = absurd (false≢true is.0)
