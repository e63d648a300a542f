-- A reset that is being sent, after an event.
use Rattle.std.proofs.Common.{◌≡◌, ℕ, suc, ◌+◌, ◌==◌, Bool, true, false, nat_lt, nat_le}
use Rattle.std.proofs.Common.{if◌then◌else◌, is_some, List, [], ◌∷◌, ◌++◌, length, All, Option}
use Rattle.std.proofs.Common.{None, Some, refl, sym, ap, subst, ◌∙◌, arith, length-append}
use Rattle.std.specs.List.{slice_get, cons_option, sum_by}
use Rattle.std.specs.Option.{option_map}
use Rattle.std.proofs.lemmas.List.Elements.{All-head, All-tail, All-nil, All-push, All-weaker}
use Rattle.std.proofs.lemmas.List.Elements.{filter_map-append}
use Rattle.std.proofs.lemmas.List.Sums.{sum_by_push}
use Rattle.std.proofs.lemmas.Bool.{ltb-true, leb-true, and_parts}
use Rattle.dp_msg_draw.specs.declared.draw.Draw.{Draw}
use Rattle.dp_acl.specs.Opening.{part_limit}
use Rattle.dp_epochs.specs.declared.connection.Connection.{Connection}
use Rattle.dp_epochs.specs.declared.event.Event.{Event}
use Rattle.dp_epochs.specs.declared.effect.Effect.{Effect}
use Rattle.dp_epochs.specs.declared.effect.Effect.TheVariants.{Left, Began, Added, Dropped}
use Rattle.dp_epochs.specs.declared.effect.Effect.TheVariants.{Reopened}
use Rattle.dp_epochs.specs.Effects.{own_message, stream_after, IsReset, FitsReset, IsEffect}
use Rattle.dp_epochs.specs.State.{State, Stream, first_stream, place_in, with_part, part_bytes}
use Rattle.dp_epochs.specs.State.{reset_byte_limit, stream_without}
use Rattle.dp_history.specs.Items.{part_of, IsPart, commands_in}
use Rattle.dp_commit.specs.Sending.{stream_in, IsResetIn, is_sender, owner_after, next_place}
use Rattle.dp_commit.specs.Sending.{parts_after, bytes_after, PartSize}
use Rattle.dp_commit.proofs.Journals.{stays_there, part-there, last_there}
use Rattle.dp_messages.specs.declared.message.Msg.TheVariants as msg
use Rattle.dp_epochs.specs.declared.event.Event.TheVariants as event
use Rattle.dp_epochs.specs.declared.decision.Decision.TheVariants as decision

commands-later : (journal more : List Event) (parts : List ℕ) → All (IsPart journal) parts
    → commands_in (journal ++ more) parts ≡ commands_in journal parts
commands-later journal more [] said = refl
commands-later journal more (k ∷ parts) said =
    let some = All-head (IsPart journal) k parts said in
    let e = stays_there journal more k (part-there (slice_get journal k) some) in
    ap (λ o. cons_option (part_of o) (commands_in (journal ++ more) parts)) e
    ∙ ap (cons_option (part_of (slice_get journal k)))
    (commands-later journal more parts (All-tail (IsPart journal) k parts said))

part-later : (journal more : List Event) (k : ℕ) → IsPart journal k → IsPart (journal ++ more) k
part-later journal more k some =
    subst (λ o. is_some (part_of o) ≡ true)
    (sym (stays_there journal more k (part-there (slice_get journal k) some))) some

one-more : {X : Type 0} (o : Option X) (xs : List X) → is_some o ≡ true
    → length (cons_option o xs) ≡ suc (length xs)
one-more None xs some = cc
one-more (Some x) xs some = refl

pub length-commands : (journal : List Event) (parts : List ℕ) → All (IsPart journal) parts
    → length (commands_in journal parts) ≡ length parts
length-commands journal [] said = refl
length-commands journal (k ∷ parts) said =
    one-more (part_of (slice_get journal k)) (commands_in journal parts)
    (All-head (IsPart journal) k parts said)
    ∙ ap suc (length-commands journal parts (All-tail (IsPart journal) k parts said))

pub sent-in : (owner place : Option ℕ) (commands : List Draw) (stream : Stream)
    → option_map (λ conn. record { owner = conn; commands = commands; place = place }) owner
    ≡ Some stream
    → stream.commands ≡ commands
sent-in None place commands stream is = cc
sent-in (Some conn) place commands stream is =
    let same : ◌≡◌ {A = Stream} (record { owner = conn; commands = commands; place = place }) stream
    =
    cc in
    sym (ap (λ x. x.commands) same)

grown-in : (owner place : Option ℕ) (commands : List Draw) (command : Draw)
    → option_map (λ conn. record {
      owner = conn;
      commands = commands ++ command ∷ [];
      place = place;
    }) owner
    ≡ option_map (with_part (msg.Part command))
    (option_map (λ conn. record { owner = conn; commands = commands; place = place }) owner)
grown-in None place commands command = refl
grown-in (Some conn) place commands command = refl

module _ (sent : Option Stream) (journal : List Event) (owner place : Option ℕ) (parts : List ℕ)
    (bytes : ℕ) (h : IsResetIn sent journal owner place parts bytes) (e : Event) where
  abbrev later : List Event
  later = journal ++ e ∷ []

  commands-after : commands_in later parts ≡ commands_in journal parts
  commands-after = commands-later journal (e ∷ []) parts h.said

  parts-later : All (IsPart later) parts
  parts-later = All-weaker (IsPart journal) (IsPart later)
      (λ k some. part-later journal (e ∷ []) k some) parts h.said

  -- an event that has nothing to do with it
  reset-stays : IsResetIn sent later owner place parts bytes
  reset-stays = record {
    stream = ap (λ commands. option_map (λ conn. record {
      owner = conn;
      commands = commands;
      place = place;
    }) owner) commands-after
        ∙ h.stream;
    said = parts-later;
    size = h.size ∙ ap (sum_by part_bytes) (sym commands-after);
    many = h.many;
    within = h.within;
    none = h.none;
  }

  reset-begins : (conn : ℕ) (named : Option ℕ)
      → IsResetIn (Some (first_stream conn named)) later (Some conn) named [] 0
  reset-begins conn named = record {
    stream = refl;
    said = All-nil (IsPart later);
    size = refl;
    many = omega arith;
    within = omega arith;
    none = λ no_one. refl;
  }

  reset-ends : IsResetIn None later None place [] 0
  reset-ends = record {
    stream = refl;
    said = All-nil (IsPart later);
    size = refl;
    many = omega arith;
    within = omega arith;
    none = λ no_one. refl;
  }

  -- one more part
  reset-grows : (s : State) (conn : ℕ) (c : Connection) (command : Draw) → s.stream ≡ sent
      → IsReset s e conn c (msg.Part command) decision.AddPart → FitsReset s conn command
      → (size : ℕ) → PartSize e size
      → IsResetIn (option_map (with_part (own_message e)) sent) later owner place
      (parts ++ length journal ∷ []) (bytes + size)
  reset-grows s conn c command is reset fitting size size_of =
      let commands = commands_in journal parts in
      let came : e ≡ event.Say conn (msg.Part command) =
      reset.said.came ∙ ap (event.Say conn) reset.is in
      let size_is : size ≡ part_bytes command = size_of conn command came in
      let new : slice_get later (length journal) ≡ Some e = last_there journal e in
      let part : part_of (slice_get later (length journal)) ≡ Some command =
      ap part_of new ∙ ap (λ x. part_of (Some x)) came in
      let all : commands_in later (parts ++ length journal ∷ []) ≡ commands ++ command ∷ [] =
      filter_map-append (λ k. part_of (slice_get later k)) parts (length journal ∷ [])
      ∙ ap (λ xs. xs ++ commands_in later (length journal ∷ [])) commands-after
      ∙ ap (λ o. commands ++ cons_option o []) part in
      let same : fitting.stream.commands ≡ commands =
      sent-in owner place commands fitting.stream (h.stream ∙ sym is ∙ fitting.sent) in
      let room = and_parts (nat_lt (length fitting.stream.commands) part_limit)
      (nat_le (sum_by part_bytes fitting.stream.commands + part_bytes command)
      reset_byte_limit) fitting.fits in
      let count = ltb-true (length fitting.stream.commands) part_limit room.0 in
      let fits = leb-true (sum_by part_bytes fitting.stream.commands + part_bytes command)
      reset_byte_limit room.1 in
      record {
        stream = ap (λ list. option_map (λ conn. record {
          owner = conn;
          commands = list;
          place = place;
        }) owner) all
            ∙ grown-in owner place commands command
            ∙ ap (option_map (with_part (msg.Part command))) h.stream
            ∙ ap (λ x. option_map (with_part x) sent) (sym reset.is);
        said = All-push (IsPart later) parts (length journal) parts-later
            (ap is_some part);
        size = ap (λ n. n + size) h.size
            ∙ ap (λ n. sum_by part_bytes commands + n) size_is
            ∙ sym (sum_by_push part_bytes commands command)
            ∙ ap (sum_by part_bytes) (sym all);
        many = omega (
          arith,
          count,
          ap length same,
          length-commands journal parts h.said,
          length-append parts (length journal ∷ []),
        );
        within = omega (arith, fits, ap (sum_by part_bytes) same, h.size, size_is);
        none = λ no_one.
            let sent_none : None ≡ sent = ap (λ o. stream_in journal o place parts) (sym no_one)
            ∙ h.stream in
            cc (fitting.sent);
      }

-- a connection leaves
reset-left : (sent : Option Stream) (journal : List Event) (owner place : Option ℕ)
    (parts : List ℕ) (bytes : ℕ) → IsResetIn sent journal owner place parts bytes → (e : Event)
    (conn : ℕ)
    → IsResetIn (stream_without conn sent) (journal ++ e ∷ [])
    (if is_sender conn owner then None else owner) place
    (if is_sender conn owner then [] else parts) (if is_sender conn owner then 0 else bytes)
reset-left sent journal None place parts bytes h e conn =
    subst (λ o. IsResetIn o (journal ++ e ∷ []) None place parts bytes)
    (sym h.stream ∙ ap (stream_without conn) h.stream)
    (reset-stays sent journal None place parts bytes h e)
reset-left sent journal (Some owner) place parts bytes h e conn =
    subst (λ o. IsResetIn (stream_without conn o) (journal ++ e ∷ [])
    (if owner == conn then None else Some owner) place (if owner == conn then [] else parts)
    (if owner == conn then 0 else bytes)) h.stream
    (by_sender (owner == conn))
  where
    stream : Stream
    stream = record { owner = owner; commands = commands_in journal parts; place = place }

    by_sender : (b : Bool) → IsResetIn (if b then None else Some stream) (journal ++ e ∷ [])
        (if b then None else Some owner) place (if b then [] else parts)
        (if b then 0 else bytes)
    by_sender true = reset-ends sent journal (Some owner) place parts bytes h e
    by_sender false =
        subst (λ o. IsResetIn o (journal ++ e ∷ []) (Some owner) place parts bytes) (sym h.stream)
        (reset-stays sent journal (Some owner) place parts bytes h e)

-- after any event
pub reset-kept : (s : State) (journal : List Event) (owner place : Option ℕ) (parts : List ℕ)
    (bytes : ℕ) → IsResetIn s.stream journal owner place parts bytes → (e : Event)
    (effect : Effect) → IsEffect s e effect → (size : ℕ) → PartSize e size
    → IsResetIn (stream_after e s.stream effect) (journal ++ e ∷ []) (owner_after effect owner)
    (next_place e effect place) (parts_after (length journal) effect owner parts)
    (bytes_after size effect owner bytes)
reset-kept s journal owner place parts bytes h e (Left conn c next) cause size size_of =
    reset-left s.stream journal owner place parts bytes h e conn
reset-kept s journal owner place parts bytes h e (Began conn c) cause size size_of =
    reset-begins s.stream journal owner place parts bytes h e conn (place_in (own_message e))
reset-kept s journal owner place parts bytes h e (Added conn c) cause size size_of =
    reset-grows s.stream journal owner place parts bytes h e s conn c cause.0 refl cause.1 cause.2
    size size_of
reset-kept s journal owner place parts bytes h e (Dropped conn c) cause size size_of =
    reset-ends s.stream journal owner place parts bytes h e
reset-kept s journal owner place parts bytes h e (Reopened conn c) cause size size_of =
    reset-ends s.stream journal owner place parts bytes h e
reset-kept s journal owner place parts bytes h e effect cause size size_of =
    reset-stays s.stream journal owner place parts bytes h e
