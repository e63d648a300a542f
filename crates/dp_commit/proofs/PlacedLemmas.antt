-- What an event places, as it is kept.
use Rattle.std.proofs.Common.{◌≡◌, ℕ, ◌+◌, ◌≤◌, true, false, is_some, unwrap_or, List, [], ◌∷◌}
use Rattle.std.proofs.Common.{◌++◌, length, map, All, Option, None, Some, append_assoc, refl, sym}
use Rattle.std.proofs.Common.{ap, subst, ◌∙◌, arith, length-append}
use Rattle.std.specs.List.{slice_get}
use Rattle.std.specs.Option.{option_map_or}
use Rattle.std.proofs.lemmas.List.{map-append}
use Rattle.std.proofs.lemmas.List.Elements.{All-head, All-tail, All-append, All-cons, All-nil}
use Rattle.std.proofs.lemmas.List.Elements.{All-weaker}
use Rattle.std.specs.Global.{Box}
use Rattle.dp_messages.specs.declared.message.Entry.{Entry}
use Rattle.dp_acl.specs.Opening.{command_entry}
use Rattle.dp_epochs.specs.declared.event.Event.{Event}
use Rattle.dp_epochs.specs.declared.effect.Effect.{Effect}
use Rattle.dp_epochs.specs.declared.effect.Effect.TheVariants.{Placed, Reopened}
use Rattle.dp_epochs.specs.Effects.{entries_of, ended_after, live_after, IsEffect}
use Rattle.dp_epochs.specs.State.{State, entry_of, epoch_of}
use Rattle.dp_epochs.proofs.EffectLemmas.{entries-few}
use Rattle.dp_history.specs.declared.item.HistoryItem.{HistoryItem}
use Rattle.dp_history.specs.Items.{message_of, IsSay, part_of, join_of, entry_in, IsIn}
use Rattle.dp_commit.specs.declared.supply.Supply.{Supply}
use Rattle.dp_commit.specs.declared.supply.Supply.TheVariants.{Entries, Opens}
use Rattle.dp_commit.specs.Placed.{own_entries, own_items, SaysOwn, opens_epoch, supplied, IsSupply}
use Rattle.dp_commit.specs.Placed.{unboxed, server_items, items_after, IsWithSupply, epoch_with}
use Rattle.dp_commit.proofs.Journals.{stays_there, say-there, join-there, part-there, last_there}
use Rattle.dp_messages.specs.declared.message.Msg.TheVariants as msg
use Rattle.dp_epochs.specs.declared.event.Event.TheVariants as event
use Rattle.dp_history.specs.declared.item.HistoryItem.TheVariants as item

-- an entry stays the same after more events
entry-later : (journal more : List Event) (i : HistoryItem) → IsIn journal i
    → (entry_in (journal ++ more) i ≡ entry_in journal i) × IsIn (journal ++ more) i
entry-later journal more (item.Said k user) say =
    let e = stays_there journal more k (say-there (slice_get journal k) say) in
    (ap (λ o. record { user = user; msg = message_of o }) e, subst IsSay (sym e) say)
entry-later journal more (item.Joined k user) some =
    let e = stays_there journal more k (join-there user (slice_get journal k) some) in (
      ap (λ o. unwrap_or (join_of user o) (entry_of user msg.Point)) e,
      subst (λ o. is_some (join_of user o) ≡ true) (sym e) some,
    )
entry-later journal more (item.Command k) some =
    let e = stays_there journal more k (part-there (slice_get journal k) some) in (
      ap (λ o. option_map_or command_entry (part_of o) (entry_of 0 msg.Point)) e,
      subst (λ o. is_some (part_of o) ≡ true) (sym e) some,
    )
entry-later journal more (item.Server entry) say = (refl, tt)

-- entries stay the same after more events
entries-later : (journal more : List Event) (live : List HistoryItem) → All (IsIn journal) live
    → map (entry_in (journal ++ more)) live ≡ map (entry_in journal) live
entries-later journal more [] said = refl
entries-later journal more (i ∷ live) said =
    ap (λ x. x ∷ map (entry_in (journal ++ more)) live)
    (entry-later journal more i (All-head (IsIn journal) i live said)).0
    ∙ ap (λ xs. entry_in journal i ∷ xs)
    (entries-later journal more live (All-tail (IsIn journal) i live said))

-- entries of the server's own are themselves
server_kept : (journal : List Event) (entry : Option (Box Entry))
    → (map (entry_in journal) (server_items entry) ≡ unboxed entry)
    × All (IsIn journal) (server_items entry)
server_kept journal None = (refl, All-nil (IsIn journal))
server_kept journal (Some e) =
    (refl, All-cons (IsIn journal) (item.Server e) [] tt (All-nil (IsIn journal)))

own_entries_kept : (journal : List Event) (first second : Option (Box Entry))
    → (map (entry_in journal) (server_items first ++ server_items second)
    ≡ unboxed first ++ unboxed second)
    × All (IsIn journal) (server_items first ++ server_items second)
own_entries_kept journal first second =
    let a = server_kept journal first in
    let b = server_kept journal second in (
      map-append (entry_in journal) (server_items first) (server_items second)
          ∙ ap (λ xs. xs ++ map (entry_in journal) (server_items second)) a.0
          ∙ ap (λ xs. unboxed first ++ xs) b.0,
      All-append (IsIn journal) (server_items first) (server_items second) a.1 b.1,
    )

pub own-few : (e : Event) (effect : Effect) → length (own_entries e effect) ≤ 1
own-few e (Placed conn c) = omega arith
own-few e effect = omega arith

pub own-alike : (n : ℕ) (e : Event) (effect : Effect)
    → length (own_items n effect) ≡ length (own_entries e effect)
own-alike n e (Placed conn c) = refl
own-alike n e effect = refl

-- what the event says is kept so, if it is placed
own-placed : (journal : List Event) (e : Event) (effect : Effect) → SaysOwn e effect
    → (map (entry_in (journal ++ e ∷ [])) (own_items (length journal) effect)
    ≡ own_entries e effect)
    × All (IsIn (journal ++ e ∷ [])) (own_items (length journal) effect)
own-placed journal (event.Say conn m) (Placed n c) says =
    let e = last_there journal (event.Say conn m) in
    let J = journal ++ event.Say conn m ∷ [] in (
      ap (λ o. record { user = c.user; msg = message_of o } ∷ []) e,
      All-cons (IsIn J) (item.Said (length journal) c.user) [] (subst IsSay (sym e) tt)
          (All-nil (IsIn J)),
    )
own-placed journal (event.Open name registered) (Placed n c) says = absurd says
own-placed journal (event.Close conn) (Placed n c) says = absurd says
own-placed journal e effect says = (refl, All-nil (IsIn (journal ++ e ∷ [])))

-- if no epoch opens, entries are placed after the live history
pub live-more : (s : State) (e : Event) (effect : Effect) → opens_epoch effect ≡ false
    → (live_after s e effect ≡ s.live ++ entries_of e effect) × (ended_after s effect ≡ s.ended)
live-more s e (Reopened conn c) stays = cc
live-more s e effect stays = (refl, refl)

-- if one opens, there is one more
ended-more : (s : State) (effect : Effect) → opens_epoch effect ≡ true
    → length (ended_after s effect) ≡ length s.ended + 1
ended-more s (Reopened conn c) opens = length-append s.ended (s.live ∷ [])
ended-more s effect opens = cc

-- a message is placed only by a Say
pub says-own : (s : State) (e : Event) (effect : Effect) → IsEffect s e effect → SaysOwn e effect
says-own s e (Placed conn c) cause = subst (λ x. IsSay (Some x)) (sym cause.0.came) tt
says-own s e effect cause = tt

module _ (journal : List Event) (s : State) (e : Event) (effect : Effect)
    (cause : IsEffect s e effect) where
  abbrev J : List Event
  J = journal ++ e ∷ []

  -- the live history as it is kept after the event
  pub items-kept : (live : List HistoryItem) (supply : Supply) → IsSupply journal s e effect supply
      → map (entry_in journal) live ≡ s.live → All (IsIn journal) live
      → (map (entry_in J) (items_after (own_items (length journal) effect) supply live)
      ≡ live_after s e effect)
      × All (IsIn J) (items_after (own_items (length journal) effect) supply live)
  items-kept live (Entries first second) supply is said =
      let own = own-placed journal e effect (says-own s e effect cause) in
      let list = server_items first ++ server_items second in
      let ahead = own_entries_kept J first second in
      let more = own_items (length journal) effect ++ list in (
        map-append (entry_in J) live more
            ∙ ap (λ xs. xs ++ map (entry_in J) more)
            (entries-later journal (e ∷ []) live said ∙ is)
            ∙ ap (λ xs. s.live ++ xs)
            (map-append (entry_in J) (own_items (length journal) effect) list
            ∙ ap (λ xs. xs ++ map (entry_in J) list) own.0
            ∙ ap (λ xs. own_entries e effect ++ xs) ahead.0
            ∙ supply.1)
            ∙ sym (live-more s e effect supply.0).0,
        All-append (IsIn J) live more
            (All-weaker (IsIn journal) (IsIn J) (λ i h. (entry-later journal (e ∷ []) i h).1) live
            said)
            (All-append (IsIn J) (own_items (length journal) effect) list own.1 ahead.1),
      )
  items-kept live (Opens opening) supply is said = (
    entries-later journal (e ∷ []) opening.live.items supply.1.said ∙ supply.1.entries,
    All-weaker (IsIn journal) (IsIn J)
        (λ i h. (entry-later journal (e ∷ []) i h).1) opening.live.items supply.1.said,
  )

  pub epoch-kept : (supply : Supply) (epoch : ℕ) → IsSupply journal s e effect supply
      → epoch ≡ epoch_of s → epoch_with supply epoch ≡ length (ended_after s effect)
  epoch-kept (Entries first second) epoch supply is =
      is ∙ sym (ap length (live-more s e effect supply.0).1)
  epoch-kept (Opens opening) epoch supply is =
      omega (arith, is, ended-more s effect supply.0)

  -- the rights that were noted with the event's own entry are, with the supply, those after it
  pub next-is : (supply : Supply) → IsSupply journal s e effect supply
      → IsWithSupply journal supply (s.live ++ own_entries e effect) (live_after s e effect)
  next-is (Entries first second) supply =
      (live-more s e effect supply.0).0
      ∙ ap (λ xs. s.live ++ xs) (sym supply.1)
      ∙ sym (append_assoc s.live (own_entries e effect) (unboxed first ++ unboxed second))
  next-is (Opens opening) supply = supply.1

  -- the event places few entries
  pub supply-few : (supply : Supply) → IsSupply journal s e effect supply
      → length (own_entries e effect) + length (supplied supply) ≤ 2
  supply-few (Entries first second) supply =
      let list = unboxed first ++ unboxed second in
      omega (
        arith,
        length-append (own_entries e effect) list,
        ap length supply.1,
        entries-few e effect,
      )
  supply-few (Opens opening) supply = omega (arith, own-few e effect)
