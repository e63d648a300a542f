-- Entries as they are kept, and what opens an epoch.
use Rattle.std.proofs.Common.{◌≡◌, ℕ, ◌+◌, ◌-◌, ◌<◌, ◌≤◌, Bool, true, false, ◌&&◌, nat_le, IsSome}
use Rattle.std.proofs.Common.{List, ◌∷◌, ◌++◌, length, Option, None, Some, is_some, refl, sym, ap}
use Rattle.std.proofs.Common.{subst, ◌∙◌, ⊎_elim, arith, append-nil, append_assoc, zero, suc, cond}
use Rattle.std.proofs.Common.{unwrap_or, map, All, take, get_or, drop, [], if◌then◌else◌}
use Rattle.std.proofs.Common.{length-append}
use Rattle.std.specs.List.{find, slice_get, filter, filter_map, cons_option, range_with_len}
use Rattle.std.specs.Option.{option_map, option_map_or}
use Rattle.std.proofs.lemmas.Bool.{cases_Bool, le-leb, cond-true, cond-false}
use Rattle.std.proofs.lemmas.Str.{IsUtf8-from_is_utf8, is_utf8-from_IsUtf8}
use Rattle.std.specs.Str.{IsUtf8, is_utf8}
use Rattle.dp_msg_draw.specs.declared.draw.Draw.{Draw}
use Rattle.dp_msg_meta.specs.Fields.{IsText}
use Rattle.dp_msg_meta.specs.declared.message.Meta.TheVariants.{Join}
use Rattle.dp_messages.specs.declared.message.Entry.{Entry}
use Rattle.dp_acl.specs.Laws.{CommandsChangeNoRight, KeptChangeNoRight}
use Rattle.dp_acl.specs.Opening.{opening, command_entry, last_join, server_entry, goes_over}
use Rattle.dp_acl.specs.Table.{StandsFor}
use Rattle.dp_epochs.specs.declared.event.Event.{Event}
use Rattle.dp_epochs.specs.declared.event.Event.TheVariants as event
use Rattle.dp_history.specs.declared.opening.Opening.{Opening}
use Rattle.dp_epochs.specs.State.{stays, entry_of, is_name, user_ids}
use Rattle.dp_history.specs.Users.{mark}
use Rattle.dp_history.specs.Items.{commands_in, entry_in, IsIn, join_of, part_of, IsPart}
use Rattle.dp_history.specs.Openings.{Holds}
use Rattle.dp_history.specs.Users.{next_operator}
use Rattle.dp_history.proofs.Ranges.{list_any-find, range-more}
use Rattle.std.proofs.Math.Seq.{take-suc, drop-append_seam}
use Rattle.std.proofs.lemmas.List.{map-append}
use Rattle.std.proofs.lemmas.List.Elements.{All-append, All-cons, All-nil, filter-append}
use Rattle.std.proofs.lemmas.List.Elements.{filter_map-append}
use Rattle.dp_msg_meta.specs.declared.message.Meta.{Meta}
use Rattle.dp_history.specs.declared.item.HistoryItem.{HistoryItem}
use Rattle.std.proofs.lemmas.Option.{slice_get-map, slice_get-get_or}
use Rattle.dp_frame_log.specs.Frames.{Log, AreLogOf}
use Rattle.dp_history.specs.Frames.{AreWritten}
use Rattle.dp_messages.specs.declared.message.Msg.TheVariants as msg
use Rattle.dp_history.specs.declared.item.HistoryItem.TheVariants as item

-- the user who becomes operator
pub next-is : (operates : ℕ → Bool) (present : List Bool) (user : ℕ) (o p : Option ℕ)
    → operates user ≡ true
    → o ≡ find (λ other. mark present other && operates other) user_ids → is_some o ≡ false
    → p ≡ find (mark present) user_ids → p ≡ next_operator operates present user
next-is operates present user o p operating found none next =
    let any = list_any-find (λ other. mark present other && operates other) user_ids in
    cc (any, operating, found, none, next)

-- none does, if the user was no operator
pub next-no_operator : (operates : ℕ → Bool) (present : List Bool) (user : ℕ)
    → operates user ≡ false
    → None ≡ next_operator operates present user
next-no_operator operates present user no_one = cc

-- none does, if an operator stays
pub next-operator_stays : (operates : ℕ → Bool) (present : List Bool) (user : ℕ) (o : Option ℕ)
    → operates user ≡ true
    → o ≡ find (λ other. mark present other && operates other) user_ids → is_some o ≡ true
    → None ≡ next_operator operates present user
next-operator_stays operates present user o operating found some =
    let any = list_any-find (λ other. mark present other && operates other) user_ids in
    cc (any, operating, found, some)

-- a name is tested by its length and as a text
pub name-tested : (name bytes : List ℕ) (o : Option (List ℕ)) → bytes ≡ name → 1 ≤ length name
    → length name ≤ 32
    → (IsSome o → IsText bytes) → (IsText bytes → IsSome o) → is_some o ≡ is_name name
name-tested name bytes o same above below is_text has =
    by_text o is_text has
    ∙ sym (ap (λ b. b && nat_le (length name) 32 && is_utf8 name) (le-leb 1 (length name) above)
    ∙ ap (λ b. b && is_utf8 name) (le-leb (length name) 32 below)) where
      by_text : (o : Option (List ℕ)) → (IsSome o → IsText bytes) → (IsText bytes → IsSome o)
          → is_some o ≡ is_utf8 name
      by_text (Some text) is_text has = sym (is_utf8-from_IsUtf8 name
          (subst IsUtf8 same (is_text refl).0))
      by_text None is_text has =
          ⊎_elim (λ (utf8 : is_utf8 name ≡ true).
          let wrong : false ≡ true = has (
            subst IsUtf8 (sym same) (IsUtf8-from_is_utf8 name utf8),
            omega (arith, ap length same),
          ) in cc)
          (λ (other : is_utf8 name ≡ false). sym other)
          (cases_Bool (is_utf8 name))

-- the first items and the one after them
take-next : {X : Type 0} (xs : List X) (i : ℕ) (d : X) → i < length xs
    → take (i + 1) xs ≡ take i xs ++ get_or xs i d ∷ []
take-next xs i d within =
    let next : i + 1 ≡ suc i = omega arith in
    ap (λ n. take n xs) next ∙ take-suc xs i d within

pub metas-more : (metas : List Meta) (i : ℕ) (d : Meta) (history : List Entry) → i < length metas
    → (history ++ map server_entry (take i metas)) ++ server_entry (get_or metas i d) ∷ []
    ≡ history ++ map server_entry (take (i + 1) metas)
metas-more metas i d history within =
    append_assoc history (map server_entry (take i metas)) (server_entry (get_or metas i d) ∷ [])
    ∙ ap (λ xs. history ++ xs) (sym (ap (map server_entry) (take-next metas i d within)
    ∙ map-append server_entry (take i metas) (get_or metas i d ∷ [])))

-- an opening holds one more item for one more entry
pub holds-one : (journal : List Event) (old new : Opening) (history : List Entry) (i : HistoryItem)
    (e : Entry) → Holds journal old history → new.live.items ≡ old.live.items ++ i ∷ []
    → entry_in journal i ≡ e → IsIn journal i
    → StandsFor new.rights.value (history ++ e ∷ [])
    → Holds journal new (history ++ e ∷ [])
holds-one journal old new history i e h items is said stands = record {
  entries = ap (map (entry_in journal)) items
      ∙ map-append (entry_in journal) old.live.items (i ∷ [])
      ∙ ap (λ xs. xs ++ entry_in journal i ∷ []) h.entries
      ∙ ap (λ x. history ++ x ∷ []) is;
  said = subst (All (IsIn journal)) (sym items)
      (All-append (IsIn journal) old.live.items (i ∷ []) h.said
      (All-cons (IsIn journal) i [] said (All-nil (IsIn journal))));
  stands = stands;
}

command-found : (o : Option Draw) → is_some o ≡ true → (command : Draw) × (o ≡ Some command)
command-found None some = cc
command-found (Some command) some = (command, refl)

-- an opening holds the command of one more part
pub holds-command : CommandsChangeNoRight → (journal : List Event) (old new : Opening)
    (history : List Entry) (parts : List ℕ) (i : ℕ) → i < length parts
    → All (IsPart journal) parts → new.rights ≡ old.rights
    → new.live.items ≡ old.live.items ++ item.Command (get_or parts i 0) ∷ []
    → Holds journal old (history ++ map command_entry (commands_in journal (take i parts)))
    → Holds journal new (history ++ map command_entry (commands_in journal (take (i + 1) parts)))
holds-command law journal old new history parts i within said rights items h =
    let part = get_or parts i 0 in
    let before = commands_in journal (take i parts) in
    let H = history ++ map command_entry before in
    let some = said i 0 within in
    let found = command-found (part_of (slice_get journal part)) some in
    let all : commands_in journal (take (i + 1) parts) ≡ before ++ found.0 ∷ [] =
    ap (commands_in journal) (take-next parts i 0 within)
    ∙ filter_map-append (λ k. part_of (slice_get journal k)) (take i parts) (part ∷ [])
    ∙ ap (λ o. before ++ cons_option o []) found.1 in
    let entry : entry_in journal (item.Command part) ≡ command_entry found.0 =
    ap (λ o. option_map_or command_entry o (entry_of 0 msg.Point)) found.1 in
    subst (Holds journal new)
    (append_assoc history (map command_entry before) (command_entry found.0 ∷ [])
    ∙ ap (λ xs. history ++ xs) (sym (ap (map command_entry) all
    ∙ map-append command_entry before (found.0 ∷ []))))
    (holds-one journal old new H (item.Command part) (command_entry found.0) h items entry some
    (subst (λ r. StandsFor r.value (H ++ command_entry found.0 ∷ [])) (sym rights)
    (law old.rights.value H (found.0 ∷ []) h.stands)))

-- the entry of a part goes on
command-goes : (o : Option Draw)
    → true ≡ goes_over (option_map_or command_entry o (entry_of 0 msg.Point)).msg
command-goes None = refl
command-goes (Some command) = refl

pub part-goes : (journal : List Event) (i : HistoryItem) (k : ℕ) → i ≡ item.Command k
    → true ≡ goes_over (entry_in journal i).msg
part-goes journal i k is =
    subst (λ x. true ≡ goes_over (entry_in journal x).msg) (sym is)
    (command-goes (part_of (slice_get journal k)))

-- and a Join doesn't
named-stays : (e d : Entry) → goes_over e.msg ≡ false → (b : Bool)
    → is_some (if b then Some e else None) ≡ true
    → false ≡ goes_over (unwrap_or (if b then Some e else None) d).msg
named-stays e d stays true some = sym stays
named-stays e d stays false some = cc

join-stays : (user : ℕ) (o : Option Event) → is_some (join_of user o) ≡ true
    → false ≡ goes_over (unwrap_or (join_of user o) (entry_of user msg.Point)).msg
join-stays user (Some (event.Open name registered)) some =
    named-stays (entry_of user (msg.Meta (Join registered name))) (entry_of user msg.Point) refl
    (is_name name) some
join-stays user o some = cc

pub joined-stays : (journal : List Event) (i : HistoryItem) (k user : ℕ) → i ≡ item.Joined k user
    → IsIn journal i → false ≡ goes_over (entry_in journal i).msg
joined-stays journal i k user is said =
    subst (λ x. false ≡ goes_over (entry_in journal x).msg) (sym is)
    (join-stays user (slice_get journal k) (subst (IsIn journal) is said))

-- with more memory an opening holds the same
pub holds-same : (journal : List Event) (old new : Opening) (history : List Entry)
    → new.live.items ≡ old.live.items → Holds journal old history → new.rights ≡ old.rights
    → Holds journal new (history ++ [])
holds-same journal old new history items h rights =
    subst (Holds journal new) (sym (append-nil history)) (record {
      entries = ap (map (entry_in journal)) items ∙ h.entries;
      said = subst (All (IsIn journal)) (sym items) h.said;
      stands = subst (λ r. StandsFor r.value history) (sym rights) h.stands;
    })

-- entries that go on, among one item more
module _ (journal : List Event) where
  abbrev passing : List Entry → List Entry
  passing = filter (λ e. goes_over e.msg)

  next-passing : (items : List HistoryItem) (i : ℕ) (d : HistoryItem) → i < length items
      → passing (map (entry_in journal) (take (i + 1) items))
      ≡ passing (map (entry_in journal) (take i items))
      ++ passing (entry_in journal (get_or items i d) ∷ [])
  next-passing items i d within =
      let before = map (entry_in journal) (take i items) in
      let one = entry_in journal (get_or items i d) ∷ [] in
      ap passing (ap (map (entry_in journal)) (take-next items i d within)
      ∙ map-append (entry_in journal) (take i items) (get_or items i d ∷ []))
      ∙ filter-append (λ (e : Entry). goes_over e.msg) before one

  pub kept-more : (items : List HistoryItem) (i : ℕ) (d : HistoryItem) (history : List Entry)
      → i < length items
      → (history ++ passing (map (entry_in journal) (take i items)))
      ++ passing (entry_in journal (get_or items i d) ∷ [])
      ≡ history ++ passing (map (entry_in journal) (take (i + 1) items))
  kept-more items i d history within =
      append_assoc history (passing (map (entry_in journal) (take i items)))
      (passing (entry_in journal (get_or items i d) ∷ []))
      ∙ ap (λ xs. history ++ xs) (sym (next-passing items i d within))

  -- how many go on
  pub count-more : (items : List HistoryItem) (i : ℕ) (d : HistoryItem) (goes : Bool)
      → i < length items → goes_over (entry_in journal (get_or items i d)).msg ≡ goes
      → length (passing (map (entry_in journal) (take (i + 1) items)))
      ≡ length (passing (map (entry_in journal) (take i items))) + (if goes then 1 else 0)
  count-more items i d goes within is =
      let x = entry_in journal (get_or items i d) in
      ap length (next-passing items i d within)
      ∙ length-append (passing (map (entry_in journal) (take i items))) (passing (x ∷ []))
      ∙ ap (λ b. length (passing (map (entry_in journal) (take i items)))
      + length (cond b (x ∷ []) [])) is
      ∙ by_case goes
    where
      by_case : (b : Bool) → length (passing (map (entry_in journal) (take i items)))
          + length (cond b (entry_in journal (get_or items i d) ∷ []) [])
          ≡ length (passing (map (entry_in journal) (take i items))) + (if b then 1 else 0)
      by_case true = refl
      by_case false = refl

  -- an opening holds a copy of an entry that goes on
  pub holds-kept : KeptChangeNoRight → (old new : Opening) (history : List Entry)
      (item copy : HistoryItem) → goes_over (entry_in journal item).msg ≡ true
      → entry_in journal copy ≡ entry_in journal item → IsIn journal copy
      → new.rights ≡ old.rights → new.live.items ≡ old.live.items ++ copy ∷ []
      → Holds journal old history
      → Holds journal new (history ++ passing (entry_in journal item ∷ []))
  holds-kept law old new history item copy goes same said rights items h =
      let e = entry_in journal item in
      subst (λ es. Holds journal new (history ++ es))
      (sym (cond-true (goes_over e.msg) (e ∷ []) [] goes))
      (holds-one journal old new history copy e h items same said
      (subst (λ r. StandsFor r.value (history ++ e ∷ [])) (sym rights)
      (law old.rights.value history (e ∷ []) (goes, tt) h.stands)))

  pub holds-still : (opening : Opening) (history : List Entry) (item : HistoryItem)
      → goes_over (entry_in journal item).msg ≡ false → Holds journal opening history
      → Holds journal opening (history ++ passing (entry_in journal item ∷ []))
  holds-still opening history item stays h =
      let e = entry_in journal item in
      subst (λ es. Holds journal opening (history ++ es))
      (sym (cond-false (goes_over e.msg) (e ∷ []) [] stays))
      (subst (Holds journal opening) (sym (append-nil history)) h)

pub some-unwrap : {X : Type 0} (o : Option X) (d : X) → is_some o ≡ true → o ≡ Some (unwrap_or o d)
some-unwrap None d some = cc
some-unwrap (Some x) d some = refl

-- the user's last Join, if that is the Join by the event
pub join-entries : (journal : List Event) (live : List Entry) (user event : ℕ)
    → is_some (join_of user (slice_get journal event)) ≡ true
    → last_join live user ≡ join_of user (slice_get journal event)
    → filter_map (last_join live) (user ∷ []) ≡ entry_in journal (item.Joined event user) ∷ []
join-entries journal live user event some last =
    ap (λ o. cons_option o [])
    (last ∙ some-unwrap (join_of user (slice_get journal event)) (entry_of user msg.Point) some)

-- one more user: whose Join is added, or who isn't marked
module _ (f : ℕ → Option Entry) (p : ℕ → Bool) (k : ℕ) (above : 1 ≤ k) where
  abbrev joins : ℕ → List Entry
  joins n = filter_map f (filter p (range_with_len 1 n))

  one-more : range_with_len 1 (k + 1 - 1) ≡ range_with_len 1 (k - 1) ++ k ∷ []
  one-more =
      let next : k + 1 - 1 ≡ suc (k - 1) = omega arith in
      let last : 1 + (k - 1) ≡ k = omega arith in
      ap (range_with_len 1) next ∙ range-more 1 (k - 1)
      ∙ ap (λ n. range_with_len 1 (k - 1) ++ n ∷ []) last

  filtered-more : filter p (range_with_len 1 (k + 1 - 1))
      ≡ filter p (range_with_len 1 (k - 1)) ++ cond (p k) (k ∷ []) []
  filtered-more = ap (filter p) one-more ∙ filter-append p (range_with_len 1 (k - 1)) (k ∷ [])

  pub joins-marked : (history : List Entry) → p k ≡ true
      → (history ++ joins (k - 1)) ++ filter_map f (k ∷ []) ≡ history ++ joins (k + 1 - 1)
  joins-marked history marked =
      append_assoc history (joins (k - 1)) (filter_map f (k ∷ []))
      ∙ ap (λ xs. history ++ xs) (sym (ap (filter_map f) (filtered-more
      ∙ ap (λ xs. filter p (range_with_len 1 (k - 1)) ++ xs) (cond-true (p k) (k ∷ []) [] marked))
      ∙ filter_map-append f (filter p (range_with_len 1 (k - 1))) (k ∷ [])))

  pub ids-marked : p k ≡ true → filter p (range_with_len 1 (k - 1)) ++ k ∷ []
      ≡ filter p (range_with_len 1 (k + 1 - 1))
  ids-marked marked = sym (filtered-more
      ∙ ap (λ xs. filter p (range_with_len 1 (k - 1)) ++ xs) (cond-true (p k) (k ∷ []) [] marked))

  pub ids-unmarked : p k ≡ false → filter p (range_with_len 1 (k - 1))
      ≡ filter p (range_with_len 1 (k + 1 - 1))
  ids-unmarked other = sym (filtered-more
      ∙ ap (λ xs. filter p (range_with_len 1 (k - 1)) ++ xs) (cond-false (p k) (k ∷ []) [] other)
      ∙ append-nil (filter p (range_with_len 1 (k - 1))))

-- what stands at a place is the first of the rest there
pub drop-at : {X : Type 0} (xs : List X) (at : ℕ) (x : X) → slice_get xs at ≡ Some x
    → (rest : List X) × (drop at xs ≡ x ∷ rest)
drop-at [] at x found = cc
drop-at (y ∷ ys) zero x found = (ys, cc)
drop-at (y ∷ ys) (suc at) x found = drop-at ys at x found

-- what a look-up found stands there
pub found-at : {X : Type 0} (xs : List X) (at : ℕ) (x : X) → at < length xs → x ≡ get_or xs at x
    → slice_get xs at ≡ Some x
found-at xs at x within is = slice_get-get_or xs at x within ∙ ap Some (sym is)

pub written-more : (old new : Log) (journal : List Event) (live : List HistoryItem)
    (item : HistoryItem) (entry : Entry)
    → (are : AreWritten old (map (entry_in journal) live))
    → slice_get live (length are.written) ≡ Some item → entry ≡ entry_in journal item
    → ((entries : List Entry) → AreLogOf old entries → AreLogOf new (entries ++ entry ∷ []))
    → AreWritten new (map (entry_in journal) live)
written-more old new journal live item entry are found is more =
    let n = length are.written in
    let history = map (entry_in journal) live in
    let here : slice_get history n ≡ Some (entry_in journal item) =
    slice_get-map (entry_in journal) live n ∙ ap (option_map (entry_in journal)) found in
    let d = drop-at history n (entry_in journal item) here in
    let rest_is : are.rest ≡ entry ∷ d.0 =
    sym (drop-append_seam are.written are.rest) ∙ ap (drop n) (sym are.all) ∙ d.1
    ∙ ap (λ e. e ∷ d.0) (sym is) in
    record {
      written = are.written ++ entry ∷ [];
      rest = d.0;
      of = more are.written are.of;
      all = are.all ∙ ap (λ xs. are.written ++ xs) rest_is
          ∙ sym (append_assoc are.written (entry ∷ []) d.0);
    }
