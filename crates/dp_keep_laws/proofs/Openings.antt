-- What an epoch opens with shows the commands of its reset, and what comes after it goes on from
-- there.
use Rattle.std.proofs.Common.{◌≡◌, ℕ, ◌==◌, true, false, List, [], ◌∷◌, ◌++◌, map, fold, Option}
use Rattle.std.proofs.Common.{None, Some, is_some, refl, ap, sym, ◌∙◌, append_assoc, length}
use Rattle.std.specs.Prelude.{◌-◌}
use Rattle.std.specs.List.{AllByRecursion, filter_map, cons_option}
use Rattle.std.proofs.lemmas.Bool.{and_parts}
use Rattle.std.proofs.lemmas.List.{append-nil, map-append}
use Rattle.std.proofs.lemmas.List.Sums.{fold-append}
use Rattle.dp_msg_draw.specs.declared.draw.Draw.{Draw}
use Rattle.dp_msg_meta.specs.declared.message.Meta.{Meta}
use Rattle.dp_msg_meta.specs.declared.message.Meta.TheVariants.{UndoDepth, ResetMark}
use Rattle.dp_messages.specs.declared.message.Msg.{Msg}
use Rattle.dp_messages.specs.declared.message.Msg.TheVariants as msg
use Rattle.dp_messages.specs.declared.message.Entry.{Entry}
use Rattle.dp_messages.specs.Properties as properties
use Rattle.dp_board.specs.Commands.{command_of, all_commands, drawn_commands}
use Rattle.dp_board.specs.Laws.{is_point, HasNoPoint, PrefixesWithoutPoints}
use Rattle.dp_plain.specs.Board.{empty_board}
use Rattle.dp_plain.specs.Commands.{draw, draw_all}
use Rattle.dp_replay.specs.Replay.{replay, replay_from, act_of_meta, act_of_message, user_act_of}
use Rattle.dp_replay.specs.Replay.{undo_depth, depth_in_force}
use Rattle.dp_acl.specs.LookBack.{joined}
use Rattle.dp_acl.specs.Carried.{carried}
use Rattle.dp_acl.specs.Opening.{server_entry, command_entry, last_join, opening}
use Rattle.dp_epochs.proofs.OpeningLemmas.{last-joined}
use Rattle.dp_keep_laws.proofs.Depths.{joins-none, depth-opening}

-- the message moves no strokes
abbrev IsPlain : Msg → Type 0
IsPlain (msg.Meta m) = Unit {0}
IsPlain (msg.Draw command) = Unit {0}
IsPlain m = ⊥

-- it is no command either
abbrev IsMeta : Msg → Type 0
IsMeta (msg.Meta m) = Unit {0}
IsMeta m = ⊥

abbrev ArePlain : List Entry → Type 0
ArePlain entries = AllByRecursion (λ e. IsPlain e.msg) entries

abbrev AreMeta : List Entry → Type 0
AreMeta entries = AllByRecursion (λ e. IsMeta e.msg) entries

-- ---- what shows of a history that begins so

-- a message on the session is no Point
meta-no_point : (m : Meta) → is_point (act_of_meta {Op = Draw} m) ≡ false
meta-no_point (UndoDepth depth) = refl
meta-no_point m = refl

act-no_point : (sender : ℕ) (m : Msg) → IsPlain m → is_point (act_of_message sender m) ≡ false
act-no_point sender (msg.Meta m) plain = meta-no_point m
act-no_point sender (msg.Draw command) plain = refl
act-no_point sender _ plain = absurd plain

no_points : (entries : List Entry) → ArePlain entries → HasNoPoint (map user_act_of entries)
no_points [] plain = tt
no_points (e ∷ entries) plain = (act-no_point e.user e.msg plain.0, no_points entries plain.1)

-- the command of an entry, if it is one
abbrev commands_of : List Entry → List Draw
commands_of entries = filter_map (λ e. properties.command_of e.msg) entries

-- a message on the session is no command
meta-no_command : (m : Meta) → command_of (act_of_meta {Op = Draw} m) true ≡ []
meta-no_command (UndoDepth depth) = refl
meta-no_command m = refl

first-command : (sender : ℕ) (m : Msg) (rest : List Draw) → IsPlain m
    → command_of (act_of_message sender m) true ++ rest
    ≡ cons_option (properties.command_of m) rest
first-command sender (msg.Meta m) rest plain = ap (λ ops. ops ++ rest) (meta-no_command m)
first-command sender (msg.Draw command) rest plain = refl
first-command sender _ rest plain = absurd plain

all-commands : (entries : List Entry) → ArePlain entries
    → all_commands (map user_act_of entries) ≡ commands_of entries
all-commands [] plain = refl
all-commands (e ∷ entries) plain =
    first-command e.user e.msg (all_commands (map user_act_of entries)) plain.0
    ∙ ap (cons_option (properties.command_of e.msg)) (all-commands entries plain.1)

-- its commands are drawn, and what comes after them goes on from there
replay-plain : PrefixesWithoutPoints Draw → (entries more : List Entry) → ArePlain entries
    → replay (entries ++ more)
    ≡ replay_from draw (draw_all empty_board (commands_of entries)) (depth_in_force entries) more
replay-plain law entries more plain =
    let before = map user_act_of entries in
    let after = map user_act_of more in
    let rest = drawn_commands (depth_in_force entries) after in
    ap (λ acts. fold draw empty_board (drawn_commands undo_depth acts))
    (map-append user_act_of entries more)
    ∙ ap (fold draw empty_board) (law undo_depth before after (no_points entries plain))
    ∙ fold-append draw empty_board (all_commands before) rest
    ∙ ap (λ ops. fold draw (fold draw empty_board ops) rest) (all-commands entries plain)

-- ---- what an epoch opens with

plain-append : (xs ys : List Entry) → AreMeta xs → ArePlain ys → ArePlain (xs ++ ys)
plain-append [] ys metas plain = plain
plain-append (x ∷ xs) ys metas plain =
    (meta-plain x.msg metas.0, plain-append xs ys metas.1 plain)
  where
    meta-plain : (m : Msg) → IsMeta m → IsPlain m
    meta-plain (msg.Meta m) h = tt
    meta-plain m h = absurd h

meta-commands : (xs ys : List Entry) → AreMeta xs → commands_of (xs ++ ys) ≡ commands_of ys
meta-commands [] ys metas = refl
meta-commands (x ∷ xs) ys metas =
    none x.msg (commands_of (xs ++ ys)) metas.0 ∙ meta-commands xs ys metas.1
  where
    none : (m : Msg) (rest : List Draw) → IsMeta m
        → cons_option (properties.command_of m) rest ≡ rest
    none (msg.Meta m) rest h = refl
    none m rest h = absurd h

metas-append : (xs ys : List Entry) → AreMeta xs → AreMeta ys → AreMeta (xs ++ ys)
metas-append [] ys hx hy = hy
metas-append (x ∷ xs) ys hx hy = (hx.0, metas-append xs ys hx.1 hy)

abbrev AreJoins : List Entry → Type 0
AreJoins entries = AllByRecursion (λ e. is_some (joined e.msg) ≡ true) entries

joined-meta : (m : Msg) → is_some (joined m) ≡ true → IsMeta m
joined-meta (msg.Meta m) some = tt
joined-meta m some = cc

-- the last Joins
joins-joined : (history : List Entry) (users : List ℕ)
    → AreJoins (filter_map (last_join history) users)
joins-joined history [] = tt
joins-joined history (user ∷ users) =
    one (last_join history user) (filter_map (last_join history) users)
    (λ e is. (and_parts (is_some (joined e.msg)) (e.user == user)
    (last-joined history user e is)).0)
    (joins-joined history users)
  where
    one : (o : Option Entry) (rest : List Entry)
        → ((e : Entry) → o ≡ Some e → is_some (joined e.msg) ≡ true) → AreJoins rest
        → AreJoins (cons_option o rest)
    one None rest some are = are
    one (Some e) rest some are = (some e refl, are)

joins-meta : (entries : List Entry) → AreJoins entries → AreMeta entries
joins-meta [] are = tt
joins-meta (e ∷ entries) are = (joined-meta e.msg are.0, joins-meta entries are.1)

server-meta : (ms : List Meta) → AreMeta (map server_entry ms)
server-meta [] = tt
server-meta (m ∷ ms) = (tt, server-meta ms)

drawn-plain : (list : List Draw) → ArePlain (map command_entry list)
drawn-plain [] = tt
drawn-plain (command ∷ list) = (tt, drawn-plain list)

drawn-commands : (list : List Draw) → commands_of (map command_entry list) ≡ list
drawn-commands [] = refl
drawn-commands (command ∷ list) = ap (λ xs. command ∷ xs) (drawn-commands list)

-- it shows the commands of the reset, and what it keeps and what comes after it go on from there
pub openings_go_on : PrefixesWithoutPoints Draw → (epoch : ℕ) (history : List Entry)
    (present : List ℕ) (list : List Draw) (kept more : List Entry)
    → replay (opening epoch history present list kept ++ more)
    ≡ replay_from draw (draw_all empty_board list) (depth_in_force history) (kept ++ more)
openings_go_on law epoch history present list kept more =
    let joins = filter_map (last_join history) present in
    let rights = map server_entry (carried history present) in
    let drawn = map command_entry list in
    let first = joins ++ rights ++ drawn in
    let mark = server_entry (ResetMark epoch (length (first ++ kept))) in
    let are : AreJoins joins = joins-joined history present in
    let metas : AreMeta (joins ++ rights) =
    metas-append joins rights (joins-meta joins are) (server-meta (carried history present)) in
    let plain : ArePlain first = plain-append (joins ++ rights) drawn metas (drawn-plain list) in
    ap (λ entries. replay (mark ∷ entries)) (append_assoc first kept more)
    ∙ replay-plain law (mark ∷ first) (kept ++ more) (tt, plain)
    ∙ ap (λ ops. replay_from draw (draw_all empty_board ops) (depth_in_force (mark ∷ first))
    (kept ++ more)) (meta-commands (joins ++ rights) drawn metas ∙ drawn-commands list)
    ∙ ap (λ depth. replay_from draw (draw_all empty_board list) depth (kept ++ more))
    (depth-opening undo_depth history joins present list (joins-none joins are))

-- it shows the commands of the reset
pub opening-shows : PrefixesWithoutPoints Draw → (epoch : ℕ) (history : List Entry)
    (present : List ℕ) (list : List Draw)
    → replay (opening epoch history present list []) ≡ draw_all empty_board list
opening-shows law epoch history present list =
    ap replay (sym (append-nil (opening epoch history present list [])))
    ∙ openings_go_on law epoch history present list [] []

-- what an epoch opens with, without what it keeps: a mark that carries the number `count`, and more
abbrev pub opening_front : ℕ → ℕ → List Entry → List ℕ → List Draw → List Entry
opening_front epoch count history present list =
    server_entry (ResetMark epoch count)
    ∷ (filter_map (last_join history) present ++ map server_entry (carried history present)
    ++ map command_entry list)

-- the depth in force after it is that of the history before
pub opening-depth : (epoch count : ℕ) (history : List Entry) (present : List ℕ) (list : List Draw)
    → depth_in_force (opening_front epoch count history present list) ≡ depth_in_force history
opening-depth epoch count history present list =
    let joins = filter_map (last_join history) present in
    depth-opening undo_depth history joins present list
    (joins-none joins (joins-joined history present))
