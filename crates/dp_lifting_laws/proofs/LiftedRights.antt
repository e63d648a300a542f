-- Rights after lifted entries are those after the entries.
use Rattle.std.proofs.Common.{◌≡◌, ℕ, ◌-◌, Bool, true, false, cond, if◌then◌else◌, List, [], ◌∷◌}
use Rattle.std.proofs.Common.{◌++◌, length, map, drop, Option, Some, None}
use Rattle.std.proofs.Common.{refl, sym, ap, ap₂, ◌∙◌}
use Rattle.std.specs.Prelude.{option_to_list, slice_get}
use Rattle.std.specs.List.{cons_option, filter, filter_map}
use Rattle.std.specs.Option.{option_map, option_map_or}
use Rattle.std.proofs.Math.Path.{fun_ext}
use Rattle.std.proofs.lemmas.List.{length-map, map-append, drop-map}
use Rattle.std.proofs.lemmas.Option.{slice_get-map}
use Rattle.dp_msg_draw.specs.declared.draw.Draw.{Draw}
use Rattle.dp_msg_meta.specs.declared.message.Meta.{Meta}
use Rattle.dp_msg_meta.specs.declared.message.Meta.TheVariants.{Owners, Trusted, UserAcl}
use Rattle.dp_msg_meta.specs.declared.message.Meta.TheVariants.{FeatureTiers, ResetMark, UndoDepth}
use Rattle.dp_messages.specs.declared.message.Msg.{Msg}
use Rattle.dp_messages.specs.declared.message.Msg.TheVariants as msg
use Rattle.dp_messages.specs.declared.message.Entry.{Entry}
use Rattle.dp_acl.specs.LookBack.{numbers_below, is_join_of, set_depth}
use Rattle.dp_acl.specs.Rights.{is_operator}
use Rattle.dp_acl.specs.Rights.{depth_of, lets_paint}
use Rattle.dp_acl.specs.Permitted.{permitted}
use Rattle.dp_acl.specs.Carried.{acl_with, carried}
use Rattle.dp_acl.specs.Opening.{server_entry, command_entry, last_join, carried_entries, opening}
use Rattle.dp_acl.specs.Opening.{goes_over, kept_entries}
use Rattle.dp_acl.proofs.LawLemmas.{Look, look, look_after, but_rule, painted_layer}
use Rattle.dp_acl.proofs.LawLemmas.{permitted-same}
use Rattle.dp_acl.proofs.LookLemmas.{look_all, look-all}
use Rattle.dp_epochs.specs.State.{Stream, kept_by}
use Rattle.dp_lifting_laws.specs.Lifted.{lifted_message, lifted_entry}

abbrev pub lifted_entries : List Entry → List Entry
lifted_entries = map lifted_entry

-- ---- what looking back finds

look_one-lifted : (user layer sender : ℕ) (m : Msg) (l : Look)
    → look_after user layer (record { user = sender; msg = lifted_message m }) l
    ≡ look_after user layer (record { user = sender; msg = m }) l
look_one-lifted user layer sender (msg.Opaque kind body) l = refl
look_one-lifted user layer sender m l = refl

look_all-lifted : (user layer : ℕ) (es : List Entry) (l : Look)
    → look_all user layer (lifted_entries es) l ≡ look_all user layer es l
look_all-lifted user layer [] l = refl
look_all-lifted user layer (e ∷ es) l =
    ap (look_all user layer (lifted_entries es)) (look_one-lifted user layer e.user e.msg l)
    ∙ look_all-lifted user layer es (look_after user layer e l)

look-lifted : (user layer : ℕ) (history : List Entry)
    → look (lifted_entries history) user layer ≡ look history user layer
look-lifted user layer history =
    look-all user layer (lifted_entries history) []
    ∙ look_all-lifted user layer history (look [] user layer)
    ∙ sym (look-all user layer history [])

pub operators-lifted : (history : List Entry)
    → is_operator (lifted_entries history) ≡ is_operator history
operators-lifted history = fun_ext (λ user. ap (λ l. l.operator) (look-lifted user 0 history))

pub permitted-lifted : (history : List Entry) (user : ℕ) (m : Msg)
    → permitted (lifted_entries history) user m ≡ permitted history user m
permitted-lifted history user m =
    permitted-same (lifted_entries history) history user
    (ap but_rule (look-lifted user 0 history)) m
    (ap (λ l. option_map_or (lets_paint history user) l.rule true)
    (look-lifted user (painted_layer m) history))

-- ---- what is carried

set_depth-lifted : (m : Msg) → set_depth (lifted_message m) ≡ set_depth m
set_depth-lifted (msg.Opaque kind body) = refl
set_depth-lifted m = refl

depths-lifted : (history : List Entry)
    → filter_map (λ e. set_depth e.msg) (lifted_entries history)
    ≡ filter_map (λ e. set_depth e.msg) history
depths-lifted [] = refl
depths-lifted (e ∷ es) =
    ap₂ (λ (o : Option ℕ) (more : List ℕ). cons_option o more) (set_depth-lifted e.msg)
    (depths-lifted es)

depth-lifted : (history : List Entry) → depth_of (lifted_entries history) ≡ depth_of history
depth-lifted history = ap (λ all. slice_get all (length all - 1)) (depths-lifted history)

carried-lifted : (history : List Entry) (present : List ℕ)
    → carried (lifted_entries history) present ≡ carried history present
carried-lifted history present =
    ap₂ cons (ap (λ p. Owners (filter p present)) (operators-lifted history))
    (ap₂ cons (ap (λ p. Trusted (filter p present))
    (fun_ext (λ user. ap (λ l. l.trusted) (look-lifted user 0 history))))
    (ap₂ cons (ap₂ (λ (b : Bool) (p : ℕ → Bool).
    UserAcl ((if b then 0 ∷ [] else []) ++ filter p present))
    (ap (λ l. l.all_locked) (look-lifted 0 0 history))
    (fun_ext (λ user. ap (λ l. l.lock_listed) (look-lifted user 0 history))))
    (ap₂ cons (ap (λ l. FeatureTiers l.tiers) (look-lifted 0 0 history))
    (ap₂ (λ (ms ns : List Meta). ms ++ ns)
    (ap (λ d. option_to_list (option_map UndoDepth d)) (depth-lifted history))
    (ap (λ r. filter_map r (numbers_below 65536))
    (fun_ext (λ layer. ap (λ l. option_map (acl_with layer) l.rule)
    (look-lifted 0 layer history))))))))
  where
    cons : Meta → List Meta → List Meta
    cons m ms = m ∷ ms

-- ---- the last Joins

is_join-lifted : (user sender : ℕ) (m : Msg)
    → is_join_of user (record { user = sender; msg = lifted_message m })
    ≡ is_join_of user (record { user = sender; msg = m })
is_join-lifted user sender (msg.Opaque kind body) = refl
is_join-lifted user sender m = refl

joins-lifted : (user : ℕ) (history : List Entry)
    → filter (is_join_of user) (lifted_entries history)
    ≡ lifted_entries (filter (is_join_of user) history)
joins-lifted user [] = refl
joins-lifted user (e ∷ es) =
    ap₂ (λ (b : Bool) (more : List Entry). cond b (lifted_entry e ∷ more) more)
    (is_join-lifted user e.user e.msg) (joins-lifted user es)
    ∙ by_case (is_join_of user e) (filter (is_join_of user) es)
  where
    by_case : (b : Bool) (more : List Entry)
        → cond b (lifted_entry e ∷ lifted_entries more) (lifted_entries more)
        ≡ lifted_entries (cond b (e ∷ more) more)
    by_case true more = refl
    by_case false more = refl

last_join-lifted : (history : List Entry) (user : ℕ)
    → last_join (lifted_entries history) user ≡ option_map lifted_entry (last_join history user)
last_join-lifted history user =
    let joins = filter (is_join_of user) history in
    ap (λ all. slice_get all (length all - 1)) (joins-lifted user history)
    ∙ ap (λ n. slice_get (lifted_entries joins) (n - 1)) (length-map joins lifted_entry)
    ∙ slice_get-map lifted_entry joins (length joins - 1)

last_joins-lifted : (history : List Entry) (present : List ℕ)
    → filter_map (last_join (lifted_entries history)) present
    ≡ lifted_entries (filter_map (last_join history) present)
last_joins-lifted history [] = refl
last_joins-lifted history (user ∷ users) =
    ap₂ (λ (o : Option Entry) (more : List Entry). cons_option o more)
    (last_join-lifted history user) (last_joins-lifted history users)
    ∙ by_case (last_join history user) (filter_map (last_join history) users)
  where
    by_case : (o : Option Entry) (more : List Entry)
        → cons_option (option_map lifted_entry o) (lifted_entries more)
        ≡ lifted_entries (cons_option o more)
    by_case None more = refl
    by_case (Some e) more = refl

-- ---- the opening

servers-lifted : (ms : List Meta) → lifted_entries (map server_entry ms) ≡ map server_entry ms
servers-lifted [] = refl
servers-lifted (m ∷ ms) = ap (λ es. server_entry m ∷ es) (servers-lifted ms)

commands-lifted : (commands : List Draw)
    → lifted_entries (map command_entry commands) ≡ map command_entry commands
commands-lifted [] = refl
commands-lifted (c ∷ cs) = ap (λ es. command_entry c ∷ es) (commands-lifted cs)

carried_entries-lifted : (history : List Entry) (present : List ℕ) (commands : List Draw)
    (kept : List Entry)
    → carried_entries (lifted_entries history) present commands (lifted_entries kept)
    ≡ lifted_entries (carried_entries history present commands kept)
carried_entries-lifted history present commands kept =
    let joins = filter_map (last_join history) present in
    let rights = map server_entry (carried history present) in
    let rest = map command_entry commands in
    let more = lifted_entries kept in
    ap₂ (λ (js : List Entry) (ms : List Meta). js ++ map server_entry ms ++ rest ++ more)
    (last_joins-lifted history present) (carried-lifted history present)
    ∙ ap₂ (λ (rs cs : List Entry). lifted_entries joins ++ rs ++ cs ++ more)
    (sym (servers-lifted (carried history present))) (sym (commands-lifted commands))
    ∙ ap (λ es. es ++ lifted_entries rest ++ more) (sym (map-append lifted_entry joins rights))
    ∙ ap (λ es. es ++ more) (sym (map-append lifted_entry (joins ++ rights) rest))
    ∙ sym (map-append lifted_entry (joins ++ rights ++ rest) kept)

-- lifted entries go on as the entries do
goes-lifted : (m : Msg) → goes_over (lifted_message m) ≡ goes_over m
goes-lifted (msg.Opaque kind body) = refl
goes-lifted m = refl

passing-lifted : (entries : List Entry)
    → filter (λ e. goes_over e.msg) (lifted_entries entries)
    ≡ lifted_entries (filter (λ e. goes_over e.msg) entries)
passing-lifted [] = refl
passing-lifted (e ∷ es) =
    ap₂ (λ (b : Bool) (xs : List Entry). cond b (lifted_entry e ∷ xs) xs) (goes-lifted e.msg)
    (passing-lifted es)
    ∙ by_case (goes_over e.msg) (filter (λ e. goes_over e.msg) es)
  where
    by_case : (b : Bool) (xs : List Entry)
        → cond b (lifted_entry e ∷ lifted_entries xs) (lifted_entries xs)
        ≡ lifted_entries (cond b (e ∷ xs) xs)
    by_case true xs = refl
    by_case false xs = refl

-- what a reset keeps of lifted entries is what it keeps, lifted
pub kept-lifted : (stream : Option Stream) (history : List Entry)
    → kept_by stream (lifted_entries history) ≡ lifted_entries (kept_by stream history)
kept-lifted None history = refl
kept-lifted (Some stream) history = from stream.place
  where
    from : (place : Option ℕ)
        → kept_entries place (lifted_entries history) ≡ lifted_entries (kept_entries place history)
    from None = refl
    from (Some at) =
        ap (filter (λ (e : Entry). goes_over e.msg)) (drop-map lifted_entry at history)
        ∙ passing-lifted (drop at history)

-- an epoch opens after lifted entries as after the entries, lifted
pub opening-lifted : (epoch : ℕ) (history : List Entry) (present : List ℕ) (commands : List Draw)
    (kept : List Entry)
    → opening epoch (lifted_entries history) present commands (lifted_entries kept)
    ≡ lifted_entries (opening epoch history present commands kept)
opening-lifted epoch history present commands kept =
    let rest = carried_entries history present commands kept in
    ap (λ more. server_entry (ResetMark epoch (length more)) ∷ more)
    (carried_entries-lifted history present commands kept)
    ∙ ap (λ n. server_entry (ResetMark epoch n) ∷ lifted_entries rest)
    (length-map rest lifted_entry)
