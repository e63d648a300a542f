-- The messages of a reset, and their bytes.
use Rattle.std.proofs.Common.{◌≡◌, ℕ, ◌+◌, map, List, ◌∷◌, [], ◌++◌, length, sym, ap, ◌∙◌, arith}
use Rattle.std.specs.Prelude.{Bool}
use Rattle.std.specs.List.{flat_map}
use Rattle.std.proofs.lemmas.Grind.{flat_map-append}
use Rattle.std.proofs.lemmas.List.{append-nil, length-append, length-map}
use Rattle.std.proofs.lemmas.List.Folds.{flat_map-map}
use Rattle.dp_client.specs.Client.{State, confirmed}
use Rattle.dp_msg_draw.specs.declared.draw.Draw.{Draw}
use Rattle.dp_msg_meta.specs.declared.message.Control.TheVariants as control
use Rattle.dp_messages.specs.declared.message.Msg.{Msg}
use Rattle.dp_messages.specs.declared.message.Msg.TheVariants as msg
use Rattle.dp_snap.specs.Resets.{reset_begin, reset_messages}
use Rattle.dp_snap.specs.Snapshot.{snapshot}
use Rattle.dp_showing.specs.Resets.{client_reset}
use Rattle.dp_join_link.specs.Sent.{sent_by}

-- the messages of the client's reset
pub resets_are : (keeps : Bool) (client : State) (begin : Msg) (commands : List Draw) (count : ℕ)
    → count ≡ length client.taken → begin ≡ reset_begin keeps count
    → commands ≡ snapshot (confirmed client)
    → reset_messages begin commands ≡ client_reset keeps client
resets_are keeps client begin commands count many begins is =
    ap (λ (m : Msg). reset_messages m commands) (begins ∙ ap (reset_begin keeps) many)
    ∙ ap (reset_messages (reset_begin keeps (length client.taken))) is

-- the messages of a reset
pub reset_length : (begin : Msg) (commands : List Draw)
    → length (reset_messages begin commands) ≡ length commands + 2
reset_length begin commands =
    let parts : List Msg = map (λ (op : Draw). msg.Part op) commands in
    let last : List Msg = msg.Control control.ResetEnd ∷ [] in
    let same : length parts ≡ length commands =
    length-map commands (λ (op : Draw). msg.Part op) in
    let both : length (parts ++ last) ≡ length parts + 1 = length-append parts last in
    omega arith

pub reset_bytes : (user : ℕ) (begin : Msg) (commands : List Draw)
    → sent_by user begin
    ++ (flat_map (λ command. sent_by user (msg.Part command)) commands
    ++ sent_by user (msg.Control control.ResetEnd))
    ≡ flat_map (sent_by user) (reset_messages begin commands)
reset_bytes user begin commands =
    sym (ap (λ (t : List ℕ). sent_by user begin ++ t)
    (flat_map-append (sent_by user) (map (λ (op : Draw). msg.Part op) commands)
    (msg.Control control.ResetEnd ∷ [])
    ∙ ap (λ (t : List ℕ). t ++ flat_map (sent_by user) (msg.Control control.ResetEnd ∷ []))
    (flat_map-map (sent_by user) (λ (op : Draw). msg.Part op) commands)
    ∙ ap (λ (t : List ℕ). flat_map (λ command. sent_by user (msg.Part command)) commands ++ t)
    (append-nil (sent_by user (msg.Control control.ResetEnd)))))
