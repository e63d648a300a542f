use Rattle.std.proofs.Common.{◌++◌}
use Rattle.std.specs.List.{flat_map}
use Rattle.dp_io.proofs.Prefixes.{grows_after, grows_within}
use Rattle.dp_msg_draw.specs.declared.draw.Draw.{Draw}
use Rattle.dp_msg_meta.specs.declared.message.Control.TheVariants as control
use Rattle.dp_messages.specs.declared.message.Msg.TheVariants as msg
use Rattle.dp_showing.proofs.Pieces.{prefix_is, written_both, written_is}
use Rattle.dp_join_link.specs.Sent.{sent_by}
use Rattle.dp_snap.specs.Resets.{reset_messages}
use Rattle.dp_joiner.proofs.Resets.{reset_bytes}
use Rattle.dp_joiner.proofs.reset.send_reset.Goals as goal

pub returns-in_err-send-clause-prefix : goal.returns-in_err-send-clause-prefix
returns-in_err-send-clause-prefix g c =
    let first = sent_by c.args.user c.args.begin in
    let parts = flat_map (λ (command : Draw). sent_by c.args.user (msg.Part command))
    c.args.commands.now in
    let last = sent_by c.args.user (msg.Control control.ResetEnd) in
    prefix_is _ _ (first ++ (parts ++ last))
    (flat_map (sent_by c.args.user) (reset_messages c.args.begin c.args.commands.now))
    (reset_bytes c.args.user c.args.begin c.args.commands.now)
    (grows_within _ _ first (parts ++ last) c.in_err-send.ensures.prefix)

pub returns-in_err-send_parts-clause-prefix : goal.returns-in_err-send_parts-clause-prefix
returns-in_err-send_parts-clause-prefix g c =
    let first = sent_by c.args.user c.args.begin in
    let parts = flat_map (λ (command : Draw). sent_by c.args.user (msg.Part command))
    c.args.commands.now in
    let last = sent_by c.args.user (msg.Control control.ResetEnd) in
    prefix_is _ _ (first ++ (parts ++ last))
    (flat_map (sent_by c.args.user) (reset_messages c.args.begin c.args.commands.now))
    (reset_bytes c.args.user c.args.begin c.args.commands.now)
    (grows_after _ _ _ first (parts ++ last) c.in_ok-send.ensures.written
    (grows_within _ _ parts last c.in_err-send_parts.ensures.prefix))

pub returns-clause-written : goal.returns-clause-written
returns-clause-written g c =
    let first = sent_by c.args.user c.args.begin in
    let parts = flat_map (λ (command : Draw). sent_by c.args.user (msg.Part command))
    c.args.commands.now in
    let last = sent_by c.args.user (msg.Control control.ResetEnd) in
    written_is c.send-2.result _ _ (first ++ (parts ++ last))
    (flat_map (sent_by c.args.user) (reset_messages c.args.begin c.args.commands.now))
    (reset_bytes c.args.user c.args.begin c.args.commands.now)
    (written_both c.send-2.result _ _ _ first (parts ++ last) c.in_ok-send.ensures.written
    (written_both c.send-2.result _ _ _ parts last c.in_ok-send_parts.ensures.written
    c.send-2.ensures.written))

pub returns-clause-prefix : goal.returns-clause-prefix
returns-clause-prefix g c =
    let first = sent_by c.args.user c.args.begin in
    let parts = flat_map (λ (command : Draw). sent_by c.args.user (msg.Part command))
    c.args.commands.now in
    let last = sent_by c.args.user (msg.Control control.ResetEnd) in
    prefix_is _ _ (first ++ (parts ++ last))
    (flat_map (sent_by c.args.user) (reset_messages c.args.begin c.args.commands.now))
    (reset_bytes c.args.user c.args.begin c.args.commands.now)
    (grows_after _ _ _ first (parts ++ last) c.in_ok-send.ensures.written
    (grows_after _ _ _ parts last c.in_ok-send_parts.ensures.written c.send-2.ensures.prefix))
