use Rattle.std.proofs.Common.{◌++◌, map}
use Rattle.std.specs.List.{filter, filter_map}
use Rattle.dp_acl.specs.Opening.{server_entry, command_entry, last_join}
use Rattle.dp_epochs.specs.State.{user_ids}
use Rattle.dp_history.specs.Items.{commands_in}
use Rattle.dp_history.specs.Users.{mark}
use Rattle.dp_commit.proofs.opening.add_carried.Goals as goal

pub returns : goal.returns
returns c = λ history live joined drawn holds.
    let J = c.args.journal.now in
    let users = filter (mark c.args.roster.now.present) user_ids in
    let one = history ++ filter_map (last_join live) users in
    let two = one ++ map server_entry c.args.metas.now in
    let three = two ++ map command_entry (commands_in J c.args.parts.now) in
    c.in_ok-add_kept.ensures three
    (c.in_ok-add_commands.ensures J two drawn
    (c.in_ok-add_metas.ensures J one (c.in_ok-add_joins.ensures history live joined holds)))
