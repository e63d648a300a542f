-- What of the rights was carried into the next epoch in the first profile.
use Rattle.std.specs.Prelude.{ℕ, List, ◌∷◌}
use Rattle.dp_msg_meta.specs.declared.message.Meta.{Meta}
use Rattle.dp_messages.specs.declared.message.Entry.{Entry}
use Rattle.dp_acl.specs.Carried.{carried_owners, carried_trusted, carried_locks, carried_tiers}
use Rattle.dp_acl.specs.Carried.{carried_rules}

-- as today, without a depth
abbrev pub first_carried : List Entry → List ℕ → List Meta
first_carried history present =
    carried_owners history present
    ∷ carried_trusted history present
    ∷ carried_locks history present
    ∷ carried_tiers history
    ∷ carried_rules history
