-- Events of a journal stay as it grows.
use Rattle.std.proofs.Common.{◌≡◌, ℕ, zero, suc, true, is_some, List, [], ◌∷◌, ◌++◌, length, Option}
use Rattle.std.proofs.Common.{None, Some, refl}
use Rattle.std.specs.List.{slice_get}
use Rattle.dp_epochs.specs.declared.event.Event.{Event}
use Rattle.dp_history.specs.Items.{IsSay, part_of, join_of}

-- an event that was journalled stands where it stood
pub stays_there : (journal more : List Event) (k : ℕ) → is_some (slice_get journal k) ≡ true
    → slice_get (journal ++ more) k ≡ slice_get journal k
stays_there [] more k there = cc
stays_there (e ∷ journal) more zero there = refl
stays_there (e ∷ journal) more (suc k) there = stays_there journal more k there

pub say-there : (o : Option Event) → IsSay o → is_some o ≡ true
say-there None say = absurd say
say-there (Some e) say = refl

pub join-there : (user : ℕ) (o : Option Event) → is_some (join_of user o) ≡ true → is_some o ≡ true
join-there user None some = some
join-there user (Some e) some = refl

pub part-there : (o : Option Event) → is_some (part_of o) ≡ true → is_some o ≡ true
part-there None some = some
part-there (Some e) some = refl

-- the event after a journal
pub last_there : (journal : List Event) (e : Event) → slice_get (journal ++ e ∷ []) (length journal)
    ≡ Some e
last_there [] e = refl
last_there (x ∷ journal) e = last_there journal e
