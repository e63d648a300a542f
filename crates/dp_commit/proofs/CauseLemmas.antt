-- The causes of effects, by the tables.
use Rattle.std.proofs.Common.{◌≡◌, ℕ, ◌-◌, ◌<◌, Bool, true, false, not, ◌&&◌, if◌then◌else◌, List}
use Rattle.std.proofs.Common.{set, Option, None, Some, refl, sym, ap, ◌∙◌}
use Rattle.std.specs.List.{list_any, find}
use Rattle.dp_msg_meta.specs.declared.message.Meta.TheVariants.{Leave}
use Rattle.dp_acl.specs.Rights.{is_operator}
use Rattle.dp_acl.specs.Laws.{OperatorsStay}
use Rattle.dp_epochs.specs.declared.connection.Connection.{Connection}
use Rattle.dp_epochs.specs.Effects.{IsJoin, IsLeave}
use Rattle.dp_epochs.specs.State.{State, here, entry_of, is_name, is_present, free_id, user_ids}
use Rattle.dp_epochs.specs.State.{left, open_connection, owner_on_leave, present_users}
use Rattle.dp_epochs.proofs.OpenConnections.{open_is_found}
use Rattle.dp_history.specs.Users.{mark, first_operator, next_operator}
use Rattle.dp_history.proofs.Ranges.{find_user-same, any_user-same, list_any-filter}
use Rattle.dp_commit.specs.Marks.{is_holder}
use Rattle.dp_commit.proofs.Holders.{any-marked}
use Rattle.dp_commit.specs.Tables.{Seen, AreOf}
use Rattle.dp_commit.proofs.StateLemmas.{present-marked, ends-marked}
use Rattle.dp_messages.specs.declared.message.Msg.TheVariants as msg
use Rattle.dp_epochs.specs.declared.connection.Ending.TheVariants as ending
use Rattle.dp_epochs.specs.declared.event.Event.TheVariants as event

module _ (s : State) (t : Seen) (are : AreOf s t) where
  -- ---- opening

  marked : (user : ℕ) → user < 256 → is_present s user ≡ mark t.present user
  marked = present-marked s t are

  -- the lowest id that no one holds is the lowest that isn't marked
  pub free-marked : free_id s ≡ find (λ user. not (mark t.present user)) user_ids
  free-marked =
      find_user-same (λ user. not (is_present s user)) (λ user. not (mark t.present user))
      (λ k small. ap not (marked k small))

  -- a user joins
  pub join-cause : (name : List ℕ) (registered : Bool) (user : ℕ) (next : Option ℕ)
      → is_name name ≡ true → Some user ≡ find (λ id. not (mark t.present id)) user_ids
      → next ≡ first_operator t.present user
      → IsJoin s (event.Open name registered) user next
  join-cause name registered user next named found first = record {
    name = name;
    registered = registered;
    came = refl;
    named = named;
    free = free-marked ∙ sym found;
    owner = first
        ∙ sym (ap (λ b. if b then None else Some user)
        (any_user-same (is_present s) (mark t.present) marked));
  }

  -- ---- closing

  module _ (stay : OperatorsStay) (conn : ℕ) (c : Connection)
      (found : open_connection s conn ≡ Some c) where
    abbrev ended_one : Connection
    ended_one = record c { ending = ending.Left (here s) }

    -- who is present after the Leave
    left-marked : (user : ℕ) → user < 256 → is_present (left s conn c) user
        ≡ mark (set t.present c.user false) user
    left-marked user small =
        any-marked (is_holder user) (set s.connections (conn - 1) ended_one)
        (mark (set t.present c.user false) user)
        (ends-marked s t are conn c ended_one found refl refl user small)

    -- who is operator after the Leave
    left-operator : (user : ℕ) → is_operator (left s conn c).live user ≡ is_operator s.live user
    left-operator user = stay s.live (entry_of c.user (msg.Meta Leave)) user refl refl

    -- who becomes operator
    owner-left : owner_on_leave (is_operator s.live c.user) (left s conn c)
        ≡ next_operator (is_operator s.live) (set t.present c.user false) c.user
    owner-left =
        let gone = left s conn c in
        let any_is : list_any (is_operator gone.live) (present_users gone)
        ≡ list_any (λ user. mark (set t.present c.user false) user && is_operator s.live user)
        user_ids =
        list_any-filter (is_operator gone.live) (is_present gone) user_ids
        ∙ any_user-same (λ user. is_present gone user && is_operator gone.live user)
        (λ user. mark (set t.present c.user false) user && is_operator s.live user)
        (λ k small. ap (λ b. b && is_operator gone.live k) (left-marked k small)
        ∙ ap (λ b. mark (set t.present c.user false) k && b) (left-operator k)) in
        let find_is = find_user-same (is_present gone) (mark (set t.present c.user false))
        left-marked in
        cc (any_is, find_is)

    -- a user leaves
    pub leave-cause : (next : Option ℕ)
        → next ≡ next_operator (is_operator s.live) (set t.present c.user false) c.user
        → IsLeave s (event.Close conn) conn c next
    leave-cause next is =
        let f = open_is_found s.connections conn c found in
        record {
          came = refl;
          at = record { given = f.0; running = f.1; found = found };
          owner = is ∙ sym owner-left;
        }
