-- The fields that a message of a kind is made of: if they aren't read, no message is spelled.
use Rattle.std.proofs.Common.{◌≡◌, ℕ, ◌^◌, ◌<◌, ◌≤◌, Bool, List, ◌++◌, Err, refl, arith}
use Rattle.std.specs.Str.{IsUtf8}
use Rattle.dp_fields.specs.declared.error.PayloadError.{PayloadError}
use Rattle.dp_fields.specs.FieldLaws.{IsField, byte_field, two_field, four_field, signed_field}
use Rattle.dp_fields.specs.FieldLaws.{pair_field}
use Rattle.dp_fields.specs.Fields.{one_byte, two_bytes, flag_byte}
use Rattle.dp_fields.specs.Reading.{Answers, Spells}
use Rattle.dp_fields.specs.Wholes.{same_error}
use Rattle.dp_msg_meta.specs.declared.fields.Tier.{Tier}
use Rattle.dp_msg_meta.specs.declared.fields.Depth.{Depth}
use Rattle.dp_msg_meta.specs.declared.tails.Name.{Name}
use Rattle.dp_msg_meta.specs.declared.message.Control.{Control}
use Rattle.dp_msg_meta.specs.declared.message.Control.TheVariants.{Hello, Welcome}
use Rattle.dp_msg_meta.specs.declared.message.Meta.{Meta}
use Rattle.dp_msg_meta.specs.declared.message.Meta.TheVariants.{Join, Owners, Chat, Trusted}
use Rattle.dp_msg_meta.specs.declared.message.Meta.TheVariants.{ResetMark, Laser, MovePointer}
use Rattle.dp_msg_meta.specs.declared.message.Meta.TheVariants.{UserAcl, LayerAcl, UndoDepth}
use Rattle.dp_msg_meta.specs.FieldLaws.{depth_field}
use Rattle.dp_msg_meta.specs.Fields.{RiseFrom, IsName, IsText}
use Rattle.dp_msg_meta.specs.Payloads.{SpellsControl, SpellsMeta}

-- the bytes are no such fields
abbrev pub Refuses : {X : Type 0} {spelling : X → List ℕ} {valid : X → Type 0}
    → IsField spelling valid → List ℕ → Type 0
Refuses {X = X} {spelling = spelling} {valid = valid} field bytes = (x : X)
    → Spells spelling valid bytes x → ⊥

-- ---- if no fields are read, no message is

pub no_welcome : {k : ℕ} {bytes : List ℕ} → k ≡ 4
    → Refuses (pair_field (pair_field two_field byte_field)
    (pair_field four_field four_field)) bytes
    → (m : Control) → SpellsControl k bytes m → ⊥
no_welcome is none (Welcome version user epoch at) s =
    let v = s.spelled in
    none ((version, user), (epoch, at))
    (record { bytes_are = s.payload; is_valid = ((v.0, v.1), (v.2, v.3)) })
no_welcome is none m s = absurd (omega (arith, is, s.kind))

pub no_reset_mark : {k : ℕ} {bytes : List ℕ} → k ≡ 37
    → Refuses (pair_field four_field four_field) bytes
    → (m : Meta) → SpellsMeta k bytes m → ⊥
no_reset_mark is none (ResetMark epoch carried) s = none (epoch, carried)
    (record { bytes_are = s.payload; is_valid = s.spelled })
no_reset_mark is none m s = absurd (omega (arith, is, s.kind))

pub no_laser : {k : ℕ} {bytes : List ℕ} → k ≡ 64
    → Refuses (pair_field signed_field signed_field) bytes
    → (m : Meta) → SpellsMeta k bytes m → ⊥
no_laser is none (Laser x y) s = none (x, y)
    (record { bytes_are = s.payload; is_valid = s.spelled })
no_laser is none m s = absurd (omega (arith, is, s.kind))

pub no_move_pointer : {k : ℕ} {bytes : List ℕ} → k ≡ 65
    → Refuses (pair_field signed_field signed_field) bytes
    → (m : Meta) → SpellsMeta k bytes m → ⊥
no_move_pointer is none (MovePointer x y) s = none (x, y)
    (record { bytes_are = s.payload; is_valid = s.spelled })
no_move_pointer is none m s = absurd (omega (arith, is, s.kind))

abbrev depth_of : ℕ → Depth
depth_of n = record { 0 = n }

pub no_undo_depth : {k : ℕ} {bytes : List ℕ} → k ≡ 70
    → Refuses depth_field bytes
    → (m : Meta) → SpellsMeta k bytes m → ⊥
no_undo_depth is none (UndoDepth depth) s = none (depth_of depth)
    (record { bytes_are = s.payload; is_valid = s.spelled })
no_undo_depth is none m s = absurd (omega (arith, is, s.kind))

-- ---- a name

abbrev made_name : List ℕ → Name
made_name text = record { 0 = text }

pub name_spelled : (bytes : List ℕ) → IsUtf8 bytes → IsName bytes
    → (name : Name) × Spells (λ (n : Name). n.0) (λ (n : Name). IsUtf8 n.0 × IsName n.0) bytes name
name_spelled bytes text short = (
  made_name bytes,
  record { bytes_are = refl; is_valid = (text, short) },
)

-- ---- where what runs to the payload's end isn't read, no message is

pub hello_fails : {k : ℕ} (bytes : List ℕ) → k ≡ 0 → (e : PayloadError)
    → Answers (Spells (λ (x : List ℕ). x) IsName bytes) (Err e)
    → Answers (SpellsControl k bytes) (Err e)
hello_fails bytes is = same_error _ _
    (elim [
      | Hello name ↦ λ s. (name, record { bytes_are = s.payload; is_valid = s.spelled })
      | _ ↦ λ s. absurd (omega (arith, is, s.kind))
    ])
    (λ x s. (Hello x, record { kind = is; payload = s.bytes_are; spelled = s.is_valid }))

pub owners_fails : {k : ℕ} (bytes : List ℕ) → k ≡ 34 → (e : PayloadError)
    → Answers (Spells (λ (x : List ℕ). x) (RiseFrom 1) bytes) (Err e)
    → Answers (SpellsMeta k bytes) (Err e)
owners_fails bytes is = same_error _ _
    (elim [
      | Owners ids ↦ λ s. (ids, record { bytes_are = s.payload; is_valid = s.spelled })
      | _ ↦ λ s. absurd (omega (arith, is, s.kind))
    ])
    (λ x s. (Owners x, record { kind = is; payload = s.bytes_are; spelled = s.is_valid }))

pub chat_fails : {k : ℕ} (bytes : List ℕ) → k ≡ 35 → (e : PayloadError)
    → Answers (Spells (λ (x : List ℕ). x) IsText bytes) (Err e)
    → Answers (SpellsMeta k bytes) (Err e)
chat_fails bytes is = same_error _ _
    (elim [
      | Chat text ↦ λ s. (text, record { bytes_are = s.payload; is_valid = s.spelled })
      | _ ↦ λ s. absurd (omega (arith, is, s.kind))
    ])
    (λ x s. (Chat x, record { kind = is; payload = s.bytes_are; spelled = s.is_valid }))

pub trusted_fails : {k : ℕ} (bytes : List ℕ) → k ≡ 36 → (e : PayloadError)
    → Answers (Spells (λ (x : List ℕ). x) (RiseFrom 1) bytes) (Err e)
    → Answers (SpellsMeta k bytes) (Err e)
trusted_fails bytes is = same_error _ _
    (elim [
      | Trusted ids ↦ λ s. (ids, record { bytes_are = s.payload; is_valid = s.spelled })
      | _ ↦ λ s. absurd (omega (arith, is, s.kind))
    ])
    (λ x s. (Trusted x, record { kind = is; payload = s.bytes_are; spelled = s.is_valid }))

pub user_acl_fails : {k : ℕ} (bytes : List ℕ) → k ≡ 66 → (e : PayloadError)
    → Answers (Spells (λ (x : List ℕ). x) (RiseFrom 0) bytes) (Err e)
    → Answers (SpellsMeta k bytes) (Err e)
user_acl_fails bytes is = same_error _ _
    (elim [
      | UserAcl ids ↦ λ s. (ids, record { bytes_are = s.payload; is_valid = s.spelled })
      | _ ↦ λ s. absurd (omega (arith, is, s.kind))
    ])
    (λ x s. (UserAcl x, record { kind = is; payload = s.bytes_are; spelled = s.is_valid }))

pub join_fails : {k : ℕ} (bytes : List ℕ) → k ≡ 32 → (e : PayloadError)
    → Answers (Spells {X = Bool × Name} (λ x. flag_byte x.0 ++ x.1.0)
    (λ x. Unit {0} × (IsUtf8 x.1.0 × IsName x.1.0)) bytes) (Err e)
    → Answers (SpellsMeta k bytes) (Err e)
join_fails bytes is = same_error _ _
    (elim [
      | Join registered name ↦ λ s. (
        (registered, made_name name),
        record { bytes_are = s.payload; is_valid = (tt, s.spelled) },
      )
      | _ ↦ λ s. absurd (omega (arith, is, s.kind))
    ])
    (λ x s. (
      Join x.0 x.1.0,
      record { kind = is; payload = s.bytes_are; spelled = s.is_valid.1 },
    ))

abbrev tier_of : ℕ → Tier
tier_of n = record { 0 = n }

pub layer_acl_fails : {k : ℕ} (bytes : List ℕ) → k ≡ 67 → (e : PayloadError)
    → Answers (Spells {X = (ℕ × (Bool × Tier)) × List ℕ}
    (λ x. (two_bytes x.0.0 ++ (flag_byte x.0.1.0 ++ one_byte x.0.1.1.0)) ++ x.1)
    (λ x. ((x.0.0 < 2 ^ 16) × (Unit {0} × (x.0.1.1.0 ≤ 3))) × RiseFrom 1 x.1) bytes) (Err e)
    → Answers (SpellsMeta k bytes) (Err e)
layer_acl_fails bytes is = same_error _ _
    (elim [
      | LayerAcl layer locked tier ids ↦ λ s. (
        ((layer, (locked, tier_of tier)), ids),
        record {
          bytes_are = s.payload;
          is_valid = ((s.spelled.0, (tt, s.spelled.1)), s.spelled.2);
        },
      )
      | _ ↦ λ s. absurd (omega (arith, is, s.kind))
    ])
    (λ x s. (
      LayerAcl x.0.0 x.0.1.0 x.0.1.1.0 x.1,
      record {
        kind = is;
        payload = s.bytes_are;
        spelled = (s.is_valid.0.0, s.is_valid.0.1.1, s.is_valid.1);
      },
    ))
