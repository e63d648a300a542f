-- Control and meta messages: the kind and the payload of each, and which of them have a spelling.
use Rattle.std.specs.Prelude.{◌≡◌, ℕ, ◌<◌, ◌≤◌, ◌^◌, ◌⊎◌, List, [], ◌∷◌, ◌++◌, FitsSigned, ⊤}
use Rattle.std.specs.Int.{w32}
use Rattle.std.specs.Str.{IsUtf8}
use Rattle.dp_fields.specs.Fields.{one_byte, two_bytes, four_bytes, four_signed, flag_byte}
use Rattle.dp_msg_meta.specs.declared.message.Control.{Control}
use Rattle.dp_msg_meta.specs.declared.message.Control.TheVariants.{Hello, Disconnect, Ping, Ack}
use Rattle.dp_msg_meta.specs.declared.message.Control.TheVariants.{Welcome, ResetBegin, ResetEnd}
use Rattle.dp_msg_meta.specs.declared.message.Control.TheVariants.{ResetFrom}
use Rattle.dp_msg_meta.specs.declared.message.Meta.{Meta}
use Rattle.dp_msg_meta.specs.declared.message.Meta.TheVariants.{Join, Leave, Owners, Chat, Trusted}
use Rattle.dp_msg_meta.specs.declared.message.Meta.TheVariants.{ResetMark, Laser, MovePointer}
use Rattle.dp_msg_meta.specs.declared.message.Meta.TheVariants.{UserAcl, LayerAcl, FeatureTiers}
use Rattle.dp_msg_meta.specs.declared.message.Meta.TheVariants.{Filtered, UndoDepth}
use Rattle.dp_msg_meta.specs.declared.message.Tiers.{Tiers}
use Rattle.dp_msg_meta.specs.Fields.{RiseFrom, IsName, IsText}

-- the number of a control message's kind
abbrev pub control_kind : Control → ℕ
control_kind (Hello name) = 0
control_kind (Disconnect reason) = 1
control_kind (Ping pong) = 2
control_kind (Ack epoch) = 3
control_kind (Welcome version user epoch at) = 4
control_kind ResetBegin = 5
control_kind ResetEnd = 7
control_kind (ResetFrom at) = 8

-- the kinds of the control messages
abbrev pub IsControlKind : ℕ → Type 0
IsControlKind kind = (kind ≤ 5) ⊎ ((7 ≤ kind) × (kind ≤ 8))

-- the bytes of a control message's fields, whether they meet their conditions or not
abbrev pub control_payload : Control → List ℕ
control_payload (Hello name) = name
control_payload (Disconnect reason) = one_byte reason
control_payload (Ping pong) = flag_byte pong
control_payload (Ack epoch) = four_bytes epoch
control_payload (Welcome version user epoch at) =
    two_bytes version ++ one_byte user ++ four_bytes epoch ++ four_bytes at
control_payload ResetBegin = []
control_payload ResetEnd = []
control_payload (ResetFrom at) = four_bytes at

-- Which control messages have a spelling: each number lies within its width, and a name is one.
-- (So no payload has more than 32 bytes.)
abbrev pub ControlHasSpelling : Control → Type 0
ControlHasSpelling (Hello name) = IsName name
ControlHasSpelling (Disconnect reason) = reason < 2 ^ 8
ControlHasSpelling (Ping pong) = ⊤
ControlHasSpelling (Ack epoch) = epoch < 2 ^ 32
ControlHasSpelling (Welcome version user epoch at) =
    (version < 2 ^ 16) × (user < 2 ^ 8) × (epoch < 2 ^ 32) × (at < 2 ^ 32)
ControlHasSpelling ResetBegin = ⊤
ControlHasSpelling ResetEnd = ⊤
ControlHasSpelling (ResetFrom at) = at < 2 ^ 32

-- these bytes, as the payload of a message of kind k, spell the control message
pub record SpellsControl (k : ℕ) (bytes : List ℕ) (m : Control) : Type 0 where
  pub kind : k ≡ control_kind m
  pub payload : bytes ≡ control_payload m
  pub spelled : ControlHasSpelling m

-- the number of a meta message's kind
abbrev pub meta_kind : Meta → ℕ
meta_kind (Join registered name) = 32
meta_kind Leave = 33
meta_kind (Owners ids) = 34
meta_kind (Chat text) = 35
meta_kind (Trusted ids) = 36
meta_kind (ResetMark epoch carried) = 37
meta_kind (Laser x y) = 64
meta_kind (MovePointer x y) = 65
meta_kind (UserAcl ids) = 66
meta_kind (LayerAcl layer locked tier ids) = 67
meta_kind (FeatureTiers tiers) = 68
meta_kind (Filtered filtered) = 69
meta_kind (UndoDepth depth) = 70

-- the kinds of the meta messages
abbrev pub IsMetaKind : ℕ → Type 0
IsMetaKind kind = ((32 ≤ kind) × (kind ≤ 37)) ⊎ ((64 ≤ kind) × (kind ≤ 70))

-- a byte for each feature
abbrev pub tier_bytes : Tiers → List ℕ
tier_bytes t =
    t.image ∷ t.move_ ∷ t.resize ∷ t.background
    ∷ t.edit_layers ∷ t.own_layers ∷ t.laser ∷ t.undo ∷ []

-- the bytes of a meta message's fields, whether they meet their conditions or not
abbrev pub meta_payload : Meta → List ℕ
meta_payload (Join registered name) = flag_byte registered ++ name
meta_payload Leave = []
meta_payload (Owners ids) = ids
meta_payload (Chat text) = text
meta_payload (Trusted ids) = ids
meta_payload (ResetMark epoch carried) = four_bytes epoch ++ four_bytes carried
meta_payload (Laser x y) = four_signed x ++ four_signed y
meta_payload (MovePointer x y) = four_signed x ++ four_signed y
meta_payload (UserAcl ids) = ids
meta_payload (LayerAcl layer locked tier ids) =
    two_bytes layer ++ flag_byte locked ++ one_byte tier ++ ids
meta_payload (FeatureTiers tiers) = tier_bytes tiers
meta_payload (Filtered filtered) = one_byte filtered
meta_payload (UndoDepth depth) = one_byte depth

-- each feature's tier is 0 to 3
abbrev pub AreTiers : Tiers → Type 0
AreTiers t =
    (t.image ≤ 3) × (t.move_ ≤ 3) × (t.resize ≤ 3) × (t.background ≤ 3)
    × (t.edit_layers ≤ 3) × (t.own_layers ≤ 3) × (t.laser ≤ 3) × (t.undo ≤ 3)

-- Which meta messages have a spelling: each number lies within its width, and ids rise, names,
-- texts and tiers are such. (So no payload has more than 65,535 bytes: ids that rise are at most
-- 255.)
abbrev pub MetaHasSpelling : Meta → Type 0
MetaHasSpelling (Join registered name) = IsUtf8 name × IsName name
MetaHasSpelling Leave = ⊤
MetaHasSpelling (Owners ids) = RiseFrom 1 ids
MetaHasSpelling (Chat text) = IsText text
MetaHasSpelling (Trusted ids) = RiseFrom 1 ids
MetaHasSpelling (ResetMark epoch carried) = (epoch < 2 ^ 32) × (carried < 2 ^ 32)
MetaHasSpelling (Laser x y) = FitsSigned w32 x × FitsSigned w32 y
MetaHasSpelling (MovePointer x y) = FitsSigned w32 x × FitsSigned w32 y
MetaHasSpelling (UserAcl ids) = RiseFrom 0 ids
MetaHasSpelling (LayerAcl layer locked tier ids) = (layer < 2 ^ 16) × (tier ≤ 3) × RiseFrom 1 ids
MetaHasSpelling (FeatureTiers tiers) = AreTiers tiers
MetaHasSpelling (Filtered filtered) = filtered < 2 ^ 8
MetaHasSpelling (UndoDepth depth) = (1 ≤ depth) × (depth < 2 ^ 8)

-- these bytes, as the payload of a message of kind k, spell the meta message
pub record SpellsMeta (k : ℕ) (bytes : List ℕ) (m : Meta) : Type 0 where
  pub kind : k ≡ meta_kind m
  pub payload : bytes ≡ meta_payload m
  pub spelled : MetaHasSpelling m

-- the kinds of the messages that hold a name, a text or ids, the only ones that take memory
abbrev pub TakesMemory : ℕ → Type 0
TakesMemory kind =
    (kind ≡ 0) ⊎ (kind ≡ 32) ⊎ ((34 ≤ kind) × (kind ≤ 36)) ⊎ ((66 ≤ kind) × (kind ≤ 67))
