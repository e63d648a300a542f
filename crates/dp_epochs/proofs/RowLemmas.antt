-- The bytes of a row spell one event, and rows of a journal go on.
use Rattle.std.proofs.Common.{◌≡◌, ◌⊎◌, ℕ, List, [], ◌∷◌, ◌++◌, sym, ap, subst, ◌∙◌}
use Rattle.std.proofs.Common.{⊎_elim, inl, inr, append_assoc, append-nil}
use Rattle.dp_fields.specs.Fields.{one_byte, four_bytes, flag_byte}
use Rattle.dp_fields.specs.FieldLaws.{four_field, flag_field}
use Rattle.dp_messages.specs.declared.message.Msg.{Msg}
use Rattle.dp_messages.specs.Messages.{Spells, lifted_kind}
use Rattle.dp_epochs.specs.declared.event.Event.{Event}
use Rattle.dp_epochs.specs.declared.event.Event.TheVariants.{Open, Say, Close}
use Rattle.dp_keeper.specs.declared.row.Row.{Row}
use Rattle.dp_epochs.specs.Spelled.{RowSays, SpellsSay, RowSpells}
use Rattle.dp_epochs.specs.Resumed.{StandAfter}

abbrev OneMessage : Type 0
OneMessage =
    (kind : ℕ) (payload : List ℕ) (m n : Msg) → Spells kind payload m → Spells kind payload n
    → m ≡ n

-- a kind and a payload after a first byte have one message
one-said : OneMessage → (first kind : ℕ) (payload : List ℕ) (m n : Msg)
    → RowSays first kind payload m → RowSays first kind payload n → m ≡ n
one-said one first kind payload m n (inl s) (inl t) = one kind payload m n s.1 t.1
one-said one first kind payload m n (inl s) (inr t) = absurd (cc (s.0, t.0))
one-said one first kind payload m n (inr s) (inl t) = absurd (cc (s.0, t.0))
one-said one first kind payload m n (inr s) (inr t) = one (lifted_kind kind) payload m n s.1 t.1

one-say : OneMessage → (bytes : List ℕ) (conn other : ℕ) (m n : Msg)
    → SpellsSay bytes conn m → SpellsSay bytes other n → Say conn m ≡ Say other n
one-say one bytes conn other m n s t =
    let both : one_byte s.first ++ four_bytes conn ++ one_byte s.kind ++ s.payload
    ≡ one_byte t.first ++ four_bytes other ++ one_byte t.kind ++ t.payload = sym s.is ∙ t.is in
    let first : s.first ≡ t.first = cc in
    let after : four_bytes conn ++ one_byte s.kind ++ s.payload
    ≡ four_bytes other ++ one_byte t.kind ++ t.payload = cc in
    let conns = four_field.one conn other (one_byte s.kind ++ s.payload)
    (one_byte t.kind ++ t.payload) s.fits t.fits after in
    let kind : s.kind ≡ t.kind = cc (conns.1) in
    let payload : s.payload ≡ t.payload = cc (conns.1) in
    let said : RowSays s.first s.kind s.payload n = rw (first, kind, payload) t.said in
    ap (λ c. Say c m) conns.0
    ∙ ap (Say other) (one-said one s.first s.kind s.payload m n s.said said)

-- the first byte of a Say's row is no other event's
begins : (first kind : ℕ) (payload : List ℕ) (m : Msg) → RowSays first kind payload m
    → (first ≡ 3) ⊎ (first ≡ 1)
begins first kind payload m (inl s) = inl s.0
begins first kind payload m (inr s) = inr s.0

say-begins : (bytes rest : List ℕ) (b conn : ℕ) (m : Msg) → SpellsSay bytes conn m
    → bytes ≡ b ∷ rest → (b ≡ 3) ⊎ (b ≡ 1)
say-begins bytes rest b conn m s is =
    let same : s.first ≡ b = cc (s.is, is) in
    subst (λ x. (x ≡ 3) ⊎ (x ≡ 1)) same (begins s.first s.kind s.payload m s.said)

no-say : (bytes rest : List ℕ) (b conn : ℕ) (m : Msg) → SpellsSay bytes conn m
    → bytes ≡ b ∷ rest → (b ≡ 3 → ⊥) → (b ≡ 1 → ⊥) → ⊥
no-say bytes rest b conn m s is three one = ⊎_elim three one (say-begins bytes rest b conn m s is)

pub one-event : OneMessage → (bytes : List ℕ) (e f : Event) → RowSpells bytes e
    → RowSpells bytes f → e ≡ f
one-event one bytes (Open name registered) (Open other again) s t =
    let both : flag_byte registered ++ name ≡ flag_byte again ++ other = cc in
    let parts = flag_field.one registered again name other tt tt both in
    ap (λ r. Open name r) parts.0 ∙ ap (λ n. Open n again) parts.1
one-event one bytes (Open name registered) (Say conn m) s t =
    absurd (no-say bytes _ 0 conn m t s (λ e. cc) (λ e. cc))
one-event one bytes (Open name registered) (Close conn) s t = absurd (cc (s, t.0))
one-event one bytes (Say conn m) (Open name registered) s t =
    absurd (no-say bytes _ 0 conn m s t (λ e. cc) (λ e. cc))
one-event one bytes (Say conn m) (Say other n) s t = one-say one bytes conn other m n s t
one-event one bytes (Say conn m) (Close other) s t =
    absurd (no-say bytes _ 2 conn m s t.0 (λ e. cc) (λ e. cc))
one-event one bytes (Close conn) (Open name registered) s t = absurd (cc (s.0, t))
one-event one bytes (Close conn) (Say other m) s t =
    absurd (no-say bytes _ 2 other m t s.0 (λ e. cc) (λ e. cc))
one-event one bytes (Close conn) (Close other) s t =
    let both : four_bytes conn ++ [] ≡ four_bytes other ++ [] = cc (s.0, t.0) in
    ap Close (four_field.one conn other [] [] s.1 t.1 both).0

pub stand-append : (before : List Event) (rows more : List Row) (journal events : List Event)
    → StandAfter before rows journal → StandAfter (before ++ journal) more events
    → StandAfter before (rows ++ more) (journal ++ events)
stand-append before [] more [] events stand after =
    subst (λ b. StandAfter b more events) (append-nil before) after
stand-append before [] more (f ∷ journal) events stand after = absurd stand
stand-append before (row ∷ rows) more [] events stand after = absurd stand
stand-append before (row ∷ rows) more (f ∷ journal) events stand after = (
  stand.0,
  stand-append (before ++ f ∷ []) rows more journal events stand.1
      (subst (λ b. StandAfter b more events) (sym (append_assoc before (f ∷ []) journal)) after),
)
