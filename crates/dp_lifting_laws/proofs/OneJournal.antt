-- Rows were those of one journal in the first profile.
use Rattle.std.proofs.Common.{◌≡◌, ℕ, List, [], ◌∷◌, ◌++◌, inl, inr, refl, sym, ap, ap₂, subst, ◌∙◌}
use Rattle.dp_fields.specs.Fields.{one_byte, four_bytes, flag_byte}
use Rattle.dp_fields.specs.FieldLaws.{four_field, flag_field}
use Rattle.dp_messages.specs.declared.message.Msg.{Msg}
use Rattle.dp_messages.specs.Messages.{Spells}
use Rattle.dp_keeper.specs.declared.row.Row.{Row}
use Rattle.dp_epochs.specs.declared.event.Event.{Event}
use Rattle.dp_epochs.specs.declared.event.Event.TheVariants.{Open, Say, Close}
use Rattle.dp_recording_laws.specs.FirstProfile.{SpelledFirst}
use Rattle.dp_lifting_laws.specs.FirstRows.{SpelledSay, RowSpelled, StoodAfter}

abbrev OneMessage : Type 0
OneMessage =
    (kind : ℕ) (payload : List ℕ) (m n : Msg) → Spells kind payload m → Spells kind payload n
    → m ≡ n

one-spelled : OneMessage → (kind : ℕ) (payload : List ℕ) (m n : Msg)
    → SpelledFirst kind payload m → SpelledFirst kind payload n → m ≡ n
one-spelled one kind payload m n (inl x) (inl y) = x.1 ∙ sym y.1
one-spelled one kind payload m n (inl x) (inr y) = absurd (y.0 x.0)
one-spelled one kind payload m n (inr x) (inl y) = absurd (x.0 y.0)
one-spelled one kind payload m n (inr x) (inr y) = one kind payload m n x.2 y.2

one-say : OneMessage → (bytes : List ℕ) (conn other : ℕ) (m n : Msg)
    → SpelledSay bytes conn m → SpelledSay bytes other n → Say conn m ≡ Say other n
one-say one bytes conn other m n s t =
    let both : one_byte 1 ++ four_bytes conn ++ one_byte s.kind ++ s.payload
    ≡ one_byte 1 ++ four_bytes other ++ one_byte t.kind ++ t.payload = sym s.is ∙ t.is in
    let after : four_bytes conn ++ one_byte s.kind ++ s.payload
    ≡ four_bytes other ++ one_byte t.kind ++ t.payload = cc in
    let conns = four_field.one conn other (one_byte s.kind ++ s.payload)
    (one_byte t.kind ++ t.payload) s.fits t.fits after in
    let kind : s.kind ≡ t.kind = cc (conns.1) in
    let payload : s.payload ≡ t.payload = cc (conns.1) in
    let said : SpelledFirst s.kind s.payload n = rw (kind, payload) t.spelled in
    ap (λ c. Say c m) conns.0
    ∙ ap (Say other) (one-spelled one s.kind s.payload m n s.spelled said)

one-event : OneMessage → (bytes : List ℕ) (e f : Event) → RowSpelled bytes e
    → RowSpelled bytes f → e ≡ f
one-event one bytes (Open name registered) (Open other again) s t =
    let both : flag_byte registered ++ name ≡ flag_byte again ++ other = cc in
    let parts = flag_field.one registered again name other tt tt both in
    ap (λ r. Open name r) parts.0 ∙ ap (λ n. Open n again) parts.1
one-event one bytes (Open name registered) (Say conn m) s t = absurd (cc (s, t.is))
one-event one bytes (Open name registered) (Close conn) s t = absurd (cc (s, t.0))
one-event one bytes (Say conn m) (Open name registered) s t = absurd (cc (s.is, t))
one-event one bytes (Say conn m) (Say other n) s t = one-say one bytes conn other m n s t
one-event one bytes (Say conn m) (Close other) s t = absurd (cc (s.is, t.0))
one-event one bytes (Close conn) (Open name registered) s t = absurd (cc (s.0, t))
one-event one bytes (Close conn) (Say other m) s t = absurd (cc (s.0, t.is))
one-event one bytes (Close conn) (Close other) s t =
    let both : four_bytes conn ++ [] ≡ four_bytes other ++ [] = cc (s.0, t.0) in
    ap Close (four_field.one conn other [] [] s.1 t.1 both).0

pub one-journal : OneMessage → (before : List Event) (rows : List Row) (j k : List Event)
    → StoodAfter before rows j → StoodAfter before rows k → j ≡ k
one-journal one before [] [] [] s t = refl
one-journal one before [] [] (f ∷ k) s t = absurd t
one-journal one before [] (e ∷ j) k s t = absurd s
one-journal one before (row ∷ rows) [] k s t = absurd s
one-journal one before (row ∷ rows) (e ∷ j) [] s t = absurd t
one-journal one before (row ∷ rows) (e ∷ j) (f ∷ k) s t =
    let same : f ≡ e = one-event one row.bytes f e t.0.spelled s.0.spelled in
    ap₂ (λ (x : Event) (xs : List Event). x ∷ xs) (sym same)
    (one-journal one (before ++ e ∷ []) rows j k s.1
    (subst (λ x. StoodAfter (before ++ x ∷ []) rows k) same t.1))
