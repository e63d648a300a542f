-- A payload spells at most one message, a frame has one answer, and bytes are heard in one way.
use Rattle.std.proofs.Common.{◌≡◌, ℕ, ◌≤◌, List, [], ◌∷◌, ◌++◌, length, Bool, true}
use Rattle.std.proofs.Common.{false, refl, sym, ◌∙◌, ap, subst, arith, length-append}
use Rattle.std.specs.Prelude.{MatchBool}
use Rattle.dp_frame.specs.Frames.{FrameParts, Splits}
use Rattle.dp_msg_draw.specs.declared.draw.Draw.{Draw}
use Rattle.dp_fields.specs.Fields.{one_byte, flag_byte}
use Rattle.dp_msg_draw.specs.Payloads.{draw_kind, draw_payload, SpellsDraw}
use Rattle.dp_msg_meta.specs.declared.message.Control.{Control}
use Rattle.dp_msg_meta.specs.declared.message.Meta.{Meta}
use Rattle.dp_msg_meta.specs.Payloads.{SpellsControl, SpellsMeta}
use Rattle.dp_messages.specs.declared.message.Msg.{Msg}
use Rattle.dp_messages.specs.declared.message.Msg.TheVariants as msg
use Rattle.dp_messages.specs.declared.message.Entry.{Entry}
use Rattle.dp_messages.specs.Messages.{Spells}
use Rattle.dp_messages.specs.Decoded.{Carries}
use Rattle.dp_messages.specs.Heard.{AreHeard, Hears}
use Rattle.dp_messages.specs.Properties.{is_disconnect}
use Rattle.dp_messages.proofs.KindRanges.{KindLaws, InRange, in_range, not_listed, to_control}
use Rattle.dp_messages.proofs.KindRanges.{to_meta, to_draw}

-- what the layers below say of one spelling
pub record PartLaws : Type 0 where
  pub kinds : KindLaws
  pub control : (kind : ℕ) (payload : List ℕ) (m n : Control) → SpellsControl kind payload m
      → SpellsControl kind payload n → m ≡ n
  pub meta : (kind : ℕ) (payload : List ℕ) (m n : Meta) → SpellsMeta kind payload m
      → SpellsMeta kind payload n → m ≡ n
  pub draw : (kind : ℕ) (payload : List ℕ) (m n : Draw) → SpellsDraw kind payload m
      → SpellsDraw kind payload n → m ≡ n

flags_differ : (a b : Bool) (s t : List ℕ) → flag_byte a ++ s ≡ flag_byte b ++ t → a ≡ b
flags_differ false false s t e = refl
flags_differ false true s t e = absurd cc
flags_differ true false s t e = absurd cc
flags_differ true true s t e = refl

same_undo : (target other : ℕ) (redo again : Bool) → one_byte target ++ flag_byte redo
    ≡ one_byte other ++ flag_byte again →
    msg.Undo target redo ≡ msg.Undo other again
same_undo target other redo again e =
    let targets : target ≡ other = cc in
    let flags : redo ≡ again = flags_differ redo again [] [] (cc) in
    ap (λ (t : ℕ). msg.Undo t redo) targets ∙ ap (λ (r : Bool). msg.Undo other r) flags

same_part : PartLaws → (payload : List ℕ) (m n : Draw) → Spells 6 payload (msg.Part m)
    → Spells 6 payload (msg.Part n) → m ≡ n
same_part laws payload m n s t =
    let both : one_byte (draw_kind m) ++ draw_payload m ≡ one_byte (draw_kind n)
    ++ draw_payload n = sym s.payload ∙ t.payload in
    let kinds : draw_kind m ≡ draw_kind n = cc in
    let payloads : draw_payload m ≡ draw_payload n = cc in
    laws.draw (draw_kind m) (draw_payload m) m n (record
    { kind = refl; payload = refl; spelled = s.spelled.0 })
    (record { kind = kinds; payload = payloads; spelled = t.spelled.0 })

pub one_message : PartLaws → (kind : ℕ) (payload : List ℕ) (m n : Msg) → Spells kind payload m
    → Spells kind payload n → m ≡ n
one_message laws kind payload (msg.Control m) (msg.Control n) s t =
    ap (λ (c : Control). msg.Control c) (laws.control kind payload m n (to_control kind payload m s)
    (to_control kind payload n t))
one_message laws kind payload (msg.Meta m) (msg.Meta n) s t =
    ap (λ (c : Meta). msg.Meta c) (laws.meta kind payload m n (to_meta kind payload m s)
    (to_meta kind payload n t))
one_message laws kind payload (msg.Part m) (msg.Part n) s t =
    ap (λ (c : Draw). msg.Part c)
    (same_part laws payload m n (record { kind = refl; payload = s.payload; spelled = s.spelled })
    (record { kind = refl; payload = t.payload; spelled = t.spelled }))
one_message laws kind payload msg.Point msg.Point s t = refl
one_message laws kind payload (msg.Undo target redo) (msg.Undo other again) s t = same_undo target
    other redo again (sym s.payload ∙ t.payload)
one_message laws kind payload (msg.Draw m) (msg.Draw n) s t =
    ap (λ (c : Draw). msg.Draw c) (laws.draw kind payload m n (to_draw kind payload m s)
    (to_draw kind payload n t))
one_message laws kind payload (msg.Opaque k body) (msg.Opaque l other) s t =
    ap (λ (x : ℕ). msg.Opaque x body) (sym s.kind ∙ t.kind)
    ∙ ap (λ (x : List ℕ). msg.Opaque l x) (sym s.payload ∙ t.payload)
one_message laws kind payload (msg.Opaque k body) n s t = absurd
    (not_listed laws.kinds kind payload k body n tt s t)
one_message laws kind payload m (msg.Opaque k body) s t = absurd
    (not_listed laws.kinds kind payload k body m tt t s)
one_message laws kind payload m n s t =
    let here : InRange m kind = in_range laws.kinds kind payload m s in
    let there : InRange n kind = in_range laws.kinds kind payload n t in
    absurd (omega arith)

-- a payload that spells a message has at most 65,535 bytes
pub short : PartLaws → ((m : Control) (kind : ℕ) (payload : List ℕ) → SpellsControl kind payload m
    → length payload ≤ 65535) →
    ((m : Meta) (kind : ℕ) (payload : List ℕ) → SpellsMeta kind payload m → length payload ≤ 65535)
    →
    ((kind : ℕ) (payload : List ℕ) (m : Draw) → SpellsDraw kind payload m → length payload ≤ 65535)
    →
    (kind : ℕ) (payload : List ℕ) (m : Msg) → Spells kind payload m → length payload ≤ 65535
short laws control meta draw kind payload (msg.Control m) s = control m kind payload
    (to_control kind payload m s)
short laws control meta draw kind payload (msg.Meta m) s = meta m kind payload
    (to_meta kind payload m s)
short laws control meta draw kind payload (msg.Part m) s =
    omega (
      arith,
      ap length s.payload,
      length-append (one_byte (draw_kind m)) (draw_payload m),
      s.spelled.1,
    )
short laws control meta draw kind payload (msg.Draw m) s = draw kind payload m
    (to_draw kind payload m s)
short laws control meta draw kind payload (msg.Opaque k body) s = omega
    (arith, ap length s.payload, s.spelled.2)
short laws control meta draw kind payload _ s = omega (arith, ap length s.payload)

abbrev entry_of : ℕ → Msg → Entry
entry_of user m = record { user = user; msg = m }

-- a payload of a kind spells at most one message
abbrev pub OneMessage : Type 0
OneMessage = (kind : ℕ) (payload : List ℕ) (m n : Msg) → Spells kind payload m
    → Spells kind payload n → m ≡ n

pub one_entry : OneMessage → (frame : FrameParts) (e f : Entry) → Carries frame e → Carries frame f
    → e ≡ f
one_entry laws frame e f c d =
    let users : e.user ≡ f.user = c.user ∙ sym d.user in
    let messages : e.msg ≡ f.msg = laws frame.kind frame.body e.msg f.msg c.spelled d.spelled in
    ap (λ (user : ℕ). entry_of user e.msg) users ∙ ap (λ (m : Msg). entry_of f.user m) messages

-- a list of messages goes on or ends in one way
tails : (b : Bool) (frames : List FrameParts) (ms ns : List Msg)
    → (AreHeard frames ms → AreHeard frames ns → ms ≡ ns) →
    MatchBool b (ms ≡ []) (AreHeard frames ms) → MatchBool b (ns ≡ []) (AreHeard frames ns)
    → ms ≡ ns
tails true frames ms ns more h k = h ∙ sym k
tails false frames ms ns more h k = more h k

one_heard : OneMessage → (frames : List FrameParts) (ms ns : List Msg) → AreHeard frames ms
    → AreHeard frames ns → ms ≡ ns
one_heard laws [] [] [] h k = refl
one_heard laws [] [] (n ∷ ns) h k = absurd k
one_heard laws [] (m ∷ ms) ns h k = absurd h
one_heard laws (f ∷ fs) [] [] h k = refl
one_heard laws (f ∷ fs) [] (n ∷ ns) h k = absurd (h n k.0)
one_heard laws (f ∷ fs) (m ∷ ms) [] h k = absurd (k m h.0)
one_heard laws (f ∷ fs) (m ∷ ms) (n ∷ ns) h k =
    let same : m ≡ n = laws f.kind f.body m n h.0 k.0 in
    let again = subst (λ (x : Msg). MatchBool (is_disconnect x) (ns ≡ []) (AreHeard fs ns))
    (sym same) k.1 in
    ap (λ (x : Msg). x ∷ ms) same ∙ ap (λ (xs : List Msg). n ∷ xs)
    (tails (is_disconnect m) fs ms ns (one_heard laws fs ms ns) h.1 again)

pub one_hearing : OneMessage →
    ((bytes : List ℕ) (frames others : List FrameParts) (rest last : List ℕ)
    → Splits bytes frames rest → Splits bytes others last → (frames ≡ others) × (rest ≡ last)) →
    (bytes : List ℕ) (ms ns : List Msg) → Hears bytes ms → Hears bytes ns → ms ≡ ns
one_hearing laws splitting bytes ms ns h k =
    let same = splitting bytes h.frames k.frames h.rest k.rest h.splits k.splits in
    one_heard laws k.frames ms ns (subst (λ (fs : List FrameParts). AreHeard fs ms) same.0 h.heard)
    k.heard
