use Rattle.std.proofs.Common.{◌≡◌, ◌∙◌, ℕ, List, ◌++◌, true, false, refl, sym, ap, length}
use Rattle.std.proofs.Common.{length-append, arith, inl, inr}
use Rattle.dp_frame.specs.Frames.{FrameParts}
use Rattle.dp_messages.specs.declared.message.Entry.{Entry}
use Rattle.dp_messages.specs.Messages.{kind_of, payload_of, HasSpelling}
use Rattle.dp_messages.specs.Decoded.{Carries}
use Rattle.dp_messages.proofs.encoder.encode.Goals as goal

abbrev frame_parts : ℕ → ℕ → List ℕ → FrameParts
frame_parts kind user body = record { kind = kind; user = user; body = body }

-- a frame of the message's kind and payload carries the entry
carried : (frame : FrameParts) (entry : Entry) (kind : ℕ) (body : List ℕ)
    → frame ≡ frame_parts kind entry.user body → kind ≡ kind_of entry.msg →
    body ≡ payload_of entry.msg → HasSpelling entry.msg → Carries frame entry
carried frame entry kind body is k b spelled =
    record {
      user = sym (ap (λ (f : FrameParts). f.user) is);
      spelled = record {
        kind = ap (λ (f : FrameParts). f.kind) is ∙ k;
        payload = ap (λ (f : FrameParts). f.body) is ∙ b;
        spelled = spelled;
      };
    }

pub returns-then-len-gt-PAYLOAD_LIMIT-clause-spelled
    : goal.returns-then-len-gt-PAYLOAD_LIMIT-clause-spelled
returns-then-len-gt-PAYLOAD_LIMIT-clause-spelled c = λ spelled.
    let m = c.args.entry.now.msg in
    let short = c.one_message.ensures.short (kind_of m) (payload_of m) m
    (record { kind = refl; payload = refl; spelled = spelled }) in
    absurd (omega (
      arith,
      short,
      ap length c.in_ok-put_payload.ensures.ok,
      ap length
          c.new-payload.ensures.items,
      length-append {A = ℕ},
    ))

pub returns-in-Ok-clause-spelled : goal.returns-in-Ok-clause-spelled
returns-in-Ok-clause-spelled c = λ spelled.
    let m = c.args.entry.now.msg in
    let written = c.from_vec.ensures ∙ c.in_ok-put_payload.ensures.ok
    ∙ ap (λ (xs : List ℕ). xs ++ payload_of m) c.new-payload.ensures.items in
    let carries = carried c.view.result c.args.entry.now c.kind.result c.from_vec.result
    (c.view.ensures ∙ c.new-frame.ensures) c.kind.ensures written spelled in
    let equal : c.same.result ≡ true =
    elim (c.in-Ok.ensures.only c.args.entry.now carries) as (λ _. c.same.result ≡ true) [
      | inl e ↦ let again : c.in-Ok.again ≡ c.args.entry.now = cc in c.same.ensures.equal.1
          (ap (λ (entry : Entry). entry.msg) again)
      | inr e ↦ absurd (cc)
    ] in
    absurd (let never : true ≡ false = sym equal ∙ c.if-same.false in cc)
