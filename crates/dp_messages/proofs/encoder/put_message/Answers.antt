use Rattle.std.proofs.Common.{◌≡◌, ℕ, List, [], ◌∷◌, ◌++◌, length, ap, ◌∙◌, arith, ◌+◌, ◌-◌, ◌/◌}
use Rattle.std.proofs.Common.{◌%◌, slice_set}
use Rattle.std.proofs.lemmas.List.{length-append}
use Rattle.dp_messages.specs.Messages.{payload_of, kind_of}
use Rattle.dp_messages.proofs.Headers.{header-set}
use Rattle.dp_messages.proofs.encoder.put_message.Goals as goal

pub returns-clause-ok : goal.returns-clause-ok
returns-clause-ok c =
    let old = c.args.out.now.items in
    let kind = kind_of c.args.msg.now in
    let user = c.args.user in
    let payload = payload_of c.args.msg.now in
    let head : c.len-head.result ≡ length old =
    omega (arith, c.len-head.ensures, c.args.out.now.ok.0) in
    let len : c.len.result - c.len-start.result ≡ length payload = omega (
      arith,
      c.len.ensures,
      c.len-start.ensures,
      c.put_payload.new.out.ok.0,
      c.extend_from_slice.new.self.ok.0,
      ap length c.in_default.ensures.ok,
      length-append c.extend_from_slice.new.self.items payload,
    ) in
    let set = λ (xs : List ℕ) (start n : ℕ). slice_set
    (slice_set xs start (n / 256 % 256)) (start + 1) (n % 256) in
    let n = c.len.result - c.len-start.result in
    c.set_length.ensures
    ∙ ap (λ xs. set xs c.len-head.result n)
    (c.in_default.ensures.ok
    ∙ ap (λ xs. xs ++ payload)
    (c.in_ok-extend_from_slice.ensures.items
    ∙ ap (λ k. old ++ 0 ∷ 0 ∷ k ∷ user ∷ []) c.kind.ensures))
    ∙ ap (λ start. set ((old ++ 0 ∷ 0 ∷ kind ∷ user ∷ []) ++ payload) start n) head
    ∙ ap (set ((old ++ 0 ∷ 0 ∷ kind ∷ user ∷ []) ++ payload) (length old)) len
    ∙ header-set old payload kind user (length payload / 256 % 256) (length payload % 256)
