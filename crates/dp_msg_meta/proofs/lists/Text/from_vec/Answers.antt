use Rattle.std.proofs.Common.{◌≡◌, ℕ, List, refl, ap, subst, arith, string_bytes}
use Rattle.std.specs.Str.{IsUtf8}
use Rattle.std.proofs.lemmas.Str.{IsUtf8-string_bytes}
use Rattle.dp_msg_meta.proofs.lists.Text.from_vec.Goals as goal

pub returns-in-Ok-clause-valid : goal.returns-in-Ok-clause-valid
returns-in-Ok-clause-valid c =
    let same : string_bytes c.in-Ok.text ≡ c.args.bytes.items = ap (λ v. v.items) c.in-Ok.ensures.ok
    in
    let P : List ℕ → Type 0 = λ b. IsUtf8 b in
    (λ _. (subst P same (IsUtf8-string_bytes c.in-Ok.text), omega arith), λ _. refl)
