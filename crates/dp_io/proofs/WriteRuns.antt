-- What several writes append, one after the other.
use Rattle.std.proofs.Common.{ℕ, ◌+◌, ◌-◌, List, length, take, drop, subst, sym, ◌≡◌, ◌∙◌, ap, ◌++◌}
use Rattle.std.proofs.lemmas.List.{take_rest}
use Rattle.std.proofs.Math.Seq.{take-add}
use Rattle.std.proofs.KnownBytes.{Appends-trans}
use Rattle.std.specs.declared.option.Option.{Option}
use Rattle.std.specs.Io.KnownBytes.{Appends}

-- the first bytes were appended, and then some of the others
pub appends_more : (a b c : Option (List ℕ)) (bytes : List ℕ) (m n : ℕ) → Appends a b (take m bytes)
    → Appends b c (take n (take (length bytes - m) (drop m bytes)))
    → Appends a c (take (m + n) bytes)
appends_more a b c bytes m n first more =
    let rest : take (length bytes - m) (drop m bytes) ≡ drop m bytes = take_rest bytes m in
    let joined : take (m + n) bytes ≡ take m bytes ++ take n
    (take (length bytes - m) (drop m bytes)) =
    take-add m n bytes ∙ ap (λ l. take m bytes ++ take n l) (sym rest) in
    subst (Appends a c) (sym joined) (Appends-trans a b c _ _ first more)
