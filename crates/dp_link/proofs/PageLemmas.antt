-- Frames that are written.
use Rattle.std.proofs.Common.{◌≡◌, ℕ, ◌+◌, ◌≤◌, List, [], ◌++◌, length, take}
use Rattle.std.proofs.Common.{Option, None, Some, sym, ap, subst}
use Rattle.std.proofs.Common.{◌∙◌}
use Rattle.std.proofs.Common.{arith, append_assoc, append-nil, length-append}
use Rattle.std.proofs.Math.Seq.{take-append-add}
use Rattle.std.proofs.lemmas.List.{take_all, take-append-le}
use Rattle.std.proofs.lemmas.List.Concat.{flat_map-append}
use Rattle.std.specs.Io.KnownBytes.{Appends}
use Rattle.dp_io.specs.Streams.{GrowsByPrefix}
use Rattle.dp_messages.specs.declared.message.Entry.{Entry}
use Rattle.dp_messages.specs.Messages.{entry_bytes}
use Rattle.dp_history.specs.Frames.{frames_of}

-- ---- bytes that are known

pub appends-none : (held : Option (List ℕ)) → Appends held held []
appends-none None = tt
appends-none (Some xs) = sym (append-nil xs)

pub appends-then : (a b c : Option (List ℕ)) (xs ys : List ℕ) → Appends a b xs → Appends b c ys
    → Appends a c (xs ++ ys)
appends-then None b c xs ys p q = tt
appends-then (Some l) None c xs ys p q = absurd p
appends-then (Some l) (Some m) None xs ys p q = q
appends-then (Some l) (Some m) (Some n) xs ys p q =
    q ∙ ap (λ t. t ++ ys) p ∙ append_assoc l xs ys

pub grows-all : (a b : Option (List ℕ)) (xs : List ℕ) → Appends a b xs → GrowsByPrefix a b xs
grows-all a b xs p = (
  length xs,
  omega arith,
  subst (λ (l : List ℕ). Appends a b l) (sym (take_all (length xs) xs (omega arith))) p,
)

-- some of the first bytes after those that were written
pub grows-then : (a b c : Option (List ℕ)) (xs ys more whole : List ℕ) → Appends a b xs
    → GrowsByPrefix b c ys → whole ≡ (xs ++ ys) ++ more → GrowsByPrefix a c whole
grows-then a b c xs ys more whole p q is =
    let n = length xs + q.0 in
    let short : n ≤ length (xs ++ ys) = omega (arith, q.1, length-append xs ys) in
    let first : take n whole ≡ xs ++ take q.0 ys =
    ap (take n) is ∙ take-append-le n (xs ++ ys) more short ∙ take-append-add xs ys q.0 in (
      n,
      omega (arith, short, ap length is, length-append (xs ++ ys) more),
      subst (λ (l : List ℕ). Appends a c l) (sym first)
          (appends-then a b c xs (take q.0 ys) p q.2),
    )

-- ---- entries

pub frames-then : (xs ys : List Entry) → frames_of (xs ++ ys) ≡ frames_of xs ++ frames_of ys
frames-then xs ys = flat_map-append entry_bytes xs ys
