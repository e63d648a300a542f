-- What a read's bound and bytes say of its end.
use Rattle.std.proofs.Common.{◌≡◌, ℕ, ◌+◌, ◌-◌, ◌<◌, ◌≤◌, min, List, [], ◌∷◌, ◌++◌, None, Some, Ok}
use Rattle.std.proofs.Common.{Err, length, take, drop, refl, arith, sym, ap, ◌∙◌}
use Rattle.std.proofs.lemmas.List.{take_rest, take-append-drop, drop-drop, length-take, length-drop}
use Rattle.std.proofs.lemmas.List.{nil_from_length}
use Rattle.std.proofs.lemmas.Grind.{common_steps}
use Rattle.std.specs.declared.option.Option.{Option}
use Rattle.std.specs.declared.result.Result.{Result}
use Rattle.std.specs.Io.{ReadsAtMost}
use Rattle.std.specs.Io.KnownBytes.{ReadConsumes}
use Rattle.dp_io.specs.Streams.{EndsExactly}

-- two lists whose joining is empty are empty
join_of_none : (xs ys : List ℕ) → [] ≡ xs ++ ys → length xs ≡ 0
join_of_none [] ys e = refl
join_of_none (x ∷ xs) ys e = cc

none_left : (x y buf : List ℕ) (n : ℕ) → x ≡ take n buf ++ y → n ≡ 0 → y ≡ [] → x ≡ []
none_left x y buf n e zero none = grind (arith, common_steps)

none_given : (x y buf : List ℕ) (n : ℕ) → n ≡ length (take n buf) → x ≡ take n buf ++ y → x ≡ []
    → n ≡ 0
none_given x y buf n count e none = count ∙ join_of_none (take n buf) y (sym none ∙ e)

pub ends_exactly : {E : Type 0} (a b : Option (List ℕ)) (r : Result ℕ E) (buf : List ℕ)
    → ReadsAtMost r buf → ReadConsumes a b r buf → EndsExactly a r buf
ends_exactly None b r buf bound bytes = tt
ends_exactly (Some x) b (Err e) buf bound bytes = tt
ends_exactly (Some x) None (Ok n) buf bound bytes = absurd bytes.0
ends_exactly (Some x) (Some y) (Ok n) buf bound bytes =
    λ room. (
      λ zero. none_left x y buf n bytes.0 zero (bytes.1 zero room),
      λ none. none_given x y
          buf n bound.1 bytes.0 none,
    )

-- a piece was copied from the place on: it was the prefix of what was left there
pub piece_copied : (left bytes buf : List ℕ) (at count : ℕ) → left ≡ drop at bytes
    → take count buf ≡ take count (take (length bytes - at) (drop at bytes))
    → left ≡ take count buf ++ drop (at + count) bytes
piece_copied left bytes buf at count is copied =
    let rest : take (length bytes - at) (drop at bytes) ≡ drop at bytes = take_rest bytes at in
    is ∙ sym (take-append-drop count (drop at bytes)) ∙ ap (λ l. l ++ drop count (drop at bytes))
    (sym (copied ∙ ap (take count) rest))
    ∙ ap (λ l. take count buf ++ l) (drop-drop count at bytes)

-- none was copied, if there was room: none was left
pub none_copied : (bytes : List ℕ) (at count piece room : ℕ)
    → count ≡ min (min (length (take (length bytes - at) (drop at bytes))) piece) room → 1 ≤ piece
    → count ≡ 0 → 0 < room → drop (at + count) bytes ≡ []
none_copied bytes at count piece room counted some none has =
    nil_from_length (drop (at + count) bytes) (omega (
      arith,
      length-take {A = ℕ},
      length-drop
          {A = ℕ},
    ))
