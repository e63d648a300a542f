-- What a sink holds after several pieces of a text, the last of them perhaps in part.
use Rattle.std.proofs.Common.{◌≡◌, ℕ, List, ◌++◌, Ok, Err, OnOk, OnErr, subst}
use Rattle.std.proofs.Common.{sym}
use Rattle.std.proofs.Common.{ap, ◌∙◌}
use Rattle.std.proofs.lemmas.List.{append_assoc}
use Rattle.std.proofs.KnownBytes.{Appends-trans}
use Rattle.std.specs.declared.option.Option.{Option}
use Rattle.std.specs.declared.result.Result.{Result}
use Rattle.std.specs.Io.KnownBytes.{Appends}
use Rattle.dp_io.specs.Streams.{GrowsByPrefix}
use Rattle.dp_io.proofs.Prefixes.{grows_after}
use Rattle.dp_flat.specs.Texts.{GrowsBefore}

-- the piece and more of the text were written in turn, but for another piece
pub before_on : (a b c : Option (List ℕ)) (piece text more now : List ℕ)
    → GrowsBefore a b piece text
    → GrowsBefore b c now (piece ++ more)
    → GrowsBefore a c now (text ++ more)
before_on a b c piece text more now before after = record {
  bytes = before.bytes ++ after.bytes;
  appended = Appends-trans a b c before.bytes after.bytes before.appended after.appended;
  whole = append_assoc before.bytes after.bytes now ∙ ap (λ l. before.bytes ++ l) after.whole
      ∙ sym (append_assoc before.bytes piece more) ∙ ap (λ l. l ++ more) before.whole;
}

-- the piece and more of the text were written in part
pub before_failed : (a b c : Option (List ℕ)) (piece text more : List ℕ)
    → GrowsBefore a b piece text
    → GrowsByPrefix b c (piece ++ more)
    → GrowsByPrefix a c (text ++ more)
before_failed a b c piece text more before some =
    subst (GrowsByPrefix a c) (sym (append_assoc before.bytes piece more)
    ∙ ap (λ l. l ++ more) before.whole)
    (grows_after a b c before.bytes (piece ++ more) before.appended some)

-- the piece was written
pub before_written : (a b c : Option (List ℕ)) (piece text : List ℕ) → GrowsBefore a b piece text
    → Appends b c piece → Appends a c text
before_written a b c piece text before last =
    subst (Appends a c) before.whole (Appends-trans a b c before.bytes piece before.appended last)

-- the piece was written in part
pub before_cut : (a b c : Option (List ℕ)) (piece text : List ℕ) → GrowsBefore a b piece text
    → GrowsByPrefix b c piece
    → GrowsByPrefix a c text
before_cut a b c piece text before some =
    subst (GrowsByPrefix a c) before.whole (grows_after a b c before.bytes piece before.appended
    some)

-- the last piece was written, if the call says so
pub last_written : {T E : Type 0} (a b c : Option (List ℕ)) (piece last text : List ℕ)
    (result : Result T E) → GrowsBefore a b piece text → last ≡ piece
    → OnOk result (Appends b c last) → OnOk result (Appends a c text)
last_written a b c piece last text (Err e) before is written = tt
last_written a b c piece last text (Ok done) before is written =
    before_written a b c piece text before (subst (Appends b c) is written)

-- the last piece was written in part
pub last_cut : (a b c : Option (List ℕ)) (piece last text : List ℕ) → GrowsBefore a b piece text
    → last ≡ piece
    → GrowsByPrefix b c last → GrowsByPrefix a c text
last_cut a b c piece last text before is some = before_cut a b c piece text before
    (subst (GrowsByPrefix b c) is some)

-- what holds however a call ended holds if it failed
pub where_failed : {T E : Type 0} (X : Type 0) (result : Result T E) → X → OnErr result X
where_failed X (Err e) is = is
where_failed X (Ok done) is = tt
