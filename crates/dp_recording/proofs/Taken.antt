-- Bytes that are held of an input, before its header is whole.
use Rattle.std.proofs.Common.{◌≡◌, ◌<◌, ◌≤◌, ℕ, List, [], ◌++◌, length, take, drop, Option, Some}
use Rattle.std.proofs.Common.{None, ap, arith, refl, subst, sym, ◌∙◌}
use Rattle.std.proofs.lemmas.List.{append_assoc, length-append, length-drop, take-append-drop}
use Rattle.std.specs.Io.KnownBytes.{Consumes}
use Rattle.dp_lines.specs.TakenParts.{TookWithin}
use Rattle.dp_recording.specs.Headers.{IsHeader, IsShort}
use Rattle.dp_messages.specs.declared.message.Entry.{Entry}
use Rattle.dp_recording.specs.declared.header.Profile.{Profile}
use Rattle.dp_recording.specs.declared.reader.Phase.{Phase}
use Rattle.dp_recording.specs.declared.reader.Phase.TheVariants.{New}
use Rattle.dp_recording.specs.Recordings.{HasReadOf, HoldsHeader}
use Rattle.dp_recording.proofs.Headers.{header-goes-past}

-- a piece is read after bytes that are too few
pub reads-piece : (input : List ℕ) (left new : Option (List ℕ)) (held later chunk : List ℕ)
    → IsShort held → length chunk ≤ 4096 → later ≡ held ++ chunk → Consumes left new chunk
    → HoldsHeader input left held → HoldsHeader input new later
reads-piece input left new held later chunk short small joined consumes h =
    at-new new (subst (λ (o : Option (List ℕ)). Consumes o new chunk) h.left_is consumes)
  where
    at-new : (new : Option (List ℕ)) → Consumes (Some h.untaken) new chunk
        → HoldsHeader input new later
    at-new None impossible = absurd impossible
    at-new (Some rest) taken = record {
      short = held;
      piece = chunk;
      untaken = rest;
      whole = h.whole ∙ ap (λ t. held ++ t) taken ∙ sym (append_assoc held chunk rest)
          ∙ ap (λ t. t ++ rest) (sym joined);
      left_is = refl;
      split = joined;
      few = short;
      small = small;
    }

-- what is held after the header is no more than the last piece
pub rest-is-small : {input : List ℕ} {left : Option (List ℕ)} (held : List ℕ) (profile : Profile)
    (len : ℕ) → IsHeader held profile len → HoldsHeader input left held
    → length (drop len held) ≤ 4096
rest-is-small held profile len header h =
    let past : length h.short < len =
    header-goes-past h.short h.piece profile len h.few
    (subst (λ t. IsHeader t profile len) h.split header) in
    omega (
      arith,
      past,
      h.small,
      length-drop len held,
      ap length h.split,
      length-append h.short h.piece,
    )

-- the input is the header, and then the rest of what is held with what is left
pub parts : {input : List ℕ} {left : Option (List ℕ)} (held : List ℕ) (len : ℕ)
    (h : HoldsHeader input left held)
    → input ≡ take len held ++ (drop len held ++ h.untaken)
parts held len h =
    h.whole ∙ ap (λ t. t ++ h.untaken) (sym (take-append-drop len held))
    ∙ append_assoc (take len held) (drop len held) h.untaken

-- what was taken is too few bytes, and then a piece
pub took-a-piece : {input : List ℕ} {left : Option (List ℕ)} {held : List ℕ}
    → HoldsHeader input left held
    → TookWithin IsShort 4096 input left
took-a-piece h = record {
  taken = h.short;
  after = h.piece;
  untaken = h.untaken;
  whole = h.whole ∙ ap (λ t. t ++ h.untaken) h.split ∙ append_assoc h.short h.piece h.untaken;
  left_is = h.left_is;
  meets = h.few;
  few = h.small;
}

-- ---- how far a reader is

-- the header is read
pub began : (bytes : List ℕ) (left new : Option (List ℕ)) (entries : List Entry) (reading : Phase)
    → ((bytes : List ℕ) → left ≡ Some bytes → HasReadOf bytes new [] reading)
    → HasReadOf bytes left entries New → HasReadOf bytes new entries reading
began bytes left new entries reading begun h =
    subst (λ es. HasReadOf bytes new es reading) (sym h.1) (begun bytes h.0)
