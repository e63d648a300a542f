-- Texts that are written in pieces.
use Rattle.std.proofs.Common.{◌≡◌, ℕ, ◌+◌, List, [], ◌∷◌, ◌++◌, length, refl, sym, ap, ◌∙◌}
use Rattle.std.specs.Prelude.{slice_index, codes, ◌/◌, ◌%◌}
use Rattle.std.specs.List.{flat_map}
use Rattle.std.proofs.lemmas.List.{append_assoc}
use Rattle.hex.specs.Hex.{encode_with, lower_digits}
use Rattle.dp_lines.specs.Hexadecimal.{hex_text}
use Rattle.dp_msg_draw.specs.declared.draw.Draw.{Draw}
use Rattle.dp_messages.specs.declared.message.Entry.{Entry}
use Rattle.dp_messages.specs.Messages.{entry_bytes}
use Rattle.dp_plain.specs.Board.{Board}
use Rattle.dp_recording.specs.Headers.{header_bytes}
use Rattle.dp_snap.specs.Snapshot.{snapshot}
use Rattle.dp_showing.specs.Showing.{hex_frame, recording_head, recording_text, snapshot_head}
use Rattle.dp_showing.specs.Showing.{snapshot_line, snapshot_text}

-- ---- hexadecimal

pub hex_text-append : (xs ys : List ℕ) → hex_text (xs ++ ys) ≡ hex_text xs ++ hex_text ys
unfolding encode_with
hex_text-append [] ys = refl
hex_text-append (x ∷ xs) ys =
    ap (λ (t : List ℕ). slice_index lower_digits (x / 16) ∷ slice_index lower_digits (x % 16) ∷ t)
    (hex_text-append xs ys)

pub hex_text-flat_map : {X : Type 0} (f : X → List ℕ) (xs : List X)
    → hex_text (flat_map f xs) ≡ flat_map (λ x. hex_text (f x)) xs
unfolding encode_with
hex_text-flat_map f [] = refl
hex_text-flat_map f (x ∷ xs) =
    hex_text-append (f x) (flat_map f xs)
    ∙ ap (λ t. hex_text (f x) ++ t) (hex_text-flat_map f xs)

-- ---- whole texts

pub snapshot_is : (board : Board) (commands : List Draw) (count : ℕ) → commands ≡ snapshot board
    → count ≡ length commands
    → snapshot_head count ++ flat_map snapshot_line commands ≡ snapshot_text board
snapshot_is board commands count is many =
    ap (λ (n : ℕ). snapshot_head n ++ flat_map snapshot_line commands) many
    ∙ ap (λ (cs : List Draw). snapshot_head (length cs) ++ flat_map snapshot_line cs) is

pub recording_is : (entries : List Entry)
    → recording_head ++ (flat_map hex_frame entries ++ codes "\n") ≡ recording_text entries
recording_is entries =
    sym (append_assoc recording_head (flat_map hex_frame entries) (codes "\n"))
    ∙ ap (λ (t : List ℕ). t ++ codes "\n")
    (append_assoc (codes "rec ") (hex_text header_bytes) (flat_map hex_frame entries)
    ∙ ap (λ (t : List ℕ). codes "rec " ++ t)
    (ap (λ (t : List ℕ). hex_text header_bytes ++ t)
    (sym (hex_text-flat_map entry_bytes entries))
    ∙ sym (hex_text-append header_bytes (flat_map entry_bytes entries))))
