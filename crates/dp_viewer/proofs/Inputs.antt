-- How reading the input of `replay` ends.
use Rattle.std.proofs.Common.{◌≡◌, ℕ, List, [], ◌∷◌, ◌++◌, length, refl, subst}
use Rattle.std.specs.Prelude.{Option, Some, None, IfSome}
use Rattle.dp_messages.specs.declared.message.Entry.{Entry}
use Rattle.dp_messages.specs.declared.decoder.DecodeError.{DecodeError}
use Rattle.dp_lines.specs.declared.run_end.RunEnd.TheVariants as run
use Rattle.dp_entries.specs.declared.ends.ReadEnd.{ReadEnd}
use Rattle.dp_entries.specs.declared.ends.ReadEnd.TheVariants.{ReadFault, Truncated, BadMessage}
use Rattle.dp_entries.specs.declared.ends.ReadEnd.TheVariants.{Long, Memory}
use Rattle.dp_entries.specs.Anywhere.{StandsAnywhere, IsCauseAnywhere}
use Rattle.dp_entries.specs.Ends.{end_of}
use Rattle.dp_entries.specs.Input.{ComesTo}
use Rattle.dp_entries.specs.Reader.{Reader, HasRead}
use Rattle.dp_entries.specs.Reading as reading
use Rattle.dp_msg_draw.specs.declared.draw.Draw.{Draw}
use Rattle.dp_plain.specs.Board.{Board}
use Rattle.dp_trailing.specs.Trailing.{Trailing}
use Rattle.dp_viewer.specs.Ways.{replay_way}
use Rattle.dp_io.specs.Limits.{stream_limit}
use Rattle.dp_viewer.specs.Reading.{EndsReading, TrailsShown}

-- What was read of an input whose bytes are known, of which those are left: the board trails what
-- the entries show that a reader gave.
abbrev pub IsShown : Option (List ℕ) → Option (List ℕ) → Trailing Board Draw → Reader → Type 0
IsShown input left board reader =
    IfSome input (λ bytes. (all : List Entry) × HasRead StandsAnywhere bytes left all reader
    × TrailsShown board all)

-- nothing is read yet
pub told_first : (input : Option (List ℕ)) (board : Trailing Board Draw) (r : Reader)
    → TrailsShown board []
    → ((bytes head untaken : List ℕ) → bytes ≡ head ++ untaken → length head ≡ 0
    → HasRead StandsAnywhere bytes (Some untaken) [] r)
    → IsShown input input board r
told_first None board r blank begun = tt
told_first (Some bytes) board r blank begun = ([], begun bytes [] bytes refl refl, blank)

-- a piece more of the input is read, or none
pub told_filled : (input left now : Option (List ℕ)) (board : Trailing Board Draw)
    (old new : Reader)
    → ((bytes : List ℕ) (es : List Entry) → HasRead StandsAnywhere bytes left es old
    → HasRead StandsAnywhere bytes now es new)
    → IsShown input left board old → IsShown input now board new
told_filled None left now board old new read told = tt
told_filled (Some bytes) left now board old new read (all, had, trails) =
    (all, read bytes all had, trails)

-- one entry more
pub told_further : (input left now : Option (List ℕ)) (board later : Trailing Board Draw)
    (entry : Entry) (old new : Reader)
    → ((bytes : List ℕ) (es : List Entry) → HasRead StandsAnywhere bytes left es old
    → HasRead StandsAnywhere bytes now (es ++ entry ∷ []) new)
    → ((all : List Entry) → TrailsShown board all → TrailsShown later (all ++ entry ∷ []))
    → IsShown input left board old → IsShown input now later new
told_further None left now board later entry old new given more told = tt
told_further (Some bytes) left now board later entry old new given more (all, read, trails) =
    (all ++ entry ∷ [], given bytes all read, more all trails)

-- the input is at its end
pub told_done : (input left now : Option (List ℕ)) (board : Trailing Board Draw) (r : Reader)
    → r.first ≡ 0 → r.limit ≡ stream_limit
    → ((bytes : List ℕ) (es : List Entry) → HasRead StandsAnywhere bytes left es r
    → ComesTo StandsAnywhere r.first r.limit bytes es run.Done)
    → IsShown input left board r
    → IfSome input (λ bytes. EndsReading replay_way bytes now board run.Done)
told_done None left now board r first limit done told = tt
told_done (Some bytes) left now board r first limit done (all, read, trails) = (
  all,
  subst (λ (n : ℕ). ComesTo StandsAnywhere n stream_limit bytes all run.Done) first
      (subst (λ (n : ℕ). ComesTo StandsAnywhere r.first n bytes all run.Done) limit
      (done bytes all read)),
  trails,
)

ends_of : (bytes : List ℕ) (left : Option (List ℕ)) (board : Trailing Board Draw) (all : List Entry)
    (end : ReadEnd DecodeError)
    → reading.EndsReading StandsAnywhere IsCauseAnywhere 0 stream_limit bytes left all end
    → TrailsShown board all → EndsReading replay_way bytes left board (end_of end)
ends_of bytes left board all ReadFault ends trails = ends
ends_of bytes left board all (Truncated n) ends trails = (all, ends.0, trails)
ends_of bytes left board all (BadMessage cause n) ends trails = ((all, ends.0), ends.1)
ends_of bytes left board all Long ends trails = ((all, ends.0), ends.1)
ends_of bytes left board all Memory ends trails = tt

-- reading ended with this
pub told_end : (input left now : Option (List ℕ)) (board : Trailing Board Draw) (r : Reader)
    (end : ReadEnd DecodeError)
    → r.first ≡ 0 → r.limit ≡ stream_limit
    → ((bytes : List ℕ) (es : List Entry) → HasRead StandsAnywhere bytes left es r
    → reading.EndsReading StandsAnywhere IsCauseAnywhere r.first r.limit bytes now es end)
    → IsShown input left board r
    → IfSome input (λ bytes. EndsReading replay_way bytes now board (end_of end))
told_end None left now board r end first limit ends told = tt
told_end (Some bytes) left now board r end first limit ends (all, read, trails) =
    ends_of bytes now board all end
    (subst (λ (n : ℕ). reading.EndsReading StandsAnywhere IsCauseAnywhere n stream_limit bytes now
    all end) first
    (subst (λ (n : ℕ). reading.EndsReading StandsAnywhere IsCauseAnywhere r.first n bytes now
    all end) limit (ends bytes all read))) trails
