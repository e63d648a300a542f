use Rattle.std.proofs.Common.{◌≡◌, ℕ, ◌+◌, List, ◌++◌, length, drop, sym, ap, ◌∙◌, arith}
use Rattle.std.proofs.lemmas.List.{drop_at}
use Rattle.byteorder.specs.Endian.{big_number}
use Rattle.dp_frame.specs.Frames.{spelling}
use Rattle.dp_split.specs.Stream.{Stream}
use Rattle.dp_frame.proofs.Spellings.{first_number}
use Rattle.dp_split.proofs.splitter.Splitter.drop_frame.Goals as goal

abbrev stream : List ℕ → ℕ → Stream
stream held at = record { held = held; at = at }

-- streams with the same parts are one
same_stream : {held others : List ℕ} {at place : ℕ} → held ≡ others → at ≡ place
    → stream held at ≡ stream others place
same_stream {held} {others} {at} {place} same_held same_at =
    ap (λ (l : List ℕ). stream l at) same_held ∙ ap (stream others) same_at

pub returns-in-Some-clause-prefix : goal.returns-in-Some-clause-prefix
returns-in-Some-clause-prefix c = λ f rest fits whole.
    let bytes = c.self.inside.buffer.items in
    let len = c.in-Some.len in
    let is_held : bytes ≡ spelling f ++ rest = ap (λ (s : Stream). s.held) c.self.view_is ∙ whole in
    let number : len ≡ big_number 2 bytes + 4 =
    c.in-Some.ensures.whole.announced
    ∙ ap (λ (l : List ℕ). big_number 2 l + 4) c.as_slice.ensures in
    let as_long : len ≡ length (spelling f) = omega (
      arith,
      number,
      ap (big_number 2) is_held,
      first_number f rest fits,
    ) in
    let left : c.advance.new.self.items ≡ rest =
    c.advance.ensures.items ∙ ap (drop len) is_held ∙ drop_at (spelling f) rest len (sym as_long) in
    let at : c.self.inside.at + len ≡ c.args.self.now.at + length (spelling f) =
    ap (λ (n : ℕ). c.self.inside.at + n) as_long
    ∙ ap (λ (s : Stream). s.at + length (spelling f)) c.self.view_is in
    same_stream left at
