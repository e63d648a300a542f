use Rattle.std.proofs.Common.{List, ℕ, sym, ap, ◌∙◌, take}
use Rattle.dp_split.specs.Stream.{Stream}
use Rattle.dp_frame.proofs.Spellings.{frame_and_rest}
use Rattle.dp_split.proofs.splitter.Splitter.take_frame.Goals as goal

-- the buffer's front is the frame, and the rest of the buffer stays
pub returns-clause-prefix : goal.returns-clause-prefix
returns-clause-prefix c =
    let held = ap (λ (s : Stream). s.held) (sym c.self.view_is) in
    let prefix = ap (λ (bytes : List ℕ). take c.in-Some.len bytes) (sym c.as_slice-held.ensures) in
    held
    ∙ frame_and_rest c.self.inside.buffer.items c.advance.new.self.items c.in-Some.len
    c.in_ok-frame.frame
    (prefix ∙ c.in_ok-frame.ensures.value) c.advance.ensures.items
