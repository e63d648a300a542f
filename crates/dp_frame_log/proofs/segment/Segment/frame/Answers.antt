use Rattle.std.proofs.Common.{◌≡◌, ◌<◌, ◌+◌, length, take, drop, get_or, ap, ◌∙◌, arith}
use Rattle.std.proofs.lemmas.Grind.{get_or_default_zero}
use Rattle.dp_frame_log.specs.Frames.{frames_of}
use Rattle.dp_frame_log.proofs.FrameLemmas.{frames-cut, ends-at, length-ends}
use Rattle.dp_frame_log.proofs.segment.Segment.frame.Goals as goal

pub index-requires : goal.index-requires
index-requires c =
    omega (
      arith,
      c.self.inside.ends.ok.0,
      ap (λ frames. length frames.ends) c.self.view_is,
      ap length c.requires.1.ends,
      length-ends 0 c.requires.0,
      c.requires.2,
    )

pub returns : goal.returns
returns c = λ entries are.
    let at = c.args.at in
    let long : at < length entries = omega (
      arith,
      ap length c.requires.1.ends,
      ap length are.ends,
      length-ends 0 c.requires.0,
      length-ends 0 entries,
      c.requires.2,
    )
    in
    let end : c.index.result.now ≡ 0 + length (frames_of (take (at + 1) entries)) =
    c.index.ensures
    ∙ get_or_default_zero c.self.inside.ends.items at c.index.result.now
    (omega (
      arith,
      c.self.inside.ends.ok.0,
      ap length c.requires.1.ends,
      ap (λ frames. length frames.ends) c.self.view_is,
      length-ends 0 c.requires.0,
      c.requires.2,
    ))
    ∙ ap (λ frames. get_or frames.ends at 0) c.self.view_is
    ∙ ap (λ xs. get_or xs at 0) are.ends
    ∙ ends-at 0 entries at long in
    c.part.ensures
    ∙ ap (λ xs. take c.saturating_sub.result (drop c.start-start.result xs)) are.bytes
    ∙ ap (λ n. take c.saturating_sub.result (drop n (frames_of entries)))
    (c.start-start.ensures entries are)
    ∙ ap (λ n. take n (drop (length (frames_of (take at entries))) (frames_of entries)))
    (omega (
      arith,
      c.saturating_sub.ensures,
      end,
      c.start-start.ensures entries are,
    ))
    ∙ frames-cut at 1 entries
