use Rattle.std.proofs.Common.{length, take, get_or, ap, ◌∙◌, ◌+◌, ◌≡◌, ◌≢◌, ℕ, ◌-◌, arith}
use Rattle.std.proofs.lemmas.Grind.{get_or_default_zero}
use Rattle.dp_frame_log.specs.Frames.{frames_of}
use Rattle.dp_frame_log.proofs.FrameLemmas.{length-ends, ends-at}
use Rattle.dp_frame_log.proofs.segment.Segment.start.Goals as goal

pub index-requires : goal.index-requires
index-requires c =
    let are = c.requires.1 in
    omega (
      arith,
      c.self.inside.ends.ok.0,
      ap (λ frames. length frames.ends) c.self.view_is,
      ap length are.ends,
      length-ends 0 c.requires.0,
      c.requires.2,
      c.if-at-eq0.false,
    )

none_before : (n : ℕ) → 0 + n ≡ n
none_before n = omega arith

back : (n : ℕ) → n ≢ 0 → n - 1 + 1 ≡ n
back n some = omega (arith, some)

pub returns-else-at-eq0 : goal.returns-else-at-eq0
returns-else-at-eq0 c = λ entries are.
    c.index.ensures
    ∙ get_or_default_zero c.self.inside.ends.items (c.args.at - 1) c.index.result.now
    (omega (
      arith,
      c.self.inside.ends.ok.0,
      c.if-at-eq0.false,
      ap length c.requires.1.ends,
      ap (λ frames. length frames.ends) c.self.view_is,
      length-ends 0 c.requires.0,
      c.requires.2,
    ))
    ∙ ap (λ frames. get_or frames.ends (c.args.at - 1) 0) c.self.view_is
    ∙ ap (λ xs. get_or xs (c.args.at - 1) 0) are.ends
    ∙ ends-at 0 entries (c.args.at - 1) (omega (
      arith,
      ap length c.requires.1.ends,
      ap length are.ends,
      length-ends 0 c.requires.0,
      length-ends 0 entries,
      c.requires.2,
      c.if-at-eq0.false,
    ))
    ∙ none_before (length (frames_of (take (c.args.at - 1 + 1) entries)))
    ∙ ap (λ n. length (frames_of (take n entries))) (back c.args.at c.if-at-eq0.false)
