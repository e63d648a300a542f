use Rattle.std.proofs.Common.{◌≡◌, ℕ, ◌+◌, ◌-◌, ◌<◌, ◌≤◌, List, length, take, drop}
use Rattle.std.proofs.Common.{get_or, ap, ◌∙◌, arith, inl, inr, ⊎_elim}
use Rattle.std.proofs.lemmas.List.{length-take-le, length-take, length-drop}
use Rattle.dp_messages.specs.declared.message.Entry.{Entry}
use Rattle.dp_frame_log.specs.Frames.{frames_of, ends_from}
use Rattle.dp_frame_log.proofs.FrameLemmas.{length-ends, frames-cut, ends-part}
use Rattle.dp_frame_log.proofs.segment.Segment.span.Goals as goal

-- the `most` places from one on
few_ends : (at most : ℕ) (entries : List Entry) → at + most ≤ length entries
    → length (take most (drop at (ends_from 0 entries))) ≡ most
few_ends at most entries within =
    length-take-le most (drop at (ends_from 0 entries))
    (omega (arith, length-drop at (ends_from 0 entries), length-ends 0 entries, within))

-- a number after the one before it
one_back : (n : ℕ) → 0 < n → n - 1 + 1 ≡ n
one_back n some = omega (arith, some)

pub count_within-count-requires : goal.count_within-count-requires
count_within-count-requires c =
    let are = c.requires.are in
    let at = c.args.at in
    let most = c.args.most in
    omega (
      arith,
      ap length (c.prefix_of-ends.ensures
          ∙ ap (take most) (c.rest_of.ensures
          ∙ ap (drop at) (c.deref.ensures.value ∙ ap (λ frames. frames.ends) c.self.view_is
          ∙ are.1.ends))),
      few_ends at most are.0 are.2,
      c.requires.some,
    )

pub returns-clause-are : goal.returns-clause-are
returns-clause-are c = λ entries are.
    let at = c.args.at in
    let count = c.count_within-count.result in
    ap (λ xs. take c.saturating_sub-size.result (drop c.start-start.result xs)) are.bytes
    ∙ ap (λ n. take c.saturating_sub-size.result (drop n (frames_of entries)))
    (c.start-start.ensures entries are)
    ∙ ap (λ n. take n (drop (length (frames_of (take at entries))) (frames_of entries)))
    (omega (
      arith,
      c.saturating_sub-size.ensures,
      c.start.ensures entries are,
      c.start-start.ensures entries are,
    ))
    ∙ frames-cut at count entries

pub returns-clause-short : goal.returns-clause-short
returns-clause-short c =
    let entries = c.requires.are.0 in
    let are = c.requires.are.1 in
    let at = c.args.at in
    let most = c.args.most in
    let count = c.count_within-count.result in
    let ends : c.prefix_of-ends.result.now ≡ take most (drop at (ends_from 0 entries)) =
    c.prefix_of-ends.ensures
    ∙ ap (take most) (c.rest_of.ensures
    ∙ ap (drop at) (c.deref.ensures.value ∙ ap (λ frames. frames.ends) c.self.view_is
    ∙ are.ends)) in
    ⊎_elim (λ one. inl one) (λ below. inr (omega (
      arith,
      below,
      c.requires.limit,
      length-take c.saturating_sub-size.result
          (drop c.start-start.result c.args.self.now.bytes),
      c.saturating_sub-size.ensures,
      c.saturating_add.ensures,
      c.start.ensures entries are,
      ap (λ xs. get_or xs (count - 1) 0) ends,
      ap (λ n. length (frames_of (take (at + n) entries)))
          (one_back count c.count_within-count.ensures.some),
      ends-part at most (count - 1) entries c.requires.are.2
          (omega (
            arith,
            c.count_within-count.ensures.some,
            c.count_within-count.ensures.within,
            ap length ends,
            few_ends at most entries c.requires.are.2,
          )),
    ))) c.count_within-count.ensures.limit
