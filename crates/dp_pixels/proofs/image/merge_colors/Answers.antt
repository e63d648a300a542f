use Rattle.std.proofs.Common.{◌≡◌, ◌+◌, ◌-◌, ◌≤◌, ◌++◌, length, get_or, drop, ap, ◌∙◌, arith}
use Rattle.std.proofs.lemmas.List.{length-take, length-drop, length-append, get_or-take}
use Rattle.std.proofs.lemmas.List.{get_or-drop, get_or_append_left}
use Rattle.dp_blend.specs.Color.{Channels, fade, of_argb}
use Rattle.dp_blend.specs.Blending.{blend}
use Rattle.dp_pixels.proofs.Merges.{fade_one, merged_more}
use Rattle.dp_pixels.proofs.image.merge_colors.Goals as goal
use borrow.Rule.Slice.PartMut.{mid_of, same_len_mid}

pub loop-start-preserved : goal.loop-start-preserved
loop-start-preserved c =
    let start = c.loop-start.start in
    let end = c.min-end.result in
    let size = end - start in
    let some = c.loop-start-test.true in
    let old = c.loop-start.row in
    let sources = c.loop-start.sources in
    let colors = c.args.colors.now in
    let chunk = c.loop-start.invariant.chunk in
    let row_len = c.loop-start.auto.row in
    let order : start ≤ end = omega arith in
    let fits : end ≤ length old = omega arith in
    let short : size ≤ length sources = omega arith in
    let put_len : length c.put_sources.new.sources ≡ size = omega
    (arith, c.put_sources.auto.sources, length-take size sources) in
    let part_len : length (mid_of start size old) ≡ size = omega
    (arith, length-take size (drop start old), length-drop start old) in
    let whole = same_len_mid start size old c.row_merge.new.row c.row_merge.auto.row in
    record {
      chunk = omega (
        arith,
        length-append c.put_sources.new.sources (drop size sources),
        length-drop
            size sources,
      );
      within = omega (arith, whole);
      merged = λ k d in_row.
          merged_more c.args.mode colors c.args.row.now old c.row_merge.new.row start end k d order
          fits (omega (arith, whole)) (c.row_merge.auto.row ∙ part_len)
          (λ n in_part.
          c.row_merge.ensures.places n d d (omega (arith, part_len))
          ∙ ap (λ (p : Channels). blend c.args.mode p (get_or (mid_of start size old) n d))
          (ap (λ (p : Channels). fade p 32768)
          (get_or-take size (c.put_sources.new.sources ++ drop size sources) n d in_part
          ∙ (get_or_append_left c.put_sources.new.sources (drop size sources) d n
          (omega (arith, put_len))
          ∙ (c.put_sources.ensures n d (omega (arith, length-take size sources))
          ∙ ap of_argb (get_or-take size (drop start colors) n 0 in_part
          ∙ get_or-drop start colors n 0))))
          ∙ fade_one (of_argb (get_or colors (start + n) 0))))
          (c.loop-start.invariant.merged k d (omega (arith, whole)));
    }
