use Rattle.std.proofs.Common.{arith, sym, ◌∙◌, ◌≡◌, false}
use Rattle.std.proofs.lemmas.Result.{err_from_is_err_and}
use Rattle.dp_msg_draw.proofs.Pixels.{repeats, all_equal, tile_from, tile_to, length_of_tile}
use Rattle.dp_fields.specs.Wholes.{same_error}
use Rattle.dp_msg_draw.proofs.tails.read_pixels.Goals as goal
use Rattle.dp_msg_draw.proofs.tails.read_pixels.Goals.{then-bytes-ne32768-via-then-bytes-ne32768}
use Rattle.dp_msg_draw.proofs.tails.read_pixels.Goals.{then-bytes-ne32768-via-else-bytes-ne32768+then-starts_with}

pub returns-then-bytes-ne32768 : goal.returns-then-bytes-ne32768
returns-then-bytes-ne32768 c = λ pixels s.
    let tile = tile_to pixels s in
    let count = s.is_valid.1 in
    elim c.then-bytes-ne32768.branch [
      | then-bytes-ne32768-via-then-bytes-ne32768 w ↦ absurd
          (w.if-bytes-ne32768.true (omega (arith, length_of_tile s)))
      | then-bytes-ne32768-via-else-bytes-ne32768+then-starts_with w ↦
          s.is_valid.2 (all_equal pixels (record {
            bytes_are = s.bytes_are;
            is_valid = s.is_valid.0;
          }) (sym w.starts_with.ensures.value ∙ w.if-starts_with.true))
    ]

pub returns-in_err-pixels : goal.returns-in_err-pixels
returns-in_err-pixels c =
    let p = err_from_is_err_and c.from_residual.result c.from_residual.ensures.1 in
    let differ : repeats c.args.bytes.now ≡ false = sym c.starts_with.ensures.value
    ∙ c.if-starts_with.false in
    rw (p.1, p.2) (same_error _ _ (λ pixels s. (pixels, tile_to pixels s))
    (λ pixels s. (pixels, tile_from differ pixels s)) c.in_err-pixels.field-0.0
    c.in_err-pixels.ensures)

pub returns : goal.returns
returns c =
    let differ : repeats c.args.bytes.now ≡ false = sym c.starts_with.ensures.value
    ∙ c.if-starts_with.false in
    rw c.from_vec.ensures (tile_from differ _ c.in_ok-pixels.ensures)
