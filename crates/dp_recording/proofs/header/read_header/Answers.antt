use Rattle.std.proofs.Common.{◌≡◌, ◌+◌, ap, arith, drop, rules, subst, sym, ◌∙◌}
use Rattle.byteorder.specs.Endian.{big_number}
use Rattle.dp_recording.specs.Headers.{TellsProfile, magic, name_of}
use Rattle.dp_recording.proofs.Headers.{take-past}
use Rattle.dp_recording.proofs.header.read_header.Goals as goal

pub returns-in-Some-clause-ok : goal.returns-in-Some-clause-ok
returns-in-Some-clause-ok c =
    let same : c.prefix_of.result.now ≡ c.prefix_of-2.result.now = search rules in
    let told = rw c.in-Some.is at c.in_ok-profile.ensures.told in
    record {
      begins = sym c.prefix_of.ensures ∙ same ∙ c.prefix_of-2.ensures
          ∙ take-past magic _ (omega (arith, c.if-bytes-lt8.false));
      long = ap (λ n. 8 + n) (c.read_u16.ensures ∙ ap (big_number 2) c.rest_of.ensures);
      whole = omega (arith, c.if-bytes-len.false);
      tells = subst (λ t. TellsProfile t (name_of c.in-Some.profile))
          (c.rest_of-2.ensures ∙ ap (drop 8) c.prefix_of-3.ensures) told;
    }
