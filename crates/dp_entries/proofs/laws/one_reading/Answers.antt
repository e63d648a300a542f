use Rattle.dp_entries.proofs.OneReading.{Laws, same_reading}
use Rattle.dp_entries.proofs.laws.one_reading.Goals as goal

pub returns : goal.returns
returns g c =
    let laws : Laws g.S.Standing.may_stand = record {
      first = c.one_first_frame.ensures;
      splitting = c.one_splitting.ensures;
      entry = c.one_standing.ensures.one;
    } in
    let same = same_reading g.S.Standing.may_stand laws in
    record {
      entries = λ first limit input es ds end other h k.
          (same first limit input es ds end other h k).0;
      end = λ first limit input es ds end other h k.
          (same first limit input es ds end other h k).1;
    }
