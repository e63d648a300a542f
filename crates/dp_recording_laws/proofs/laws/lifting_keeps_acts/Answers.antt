use Rattle.dp_recording.specs.declared.header.Profile.TheVariants.{First}
use Rattle.dp_recording_laws.proofs.Lifting.{Laws, lifted, same-act, tells-lifted}
use Rattle.dp_recording_laws.proofs.laws.lifting_keeps_acts.Goals as goal

pub returns : goal.returns
returns c =
    let laws : Laws = record {
      depth = c.lifting.ensures.depth;
      other = c.lifting.ensures.other;
      one = c.one_message.ensures.message;
    } in
    record {
      stands = lifted laws;
      acts = same-act laws;
      whole = λ input len entries header came.
          let told = tells-lifted laws _ entries _ came.0 in
          (told.0, (First, len, header, (told.1, came.1)), told.2);
      cut = λ input len n entries header came.
          let told = tells-lifted laws _ entries _ came.1 in
          (told.0, (First, len, header, (came.0, told.1, came.2, came.3, came.4)), told.2);
    }
