-- The rows of the worked example stood in the first profile.
use Rattle.std.proofs.Common.{[], ◌∷◌, refl, inl, lit≤}
use Rattle.std.specs.Str.{is_utf8, chars}
use lib.Utf8.{encode}
use Rattle.dp_epochs.specs.State.{user_ids}
use Rattle.dp_lifting_laws.specs.FirstRows.{WereRowsOf}
use Rattle.dp_lifting_laws.specs.Worked.{worked_rows, worked_journal}

pub worked : WereRowsOf worked_rows worked_journal
unfolding user_ids is_utf8 chars encode
worked = (
  record { number = refl; spelled = refl; given = tt; room = refl },
  (
    record {
      number = refl;
      spelled = record {
        kind = 70;
        payload = 170 ∷ 187 ∷ [];
        is = refl;
        fits = lit≤ tt;
        spelled = inl (refl, refl, lit≤ tt);
      };
      given = refl;
      room = refl;
    },
    tt,
  ),
)
