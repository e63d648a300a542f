-- The reset of the worked example keeps, and its history may be cut at its place.
use Rattle.std.proofs.Common.{[], refl}
use Rattle.std.specs.Str.{is_utf8, chars}
use lib.Utf8.{encode}
use Rattle.dp_epochs.specs.State.{user_ids}
use Rattle.dp_epochs.specs.Past.{state_after}
use Rattle.dp_keep_laws.specs.Keeping.{EndsKeeping, MayBeCut}
use Rattle.dp_keep_laws.specs.Worked.{keeping_journal}
use Rattle.dp_keep_laws.proofs.Cuts.{cut-undone}

pub worked-ends : EndsKeeping (state_after keeping_journal []) 1 3
unfolding user_ids is_utf8 chars encode
worked-ends = record {
  connection = _;
  is_open = refl;
  opens = refl;
  stream = _;
  sent = refl;
  keeps = refl;
  draws = refl;
}

pub worked-cut : MayBeCut 3 (state_after keeping_journal []).live []
unfolding user_ids is_utf8 chars encode
worked-cut = cut-undone 3 (state_after keeping_journal []).live [] (refl, (refl, tt))
