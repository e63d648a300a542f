use Rattle.dp_recording.proofs.Headers.{goes-on, none-stays, one-header, short-none}
use Rattle.dp_recording.proofs.laws.one_header.Goals as goal

pub returns-clause-one : goal.returns-clause-one
returns-clause-one c = one-header

pub returns-clause-goes_on : goal.returns-clause-goes_on
returns-clause-goes_on c = goes-on

pub returns-clause-short : goal.returns-clause-short
returns-clause-short c = short-none

pub returns-clause-none : goal.returns-clause-none
returns-clause-none c = none-stays
