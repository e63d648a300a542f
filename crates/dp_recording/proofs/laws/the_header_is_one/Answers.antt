use Rattle.std.proofs.Common.{arith, codes, refl}
use Rattle.std.proofs.lemmas.Str.{IsUtf8-from_is_utf8}
use Rattle.std.specs.Str.{chars, is_utf8}
use Rattle.serde_json.proofs.OnLiterals.{serde_json_on_literals}
use Rattle.dp_recording.proofs.laws.the_header_is_one.Goals as goal

pub returns : goal.returns
unfolding serde_json_on_literals chars is_utf8
returns c = λ more. record {
  begins = refl;
  long = refl;
  whole = omega arith;
  tells = (IsUtf8-from_is_utf8 (codes "{\"profile\":\"dp-int-2\"}") refl, refl);
}
