-- The links that were served, and the connections that their reports name.
use Rattle.std.specs.Prelude.{ℕ, List}
use Rattle.std.specs.List.{filter_map, flat_map}
use Rattle.dp_serve.specs.declared.report.LinkReport.{LinkReport}
use Rattle.dp_serve.specs.Works.{LinkRun}
use Rattle.dp_serve.specs.Serving.{Part}

-- the connections that reports name, in their order
abbrev pub reported : List LinkReport → List ℕ
reported reports = filter_map (λ report. report.conn) reports

-- the links of the parts, one part after another
abbrev pub runs_of : {W R T : Type 0} → List (Part W R T) → List (LinkRun R T)
runs_of parts = flat_map (λ part. part.runs) parts
