-- One link of the server, by what its report tells.
use Rattle.std.specs.Prelude.{List}
use Rattle.dp_epochs.specs.Past.{Past}
use Rattle.dp_session_laws.specs.Logs.{LogEntry}
use Rattle.dp_serve.specs.declared.report.LinkReport.{LinkReport}
use Rattle.dp_link_run.specs.Links.{LinkBy, LinkState}

-- The link went as its report tells, with these acts: before is what it was when it was handed out,
-- and after is what it was when it was handed back. Feeds are of this session.
abbrev pub IsLink : Past → LinkReport → List LogEntry → LinkState → LinkState → Type 0
IsLink past report acts before after =
    LinkBy past report.conn report.up_end report.down_end acts before after
