-- A table may go to another thread. The kit shows it of the store, if the disk may; the disk's
-- record of its calls owns nothing.
use denote.Param.Send.{IsSend, owning_send, sendable}
use denote.Param.SendFields.{declared_send}
use Rattle.std.proofs.Crossing.{crosses}
use Rattle.sqlite_disk.proofs.modelled.Modelled.TheSendSync as modelled
use Rattle.sqlite_std_file.specs.contracts.host.Host as Host
use Rattle.sqlite_std_file.specs.contracts.record.Record as Record
use Rattle.sqlite_store.proofs.store.FileStore.TheSendSync as files
use Rattle.dp_file_table.specs.contracts.table.FileTable as FileTable

record_send : IsSend Record.the_row
record_send = owning_send Record.the_type (search sendable, tt) (λ d. tt) (λ k x w. tt)

host_send : IsSend Host.the_row
host_send = search (sendable, record_send) depth 20

pub table_send : IsSend FileTable.the_row
table_send =
    declared_send FileTable.the_type (
      search (sendable, crosses, files.the_send, modelled.the_send, host_send) depth 30,
      (search (sendable, crosses) depth 20, tt),
    )
