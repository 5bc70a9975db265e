-- What an opening finds is stored.
use Rattle.std.proofs.Common.{arith}
use Rattle.sqlite_disk.specs.declared.Disk as disk
use Rattle.sqlite_store.specs.declared.store.FileStore.{FileStore}
use Rattle.sqlite.specs.Held.{Held}
use Rattle.sqlite.specs.Files.{file_state}
use Rattle.sqlite.specs.State.{HasCleanDisk, Survives}
use Rattle.site_core.specs.Records.{Record}
use Rattle.site_rows.specs.RecordRows.{rows_under}
use Rattle.site_rows.specs.declared.tables.Version.{Version}
use Rattle.site_rows.specs.declared.tables.Version.TheVariants.{Second}
use Rattle.site_tables.specs.Stored.{IsStoredUnder, contents_of}
use Rattle.site_tables.proofs.Committed.{Settles}
use Rattle.site_store.specs.Openings.{ListsRecord, ListsRecordUnder}
use Rattle.site_store.specs.Sites.{IsKeptOver, StoresListed}
use Rattle.site_store.proofs.InOrder.{stored_still}

module _ {D : Type 0} {g : disk.Ghosts D} where
  -- a record whose rows were read over a connection just made, under a version
  pub found_stored : (v : Version) (r : Record) (old new : Held (FileStore D g)) → StoresListed old → Survives (file_state old) (file_state new) (λ _. ⊥)
      → (HasCleanDisk (file_state new) → ListsRecordUnder v r (file_state old) (file_state new)) → Settles (file_state new)
      → HasCleanDisk (file_state new) → IsStoredUnder v (contents_of (rows_under v r)) (file_state new)
  found_stored v r old new stores survives lists settles clean =
      let it = lists clean in
      stored_still v (contents_of (rows_under v r)) (file_state old) (file_state new) (stores (omega (arith, survives.clean)) v it.0.schema (contents_of (rows_under v r)) it.0.listed) it.1 settles

  -- so it is kept under the second
  pub found_kept : (r : Record) (old new : Held (FileStore D g)) → StoresListed old → Survives (file_state old) (file_state new) (λ _. ⊥)
      → (HasCleanDisk (file_state new) → ListsRecord r (file_state old) (file_state new)) → Settles (file_state new) → IsKeptOver new r
  found_kept r old new stores survives lists settles clean = found_stored Second r old new stores survives lists settles clean
