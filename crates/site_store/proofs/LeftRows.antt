-- A connection just made lists the rows that a crash left.
use Rattle.std.proofs.Common.{◌≡◌, ◌∙◌, ℕ, List, sym, ap, subst}
use Rattle.sqlite.specs.Effect.{Database}
use Rattle.sqlite.specs.State.{State, IsLive, Opens}
use Rattle.sqlite_trees.specs.Objects.{catalog_tree}
use Rattle.sqlite_catalog.proofs.ReadLemmas.{lists_once}
use Rattle.sqlite_disk.specs.declared.Disk as disk
use Rattle.sqlite_store.specs.declared.store.FileStore.{FileStore}
use Rattle.sqlite.specs.Held.{Held}
use Rattle.sqlite.specs.Files.{file_state}
use Rattle.site_core.specs.Records.{Record}
use Rattle.site_rows.specs.RecordRows.{rows_under}
use Rattle.site_rows.specs.declared.tables.Version.{Version}
use Rattle.site_tables.specs.AllReads.{AreListed}
use Rattle.site_tables.specs.Stored.{HoldsUnder, contents_of}
use Rattle.site_tables.specs.Tables.{declared, schema_under}
use Rattle.site_tables.proofs.OnlyRows.{is_listed}
use Rattle.site_store.specs.Opened.{IsLeftOf, ListsSite}
use Rattle.site_store.specs.Openings.{ListsUnder}
use Rattle.site_store.proofs.ReadableRows.{rows_rise}

lists_left : (v : Version) (r : Record) (s : State) → Opens s → IsLive s → HoldsUnder v (contents_of (rows_under v r)) s.committed.trees → ListsUnder v r s
lists_left v r s opens live holds =
    let schema : s.committed.schema ≡ schema_under v = lists_once (s.committed.trees catalog_tree) s.committed.schema (schema_under v) (live opens.is_open).1.lists holds.lists in
    let listed : AreListed v (contents_of (rows_under v r)) s.committed.trees = record { of = λ t there. is_listed (declared t) _ _ (rows_rise v r t) (holds.has t there); rest = holds.rest } in
    record {
      schema = ap (λ (d : Database). d.schema) opens.clean ∙ schema;
      listed = subst (λ (d : Database). AreListed v (contents_of (rows_under v r)) d.trees) (sym opens.clean) listed;
    }

module _ {D : Type 0} {g : disk.Ghosts D} where
  pub lists_site : (conn : Held (FileStore D g)) (name : List ℕ) (v : Version) (r : Record) → IsLive (file_state conn) → IsLeftOf conn name v r → ListsSite v r name (file_state conn)
  lists_site conn name v r live it = record { rows = lists_left v r (file_state conn) it.opens live it.holds; site = it.site; named = it.named }
