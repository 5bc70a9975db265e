-- The rows of a file that is found are in their order.
use Rattle.std.proofs.Common.{◌≡◌, inl, inr, arith, ℕ, ◌<◌, ◌^◌, List, [], ◌∷◌, true, IsTrue, refl, sym, ap, subst, ◌∙◌}
use Rattle.std.proofs.Math.Logic.{∥∥₁_elim}
use Rattle.std.specs.List.{AllByRecursion}
use Rattle.sqlite.specs.Order.{Row}
use Rattle.sqlite.specs.Table.{Table}
use Rattle.sqlite.specs.Schema.{Schema}
use Rattle.sqlite.specs.Tree.{Trees}
use Rattle.sqlite.specs.Effect.{Database}
use Rattle.sqlite.specs.State.{State, IsLive, Opens, IsUnchanged}
use Rattle.sqlite.specs.Files.{AreFoundIn}
use Rattle.sqlite_wal.specs.Recovery.{Image}
use Rattle.sqlite_trees.specs.declared.store.Shape.TheVariants as shape
use Rattle.sqlite_trees.specs.Tree.{rowid}
use Rattle.sqlite_trees.specs.View.{is_int, IsShaped, IsOrdered}
use Rattle.sqlite_trees.specs.Objects.{catalog_tree}
use Rattle.sqlite_trees.specs.Props.{IsShaped-prop}
use Rattle.sqlite_pages.specs.PageMap.{PageMap}
use Rattle.sqlite_pool.specs.File.{in_use, version_in}
use Rattle.sqlite_store.specs.declared.catalog.Wanted.{Wanted}
use Rattle.sqlite_store.specs.Listing.{all_shapes, file_trees, listed_from, IsOurs}
use Rattle.sqlite_store.specs.Listed.{catalog_rows, is_listed}
use Rattle.sqlite_store.proofs.ListingLemmas.{all_ordered}
use Rattle.sqlite_catalog.specs.Listing.{Lists, AreListed}
use Rattle.sqlite_catalog.proofs.LayoutLemmas.{laid_out}
use Rattle.sqlite_rules.specs.Lists.{Has as InList}
use Rattle.sqlite_rules.specs.Edit.{have_rowids}
use Rattle.sqlite_rules.proofs.ListLemmas.{all_has}
use Rattle.site_rows.specs.declared.tables.Table.{«Table» as SiteTable}
use Rattle.site_rows.specs.declared.tables.Table.TheVariants.{Store, Site, Address, Event, Part, Pack, Packed, Quarantine, Outbox, Seen, Parent, Recall}
use Rattle.site_rows.specs.declared.tables.Version.{Version}
use Rattle.site_tables.specs.AllReads as reads
use Rattle.site_tables.specs.Tables.{declared, schema_under}
use Rattle.site_tables.specs.TableRows.{HasRows}
use Rattle.site_tables.specs.Reads.{IsListed}
use Rattle.site_tables.specs.Stored as stored
use Rattle.site_tables.proofs.Committed.{Settles}
use Rattle.site_tables.proofs.InSchemas.{in_schema}

ours_in_order : (size : ℕ) (wanted : List Wanted) (pages : PageMap) (schema : Schema) → IsOurs size true wanted pages → Lists (file_trees size wanted pages catalog_tree) schema
    → (t : Table) → InList schema.tables t → IsShaped shape.Table (file_trees size wanted pages t.tree)
ours_in_order size wanted pages schema ours lists t has =
    let all : IsOrdered (all_shapes wanted) (file_trees size wanted pages) = all_ordered ours.file.db (version_in pages) in
    let objects : file_trees size wanted pages catalog_tree ≡ listed_from 0 wanted = catalog_rows size wanted (in_use size pages) in
    let listed = is_listed wanted in
    let itself = subst (IsShaped shape.Table) objects (subst (λ s. IsShaped s (file_trees size wanted pages catalog_tree)) listed.itself.0 (all catalog_tree)) in
    let laid = laid_out listed itself (subst (λ rows. AreListed rows schema) objects lists.listed) in
    subst (λ s. IsShaped s (file_trees size wanted pages t.tree)) (all_has (λ (t : Table). all_shapes wanted t.tree ≡ shape.Table) schema.tables t laid.tables has) (all t.tree)

found_in_order : (image : Image) (db : Trees) (schema : Schema) → AreFoundIn image db → Lists (db catalog_tree) schema → (t : Table) → InList schema.tables t → t.tree < 2 ^ 32 → IsShaped shape.Table (db t.tree)
found_in_order image db schema (inl (size, pages, wanted, adopts, ours, same)) lists t has low =
    subst (λ (d : Trees). IsShaped shape.Table (d t.tree)) (sym same)
    (∥∥₁_elim ours (IsShaped-prop shape.Table (file_trees size wanted pages t.tree)) (λ it. ours_in_order size wanted pages schema it (subst (λ (d : Trees). Lists (d catalog_tree) schema) same lists) t has))
found_in_order image db schema (inr none) lists t has low = rw (none.1.0 t.tree low) (tt, tt)

all_keyed : (rows : List Row) → AllByRecursion (λ r. IsTrue (is_int (rowid r))) rows → have_rowids rows ≡ true
all_keyed [] all = refl
all_keyed (r ∷ rows) all = rw (all.0, all_keyed rows all.1) refl

holds_listed : (table : Table) (rows tree : List Row) → IsShaped shape.Table tree → IsListed table tree rows → HasRows table rows tree
holds_listed table rows tree shaped listed = record { keyed = all_keyed tree shaped.1; rising = shaped.0; same = listed.same }

-- each tree has a number that files have
low_tree : (t : SiteTable) → (declared t).tree < 2 ^ 32
low_tree Store = omega arith
low_tree Site = omega arith
low_tree Address = omega arith
low_tree Event = omega arith
low_tree Part = omega arith
low_tree Pack = omega arith
low_tree Packed = omega arith
low_tree Quarantine = omega arith
low_tree Outbox = omega arith
low_tree Seen = omega arith
low_tree Parent = omega arith
low_tree Recall = omega arith

-- what the readers return is what is stored
pub stored_as_read : (v : Version) (image : Image) (s : State) → Opens s → IsLive s → AreFoundIn image s.committed.trees → Settles s → s.now.schema ≡ schema_under v
    → (rows : stored.Contents) → reads.AreListed v rows s.now.trees → stored.IsStoredUnder v rows s
stored_as_read v image s opens live found settles has rows listed =
    let schema : s.committed.schema ≡ schema_under v = ap (λ (d : Database). d.schema) (sym opens.clean) ∙ has in
    let lists = subst (λ x. Lists (s.committed.trees catalog_tree) x) schema (live opens.is_open).1.lists in
    let read = subst (λ (d : Database). reads.AreListed v rows d.trees) opens.clean listed in
    let holds : stored.HoldsUnder v rows s.committed.trees = record {
      lists = lists;
      has = λ t there. holds_listed (declared t) (rows t) (s.committed.trees (declared t).tree)
          (found_in_order image s.committed.trees (schema_under v) found lists (declared t) (in_schema v t there) (low_tree t)) (read.of t there);
      rest = read.rest;
    } in
    record {
      is_open = opens.is_open;
      autocommit = opens.autocommit;
      settled = opens.clean;
      schema = schema;
      holds = holds;
      crash = λ db may. subst (stored.HoldsUnder v rows) (sym (settles db opens.is_open may)) holds;
    }

-- and so it is where nothing changed since
pub stored_still : (v : Version) (rows : stored.Contents) (old new : State) → stored.IsStoredUnder v rows old → IsUnchanged old new → Settles new → stored.IsStoredUnder v rows new
stored_still v rows old new it same settles =
    let holds : stored.HoldsUnder v rows new.committed.trees = rw same.0.committed_is it.holds in
    record {
      is_open = same.0.is_open;
      autocommit = same.0.mode ∙ it.autocommit;
      settled = same.0.now_is ∙ it.settled ∙ sym same.0.committed_is;
      schema = rw same.0.committed_is it.schema;
      holds = holds;
      crash = λ db may. subst (stored.HoldsUnder v rows) (sym (settles db same.0.is_open may)) holds;
    }
