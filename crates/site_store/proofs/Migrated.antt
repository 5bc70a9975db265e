-- The rows of a record under the first version, made those of the second.
use Rattle.std.proofs.Common.{◌≡◌, [], pos, refl, sym, subst}
use Rattle.sqlite.specs.State.{State}
use Rattle.sqlite.specs.Tree.{Trees}
use Rattle.site_core.specs.Records.{Record}
use Rattle.site_rows.specs.RecordRows.{rows_of, rows_under}
use Rattle.site_rows.specs.declared.tables.Table.{«Table» as SiteTable}
use Rattle.site_rows.specs.declared.tables.Table.TheVariants.{Store, Pack, Packed}
use Rattle.site_rows.specs.declared.tables.Version.TheVariants.{First}
use Rattle.site_tables.specs.Migrated.{migrated}
use Rattle.site_tables.specs.Stored.{Contents, Holds, IsStored, IsStoredUnder, after, contents_of}
use Rattle.site_tables.specs.Tables.{Has}
use Rattle.site_tables.proofs.Tables.{cast_int}
use Rattle.site_store.specs.StepWritten.{HoldsRecord, Keeps}

-- it has no rows in tables that the first version lacks
abbrev IsAlone : Record → Type 0
IsAlone r = (t : SiteTable) → ¬ Has First t → contents_of (rows_under First r) t ≡ []

rows_migrated : (r : Record) → IsAlone r → (t : SiteTable) → migrated t (contents_of (rows_under First r) t) ≡ contents_of (rows_of r) t
rows_migrated r alone Store = rw (cast_int (pos 1), cast_int (pos r.engagement.me), cast_int (pos r.engagement.next_message), cast_int (pos r.engagement.next_recall)) refl
rows_migrated r alone Pack = sym (alone Pack (λ has. has))
rows_migrated r alone Packed = sym (alone Packed (λ has. has))
rows_migrated r alone other = refl

all_migrated : (r : Record) → IsAlone r → after migrated (contents_of (rows_under First r)) ≡ contents_of (rows_of r)
all_migrated r alone = λ i t. rows_migrated r alone t i

pub keeps_migrated : (r : Record) (old s : State) → IsStoredUnder First (contents_of (rows_under First r)) old → IsStored (after migrated (contents_of (rows_under First r))) s → Keeps r s
keeps_migrated r old s was it = subst (λ (rows : Contents). IsStored rows s) (all_migrated r was.holds.rest) it

pub holds_migrated : (r : Record) (old : State) (db : Trees) → IsStoredUnder First (contents_of (rows_under First r)) old → Holds (after migrated (contents_of (rows_under First r))) db → HoldsRecord r db
holds_migrated r old db was it = subst (λ (rows : Contents). Holds rows db) (all_migrated r was.holds.rest) it
