-- What a reading of all tables finds.
use Rattle.std.specs.Prelude.{◌≡◌, []}
use Rattle.sqlite.specs.Tree.{Trees}
use Rattle.site_rows.specs.declared.tables.Table.{«Table» as SiteTable}
use Rattle.site_rows.specs.declared.tables.Version.{Version}
use Rattle.site_tables.specs.Reads.{IsListed}
use Rattle.site_tables.specs.Stored.{Contents}
use Rattle.site_tables.specs.Tables.{Has, declared}

-- the rows of each table of the version as its query shows them, by their keys, and none of another table
pub record AreListed (v : Version) (rows : Contents) (trees : Trees) : Type 0 where
  pub of : (t : SiteTable) → Has v t → IsListed (declared t) (trees (declared t).tree) (rows t)
  pub rest : (t : SiteTable) → ¬ Has v t → rows t ≡ []
