-- Which records an opening finds where tables list their rows.
use Rattle.site_core.specs.Records.{Record}
use Rattle.site_rows.specs.Laws.{IsKept, HoldsItems}

-- a record that an opening finds where the tables list its rows: a site may keep it, and its texts are those of items,
-- sites and plain destinations
pub record MayBeFound (r : Record) : Type 0 where
  pub kept : IsKept r
  pub items : HoldsItems r
