-- The parts of what a step changes.
use Rattle.std.proofs.Common.{◌≡◌, List, [], ◌∷◌, None, refl}
use Rattle.sqlite.specs.Order.{Row}
use Rattle.site_rows.specs.declared.changes.RowChanges.{RowChanges}
use Rattle.site_rows.specs.declared.tables.Table.{«Table» as SiteTable}
use Rattle.site_rows.specs.declared.tables.Table.TheVariants.{Store, Event, Part, Pack, Packed, Quarantine, Outbox, Seen, Parent, Recall}
use Rattle.site_tables.specs.Changed.{put, dropped, changed}
use Rattle.site_tables.specs.Stored.{only}

-- two tables have rows taken out
pub only_dropped : (changes : RowChanges) (t : SiteTable) (rows : List Row) → only (Outbox ∷ Parent ∷ []) (dropped changes) t rows ≡ dropped changes t rows
unfolding only
only_dropped changes Store rows = refl
only_dropped changes other rows = refl

-- the parts in their order are the whole
pub in_parts : (changes : RowChanges) (t : SiteTable) (rows : List Row)
    → only (Store ∷ []) (put changes) t (only (Recall ∷ []) (put changes) t (dropped changes t (only (Event ∷ Part ∷ Pack ∷ Packed ∷ Quarantine ∷ Outbox ∷ Seen ∷ Parent ∷ []) (put changes) t rows))) ≡ changed changes t rows
unfolding only
in_parts changes Store rows = refl
in_parts changes other rows = refl

-- where the numbers stay, no row is changed
pub same_numbers : (changes : RowChanges) → changes.numbers ≡ None → (t : SiteTable) (rows : List Row) → rows ≡ only (Store ∷ []) (put changes) t rows
unfolding only
same_numbers changes none Store rows = rw none refl
same_numbers changes none other rows = refl
