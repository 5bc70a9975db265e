-- Why a query of a whole table is refused.
use Rattle.std.proofs.Common.{◌⊎◌, inl, inr, []}
use Rattle.sqlite.specs.Table.{Table}
use Rattle.sqlite.specs.Tree.{Trees}
use Rattle.sqlite_sql.specs.Program.{overlay, QueryOverflows}
use Rattle.site_tables.specs.Commands.{by_key}

pub only_third : {A B C D E : Type 0} → (B → ⊥) → (D → ⊥) → (A × B) ⊎ ((C × D) ⊎ E) → E
only_third no_b no_d (inl h) = absurd (no_b h.1)
only_third no_b no_d (inr (inl h)) = absurd (no_d h.1)
only_third no_b no_d (inr (inr h)) = h

-- a query of a whole table has no SUM that might overflow
pub sums_nothing : (table : Table) (db : Trees) → QueryOverflows (by_key table) (overlay db []) [] → ⊥
sums_nothing table db (inl h) = h
sums_nothing table db (inr any) = any.4
