-- Tables of the first version made those of the second.
use Rattle.std.proofs.Common.{◌≡◌, inl, inr, Bool, true, false, ℕ, List, [], ◌∷◌, map, ◌==◌, ◌||◌, refl, sym, subst}
use Rattle.std.specs.List.{list_any}
use Rattle.std.proofs.lemmas.Bool.{eq-eqb}
use Rattle.sqlite.specs.Order.{Row}
use Rattle.sqlite.specs.State.{State}
use Rattle.sqlite.specs.Table.{Table}
use Rattle.sqlite_rules.specs.Lists.{Has as InList}
use Rattle.site_rows.specs.RecordRows.{version_number}
use Rattle.site_rows.specs.declared.tables.Table.{«Table» as SiteTable}
use Rattle.site_rows.specs.declared.tables.Table.TheVariants.{Store, Pack, Packed}
use Rattle.site_rows.specs.declared.tables.Version.TheVariants.{First, Second}
use Rattle.site_tables.specs.Made.{DoesMake}
use Rattle.site_tables.specs.Migrated.{migrated}
use Rattle.site_tables.specs.Stored.{Change, Contents, DoesAll, Holds, HoldsUnder, after, only}
use Rattle.site_tables.specs.TableRows.{HasRows}
use Rattle.site_tables.specs.Tables.{Has, declared, pack, packed, first_schema, site_schema}
use Rattle.site_tables.specs.Values.{sets_version}
use Rattle.site_tables.proofs.InSchemas.{in_schema}
use Rattle.site_tables.proofs.MadeTables.{no_rows_in}

-- ---- the tables that are made

same_tree : (n : ℕ) → (n == n) ≡ true
same_tree n = eq-eqb n n refl

-- the tree of a table of the list is one of theirs
tree_among : (tables : List Table) (t : Table) → InList tables t → list_any (λ (one : Table). one.tree == t.tree) tables ≡ true
tree_among [] t there = absurd there
tree_among (one ∷ tables) t (inl is) = rw (sym is) (rw (same_tree t.tree) refl)
tree_among (one ∷ tables) t (inr there) = either (one.tree == t.tree) (tree_among tables t there)
  where
    either : {b : Bool} (a : Bool) → b ≡ true → (a || b) ≡ true
    either true h = refl
    either false h = h

no_pack : InList first_schema.tables pack → ⊥
no_pack there = let found = tree_among first_schema.tables pack there in cc

no_packed : InList first_schema.tables packed → ⊥
no_packed there = let found = tree_among first_schema.tables packed there in cc

-- the rows with none in the tables that are made
abbrev with_packs : Change
with_packs Pack rows = []
with_packs Packed rows = []
with_packs other rows = rows

module _ (before : Contents) (begun made : State) (one : DoesMake first_schema site_schema begun made) (was : begun.now.schema ≡ first_schema) (held : HoldsUnder First before begun.now.trees) where
  stays : (t : SiteTable) → Has First t → HasRows (declared t) (before t) (made.now.trees (declared t).tree)
  stays t there = subst (HasRows (declared t) (before t)) (sym (one.kept was (declared t) (in_schema First t there)).1) (held.has t there)

  is_empty : (t : Table) → InList site_schema.tables t → (InList first_schema.tables t → ⊥) → made.now.trees t.tree ≡ []
  is_empty t there new = elim (one.empty was t there) [ inl old ↦ absurd (new old) | inr none ↦ none ]

  in_each : (t : SiteTable) → HasRows (declared t) (after with_packs before t) (made.now.trees (declared t).tree)
  in_each Pack = no_rows_in pack _ (is_empty pack (in_schema Second Pack tt) no_pack)
  in_each Packed = no_rows_in packed _ (is_empty packed (in_schema Second Packed tt) no_packed)
  in_each other = stays other tt

  packs_held : Holds (after with_packs before) made.now.trees
  packs_held = record { lists = one.lists was; has = λ t there. in_each t; rest = λ t lacks. absurd (lacks tt) }

-- ---- the version that is written

-- what is written once the tables are made
abbrev pub renumbered : Change
renumbered t rows = map (sets_version (version_number Second)) rows

in_steps : (t : SiteTable) (rows : List Row) → only (Store ∷ []) renumbered t (with_packs t rows) ≡ migrated t rows
unfolding only
in_steps Store rows = refl
in_steps other rows = refl

pub migrated_hold : (before : Contents) (begun made mid : State) → DoesMake first_schema site_schema begun made → DoesAll (only (Store ∷ []) renumbered) made mid → begun.now.schema ≡ first_schema
    → HoldsUnder First before begun.now.trees → (mid.now.schema ≡ site_schema) × Holds (after migrated before) mid.now.trees
migrated_hold before begun made mid one two was held =
    let has = one.schema was in
    let it = two.holds has (after with_packs before) (packs_held before begun made one was held) in
    (two.schema has, record { lists = it.lists; has = λ t there. subst (λ rows. HasRows (declared t) rows (mid.now.trees (declared t).tree)) (in_steps t (before t)) (it.has t there); rest = λ t lacks. absurd (lacks tt) })
