-- A declaration is what its parts are.
use Rattle.std.proofs.Common.{◌≡◌, ℕ, ◌++◌, ◌∷◌, [], List, true, slice_index_or, sym, ap, ◌∙◌, map, arith}
use Rattle.std.specs.Prelude.{codes}
use Rattle.std.specs.Fmt.{decimal}
use Rattle.std.proofs.lemmas.Fmt.{decimal_digit}
use Rattle.sqlite_value.specs.Keys.{plain}
use Rattle.sqlite_catalog.specs.Listing.{automatic}
use Rattle.sqlite.specs.Table.{Table}
use Rattle.site_tables.specs.Known.{table_as, IsNamed, HasUniques, column_as, uniques_as, checks_as, references_as}
use Rattle.site_tables.specs.declared.declarations.Declaration.{Declaration}

pub table_is : (t : Table) (d : Declaration) → IsNamed d t → t.columns ≡ map column_as d.columns.now → HasUniques (uniques_as d.unique.now) t → t.references ≡ references_as d.parent → t.checks ≡ checks_as d.check → t ≡ table_as d
table_is t d named shown unique referred checked = λ i. record {
  name = named.name_is i;
  tree = named.tree_is i;
  columns = shown i;
  key = named.key_is i;
  primary = named.primary_is i;
  uniques = unique.places i;
  orders = unique.orders i;
  checks = checked i;
  references = referred i;
  computed = named.computed i;
  stamps = named.stamps i;
  is_counted = named.counted i;
}

-- what a table has that is declared so
pub record HasParts (t : Table) (d : Declaration) : Type 0 where
  pub named : IsNamed d t
  pub columns : t.columns ≡ map column_as d.columns.now
  pub uniques : HasUniques (uniques_as d.unique.now) t
  pub references : t.references ≡ references_as d.parent
  pub checks : t.checks ≡ checks_as d.check

pub parts_are : (t : Table) (d : Declaration) → t ≡ table_as d → HasParts t d
parts_are t d is = record {
  named = record {
    name_is = ap (λ (x : Table). x.name) is;
    tree_is = ap (λ (x : Table). x.tree) is;
    key_is = ap (λ (x : Table). x.key) is;
    primary_is = ap (λ (x : Table). x.primary) is;
    computed = ap (λ (x : Table). x.computed) is;
    stamps = ap (λ (x : Table). x.stamps) is;
    counted = ap (λ (x : Table). x.is_counted) is;
  };
  columns = ap (λ (x : Table). x.columns) is;
  uniques = record { places = ap (λ (x : Table). x.uniques) is; orders = ap (λ (x : Table). x.orders) is };
  references = ap (λ (x : Table). x.references) is;
  checks = ap (λ (x : Table). x.checks) is;
}

-- the index that a table's first UNIQUE makes
pub index_is : (table : Table) (key : List ℕ) (tree : ℕ) (name : List ℕ) → codes "sqlite_autoindex_" ++ (table.name ++ (codes "_" ++ 49 ∷ [])) ≡ name → slice_index_or table.orders 0 plain ≡ record { digits = 0 }
    → record { name = name; tree = tree; table = table.tree; columns = key; order = record { digits = 0 }; is_unique = true } ≡ automatic table 0 key tree
index_is table key tree name is order =
    let named : name ≡ codes "sqlite_autoindex_" ++ (table.name ++ (codes "_" ++ decimal 1)) = sym is ∙ ap (λ d. codes "sqlite_autoindex_" ++ (table.name ++ (codes "_" ++ d))) (sym (decimal_digit 1 (omega arith))) in
    let plainly = sym order in
    λ i. record { name = named i; tree = tree; table = table.tree; columns = key; order = plainly i; is_unique = true }
