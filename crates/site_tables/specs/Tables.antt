-- The tables of a site's database.
use Rattle.std.specs.Prelude.{⊤, Bool, true, false, List, [], ◌∷◌, ◌++◌, map, Option, Some, None, codes, ℕ, pos, ◌+◌, ◌==◌, if◌then◌else◌}
use Rattle.std.specs.List.{flat_map}
use Rattle.sqlite.specs.Collation.TheVariants.{Binary}
use Rattle.sqlite.specs.declared.types.Value.TheVariants.{Null, Int}
use Rattle.sqlite.specs.Term.{Term, lit, col, op2}
use Rattle.sqlite_sql.specs.declared.ops.BinaryOp.TheVariants.{Compare, Or}
use Rattle.sqlite_sql.specs.declared.ops.CompareOp.TheVariants.{Eq}
use Rattle.sqlite.specs.Table.{Table}
use Rattle.sqlite.specs.Schema.{Schema}
use Rattle.sqlite.specs.Kind.{Kind}
use Rattle.sqlite.specs.Kind.TheVariants.{Integer, Text}
use Rattle.sqlite_schema.specs.declared.schema.Column.{Column}
use Rattle.sqlite_schema.specs.declared.schema.Index.{Index}
use Rattle.sqlite_schema.specs.declared.schema.Reference.{Reference}
use Rattle.sqlite_schema.specs.declared.schema.Action.TheVariants.{NoAction}
use Rattle.sqlite_catalog.specs.Listing.{automatic}
use Rattle.site_rows.specs.declared.tables.Table.{«Table» as SiteTable}
use Rattle.site_rows.specs.declared.tables.Table.TheVariants.{Store, Site, Address, Event, Part, Pack, Packed, Quarantine, Outbox, Seen, Parent, Recall}
use Rattle.site_rows.specs.declared.tables.Version.{Version}
use Rattle.site_rows.specs.declared.tables.Version.TheVariants.{First, Second}

abbrev pub column_of : List ℕ → Kind → Bool → Column
column_of name kind required = record { name = name; kind = kind; is_strict = true; not_null = required; default = Null; collation = Binary }

abbrev pub number : List ℕ → Column
number name = column_of name Integer true

abbrev pub text : List ℕ → Column
text name = column_of name Text true

abbrev pub maybe_text : List ℕ → Column
maybe_text name = column_of name Text false

abbrev pub rowid_key : List ℕ → Column
rowid_key name = column_of name Integer false

abbrev pub table_of : List ℕ → ℕ → List Column → Option ℕ → List ℕ → List (List ℕ) → List Term → List Reference → Table
table_of name tree columns key primary uniques checks references = record {
  name = name;
  tree = tree;
  columns = columns;
  key = key;
  primary = primary;
  uniques = uniques;
  orders = map (λ _. record { digits = 0 }) uniques;
  checks = checks;
  references = references;
  computed = [];
  stamps = record { places = []; terms = []; formats = [] };
  is_counted = false;
}

-- its first column is INTEGER PRIMARY KEY
abbrev pub numbered : List ℕ → ℕ → List Column → Table
numbered name tree columns = table_of name tree columns (Some 0) (0 ∷ []) [] [] []

-- its primary key is that of these places, counted from 1
abbrev pub keyed : List ℕ → ℕ → List Column → List ℕ → Table
keyed name tree columns primary = table_of name tree columns None primary (primary ∷ []) [] []

abbrev pub to : List ℕ → List ℕ → List ℕ → Reference
to columns parent parent_column = record { columns = columns; parent = parent; parent_columns = parent_column ∷ []; on_delete = NoAction; on_update = NoAction; is_deferred = false }

abbrev pub equals : ℕ → ℕ → Term
equals place n = op2 (Compare Eq Binary) (col 1 place) (lit (Int (pos n)))

abbrev pub store : Table
store = record (numbered (codes "store") 0 (rowid_key (codes "one") ∷ number (codes "version") ∷ number (codes "me") ∷ number (codes "next_message") ∷ number (codes "next_recall") ∷ [])) { checks = equals 0 1 ∷ [] }

abbrev pub site : Table
site = table_of (codes "site") 1 (rowid_key (codes "no") ∷ text (codes "name") ∷ []) (Some 0) (0 ∷ []) ((2 ∷ []) ∷ []) [] []

abbrev pub address : Table
address = record (keyed (codes "address") 3 (text (codes "text") ∷ number (codes "site") ∷ number (codes "place") ∷ []) (1 ∷ [])) { references = to (2 ∷ []) (codes "site") (codes "no") ∷ [] }

abbrev pub event : Table
event = numbered (codes "event") 5 (rowid_key (codes "no") ∷ maybe_text (codes "id") ∷ number (codes "seconds") ∷ number (codes "nanos") ∷ number (codes "kind") ∷ maybe_text (codes "make_id") ∷ [])

abbrev pub part : Table
part = record (keyed (codes "part") 6 (number (codes "event") ∷ number (codes "role") ∷ number (codes "place") ∷ text (codes "text") ∷ []) (1 ∷ 2 ∷ 3 ∷ [])) { references = to (1 ∷ []) (codes "event") (codes "no") ∷ [] }

abbrev pub quarantine : Table
quarantine = keyed (codes "quarantine") 8 (number (codes "recall_site") ∷ number (codes "recall_no") ∷ text (codes "item") ∷ []) (1 ∷ 2 ∷ 3 ∷ [])

abbrev pub outbox : Table
outbox = numbered (codes "outbox") 10 (rowid_key (codes "number") ∷ number (codes "dest") ∷ number (codes "recall_site") ∷ number (codes "recall_no") ∷ text (codes "item") ∷ [])

abbrev pub seen : Table
seen = keyed (codes "seen") 11 (number (codes "sender") ∷ number (codes "number") ∷ number (codes "recall_site") ∷ number (codes "recall_no") ∷ []) (1 ∷ 2 ∷ [])

abbrev pub parent : Table
parent = keyed (codes "parent") 13 (number (codes "recall_site") ∷ number (codes "recall_no") ∷ number (codes "sender") ∷ number (codes "number") ∷ []) (1 ∷ 2 ∷ [])

abbrev pub recall : Table
recall = record (numbered (codes "recall") 15 (rowid_key (codes "number") ∷ text (codes "root") ∷ number (codes "ended") ∷ [])) { checks = op2 Or (equals 3 0) (equals 3 1) ∷ [] }

abbrev pub pack : Table
pack = record (numbered (codes "pack") 16 (rowid_key (codes "event") ∷ number (codes "action") ∷ maybe_text (codes "parent") ∷ [])) { references = to (0 ∷ []) (codes "event") (codes "no") ∷ [] }

abbrev pub packed : Table
packed = record (keyed (codes "packed") 17 (number (codes "event") ∷ number (codes "place") ∷ text (codes "text") ∷ []) (1 ∷ 2 ∷ [])) { references = to (1 ∷ []) (codes "event") (codes "no") ∷ [] }

-- a table of a site, as it is declared
abbrev pub declared : SiteTable → Table
declared Store = store
declared Site = site
declared Address = address
declared Event = event
declared Part = part
declared Pack = pack
declared Packed = packed
declared Quarantine = quarantine
declared Outbox = outbox
declared Seen = seen
declared Parent = parent
declared Recall = recall

-- the tables of a version, in the order in which they are made: those that the second has more are made last, so that the
-- trees of the others are the same
abbrev pub made_under : Version → List SiteTable
made_under First = Store ∷ Site ∷ Address ∷ Event ∷ Part ∷ Quarantine ∷ Outbox ∷ Seen ∷ Parent ∷ Recall ∷ []
made_under Second = Store ∷ Site ∷ Address ∷ Event ∷ Part ∷ Quarantine ∷ Outbox ∷ Seen ∷ Parent ∷ Recall ∷ Pack ∷ Packed ∷ []

-- all tables
abbrev pub made : List SiteTable
made = made_under Second

-- the version has the table
abbrev pub Has : Version → SiteTable → Type 0
Has Second t = ⊤
Has First Pack = ⊥
Has First Packed = ⊥
Has First other = ⊤

-- the tables of what was packed, where the version has them
abbrev pub packs_under : Version → List SiteTable
packs_under First = []
packs_under Second = Pack ∷ Packed ∷ []

-- those of sites and events
abbrev pub before_messages : Version → List SiteTable
before_messages v = (Store ∷ Site ∷ Address ∷ Event ∷ Part ∷ []) ++ packs_under v

-- the tables of a version, in the order in which they are read
abbrev pub told_under : Version → List SiteTable
told_under v = before_messages v ++ (Quarantine ∷ Outbox ∷ Seen ∷ Parent ∷ Recall ∷ [])

-- those that are made earlier than the table
abbrev pub earlier : SiteTable → List SiteTable → List SiteTable
earlier t [] = []
earlier t (one ∷ rest) = if (declared one).tree == (declared t).tree then [] else one ∷ earlier t rest

-- the index that its UNIQUE makes, if it has one, behind the table
abbrev pub indexes_of : SiteTable → List Index
indexes_of t = map (λ key. automatic (declared t) 0 key ((declared t).tree + 1)) (declared t).uniques

-- these tables with their indexes
abbrev pub schema_of : List SiteTable → Schema
schema_of tables = record { tables = map declared tables; indexes = flat_map indexes_of tables; views = [] }

abbrev pub schema_under : Version → Schema
schema_under v = schema_of (made_under v)

abbrev pub first_schema : Schema
first_schema = schema_under First

-- that of the newest version
abbrev pub site_schema : Schema
site_schema = schema_under Second

abbrev pub no_schema : Schema
no_schema = schema_of []
