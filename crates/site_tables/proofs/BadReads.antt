-- What a reading of the tables has met that is refused.
use Rattle.std.proofs.Common.{◌≡◌, refl, List, [], ◌∷◌, ◌++◌, Result, Ok, Err, IfErr, sym, ap, subst, ◌∙◌, arith}
use Rattle.sqlite.specs.Effect.{Database}
use Rattle.sqlite.specs.Order.{Row}
use Rattle.sqlite.specs.State.{State, HasCleanDisk, IsUnchanged, Survives}
use Rattle.sqlite.specs.Tree.{Trees}
use Rattle.sqlite.proofs.Callers.{unchanged_then}
use Rattle.site_rows.specs.declared.tables.Table.{«Table» as SiteTable}
use Rattle.site_tables.specs.declared.faults.ReadFault.{ReadFault}
use Rattle.site_tables.specs.declared.faults.ReadFault.TheVariants.{NoMemory, OtherTables, BadRow, Database as OfDatabase}
use Rattle.site_tables.specs.Reads.{IsListed, IsReadFault}
use Rattle.site_rows.specs.declared.tables.Table.TheVariants.{Store, Site, Address, Event, Part, Pack, Packed, Quarantine, Outbox, Seen, Parent, Recall}
use Rattle.site_rows.specs.declared.tables.Version.{Version}
use Rattle.site_rows.specs.declared.tables.Version.TheVariants.{First, Second}
use Rattle.std.specs.List.{AllByRecursion}
use Rattle.site_tables.specs.AllReads.{AreListed}
use Rattle.site_tables.specs.Stored.{Contents}
use Rattle.site_tables.specs.Tables.{Has, declared, packs_under, schema_under, told_under}
use Rattle.site_tables.specs.Unreadable.{AreReadable, AreReadableBefore, IsBadAt, IsReadable, IsUnreadable, IsUnreadableUnder}
use Rattle.site_tables.specs.Values.{values_of}
use Rattle.site_tables.proofs.Failing.{fails_later}

-- some tables were read, and then these
and_then_read : (db : Trees) (first more : List SiteTable) → AreReadable first db → AreReadable more db → AreReadable (first ++ more) db
and_then_read db [] more h k = k
and_then_read db (table ∷ first) more h k = (h.0, and_then_read db first more h.1 k)

module _ (v : Version) where
  -- the fault of a table is that of the tables, where those before it were read
  met : (named : SiteTable) (old new : State) (fault : ReadFault) → AreReadableBefore v named old.now.trees → IsReadFault v named (declared named) (values_of named) old new fault → IsUnreadableUnder v old new fault
  met named old new NoMemory before h = h
  met named old new OtherTables before h = h
  met named old new (BadRow t place) before h = subst (λ (n : SiteTable). IsUnreadableUnder v old new (BadRow n place)) (sym h.1) (h.0, before, h.2, h.3)
  met named old new (OfDatabase e) before h = h

  -- so it is after tables were read, which changes nothing
  module _ (old mid new : State) (same : IsUnchanged old mid) (survives : Survives old mid (λ _. ⊥)) where
    was : mid.now ≡ old.now
    was = same.0.now_is

    schema_was : mid.now.schema ≡ schema_under v → old.now.schema ≡ schema_under v
    schema_was h = sym (ap (λ (d : Database). d.schema) was) ∙ h

    met_later : (fault : ReadFault) → IsUnreadableUnder v mid new fault → IsUnreadableUnder v old new fault
    met_later NoMemory h = schema_was h
    met_later OtherTables h = λ e. h (ap (λ (d : Database). d.schema) was ∙ e)
    met_later (BadRow table place) h = (
      schema_was h.0,
      subst (λ (d : Database). AreReadableBefore v table d.trees) was h.1,
      subst (λ (d : Database). IsBadAt table place d.trees) was h.2,
      unchanged_then old mid new same h.3,
    )
    met_later (OfDatabase e) h = (schema_was h.0, fails_later old mid new e same survives h.1)

-- rows listed after what changes nothing were listed before
pub listed_before : {old mid : State} (t : SiteTable) {rows : List Row} → IsUnchanged old mid → IsListed (declared t) (mid.now.trees (declared t).tree) rows → IsListed (declared t) (old.now.trees (declared t).tree) rows
listed_before t {rows} same h = subst (λ (d : Database). IsListed (declared t) (d.trees (declared t).tree) rows) same.0.now_is h

-- ---- the tables read in their order

-- the disk was clean before
pub clean_before : {old new : State} {Commits : Trees → Type 0} → Survives old new Commits → HasCleanDisk new → HasCleanDisk old
clean_before survives clean = omega (arith, survives.clean)

-- these of the version's can be read, and a fault from now on is one since `old`
pub record HasRead (v : Version) (tables : List SiteTable) (old now new : State) : Type 0 where
  pub read : AreReadable tables now.now.trees
  pub since : (fault : ReadFault) → IsUnreadableUnder v now new fault → IsUnreadableUnder v old new fault

module _ {v : Version} where
  -- they were read before `old`
  pub read_before : (tables : List SiteTable) (old : State) {new : State} → AreReadable tables old.now.trees → HasRead v tables old old new
  read_before tables old read = record { read = read; since = λ fault h. h }

  -- these were read next
  pub read_next : {tables : List SiteTable} {old mid now new : State} → HasRead v tables old mid new → (more : List SiteTable)
      → IsUnchanged mid now → Survives mid now (λ _. ⊥) → AreReadable more mid.now.trees → HasRead v (tables ++ more) old now new
  read_next {tables = tables} {mid = mid} {now = now} {new = new} has more same survives read = record {
    read = subst (λ (d : Database). AreReadable (tables ++ more) d.trees) (sym same.0.now_is) (and_then_read mid.now.trees tables more has.read read);
    since = λ fault h. has.since fault (met_later v mid now new same survives fault h);
  }

  -- a reading of others fails
  pub fails_since : {tables : List SiteTable} {old now new : State} {fault : ReadFault} {X : Type 0} {out : Result X ReadFault} → out ≡ Err fault → HasRead v tables old now new → IsUnreadableUnder v now new fault
      → IfErr out (IsUnreadableUnder v old new)
  fails_since {out = Ok x} bad has h = absurd cc
  fails_since {old = old} {new = new} {fault = fault} {out = Err e} bad has h = let same : e ≡ fault = cc in subst (IsUnreadableUnder v old new) (sym same) (has.since fault h)

  -- the next table isn't read
  pub fails_next : {tables : List SiteTable} {old now new : State} {fault : ReadFault} {Y : Type 0} {out : Result Y ReadFault} → out ≡ Err fault → HasRead v tables old now new → (named : SiteTable) (others : List SiteTable)
      → Has v named → told_under v ≡ tables ++ named ∷ others → IsReadFault v named (declared named) (values_of named) now new fault → IfErr out (IsUnreadableUnder v old new)
  fails_next {tables = tables} {now = now} {new = new} {fault = fault} bad has named others there stands h =
      fails_since bad has (met v named now new fault (there, tables, others, stands, has.read) h)

-- a fault under a version is one of the tables, where these are the version's
pub under : (v : Version) (old new : State) (fault : ReadFault) → old.now.schema ≡ schema_under v → IsUnreadableUnder v old new fault → IsUnreadable old new fault
under v old new NoMemory is h = (v, h)
under v old new OtherTables is h = absurd (h is)
under v old new (BadRow table place) is h = (v, h)
under v old new (OfDatabase e) is h = (v, h)

-- ---- all of a version

-- the tables of what was packed were read, where the version has them
pub packs_read : (v : Version) (db : Trees) → (v ≡ Second → IsReadable db Pack) → (v ≡ Second → IsReadable db Packed) → AreReadable (packs_under v) db
packs_read First db pack packed = tt
packs_read Second db pack packed = (pack refl, (packed refl, tt))

-- each table of the version was read, and nothing is said of others
pub all_listed : (v : Version) (rows : Contents) (db : Trees)
    → AllByRecursion (λ t. IsListed (declared t) (db (declared t).tree) (rows t)) (Store ∷ Site ∷ Address ∷ Event ∷ Part ∷ Quarantine ∷ Outbox ∷ Seen ∷ Parent ∷ Recall ∷ [])
    → (v ≡ Second → AllByRecursion (λ t. IsListed (declared t) (db (declared t).tree) (rows t)) (Pack ∷ Packed ∷ []))
    → (v ≡ First → (rows Pack ≡ []) × (rows Packed ≡ []))
    → AreListed v rows db
all_listed First rows db both more none = record { of = of_first; rest = rest }
  where
    of_first : (t : SiteTable) → Has First t → IsListed (declared t) (db (declared t).tree) (rows t)
    of_first Store there = both.0
    of_first Site there = both.1.0
    of_first Address there = both.1.1.0
    of_first Event there = both.1.1.1.0
    of_first Part there = both.1.1.1.1.0
    of_first Quarantine there = both.1.1.1.1.1.0
    of_first Outbox there = both.1.1.1.1.1.1.0
    of_first Seen there = both.1.1.1.1.1.1.1.0
    of_first Parent there = both.1.1.1.1.1.1.1.1.0
    of_first Recall there = both.1.1.1.1.1.1.1.1.1.0
    of_first Pack there = absurd there
    of_first Packed there = absurd there

    rest : (t : SiteTable) → (Has First t → ⊥) → rows t ≡ []
    rest Pack lacks = (none refl).0
    rest Packed lacks = (none refl).1
    rest other lacks = absurd (lacks tt)
all_listed Second rows db both more none = record { of = of_second; rest = λ t lacks. absurd (lacks tt) }
  where
    of_second : (t : SiteTable) → Has Second t → IsListed (declared t) (db (declared t).tree) (rows t)
    of_second Store there = both.0
    of_second Site there = both.1.0
    of_second Address there = both.1.1.0
    of_second Event there = both.1.1.1.0
    of_second Part there = both.1.1.1.1.0
    of_second Quarantine there = both.1.1.1.1.1.0
    of_second Outbox there = both.1.1.1.1.1.1.0
    of_second Seen there = both.1.1.1.1.1.1.1.0
    of_second Parent there = both.1.1.1.1.1.1.1.1.0
    of_second Recall there = both.1.1.1.1.1.1.1.1.1.0
    of_second Pack there = (more refl).0
    of_second Packed there = (more refl).1.0
