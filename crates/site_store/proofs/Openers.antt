-- What an opening is, over the reading of the tables and over their migration.
use Rattle.std.proofs.Common.{◌≡◌, ◌⊎◌, inl, inr, ◌∙◌, List, ℕ, Some, sym, ap, subst, arith, IsTrue}
use Rattle.sqlite.specs.Files.{file_state}
use Rattle.sqlite.specs.Held.{Held}
use Rattle.sqlite.specs.State.{State, HasCleanDisk, IsLive, IsUnchanged, Survives}
use Rattle.sqlite.specs.Tree.{Trees}
use Rattle.sqlite.proofs.StateLemmas.{survives_then, survives_weaker}
use Rattle.sqlite_disk.specs.declared.Disk as disk
use Rattle.sqlite_store.specs.declared.store.FileStore.{FileStore}
use Rattle.site_core.specs.Records.{Record}
use Rattle.site_rows.specs.RecordRows.{rows_under}
use Rattle.site_rows.specs.declared.tables.Version.{Version}
use Rattle.site_rows.specs.declared.tables.Version.TheVariants.{First, Second}
use Rattle.site_tables.specs.Stored.{IsStoredUnder, contents_of}
use Rattle.site_tables.proofs.Causes.{reason_within}
use Rattle.site_tables.proofs.Committed.{Settles}
use Rattle.site_store.specs.declared.opening.OpenFault.{OpenFault}
use Rattle.site_store.specs.declared.opening.OpenFault.TheVariants.{NoMemory, NotAStore, Version as OpenVersion, OtherSite, BadRow, Device, Store}
use Rattle.site_store.specs.declared.opening.ReadSite.{ReadSite}
use Rattle.site_store.specs.declared.sites.Link.TheVariants.{Connected}
use Rattle.site_store.specs.declared.sites.StoredSite.{StoredSite}
use Rattle.site_store.specs.Opened.{own_name, CommitsWhere, FailsToMigrate, HoldsMigrated, IsCleanAt, IsFound, IsHindered, IsLeftOf, IsNotOpened, IsOfDatabase, IsOfMachine, IsOpenedAs, IsOpenFault, ListsSite, MayMigrate, MigratesAt, ReadsAt}
use Rattle.site_store.specs.Openings.{ListsRecordUnder}
use Rattle.site_store.specs.Sites.{shown_by, failed_by, statements_by, link_of, IsKeptBy, IsKeptOver}
use Rattle.site_store.specs.StepWritten.{Keeps}
use Rattle.site_store.proofs.Found.{found_stored}
use Rattle.site_store.proofs.InOrder.{stored_still}
use Rattle.site_store.proofs.LeftRows.{lists_site}
use Rattle.site_store.proofs.OpeningReads.{found_stores}
use Rattle.site_store.proofs.OwnSteps.{shown_own}

-- the machine hinders under each version
pub hindered : (v : Version) (r : Record) (old new : State) (fault : OpenFault) → IsOfMachine old fault → IsHindered v r old new fault
hindered First r old new fault h = inl h
hindered Second r old new fault h = h

-- what a fault of the database may have committed
pub commits_where : (fault : OpenFault) (s : State) (db : Trees) → IsOfDatabase fault → MayMigrate s db → CommitsWhere fault s db
commits_where NoMemory s db of may = may
commits_where Device s db of may = may
commits_where Store s db of may = may
commits_where NotAStore s db of may = absurd of
commits_where (OpenVersion found) s db of may = absurd of
commits_where (OtherSite found) s db of may = absurd of
commits_where (BadRow bad) s db of may = absurd of

-- what prevents a migration after a reading prevents it from before
fails_from : (r : Record) (old mid new : State) (fault : OpenFault) → IsUnchanged old mid → Settles mid → Survives old mid (λ _. ⊥) → FailsToMigrate r mid new fault → FailsToMigrate r old new fault
fails_from r old mid new fault same settles survives (inl h) = inl (subst IsTrue same.0.mode h.0, h.1)
fails_from r old mid new fault same settles survives (inr h) =
    inr (h.0, h.1, λ it. reason_within old mid new new h.0 (same.0.is_open ∙ sym it.is_open) survives.counts (omega arith) (h.2 (stored_still First (contents_of (rows_under First r)) old mid it same settles)))

module _ {D : Type 0} {g : disk.Ghosts D} where
  pub opened : (conn end : Held (FileStore D g)) (name : List ℕ) (r : Record) (site : StoredSite D g) → shown_by site ≡ Some r → own_name r ≡ name → (failed_by site ≡ 0) × (statements_by site ≡ 0) → link_of site ≡ Connected end
      → ReadsAt conn r (Connected end) ⊎ MigratesAt conn r (Connected end) → (HasCleanDisk (file_state end) → (v : Version) (s : Record) → ListsSite v s name (file_state conn) → r ≡ s)
      → (IsFound conn → IsKeptBy site r) → IsOpenedAs conn name site
  opened conn end name r site shows named fresh over reads finds kept = record {
    shown = r;
    shows = shows;
    named = named;
    fresh = fresh;
    reads = subst (λ l. ReadsAt conn r l ⊎ MigratesAt conn r l) (sym over) reads;
    finds = λ clean v s lists. finds (subst IsCleanAt over clean) v s lists;
    kept = kept;
    own = λ found. shown_own site.link site.kept r shows (kept found);
  }

  -- a reading of the tables of a version, from a connection whose schema is its own
  pub record HasRead (conn mid : Held (FileStore D g)) (name : List ℕ) (v : Version) (r : Record) : Type 0 where
    pub live : IsLive (file_state conn)
    pub before : Settles (file_state conn)
    pub after : Settles (file_state mid)
    pub survives : Survives (file_state conn) (file_state mid) (λ _. ⊥)
    pub lists : HasCleanDisk (file_state mid) → ListsRecordUnder v r (file_state conn) (file_state mid)
    pub named : own_name r ≡ name
    pub finds : HasCleanDisk (file_state mid) → (w : Version) (s : Record) → ListsSite w s name (file_state conn) → (v ≡ w) × (r ≡ s)

  pub has_read : (conn mid : Held (FileStore D g)) (name : List ℕ) (v : Version) (r : Record) (read : ReadSite) → read.version ≡ v → read.state ≡ r → IsLive (file_state conn) → Settles (file_state conn) → Settles (file_state mid)
      → Survives (file_state conn) (file_state mid) (λ _. ⊥) → (HasCleanDisk (file_state mid) → ListsRecordUnder read.version read.state (file_state conn) (file_state mid)) → own_name read.state ≡ name
      → (HasCleanDisk (file_state mid) → (w : Version) (s : Record) → ListsSite w s name (file_state conn) → (read.version ≡ w) × (read.state ≡ s)) → HasRead conn mid name v r
  has_read conn mid name v r read version is live before after survives lists named finds = record {
    live = live;
    before = before;
    after = after;
    survives = survives;
    lists = λ clean. subst (λ w. ListsRecordUnder w r (file_state conn) (file_state mid)) version (subst (λ s. ListsRecordUnder read.version s (file_state conn) (file_state mid)) is (lists clean));
    named = subst (λ s. own_name s ≡ name) is named;
    finds = λ clean w s it. let found = finds clean w s it in (sym version ∙ found.0, sym is ∙ found.1);
  }

  module _ (conn mid : Held (FileStore D g)) (name : List ℕ) (r : Record) where
    pub found_left : (v : Version) → HasRead conn mid name v r → HasCleanDisk (file_state mid) → (w : Version) (s : Record) → IsLeftOf conn name w s → r ≡ s
    found_left v read clean w s left = (read.finds clean w s (lists_site conn name w s read.live left)).1

    -- the tables are of the second version
    pub opened_second : (site : StoredSite D g) → HasRead conn mid name Second r → shown_by site ≡ Some r → (failed_by site ≡ 0) × (statements_by site ≡ 0) → link_of site ≡ Connected mid
        → (IsKeptOver mid r → IsKeptBy site r) → IsOpenedAs conn name site
    opened_second site read shows fresh over stored =
        opened conn mid name r site shows read.named fresh over (inl (read.survives, read.lists)) (λ clean v s it. (read.finds clean v s it).1)
        (λ found. stored (found_stored Second r conn mid (found_stores conn found read.live read.before) read.survives read.lists read.after))

    -- they were of the first
    module _ (end : Held (FileStore D g)) (read : HasRead conn mid name First r) (survives : Survives (file_state mid) (file_state end) (HoldsMigrated (file_state mid))) where
      clean_mid : HasCleanDisk (file_state end) → HasCleanDisk (file_state mid)
      clean_mid clean = omega (arith, survives.clean)

      same : HasCleanDisk (file_state end) → IsUnchanged (file_state conn) (file_state mid)
      same clean = (read.lists (clean_mid clean)).1

      all_survives : Survives (file_state conn) (file_state end) (MayMigrate (file_state conn))
      all_survives = survives_then (file_state conn) (file_state mid) (file_state end) _ _ _ (λ _ db none. absurd none)
          (λ clean db may. (r, (read.lists (clean_mid clean)).0, λ it. may r (stored_still First (contents_of (rows_under First r)) (file_state conn) (file_state mid) it (same clean) read.after))) read.survives survives

      pub opened_first : (site : StoredSite D g) → (HasCleanDisk (file_state end) → (s : Record) → IsStoredUnder First (contents_of (rows_under First s)) (file_state mid) → Keeps s (file_state end))
          → shown_by site ≡ Some r → (failed_by site ≡ 0) × (statements_by site ≡ 0) → link_of site ≡ Connected end → (IsKeptOver end r → IsKeptBy site r) → IsOpenedAs conn name site
      opened_first site done shows fresh over stored =
          opened conn end name r site shows read.named fresh over (inr (all_survives, λ clean. (read.lists (clean_mid clean)).0)) (λ clean v s it. (read.finds (clean_mid clean) v s it).1)
          (λ found. stored (λ clean. done clean r (found_stored First r conn mid (found_stores conn found read.live read.before) read.survives read.lists read.after (clean_mid clean))))

      fails : (fault : OpenFault) → (HasCleanDisk (file_state end) → (s : Record) → FailsToMigrate s (file_state mid) (file_state end) fault) → HasCleanDisk (file_state end) → (s : Record)
          → FailsToMigrate s (file_state conn) (file_state end) fault
      fails fault cause clean s = fails_from s (file_state conn) (file_state mid) (file_state end) fault (same clean) read.after read.survives (cause clean s)

      hinders : (fault : OpenFault) → (HasCleanDisk (file_state end) → (s : Record) → FailsToMigrate s (file_state mid) (file_state end) fault) → HasCleanDisk (file_state end) → (v : Version) (s : Record)
          → ListsSite v s name (file_state conn) → IsHindered v s (file_state conn) (file_state end) fault
      hinders fault cause clean v s it = subst (λ w. IsHindered w s (file_state conn) (file_state end) fault) (read.finds (clean_mid clean) v s it).0 (inr (fails fault cause clean s))

      pub not_migrated : (fault : OpenFault) → (HasCleanDisk (file_state end) → (s : Record) → FailsToMigrate s (file_state mid) (file_state end) fault) → IsOfDatabase fault → IsNotOpened conn name end fault
      not_migrated fault cause of = record {
        crash = survives_weaker (file_state conn) (file_state end) _ _ (λ _ db may. commits_where fault (file_state conn) db of may) all_survives;
        cause = λ clean. inr (inr (r, (read.lists (clean_mid clean)).0, fails fault cause clean r));
        finds = hinders fault cause;
      }

      pub left_unmigrated : (fault : OpenFault) → (HasCleanDisk (file_state end) → (s : Record) → FailsToMigrate s (file_state mid) (file_state end) fault) → HasCleanDisk (file_state end) → (v : Version) (s : Record)
          → IsLeftOf conn name v s → IsHindered v s (file_state conn) (file_state end) fault
      left_unmigrated fault cause clean v s left = hinders fault cause clean v s (lists_site conn name v s read.live left)

      pub found_first : (site : StoredSite D g) → shown_by site ≡ Some r → link_of site ≡ Connected end → IsCleanAt (link_of site) → (v : Version) (s : Record) → IsLeftOf conn name v s → shown_by site ≡ Some s
      found_first site shows over clean v s left = shows ∙ ap (λ (x : Record). Some x) (found_left First read (clean_mid (subst IsCleanAt over clean)) v s left)

    pub found_second : (site : StoredSite D g) → HasRead conn mid name Second r → shown_by site ≡ Some r → link_of site ≡ Connected mid → IsCleanAt (link_of site) → (v : Version) (s : Record) → IsLeftOf conn name v s
        → shown_by site ≡ Some s
    found_second site read shows over clean v s left = shows ∙ ap (λ (x : Record). Some x) (found_left Second read (subst IsCleanAt over clean) v s left)

  -- nothing was read
  pub not_read : (conn end : Held (FileStore D g)) (name : List ℕ) (fault : OpenFault) → Survives (file_state conn) (file_state end) (λ _. ⊥)
      → (HasCleanDisk (file_state end) → IsOpenFault (file_state conn) (file_state end) name fault) → (HasCleanDisk (file_state end) → (v : Version) (s : Record) → ListsSite v s name (file_state conn) → IsOfMachine (file_state conn) fault)
      → IsNotOpened conn name end fault
  not_read conn end name fault survives cause finds = record {
    crash = survives_weaker (file_state conn) (file_state end) _ _ (λ _ db none. absurd none) survives;
    cause = cause;
    finds = λ clean v s it. hindered v s (file_state conn) (file_state end) fault (finds clean v s it);
  }
