-- What the machine's files know of a call. What stands behind a path between two runs of the program they don't know.
use Rattle.std.specs.Prelude.{⊤, ℕ, List, Result}
use Rattle.site_core.specs.Records.{Record}
use Rattle.site_folders.specs.FileCalls.{FileCall, ClosedSite, MadeSite, OpenedSite}
use Rattle.site_store.specs.Closed.{ClosesAs}
use Rattle.site_store.specs.Opened.{IsFound, IsOpenedAs}
use Rattle.site_store.specs.Sites.{IsKeptBy}
use Rattle.site_store.specs.declared.sites.StoredSite.{StoredSite}
use Rattle.sqlite.specs.Held.{Held}
use Rattle.sqlite_disk.specs.declared.Disk as disk
use Rattle.sqlite_disk.specs.declared.Files.{Files}
use Rattle.sqlite_store.specs.declared.store.FileStore.{FileStore}

module _ {D : Type 0} {g : disk.Ghosts D} where
  -- the site of this name was opened over a connection that was just made to its file: it shows the record whose rows the
  -- tables there list, and a crash leaves that
  pub record WasOpened (name : List ℕ) (site : StoredSite D g) : Type 0 where
    pub conn : Held (FileStore D g)
    pub found : IsFound conn
    pub opened : IsOpenedAs conn name site

  -- the site was closed: where a crash left just its own before, it does so of the files, or these couldn't be copied
  abbrev pub WasClosed : StoredSite D g → Type 0
  WasClosed site = (left : Result (Files D) (Files D)) × ClosesAs site left

  -- a site was made in this record, which its tables and a crash leave, and was closed
  abbrev pub WasMade : StoredSite D g → Record → Type 0
  WasMade site r = IsKeptBy site r × WasClosed site

  -- of a site that was made, opened or closed they know that, and of other calls nothing
  abbrev pub Knows : FileCall (StoredSite D g) → Type 0
  Knows (MadeSite path r) = (site : StoredSite D g) × WasMade site r
  Knows (OpenedSite path name site) = WasOpened name site
  Knows (ClosedSite site) = WasClosed site
  Knows call = ⊤
