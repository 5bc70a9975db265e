-- The files of the sites, opened and closed, and what their keepers show.
use Rattle.std.specs.Prelude.{◌≡◌, ⊤, ◌+◌, ℕ, List, [], ◌∷◌, map, Option, Some}
use Rattle.event_json.specs.Sites.{Site}
use Rattle.recall_text.specs.Words.{name_at}
use Rattle.site_core.specs.Records.{Record, IsSound}
use Rattle.site_folders.specs.FileCalls.{FileCall, OpenedSite, ClosedSite}
use Rattle.site_folders.specs.Paths.{file_path}

-- ---- calls

-- the call that opens the file of a site
abbrev pub opens_site : {K : Type 0} → List ℕ → List Site → ℕ → K → FileCall K
opens_site folder sites site keeper = OpenedSite (file_path folder (name_at sites site)) (name_at sites site) keeper

-- those that open the files of the sites from a number on, one after another
abbrev pub opens_from : {K : Type 0} → List ℕ → List Site → ℕ → List K → List (FileCall K)
opens_from folder sites site [] = []
opens_from folder sites site (keeper ∷ keepers) = opens_site folder sites site keeper ∷ opens_from folder sites (site + 1) keepers

-- those that close the files of sites, one after another
abbrev pub closes_all : {K : Type 0} → List K → List (FileCall K)
closes_all keepers = map (λ keeper. ClosedSite keeper) keepers

-- ---- what keepers show

-- it shows the record of this site of these sites
pub record ShowsSite {K : Type 0} (shown : K → Option Record) (sites : List Site) (site : ℕ) (keeper : K) (r : Record) : Type 0 where
  pub shows : shown keeper ≡ Some r
  pub lists : r.sites ≡ sites
  pub me : r.engagement.me ≡ site

-- the keepers show these records
abbrev pub AreShown : {K : Type 0} → (K → Option Record) → List K → List Record → Type 0
AreShown shown [] [] = ⊤
AreShown shown (keeper ∷ keepers) (r ∷ rs) = (shown keeper ≡ Some r) × AreShown shown keepers rs
AreShown shown keepers rs = ⊥

module _ {K : Type 0} (shown : K → Option Record) (stored : K → Type 0) (sites : List Site) where
  -- it shows the record of this site, which is sound, and a crash leaves that on its file
  pub record KeepsSite (site : ℕ) (keeper : K) (r : Record) : Type 0 where
    pub shows : ShowsSite shown sites site keeper r
    pub sound : IsSound r
    pub lasts : stored keeper

  -- so do these keepers, of the sites from a number on
  abbrev pub KeepFrom : ℕ → List K → List Record → Type 0
  KeepFrom site [] [] = ⊤
  KeepFrom site (keeper ∷ keepers) (r ∷ rs) = KeepsSite site keeper r × KeepFrom (site + 1) keepers rs
  KeepFrom site keepers rs = ⊥
