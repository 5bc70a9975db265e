-- Where a command on a folder has no outcome: what the fault came of, and that nothing was changed before.
use Rattle.std.specs.Prelude.{◌≡◌, ◌⊎◌, ⊤, ◌∷◌, ℕ, List, All, Contains, Option}
use Rattle.event_json.specs.Sites.{Site}
use Rattle.recall_outcomes.specs.declared.faults.Fault.{Fault}
use Rattle.recall_outcomes.specs.declared.faults.Fault.TheVariants.{BadSites, NoMemory, OtherSites}
use Rattle.site_core.specs.Records.{Record}
use Rattle.site_folders.specs.FileCalls.{FileCall, Blamed, ClosedSite, Failed, LookedFor, MadeSite, OpenedSite, ReadFile, ReadLine, WroteFile}
use Rattle.site_folders.specs.Keepers.{ShowsSite, opens_site}
use Rattle.site_folders.specs.Lists.{IsBadList, Lists}
use Rattle.site_folders.specs.Paths.{list_path}

-- a call that changes no site: nothing is made or written, and a file is closed by the keeper that it was opened with
abbrev pub IsHarmless : {K : Type 0} → List (FileCall K) → FileCall K → Type 0
IsHarmless calls (ReadFile path bytes) = ⊤
IsHarmless calls (ReadLine path line) = ⊤
IsHarmless calls (LookedFor path found) = ⊤
IsHarmless calls (OpenedSite path name keeper) = ⊤
IsHarmless calls (ClosedSite keeper) = (path : List ℕ) × (name : List ℕ) × Contains calls (OpenedSite path name keeper)
IsHarmless calls (Failed path fault) = ⊤
IsHarmless calls (Blamed path) = ⊤
IsHarmless calls (MadeSite path r) = ⊥
IsHarmless calls (WroteFile path bytes) = ⊥

-- there were such calls alone
abbrev pub OnlyAsks : {K : Type 0} → List (FileCall K) → Type 0
OnlyAsks calls = All (IsHarmless calls) calls

-- the folder's list was read, which has a bad line, or lists too few
pub record ReadsBadList {K : Type 0} (folder : List ℕ) (calls : List (FileCall K)) : Type 0 where
  pub text : List ℕ
  pub bad : IsBadList text
  pub read : Contains calls (ReadFile (list_path folder) text)

-- the folder's list was read, and a site's file shows another site, or another list of sites, than the one that it was opened for
pub record OpensOther {K : Type 0} (shown : K → Option Record) (folder : List ℕ) (calls : List (FileCall K)) : Type 0 where
  pub text : List ℕ
  pub sites : List Site
  pub lists : Lists text sites
  pub read : Contains calls (ReadFile (list_path folder) text)
  pub site : ℕ
  pub keeper : K
  pub other : (r : Record) → ShowsSite shown sites site keeper r → ⊥
  pub opened : Contains calls (opens_site folder sites site keeper)

-- a call failed with the fault; or the folder's list is a bad one; or a site's file is of other sites; or memory ran out
abbrev pub IsCause : {K : Type 0} → (K → Option Record) → List ℕ → Fault → List (FileCall K) → Type 0
IsCause shown folder fault calls =
    ((path : List ℕ) × Contains calls (Failed path fault))
    ⊎ (((fault ≡ BadSites) × ReadsBadList folder calls)
    ⊎ (((fault ≡ OtherSites) × OpensOther shown folder calls)
    ⊎ (fault ≡ NoMemory)))

-- the fault came of one of these, and no site was changed
pub record EndsInVain {K : Type 0} (shown : K → Option Record) (folder : List ℕ) (fault : Fault) (calls : List (FileCall K)) : Type 0 where
  pub cause : IsCause shown folder fault calls
  pub harmless : OnlyAsks calls

-- where the folder's list was read just before, which lists these sites
abbrev pub OpensInVain : {K : Type 0} → (K → Option Record) → List ℕ → List Site → Fault → List (FileCall K) → Type 0
OpensInVain shown folder sites fault calls = (text : List ℕ) → Lists text sites → EndsInVain shown folder fault (ReadFile (list_path folder) text ∷ calls)
