-- The list of sites that a folder holds.
use Rattle.std.specs.Prelude.{◌≡◌, ◌≤◌, ℕ, List, [], ◌∷◌, length}
use Rattle.event_json.specs.Sites.{Site}
use Rattle.recall_text.specs.SiteLists.{IsSiteList}
use Rattle.recall_text.specs.declared.site_lists.SiteList.{SiteList}
use Rattle.site_folders.specs.FileCalls.{FileCall, ReadFile}
use Rattle.site_folders.specs.Paths.{list_path}

-- no line of the text is refused, and it lists these sites, of which there are at least two
pub record Lists (text : List ℕ) (sites : List Site) : Type 0 where
  pub list : SiteList
  pub is_list : IsSiteList text list
  pub good : list.refused.items ≡ []
  pub same : sites ≡ list.sites
  pub two : 2 ≤ length sites

-- a text that is read as a list, of which a line is refused, or which lists fewer than two sites
pub record IsBadList (text : List ℕ) : Type 0 where
  pub list : SiteList
  pub is_list : IsSiteList text list
  pub bad : list.refused.items ≡ [] → 2 ≤ length list.sites → ⊥

-- the folder's list was read, which lists these sites
pub record ListsSites {K : Type 0} (folder : List ℕ) (sites : List Site) (calls : List (FileCall K)) : Type 0 where
  pub text : List ℕ
  pub lists : Lists text sites
  pub calls_are : calls ≡ ReadFile (list_path folder) text ∷ []

-- the folder's list was read, which lists sites, and of these and of the calls behind it this is said
pub record AfterList {K : Type 0} (folder : List ℕ) (Then : List Site → List (FileCall K) → Type 0) (calls : List (FileCall K)) : Type 0 where
  pub text : List ℕ
  pub sites : List Site
  pub lists : Lists text sites
  pub rest : List (FileCall K)
  pub done : Then sites rest
  pub calls_are : calls ≡ ReadFile (list_path folder) text ∷ rest
