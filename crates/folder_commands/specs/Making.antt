-- Which calls of the files `init` makes, and what it returns.
use Rattle.std.specs.Prelude.{◌≡◌, ◌⊎◌, ◌≤◌, ◌<◌, ◌+◌, ℕ, zero, suc, Bool, true, false, List, [], ◌∷◌, ◌++◌, codes, length, map, nat_le, Option, if◌then◌else◌}
use Rattle.std.specs.List.{AllZip}
use Rattle.event_json.specs.Sites.{Site}
use Rattle.recall_outcomes.specs.declared.faults.Fault.{Fault}
use Rattle.recall_outcomes.specs.declared.faults.Fault.TheVariants.{NoMemory}
use Rattle.recall_outcomes.specs.declared.notes.Notes.TheVariants.{Nothing}
use Rattle.recall_outcomes.specs.declared.outcomes.CommandRefusal.{CommandRefusal}
use Rattle.recall_outcomes.specs.declared.outcomes.CommandRefusal.TheVariants.{Line, NoWorld}
use Rattle.recall_outcomes.specs.declared.outcomes.Outcome.{Outcome}
use Rattle.recall_outcomes.specs.declared.outcomes.Outcome.TheVariants.{Created}
use Rattle.recall_outcomes.specs.declared.outcomes.Output.{Output}
use Rattle.recall_text.specs.SiteLists.{IsSiteList}
use Rattle.recall_text.specs.Words.{name_at}
use Rattle.recall_text.specs.declared.site_lists.SiteList.{SiteList}
use Rattle.site_core.specs.Records.{Record, fresh}
use Rattle.site_folders.specs.Faults.{EndsInVain}
use Rattle.site_folders.specs.FileCalls.{FileCall, Failed, LookedFor, MadeSite, ReadFile, WroteFile}
use Rattle.site_folders.specs.Paths.{file_path, list_path}
use Rattle.site_folders.specs.Refusals.{AreRefused, IsExists}

-- ---- what is refused

-- the lines of the list that are refused
abbrev pub refused_lines : SiteList → List CommandRefusal
refused_lines list = map Line list.refused.items

-- too few sites
abbrev pub too_few : List Site → List CommandRefusal
too_few sites = if nat_le 2 (length sites) then [] else NoWorld ∷ []

-- the name of a file, where it was found
abbrev pub name_where : Bool → List ℕ → List (List ℕ)
name_where true name = name ∷ []
name_where false name = []

-- of the sites from a number on, the names of those that have a file; `found` says for each whether it has one
abbrev pub existing : List Site → ℕ → List Bool → List (List ℕ)
existing sites site [] = []
existing sites site (found ∷ rest) = name_where found (name_at sites site) ++ existing sites (site + 1) rest

-- ---- the calls

-- the files of the sites from a number on are looked for, one after another, and found or not
abbrev pub looks_from : {K : Type 0} → List ℕ → List Site → ℕ → List Bool → List (FileCall K)
looks_from folder sites site [] = []
looks_from folder sites site (found ∷ rest) = LookedFor (file_path folder (name_at sites site)) found ∷ looks_from folder sites (site + 1) rest

-- the files of so many sites from a number on are made, one after another, in the records of sites at which nothing happened yet
abbrev pub makes_from : {K : Type 0} → List ℕ → List Site → ℕ → ℕ → List (FileCall K)
makes_from folder sites site zero = []
makes_from folder sites site (suc count) =
    MadeSite (file_path folder (name_at sites site)) (fresh sites site) ∷ makes_from folder sites (site + 1) count

-- the files of all sites are made, and then the folder's list, which has the text that was read
abbrev pub makes_all : {K : Type 0} → List ℕ → List Site → List ℕ → List (FileCall K)
makes_all folder sites text = makes_from folder sites 0 (length sites) ++ WroteFile (list_path folder) text ∷ []

-- ---- the whole

module _ {K : Type 0} (folder : List ℕ) where
  -- The folder's list was looked for, where nothing is refused so far; this is refused in all.
  abbrev pub LooksForList : List CommandRefusal → List CommandRefusal → List (FileCall K) → Type 0
  LooksForList [] refused calls =
      (found : Bool) × AllZip IsExists (name_where found (codes "sites")) refused × (calls ≡ LookedFor (list_path folder) found ∷ [])
  LooksForList (why ∷ whys) refused calls = (refused ≡ why ∷ whys) × (calls ≡ [])

  -- where nothing is refused all is made, and else nothing, and the refusals are the outcome
  abbrev pub MakesWhere : List CommandRefusal → List Site → List ℕ → Outcome → List (FileCall K) → Type 0
  MakesWhere [] sites text outcome calls = (outcome ≡ Created) × (calls ≡ makes_all folder sites text)
  MakesWhere (why ∷ whys) sites text outcome calls = AreRefused (why ∷ whys) outcome × (calls ≡ [])

  -- Each of the sites' files was looked for, and then the folder's list: what is refused of the list's lines, of the number of sites,
  -- and of the files, in this order, is the outcome; or all is made.
  pub record MakesListed (listed : SiteList) (text : List ℕ) (outcome : Outcome) (calls : List (FileCall K)) : Type 0 where
    pub found : List Bool
    pub number : length found ≡ length listed.sites
    pub exist : List CommandRefusal
    pub named : AllZip IsExists (existing listed.sites 0 found) exist
    pub refused : List CommandRefusal
    pub looks : List (FileCall K)
    pub last : LooksForList ((refused_lines listed ++ too_few listed.sites) ++ exist) refused looks
    pub makes : List (FileCall K)
    pub made : MakesWhere refused listed.sites text outcome makes
    pub calls_are : calls ≡ looks_from folder listed.sites 0 found ++ looks ++ makes

  -- the list was read, and the files of its sites were made, or what is refused is the outcome
  pub record InitsAt (list : List ℕ) (output : Output) (calls : List (FileCall K)) : Type 0 where
    pub text : List ℕ
    pub listed : SiteList
    pub is_list : IsSiteList text listed
    pub same : output.sites ≡ listed.sites
    pub noted : output.notes ≡ Nothing
    pub rest : List (FileCall K)
    pub made : MakesListed listed text output.outcome rest
    pub calls_are : calls ≡ ReadFile list text ∷ rest

  -- ---- where it has no outcome

  -- the files of the first sites were made, in the order of their numbers; then that of the next one could not be, or behind all
  -- of them the folder's list; or memory ran out
  pub record MakesSome (sites : List Site) (fault : Fault) (calls : List (FileCall K)) : Type 0 where
    pub made : ℕ
    pub few : made ≤ length sites
    pub rest : List (FileCall K)
    pub came :
        ((made < length sites) × (rest ≡ Failed (file_path folder (name_at sites made)) fault ∷ []))
        ⊎ (((made ≡ length sites) × (rest ≡ Failed (list_path folder) fault ∷ [])) ⊎ ((fault ≡ NoMemory) × (rest ≡ [])))
    pub calls_are : calls ≡ makes_from folder sites 0 made ++ rest

  -- no line is refused, there are sites enough, neither a site nor the folder was found to have a file, and then some were made
  pub record MakesThen (listed : SiteList) (fault : Fault) (calls : List (FileCall K)) : Type 0 where
    pub lines : refused_lines listed ≡ []
    pub enough : too_few listed.sites ≡ []
    pub found : List Bool
    pub number : length found ≡ length listed.sites
    pub none : existing listed.sites 0 found ≡ []
    pub rest : List (FileCall K)
    pub made : MakesSome listed.sites fault rest
    pub calls_are : calls ≡ looks_from folder listed.sites 0 found ++ LookedFor (list_path folder) false ∷ rest

  -- so of the list that was read
  pub record ListMakesThen (list : List ℕ) (fault : Fault) (calls : List (FileCall K)) : Type 0 where
    pub text : List ℕ
    pub listed : SiteList
    pub is_list : IsSiteList text listed
    pub rest : List (FileCall K)
    pub made : MakesThen listed fault rest
    pub calls_are : calls ≡ ReadFile list text ∷ rest

  -- nothing was made, or some files were
  abbrev pub InitFails : (K → Option Record) → List ℕ → Fault → List (FileCall K) → Type 0
  InitFails shown list fault calls = EndsInVain shown folder fault calls ⊎ ListMakesThen list fault calls
