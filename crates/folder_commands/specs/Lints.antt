-- What a lint of documents comes to: what is found in each is told, one after another, and counted. No site's file is opened.
use Rattle.std.specs.Prelude.{◌≡◌, ◌⊎◌, ℕ, List, [], ◌∷◌, ◌++◌, Contains, Option, None, Some, string_bytes}
use Rattle.std.specs.Global.{Global}
use Rattle.std.specs.declared.string.String.{String}
use Rattle.document_lint.specs.Findings.{IsLint}
use Rattle.document_lint.specs.Lines.{none_yet, with_lint}
use Rattle.document_lint.specs.declared.findings.Lint.{Lint}
use Rattle.document_lint.specs.declared.totals.LintTotals.{LintTotals}
use Rattle.event_json.specs.Sites.{Site, named}
use Rattle.recall_outcomes.specs.declared.faults.Fault.{Fault}
use Rattle.recall_outcomes.specs.declared.faults.Fault.TheVariants.{NoMemory, Write}
use Rattle.recall_outcomes.specs.declared.outcomes.CommandRefusal.{CommandRefusal}
use Rattle.recall_outcomes.specs.declared.outcomes.CommandRefusal.TheVariants.{NoSite}
use Rattle.recall_text.specs.SiteLists.{IsSiteList}
use Rattle.recall_text.specs.declared.site_lists.SiteList.{SiteList}
use Rattle.site_folders.specs.Faults.{OnlyAsks}
use Rattle.site_folders.specs.FileCalls.{FileCall, Failed, ReadFile}
use Rattle.site_folders.specs.Refusals.{AreRefused}
use Rattle.folder_commands.specs.Making.{refused_lines, too_few}
use Rattle.folder_commands.specs.declared.lints.LintCame.{LintCame}
use Rattle.folder_commands.specs.declared.lints.LintCame.TheVariants as lints
use Rattle.folder_commands.specs.declared.lints.LintOutput.{LintOutput}

-- ---- documents

-- who is told, and what was found so far
pub record Looking (S : Type 0) : Type 0 where
  pub sink : S
  pub totals : LintTotals

abbrev pub looking : {S : Type 0} → S → LintTotals → Looking S
looking sink totals = record { sink = sink; totals = totals }

module _ {S K : Type 0} (takes : S → List ℕ → Lint → S → Type 0) (sites : List Site) (here : Option ℕ) where
  -- the document of a file was read once, and what is found in it by the sites of the list, of which one is to capture it, if that
  -- is named, was told, and counts
  pub record LintsOne (path : List ℕ) (old new : Looking S) (calls : List (FileCall K)) : Type 0 where
    pub bytes : List ℕ
    pub lint : Lint
    pub found : IsLint sites here bytes lint
    pub told : takes old.sink path lint new.sink
    pub counted : new.totals ≡ with_lint old.totals lint
    pub calls_are : calls ≡ ReadFile path bytes ∷ []

  -- those of these files were, one after another
  abbrev pub LintsEach : List (List ℕ) → Looking S → Looking S → List (FileCall K) → Type 0
  LintsEach [] old new calls = (new ≡ old) × (calls ≡ [])
  LintsEach (path ∷ paths) old new calls =
      (mid : Looking S) × (first : List (FileCall K)) × (rest : List (FileCall K))
      × LintsOne path old mid first × LintsEach paths mid new rest × (calls ≡ first ++ rest)

-- ---- the site that is to capture them

-- its number, where it is named and listed
abbrev pub here_of : List Site → Option (List ℕ) → Option ℕ
here_of sites None = None
here_of sites (Some name) = named sites name

-- it is refused where it isn't listed
abbrev pub IsUnlistedName : List ℕ → Option ℕ → List CommandRefusal → Type 0
IsUnlistedName name (Some site) whys = whys ≡ []
IsUnlistedName name None whys = (given : String Global) × (string_bytes given ≡ name) × (whys ≡ NoSite given ∷ [])

abbrev pub IsUnlisted : List Site → Option (List ℕ) → List CommandRefusal → Type 0
IsUnlisted sites None whys = whys ≡ []
IsUnlisted sites (Some name) whys = IsUnlistedName name (named sites name) whys

-- ---- the whole

-- why a lint is refused: for lines of the list, as `init` refuses them, for too few sites, and for a site that isn't listed
pub record AreReasons (listed : SiteList) (site : Option (List ℕ)) (whys : List CommandRefusal) : Type 0 where
  pub unlisted : List CommandRefusal
  pub is_unlisted : IsUnlisted listed.sites site unlisted
  pub all : whys ≡ (refused_lines listed ++ too_few listed.sites) ++ unlisted

-- a lint is refused for these reasons
abbrev pub IsRefusedFor : List CommandRefusal → LintCame → Type 0
IsRefusedFor whys (lints.Refused outcome) = AreRefused whys outcome
IsRefusedFor whys other = ⊥

module _ {S K : Type 0} (takes : S → List ℕ → Lint → S → Type 0) where
  -- all documents were looked at
  pub record LintsAll (sites : List Site) (here : Option ℕ) (paths : List (List ℕ)) (heard hears : S) (came : LintCame) (calls : List (FileCall K)) : Type 0 where
    pub last : Looking S
    pub each : LintsEach takes sites here paths (looking heard none_yet) last calls
    pub told : hears ≡ last.sink
    pub came_is : came ≡ lints.Looked last.totals

  -- a list that is refused for some reason is, and no document is read then
  abbrev pub LintsWhere : SiteList → Option ℕ → List CommandRefusal → List (List ℕ) → S → S → LintCame → List (FileCall K) → Type 0
  LintsWhere listed here [] paths heard hears came calls = LintsAll listed.sites here paths heard hears came calls
  LintsWhere listed here (why ∷ whys) paths heard hears came calls = IsRefusedFor (why ∷ whys) came × (hears ≡ heard) × (calls ≡ [])

  -- the list was read; where there is a reason to refuse it, or the site that is named, it was refused
  pub record Lints (list : List ℕ) (site : Option (List ℕ)) (paths : List (List ℕ)) (heard hears : S) (output : LintOutput) (calls : List (FileCall K)) : Type 0 where
    pub text : List ℕ
    pub listed : SiteList
    pub is_list : IsSiteList text listed
    pub same : output.sites ≡ listed.sites
    pub whys : List CommandRefusal
    pub reasons : AreReasons listed site whys
    pub rest : List (FileCall K)
    pub done : LintsWhere listed (here_of listed.sites site) whys paths heard hears output.came rest
    pub calls_are : calls ≡ ReadFile list text ∷ rest

-- a lint has no outcome: nothing was changed, and a call failed, telling failed, or memory ran out
pub record LintFails {K : Type 0} (fault : Fault) (calls : List (FileCall K)) : Type 0 where
  pub cause : ((path : List ℕ) × Contains calls (Failed path fault)) ⊎ ((fault ≡ Write) ⊎ (fault ≡ NoMemory))
  pub harmless : OnlyAsks calls
