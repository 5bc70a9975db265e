-- What comes of a list of sites that is read on its own.
use Rattle.std.specs.Prelude.{◌≡◌, ◌⊎◌, ℕ, List, [], ◌∷◌, ◌++◌}
use Rattle.recall_outcomes.specs.declared.faults.Fault.{Fault}
use Rattle.recall_outcomes.specs.declared.faults.Fault.TheVariants.{NoMemory}
use Rattle.recall_outcomes.specs.declared.outcomes.CommandRefusal.{CommandRefusal}
use Rattle.recall_outcomes.specs.declared.notes.Notes.TheVariants.{Nothing}
use Rattle.recall_text.specs.SiteLists.{IsSiteList}
use Rattle.recall_text.specs.declared.site_lists.SiteList.{SiteList}
use Rattle.site_folders.specs.FileCalls.{FileCall, Failed, ReadFile}
use Rattle.site_folders.specs.Refusals.{AreRefused}
use Rattle.folder_commands.specs.Making.{refused_lines, too_few}
use Rattle.folder_commands.specs.declared.listed.SitesCame.{SitesCame}
use Rattle.folder_commands.specs.declared.listed.SitesCame.TheVariants as came

-- a list that there is a reason to refuse is refused for all of them; else its sites come of it
abbrev pub ComesOf : SiteList → List CommandRefusal → SitesCame → Type 0
ComesOf listed [] (came.Listed sites) = sites ≡ listed.sites
ComesOf listed [] (came.Refused output) = ⊥
ComesOf listed (why ∷ whys) (came.Listed sites) = ⊥
ComesOf listed (why ∷ whys) (came.Refused output) = AreRefused (why ∷ whys) output.outcome × (output.sites ≡ listed.sites) × (output.notes ≡ Nothing)

module _ {K : Type 0} (list : List ℕ) where
  -- the list was read, and no other file; it is refused for its lines and for too few sites
  pub record ReadsSites (output : SitesCame) (calls : List (FileCall K)) : Type 0 where
    pub text : List ℕ
    pub listed : SiteList
    pub is_list : IsSiteList text listed
    pub comes : ComesOf listed (refused_lines listed ++ too_few listed.sites) output
    pub calls_are : calls ≡ ReadFile list text ∷ []

  -- it can't be read, or memory ran out
  abbrev pub ReadsNone : Fault → List (FileCall K) → Type 0
  ReadsNone fault calls = (calls ≡ Failed list fault ∷ []) ⊎ ((text : List ℕ) × (calls ≡ ReadFile list text ∷ []) × (fault ≡ NoMemory))
