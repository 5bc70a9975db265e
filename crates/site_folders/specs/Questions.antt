-- What is asked of a folder: of the records of all its sites, or of one.
use Rattle.std.specs.Prelude.{◌≡◌, ◌⊎◌, ℕ, List, [], ◌∷◌, ◌++◌, length, Option}
use Rattle.event_json.specs.Sites.{Site}
use Rattle.site_core.specs.Records.{Record}
use Rattle.site_folders.specs.FileCalls.{FileCall, ClosedSite}
use Rattle.site_folders.specs.Keepers.{KeepFrom, KeepsSite, closes_all, opens_from, opens_site}
use Rattle.site_folders.specs.Lists.{AfterList}

module _ {K A : Type 0} (shown : K → Option Record) (stored : K → Type 0) (folder : List ℕ) (sites : List Site) where
  -- the files of all sites were opened, the answer is what their records say, and they were closed as they were
  pub record TellsAll (Tells : List Record → A → Type 0) (answer : A) (calls : List (FileCall K)) : Type 0 where
    pub keepers : List K
    pub records : List Record
    pub opened : KeepFrom shown stored sites 0 keepers records
    pub number : length keepers ≡ length sites
    pub told : Tells records answer
    pub calls_are : calls ≡ opens_from folder sites 0 keepers ++ closes_all keepers

  -- the file of the site was opened, the answer is what its record says, and it was closed as it was
  pub record TellsSite (site : ℕ) (Tells : Record → A → Type 0) (answer : A) (calls : List (FileCall K)) : Type 0 where
    pub keeper : K
    pub r : Record
    pub opened : KeepsSite shown stored sites site keeper r
    pub told : Tells r answer
    pub calls_are : calls ≡ opens_site folder sites site keeper ∷ ClosedSite keeper ∷ []

module _ {K Q A : Type 0} (shown : K → Option Record) (stored : K → Type 0) (folder : List ℕ) where
  -- The folder's list was read. By the sites that it lists the question was refused, and no more was asked; or it asks this of their
  -- records, and is answered by them.
  abbrev pub AsksAll : (List Site → A → Type 0) → (List Site → Q → Type 0) → (Q → List Record → A → Type 0) → List Site → A → List (FileCall K) → Type 0
  AsksAll Refuses Asks Answers sites answer calls =
      AfterList folder
      (λ listed rest. (sites ≡ listed)
      × ((Refuses listed answer × (rest ≡ []))
      ⊎ ((asked : Q) × Asks listed asked × TellsAll shown stored folder listed (Answers asked) answer rest)))
      calls

  -- the same of the record of one site
  abbrev pub AsksSite : (List Site → A → Type 0) → (List Site → ℕ → Q → Type 0) → (Q → Record → A → Type 0) → List Site → A → List (FileCall K) → Type 0
  AsksSite Refuses Asks Answers sites answer calls =
      AfterList folder
      (λ listed rest. (sites ≡ listed)
      × ((Refuses listed answer × (rest ≡ []))
      ⊎ ((site : ℕ) × (asked : Q) × Asks listed site asked × TellsSite shown stored folder listed site (Answers asked) answer rest)))
      calls
