-- Which calls of the files copy a folder's records to another folder, and what `copy` returns.
use Rattle.std.specs.Prelude.{◌≡◌, ◌⊎◌, ℕ, Bool, false, List, [], ◌∷◌, ◌++◌, length, map, Option}
use Rattle.std.specs.List.{AllZip}
use Rattle.event_json.specs.Sites.{Site}
use Rattle.recall_outcomes.specs.declared.faults.Fault.{Fault}
use Rattle.recall_outcomes.specs.declared.faults.Fault.TheVariants.{NoMemory}
use Rattle.recall_outcomes.specs.declared.notes.Notes.TheVariants.{Nothing}
use Rattle.recall_outcomes.specs.declared.outcomes.CommandRefusal.{CommandRefusal}
use Rattle.recall_outcomes.specs.declared.outcomes.Outcome.{Outcome}
use Rattle.recall_outcomes.specs.declared.outcomes.Outcome.TheVariants.{Created}
use Rattle.recall_outcomes.specs.declared.outcomes.Output.{Output}
use Rattle.recall_text.specs.Words.{name_at}
use Rattle.site_core.specs.Records.{Record}
use Rattle.site_folders.specs.Faults.{EndsInVain, OpensInVain}
use Rattle.site_folders.specs.FileCalls.{FileCall, Failed, LookedFor, MadeSite, ReadFile, WroteFile}
use Rattle.site_folders.specs.Keepers.{KeepFrom, closes_all, opens_from}
use Rattle.site_folders.specs.Lists.{Lists}
use Rattle.site_folders.specs.Paths.{file_path, list_path}
use Rattle.site_folders.specs.Refusals.{AreRefused, IsExists}
use Rattle.folder_commands.specs.Making.{LooksForList, existing, looks_from}

-- ---- the calls

-- where the file of a record's site lies in a folder
abbrev pub path_of : List ℕ → Record → List ℕ
path_of to r = file_path to (name_at r.sites r.engagement.me)

-- it is made there, in that very record
abbrev pub makes_copy : {K : Type 0} → List ℕ → Record → FileCall K
makes_copy to r = MadeSite (path_of to r) r

-- so are those of these records, one after another
abbrev pub makes_copies : {K : Type 0} → List ℕ → List Record → List (FileCall K)
makes_copies to records = map (λ r. makes_copy to r) records

module _ {K : Type 0} (to : List ℕ) where
  -- of these records, the file of the first couldn't be made; or memory ran out
  abbrev pub StopsAt : List Record → Fault → List (FileCall K) → Type 0
  StopsAt records fault calls =
      ((r : Record) × (more : List Record) × (records ≡ r ∷ more) × (calls ≡ Failed (path_of to r) fault ∷ []))
      ⊎ ((fault ≡ NoMemory) × (calls ≡ []))

  -- the files of the first of these records were made, and then that of the next couldn't be, or memory ran out
  pub record CopiesFirst (records : List Record) (fault : Fault) (calls : List (FileCall K)) : Type 0 where
    pub made : List Record
    pub left : List Record
    pub parts : records ≡ made ++ left
    pub rest : List (FileCall K)
    pub stops : StopsAt left fault rest
    pub calls_are : calls ≡ makes_copies to made ++ rest

  -- the folder's list couldn't be written, or memory ran out before
  abbrev pub FailsAtList : Fault → List (FileCall K) → Type 0
  FailsAtList fault calls = (calls ≡ Failed (list_path to) fault ∷ []) ⊎ ((fault ≡ NoMemory) × (calls ≡ []))

-- ---- the whole

module _ {K : Type 0} (shown : K → Option Record) (stored : K → Type 0) (folder to : List ℕ) where
  -- The files of all sites were opened; while all were open, a file was made in the other folder for each, in the very record that
  -- its keeper shows; then they were closed, and last the other folder's list was written, with the text that was read.
  pub record CopiesSites (sites : List Site) (text : List ℕ) (calls : List (FileCall K)) : Type 0 where
    pub keepers : List K
    pub records : List Record
    pub opened : KeepFrom shown stored sites 0 keepers records
    pub number : length keepers ≡ length sites
    pub calls_are :
        calls
        ≡ opens_from folder sites 0 keepers ++ (makes_copies to records ++ (closes_all keepers ++ WroteFile (list_path to) text ∷ []))

  -- where nothing is refused all is copied, and else nothing, and the refusals are the outcome
  abbrev pub CopiesWhere : List CommandRefusal → List Site → List ℕ → Outcome → List (FileCall K) → Type 0
  CopiesWhere [] sites text outcome calls = (outcome ≡ Created) × CopiesSites sites text calls
  CopiesWhere (why ∷ whys) sites text outcome calls = AreRefused (why ∷ whys) outcome × (calls ≡ [])

  -- Each of the sites' files was looked for in the other folder, and then its list: those that are there are the outcome, in this
  -- order; or all is copied.
  pub record CopiesListed (sites : List Site) (text : List ℕ) (outcome : Outcome) (calls : List (FileCall K)) : Type 0 where
    pub found : List Bool
    pub number : length found ≡ length sites
    pub exist : List CommandRefusal
    pub named : AllZip IsExists (existing sites 0 found) exist
    pub refused : List CommandRefusal
    pub looks : List (FileCall K)
    pub last : LooksForList to exist refused looks
    pub copies : List (FileCall K)
    pub copied : CopiesWhere refused sites text outcome copies
    pub calls_are : calls ≡ looks_from to sites 0 found ++ (looks ++ copies)

  -- the folder's list was read, and the files of its sites were copied, or what is refused is the outcome
  pub record CopiesAt (output : Output) (calls : List (FileCall K)) : Type 0 where
    pub text : List ℕ
    pub lists : Lists text output.sites
    pub noted : output.notes ≡ Nothing
    pub rest : List (FileCall K)
    pub copied : CopiesListed output.sites text output.outcome rest
    pub calls_are : calls ≡ ReadFile (list_path folder) text ∷ rest

  -- ---- where it has no outcome

  -- The files of all sites were opened; then those of the copy were made, all or the first of them; those that were opened were closed;
  -- and where all were made, the list couldn't be.
  pub record CopiesSome (sites : List Site) (fault : Fault) (calls : List (FileCall K)) : Type 0 where
    pub keepers : List K
    pub records : List Record
    pub opened : KeepFrom shown stored sites 0 keepers records
    pub number : length keepers ≡ length sites
    pub makes : List (FileCall K)
    pub last : List (FileCall K)
    pub came :
        (CopiesFirst to records fault makes × (last ≡ []))
        ⊎ ((makes ≡ makes_copies to records) × FailsAtList to fault last)
    pub calls_are : calls ≡ opens_from folder sites 0 keepers ++ (makes ++ (closes_all keepers ++ last))

  -- the list was read, neither a file nor a list was found in the other folder, and then some files were made
  pub record CopiesThen (fault : Fault) (calls : List (FileCall K)) : Type 0 where
    pub text : List ℕ
    pub sites : List Site
    pub lists : Lists text sites
    pub found : List Bool
    pub number : length found ≡ length sites
    pub none : existing sites 0 found ≡ []
    pub rest : List (FileCall K)
    pub copied : CopiesSome sites fault rest
    pub calls_are :
        calls ≡ ReadFile (list_path folder) text ∷ (looks_from to sites 0 found ++ LookedFor (list_path to) false ∷ rest)

  -- nothing was made, or some files were
  abbrev pub CopyFails : Fault → List (FileCall K) → Type 0
  CopyFails fault calls = EndsInVain shown folder fault calls ⊎ CopiesThen fault calls

  -- so behind the list, which lists these sites
  abbrev pub ListedFails : List Site → Fault → List (FileCall K) → Type 0
  ListedFails sites fault calls =
      OpensInVain shown folder sites fault calls
      ⊎ ((found : List Bool) × (length found ≡ length sites) × (existing sites 0 found ≡ []) × (rest : List (FileCall K))
      × CopiesSome sites fault rest × (calls ≡ looks_from to sites 0 found ++ LookedFor (list_path to) false ∷ rest))
