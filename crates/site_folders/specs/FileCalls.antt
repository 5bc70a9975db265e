-- The calls of the files, each with what it was asked and what it gave, and which of them led from some files to others.
use Rattle.std.specs.Prelude.{◌≡◌, ℕ, Bool, List, [], ◌∷◌, Option}
use Rattle.recall_outcomes.specs.declared.faults.Fault.{Fault}
use Rattle.site_core.specs.Records.{Record}

-- a call of the files, whose sites have keepers of this kind
pub data FileCall (K : Type 0) : Type 0 where
  -- the file of this path was read, with these bytes
  ReadFile : List ℕ → List ℕ → FileCall K
  -- the next line of the file of this path was read, without its LF; or its end was met
  ReadLine : List ℕ → Option (List ℕ) → FileCall K
  -- the file of this path was found, or found missing
  LookedFor : List ℕ → Bool → FileCall K
  -- the file of a site was made at this path, in this record
  MadeSite : List ℕ → Record → FileCall K
  -- the file of this path was opened as that of the site of this name, with this keeper
  OpenedSite : List ℕ → List ℕ → K → FileCall K
  -- the file of the site of this keeper was closed
  ClosedSite : K → FileCall K
  -- a file of these bytes was made at this path
  WroteFile : List ℕ → List ℕ → FileCall K
  -- a call for this path failed with this fault
  Failed : List ℕ → Fault → FileCall K
  -- the files were told that a fault is about the file of this path
  Blamed : List ℕ → FileCall K

module _ {F K : Type 0} (does : F → FileCall K → F → Type 0) where
  -- from old files these calls, in this order and no others, led to new ones
  abbrev pub Calls : F → List (FileCall K) → F → Type 0
  Calls old [] new = new ≡ old
  Calls old (call ∷ calls) new = (mid : F) × does old call mid × Calls mid calls new

  -- from old files to new ones led calls of which this is said
  pub record Led (old new : F) (Are : List (FileCall K) → Type 0) : Type 0 where
    pub calls : List (FileCall K)
    pub are : Are calls
    pub led : Calls old calls new

  -- from old files on there were calls of which this is said, and perhaps others
  pub record Began (old : F) (Are : List (FileCall K) → Type 0) : Type 0 where
    pub mid : F
    pub begun : Led old mid Are
