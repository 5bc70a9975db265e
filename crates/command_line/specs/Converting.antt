-- What a conversion of files comes to: the documents of each file's text are written, a line each, and something in it may be none. Where
-- a list of sites is given, it is read first. No site's file is opened.
use Rattle.std.specs.Prelude.{◌≡◌, ◌⊎◌, ◌||◌, ℕ, Bool, true, false, List, [], ◌∷◌, ◌++◌, Option, None, Some, map, option_map, if◌then◌else◌}
use Rattle.std.specs.List.{flat_map, list_any}
use Rattle.std.specs.Io.KnownBytes.{Appends}
use Rattle.document_convert.specs.Converted.{AreLinesOf, documents_of, refusals_of}
use Rattle.document_convert.specs.Texts.{pieces_of}
use Rattle.document_convert.specs.declared.converting.Conversion.{Conversion}
use Rattle.document_convert.specs.declared.converting.Refused.{Refused}
use Rattle.event_json.specs.Sites.{Site}
use Rattle.recall_outcomes.specs.declared.faults.Fault.{Fault}
use Rattle.recall_outcomes.specs.declared.faults.Fault.TheVariants.{NoMemory, Write}
use Rattle.folder_commands.specs.Listed.{ReadsNone, ReadsSites}
use Rattle.folder_commands.specs.declared.listed.SitesCame.{SitesCame}
use Rattle.folder_commands.specs.declared.listed.SitesCame.TheVariants as came
use Rattle.outcome_forms.specs.Writing.{Writes}
use Rattle.outcome_forms.specs.declared.forms.Form.{Form}
use Rattle.recall_outcomes.specs.declared.outcomes.Output.{Output}
use Rattle.site_folders.specs.FileCalls.{FileCall, Failed, Led, ReadFile}
use Rattle.command_line.specs.declared.convert_commands.ConvertFiles.{ConvertFiles}

-- what is done with documents, and by which sites
abbrev pub Ways : Type 0
Ways = Conversion × List Site

-- something is no document
abbrev pub is_told : List Refused → Bool
is_told [] = false
is_told (refused ∷ others) = true

abbrev pub converted_status : Bool → ℕ
converted_status refused = if refused then 1 else 0

module _ {K W : Type 0} (contents : W → Option (List ℕ)) where
  -- The files of these paths were read, one after another, and the lines of their documents were written, in order; or something in
  -- them is none, too.
  pub record Converts (ways : Ways) (paths : List (List ℕ)) (before after : W) (refused : Bool) (calls : List (FileCall K)) : Type 0 where
    -- each path with its text
    pub files : List (List ℕ × List ℕ)
    pub of_paths : map (λ file. file.0) files ≡ paths
    pub read : calls ≡ map (λ file. ReadFile file.0 file.1) files
    pub lines : List ℕ
    pub are : AreLinesOf (flat_map (λ file. documents_of ways.0 ways.1 (pieces_of file.1)) files) lines
    pub written : Appends (contents before) (contents after) lines
    pub refused_is : refused ≡ list_any (λ file. is_told (refusals_of (pieces_of file.1))) files

  -- one file more
  pub record ConvertsOne (ways : Ways) (path : List ℕ) (before after : W) (earlier refused : Bool) (calls : List (FileCall K)) : Type 0 where
    pub text : List ℕ
    pub read : calls ≡ ReadFile path text ∷ []
    pub lines : List ℕ
    pub are : AreLinesOf (documents_of ways.0 ways.1 (pieces_of text)) lines
    pub written : Appends (contents before) (contents after) lines
    pub refused_is : refused ≡ (earlier || is_told (refusals_of (pieces_of text)))

  -- the file of this path can't be read, or memory ran out at it, and nothing of it was written; or its lines can't be written
  abbrev pub BreaksAt : List ℕ → W → W → Fault → List (FileCall K) → Type 0
  BreaksAt path before after fault calls =
      ((calls ≡ Failed path fault ∷ []) × (after ≡ before))
      ⊎ ((text : List ℕ) × (calls ≡ ReadFile path text ∷ []) × (((fault ≡ NoMemory) × (after ≡ before)) ⊎ (fault ≡ Write)))

  -- the files before one were converted, and that one ended it
  pub record ConvertFails (ways : Ways) (paths : List (List ℕ)) (before after : W) (fault : Fault) (calls : List (FileCall K)) : Type 0 where
    pub done : List (List ℕ)
    pub path : List ℕ
    pub others : List (List ℕ)
    pub paths_are : paths ≡ done ++ path ∷ others
    pub mid : W
    pub refused : Bool
    pub first : List (FileCall K)
    pub converted : Converts ways done before mid refused first
    pub last : List (FileCall K)
    pub broke : BreaksAt path mid after fault last
    pub calls_are : calls ≡ first ++ last

module _ {F K W : Type 0} (does : F → FileCall K → F → Type 0) (contents : W → Option (List ℕ)) where
  -- all files were converted by these sites, or a fault ended it
  abbrev pub EndsBy : List Site → ConvertFiles → F → F → W → W → ℕ → Type 0
  EndsBy sites asked old new before after status =
      ((refused : Bool) × Led does old new (Converts contents (asked.ways, sites) (map (λ p. p.now) asked.paths.items) before after refused)
      × (status ≡ converted_status refused))
      ⊎ ((fault : Fault) × Led does old new (ConvertFails contents (asked.ways, sites) (map (λ p. p.now) asked.paths.items) before after fault)
      × (status ≡ 3))

  -- a refusal was written, and nothing else; or that failed
  abbrev pub TellsRefused : Form → Output → W → W → ℕ → Type 0
  TellsRefused form refused before after status = (Writes form refused.sites refused.outcome (contents before) (contents after) × (status ≡ 1)) ⊎ (status ≡ 3)

  -- where the list is refused no document is read; else the files are converted by its sites
  abbrev pub EndsWith : SitesCame → ConvertFiles → F → F → W → W → ℕ → Type 0
  EndsWith (came.Refused refused) asked old new before after status = (new ≡ old) × TellsRefused asked.form refused before after status
  EndsWith (came.Listed sites) asked old new before after status = EndsBy sites asked old new before after status

  -- the list was read first
  pub record EndsByList (list : List ℕ) (asked : ConvertFiles) (old new : F) (before after : W) (status : ℕ) : Type 0 where
    pub came : SitesCame
    pub mid : F
    pub listed : Led does old mid (ReadsSites list came)
    pub ends : EndsWith came asked mid new before after status

  -- or couldn't be read, or memory ran out at it
  abbrev pub EndsUnlisted : List ℕ → F → F → W → W → ℕ → Type 0
  EndsUnlisted list old new before after status = (fault : Fault) × Led does old new (ReadsNone list fault) × (after ≡ before) × (status ≡ 3)

  -- by no sites, or by those of a list
  abbrev pub EndsWhere : Option (List ℕ) → ConvertFiles → F → F → W → W → ℕ → Type 0
  EndsWhere None asked old new before after status = EndsBy [] asked old new before after status
  EndsWhere (Some list) asked old new before after status = EndsByList list asked old new before after status ⊎ EndsUnlisted list old new before after status

  -- so by those of the list that is given
  abbrev pub ConvertEnds : ConvertFiles → F → F → W → W → ℕ → Type 0
  ConvertEnds asked old new before after status = EndsWhere (option_map (λ t. t.now) asked.places) asked old new before after status

module _ {F K W : Type 0} (does : F → FileCall K → F → Type 0) (limits : F → ℕ → F → Type 0) (contents : W → Option (List ℕ)) where
  -- and a file was as long as was asked for at most
  pub record TellsConvert (asked : ConvertFiles) (old new : F) (before after : W) (status : ℕ) : Type 0 where
    pub mid : F
    pub limited : limits old asked.most mid
    pub ends : ConvertEnds does contents asked mid new before after status
