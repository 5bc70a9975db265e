-- What a copy of a folder holds.
use Rattle.std.specs.Prelude.{◌≡◌, ℕ, List, Contains, length, Option, Some}
use Rattle.event_json.specs.Sites.{Site}
use Rattle.site_core.specs.Records.{Record}
use Rattle.site_folders.specs.FileCalls.{FileCall, MadeSite, OpenedSite}
use Rattle.site_folders.specs.Keepers.{KeepFrom, opens_from}
use Rattle.folder_commands.specs.Copying.{CopiesSites}

-- Where each site's file of a copy, once it is opened, shows the record that it was made in: then the files of the copy show, site
-- by site, just the records that the folder's files showed together. So all questions find what they would have found then.
abbrev pub HoldsTheSame : {K : Type 0} → (K → Option Record) → (K → Type 0) → Type 0
HoldsTheSame {K} shown stored =
    (folder to : List ℕ) (sites : List Site) (text : List ℕ) (calls : List (FileCall K)) (copied : CopiesSites shown stored folder to sites text calls)
    (keepers : List K) (records : List Record) → KeepFrom shown stored sites 0 keepers records → length keepers ≡ length sites
    → ((path name : List ℕ) (r : Record) (keeper : K) → Contains calls (MadeSite path r) → Contains (opens_from to sites 0 keepers) (OpenedSite path name keeper) → shown keeper ≡ Some r)
    → records ≡ copied.records
