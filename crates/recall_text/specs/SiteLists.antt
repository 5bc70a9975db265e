-- A list of sites: a text whose `site` lines add a site each, as those of a script do.
use Rattle.std.specs.Prelude.{◌≡◌, ◌+◌, ℕ, List, [], ◌∷◌, ◌++◌, codes, Option, Some, None}
use Rattle.std.specs.Str.Lines.{lines}
use Rattle.event_json.specs.Names.{sites_fault_name}
use Rattle.event_json.specs.Sites.{Site, sites_fault}
use Rattle.event_json.specs.declared.site_lists.SitesFault.{SitesFault}
use Rattle.recall_text.specs.Requests.{Request, Asks}
use Rattle.recall_text.specs.Requests as requests
use Rattle.recall_text.specs.declared.site_lists.LineRefusal.{LineRefusal}
use Rattle.recall_text.specs.declared.site_lists.LineRefusal.TheVariants.{BadLine, BadSite}
use Rattle.recall_text.specs.declared.site_lists.RefusedLine.{RefusedLine}
use Rattle.recall_text.specs.declared.site_lists.SiteList.{SiteList}

-- the words of a refusal, which are those that a script prints of the line
abbrev pub line_words : LineRefusal → List ℕ
line_words BadLine = codes "BadLine"
line_words (BadSite fault) = codes "BadSite " ++ sites_fault_name fault

abbrev pub refused_line_words : RefusedLine → List ℕ
refused_line_words refused = line_words refused.why

-- a site with this fault is refused, and one without is added
abbrev pub AddsSite : List Site → List ℕ → List (List ℕ) → Option SitesFault → Option LineRefusal → List Site → Type 0
AddsSite sites name addresses None why after = (why ≡ None) × (after ≡ sites ++ record { name = name; addresses = addresses } ∷ [])
AddsSite sites name addresses (Some fault) why after = (why ≡ Some (BadSite fault)) × (after ≡ sites)

-- A line that asks for this is refused so, or isn't, and leaves these sites. What asks something of a world can't be read here.
abbrev pub ListsRequest : List Site → Option Request → Option LineRefusal → List Site → Type 0
ListsRequest sites None why after = (why ≡ Some BadLine) × (after ≡ sites)
ListsRequest sites (Some requests.silent) why after = (why ≡ None) × (after ≡ sites)
ListsRequest sites (Some (requests.site name addresses)) why after = AddsSite sites name addresses (sites_fault sites name addresses) why after
ListsRequest sites (Some (requests.task task)) why after = (why ≡ Some BadLine) × (after ≡ sites)

abbrev pub ListsLine : List Site → List ℕ → Option LineRefusal → List Site → Type 0
ListsLine sites line why after = (asked : Option Request) × Asks line asked × ListsRequest sites asked why after

-- the line of this number, where it is refused
abbrev pub refused_at : ℕ → Option LineRefusal → List RefusedLine
refused_at number None = []
refused_at number (Some why) = record { line = number; why = why } ∷ []

-- behind these sites the lines from this number on are refused so, and leave those sites
abbrev pub Lists : List Site → ℕ → List (List ℕ) → List RefusedLine → List Site → Type 0
Lists sites number [] refused after = (refused ≡ []) × (after ≡ sites)
Lists sites number (line ∷ rest) refused after =
    (why : Option LineRefusal) × (more : List RefusedLine) × (next : List Site)
    × (refused ≡ refused_at number why ++ more) × ListsLine sites line why next × Lists next (number + 1) rest more after

-- the text lists these sites, and these of its lines are refused
abbrev pub IsSiteList : List ℕ → SiteList → Type 0
IsSiteList text list = Lists [] 1 (lines text) list.refused.items list.sites

-- the list with the line of this number more
abbrev pub AddsLine : SiteList → ℕ → List ℕ → SiteList → Type 0
AddsLine old number line new = (why : Option LineRefusal) × ListsLine old.sites line why new.sites × (new.refused.items ≡ old.refused.items ++ refused_at number why)
