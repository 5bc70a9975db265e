-- What lists of sites have in common with scripts, and which lines are refused.
use Rattle.std.specs.Prelude.{◌≡◌, ◌<◌, ◌≤◌, ℕ, List, Option, Some, None, All, AllPairs, length}
use Rattle.std.specs.Str.Lines.{lines}
use Rattle.event_json.specs.Sites.{Site}
use Rattle.event_json.specs.declared.site_lists.SitesFault.{SitesFault}
use Rattle.recall_text.specs.Answer.{Said, refused, silent}
use Rattle.recall_text.specs.Gathering.{site_added}
use Rattle.recall_text.specs.SiteLists.{AddsSite, IsSiteList, line_words}
use Rattle.recall_text.specs.State.{gathering}
use Rattle.recall_text.specs.declared.site_lists.LineRefusal.{LineRefusal}
use Rattle.recall_text.specs.declared.site_lists.SiteList.{SiteList}

-- what a script answers to a line that is refused so, or isn't
abbrev pub said_of : Option LineRefusal → Said
said_of None = silent
said_of (Some why) = refused (line_words why)

-- A `site` line of a list has what a script answers to it as its refusal, and leaves the sites that the script gathers.
abbrev pub RefusesAsScripts : Type 0
RefusesAsScripts =
    (sites : List Site) (name : List ℕ) (addresses : List (List ℕ)) (fault : Option SitesFault) (why : Option LineRefusal) (after : List Site)
    → AddsSite sites name addresses fault why after → site_added sites name addresses fault ≡ (said_of why, gathering after)

-- Each line that is refused is one of the text, counted from 1, and none is refused twice or out of its turn.
abbrev pub RefusedLinesAreOfTheText : Type 0
RefusedLinesAreOfTheText =
    (text : List ℕ) (list : SiteList) → IsSiteList text list
    → All (λ r. (0 < r.line) × (r.line ≤ length (lines text))) list.refused.items × AllPairs (λ a b. a.line < b.line) list.refused.items
