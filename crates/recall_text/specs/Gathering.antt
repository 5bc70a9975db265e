-- The answer to a `site` line while sites are gathered, and the sites that it leaves.
use Rattle.std.specs.Prelude.{ℕ, List, [], ◌∷◌, ◌++◌, codes, Option, Some, None}
use Rattle.event_json.specs.Names.{sites_fault_name}
use Rattle.event_json.specs.Sites.{Site}
use Rattle.event_json.specs.declared.site_lists.SitesFault.{SitesFault}
use Rattle.recall_text.specs.Answer.{Said, silent, refused}
use Rattle.recall_text.specs.State.{State, gathering}

abbrev pub site_added : List Site → List ℕ → List (List ℕ) → Option SitesFault → Said × State
site_added sites name addresses None = (silent, gathering (sites ++ record { name = name; addresses = addresses } ∷ []))
site_added sites name addresses (Some fault) = (refused (codes "BadSite " ++ sites_fault_name fault), gathering sites)
