-- A finite list that has each pair that events can relate a pair to.
use Rattle.std.specs.Prelude.{ℕ, List, [], ◌++◌, map}
use Rattle.std.specs.List.{flat_map}
use Rattle.event_json.specs.declared.bodies.Body.{Body}
use Rattle.event_json.specs.declared.bodies.Body.TheVariants.{Note, Ship, Make, Pack}
use Rattle.trace_core.specs.declared.pairs.Pair.{Pair}
use Rattle.trace_core.specs.Numbers.{outs_in}
use Rattle.trace_core.specs.Sites.{SiteEvents}
use Rattle.trace_core.specs.Spreads.{items_of}

-- the sites of a shipment
abbrev pub sites_in : Body → List ℕ
sites_in (Note items) = []
sites_in (Ship items sites outside) = sites
sites_in (Make id ins outs) = []
sites_in (Pack action parent children) = []

-- the item at each of the sites that something was shipped to
abbrev pub at_each_site : SiteEvents → List ℕ → List Pair
at_each_site s i = map (λ t. record { site = t; item = i }) (flat_map (λ e. sites_in e.body) s.events)

-- each item at each site that something was shipped to, and the outputs of transformations at the own site
abbrev pub site_targets : SiteEvents → List Pair
site_targets s =
    flat_map (at_each_site s) (flat_map (λ e. items_of e.body) s.events)
    ++ map (λ j. record { site = s.me; item = j }) (flat_map (λ e. outs_in e.body) s.events)

unfoldable pub all_targets : List SiteEvents → List Pair
all_targets sites = flat_map site_targets sites
