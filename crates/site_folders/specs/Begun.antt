-- The recalls that sites began, and their roots.
use Rattle.std.specs.Prelude.{ℕ, Bool, ◌&&◌, not, if◌then◌else◌, List, [], ◌∷◌, map}
use Rattle.std.specs.FinMap as finite
use Rattle.std.specs.List.{flat_map}
use Rattle.recall_outcomes.specs.declared.outcomes.StartedRecall.{StartedRecall}
use Rattle.scholten_core.specs.declared.own_recalls.Own.{Own}
use Rattle.site_core.specs.Records.{Record}
use Rattle.trace_core.specs.declared.pairs.Pair.{Pair}

-- a recall that a site began under a number
abbrev pub begun_as : ℕ → ℕ × Own → StartedRecall
begun_as site (number, own) = record { recall = record { site = site; number = number }; ended = own.ended }

-- those that the site of a record began, by number
abbrev pub begun_by : Record → List StartedRecall
begun_by r = map (begun_as r.engagement.me) (finite.entries r.engagement.own)

-- those that the sites of these records began, by site, then by number
abbrev pub begun : List Record → List StartedRecall
begun records = flat_map begun_by records

-- the root of a recall that a site began: of each, or only of one that is open
abbrev pub root_of : Bool → ℕ → Own → List Pair
root_of each site own = if own.ended && not each then [] else record { site = site; item = own.root } ∷ []

-- those that the site of a record began, by number
abbrev pub roots_by : Bool → Record → List Pair
roots_by each r = flat_map (λ entry. root_of each r.engagement.me entry.1) (finite.entries r.engagement.own)

-- those that the sites of these records began, by site, then by number
abbrev pub roots : Bool → List Record → List Pair
roots each records = flat_map (roots_by each) records
