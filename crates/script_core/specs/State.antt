use Rattle.std.specs.Prelude.{ℕ, nat_le, if◌then◌else◌, List, [], length, map, replicate, Option, Some, None, option_and_then, slice_get}
use Rattle.std.specs.List.{range_with_len}
use Rattle.event_json.specs.Sites.{Site}
use Rattle.keeper_core.specs.declared.faults.Keep.{Keep}
use Rattle.recall_text.specs.State.{State, World, gathering, running}
use Rattle.site_core.specs.Records.{Record, fresh}
use Rattle.world_core.specs.Worlds.{Standing, Up, Down}

-- before the first line
abbrev pub empty : State
empty = gathering []

-- each of the sites is up, and nothing happened at it yet
abbrev pub fresh_sites : List Site → List Standing
fresh_sites sites = map (λ n. Up (fresh sites n)) (range_with_len 0 (length sites))

-- the world as it begins
abbrev pub begun_world : List Site → World
begun_world sites = record { sites = sites; world = record { sites = fresh_sites sites; sent = [] }; armed = replicate (length sites) None }

-- once two sites stand, the world may begin
unfoldable pub begun : State → State
begun (gathering sites) = if nat_le 2 (length sites) then running (begun_world sites) else gathering sites
begun (running world) = running world

-- the record of a site while it is up
abbrev pub shown_by : Standing → Option Record
shown_by (Up r) = Some r
shown_by (Down r) = None

abbrev pub up_in : List Standing → ℕ → Option Record
up_in sites n = option_and_then shown_by (slice_get sites n)

abbrev pub up_at : World → ℕ → Option Record
up_at w n = up_in w.world.sites n

-- the stop that is armed for the next step of a site
abbrev pub armed_at : World → ℕ → Option Keep
armed_at w n = option_and_then (λ keep. keep) (slice_get w.armed n)
