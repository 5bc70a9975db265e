use Rattle.std.proofs.Common.{List, [], map, ap, sym, ◌∙◌, subst, length}
use Rattle.std.specs.List.{range_with_len}
use Rattle.keeper_core.specs.Memory.{InMemory}
use Rattle.world_core.specs.Keepers.{Sites}
use Rattle.world_core.specs.Worlds.{Standing, WorldState}
use Rattle.script_core.specs.Keepers.{standing_of}
use Rattle.script_core.proofs.BeginningLemmas.{all_fresh, all_unarmed}
use Rattle.script_core.proofs.KeeperLemmas.{AreUnarmed}
use Rattle.script_core.proofs.beginning.fresh_world.Goals as goal

pub new-requires-in-Ok-clause-unarmed : goal.new-requires-in-Ok-clause-unarmed
new-requires-in-Ok-clause-unarmed c =
    let same = ap (λ (s : Sites InMemory). s.keepers) c.in-Ok.ensures.world ∙ c.in_ok-keepers.ensures in
    subst AreUnarmed (sym same) (all_unarmed c.args.sites.now (range_with_len 0 (length c.args.sites.now)))

pub returns-in-Ok : goal.returns-in-Ok
returns-in-Ok c =
    let same = ap (λ (s : Sites InMemory). s.keepers) c.in-Ok.ensures.world ∙ c.in_ok-keepers.ensures in
    c.new-in-Ok.ensures ∙ ap (λ (ks : List InMemory). let v : WorldState = record { sites = map standing_of ks; sent = [] } in v) same
    ∙ ap (λ (xs : List Standing). let v : WorldState = record { sites = xs; sent = [] } in v) (all_fresh c.args.sites.now (range_with_len 0 (length c.args.sites.now)))
