use Rattle.std.proofs.Common.{ap, sym, ◌∙◌}
use Rattle.world_core.specs.Recalls.{quarantined}
use Rattle.world_core.specs.Worlds.{WorldState, records}
use Rattle.script_core.proofs.KeeperLemmas.{shown_records}
use Rattle.script_core.proofs.worlds.MemoryWorld.quarantined.Goals as goal

pub returns-in-Ok : goal.returns-in-Ok
returns-in-Ok c =
    let (rs, shows, is) = c.in-Ok.ensures.ok in
    is ∙ ap (quarantined c.args.recall) (sym (shown_records c.self.inside.world.keepers rs shows)) ∙ ap (λ (w : WorldState). quarantined c.args.recall (records w)) c.self.view_is
