use Rattle.site_core.proofs.states.SiteState.restore.Goals as goal

pub invariant_of-result : goal.invariant_of-result
invariant_of-result c = (c.requires.sound, c.found-shortcuts.ensures)
