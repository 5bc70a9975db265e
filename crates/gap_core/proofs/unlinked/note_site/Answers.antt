use Rattle.std.proofs.lemmas.Result.{on_ok_weaker}
use Rattle.trace_core.specs.Chains.{sites_at}
use Rattle.gap_core.proofs.UnlinkedSteps.{site_unlinked}
use Rattle.gap_core.proofs.unlinked.note_site.Goals as goal

pub returns : goal.returns
returns c = on_ok_weaker c.note_containers.result
    (site_unlinked (sites_at c.args.sites.now) c.args.at c.in_ok-sent.sent c.args.found.now.items c.note_containers.new.found.items c.in_ok-sent.ensures)
    c.note_containers.ensures
