use Rattle.report_core.proofs.LiesInItems.{all_carriers}
use Rattle.report_core.proofs.containers.carriers_of.Goals as goal

pub returns-clause-ascending : goal.returns-clause-ascending
returns-clause-ascending c = c.in_ok-found.ensures.ascending

pub returns-clause-all : goal.returns-clause-all
returns-clause-all c =
    let s = c.args.containers.now.site.now in
    all_carriers s.events c.args.containers.now.number c.args.containers.now.packings.now c.requires s.me c.args.item.now c.in_ok-found.found c.in_ok-found.ensures
