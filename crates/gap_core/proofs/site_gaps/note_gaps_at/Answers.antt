use Rattle.std.proofs.Common.{◌∙◌, sym, ap}
use Rattle.std.specs.Option.{option_map}
use Rattle.std.proofs.lemmas.Result.{on_ok_weaker}
use Rattle.trace_core.specs.Chains.{sites_at}
use Rattle.gap_core.proofs.GapSteps.{container_gaps, no_container_gaps}
use Rattle.gap_core.proofs.site_gaps.note_gaps_at.Goals as goal

pub returns-in-Some : goal.returns-in-Some
returns-in-Some c = on_ok_weaker c.note_gaps_in.result
    (container_gaps (sites_at c.args.sites.now) c.args.at c.args.sent.now c.args.told.now c.args.place c.in-Some.container.now c.args.gaps.now.items c.note_gaps_in.new.gaps.items
    (sym (sym (ap (option_map (λ i. i.now)) c.in-Some.is) ∙ c.get.ensures)))
    c.note_gaps_in.ensures

pub returns-in-None : goal.returns-in-None
returns-in-None c = no_container_gaps (sites_at c.args.sites.now) c.args.at c.args.sent.now c.args.told.now c.args.place c.args.gaps.now.items
    (sym (ap (option_map (λ i. i.now)) c.in-None.is) ∙ c.get.ensures)
