use Rattle.std.proofs.Common.{◌∙◌, sym, ap, subst}
use Rattle.std.specs.Option.{option_map}
use Rattle.std.proofs.lemmas.Result.{on_ok_weaker}
use Rattle.site_core.specs.ItemSets.{Items}
use Rattle.report_core.specs.Gathering.{Adds, RecordTells, SiteTells}
use Rattle.report_core.proofs.Adding.{none_added}
use Rattle.report_core.proofs.Outgoing.{none_told, held_set}
use Rattle.report_core.proofs.gathering.add_of_site.Goals as goal

pub returns-in_default : goal.returns-in_default
returns-in_default c =
    let none = sym (ap (option_map (λ items. items.now)) c.in_default.is) ∙ c.under.ensures in
    none_added c.args.found.now (RecordTells c.args.recall c.args.state.now) (none_told c.args.recall c.args.state.now c.quarantine.result.now c.quarantine.ensures none)

pub returns : goal.returns
returns c =
    let some = sym (ap (option_map (λ items. items.now)) c.in-Some.is) ∙ c.under.ensures in
    let is = held_set c.args.recall c.args.state.now c.quarantine.result.now c.in-Some.held.now c.quarantine.ensures some in
    on_ok_weaker c.add_of_events.result
    (subst (λ (items : Items). Adds c.args.found.now c.add_of_events.new.found (SiteTells items c.args.state.now)) is)
    c.add_of_events.ensures
