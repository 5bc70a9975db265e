use Rattle.std.proofs.Common.{◌∙◌, sym, ap}
use Rattle.std.specs.List.{Contains}
use Rattle.std.specs.Option.{option_map}
use Rattle.std.proofs.lemmas.Result.{on_ok_weaker}
use Rattle.trace_core.specs.Chains.{sites_at}
use Rattle.gap_core.specs.Unlinked.{IsUnlinkedIn}
use Rattle.gap_core.proofs.Turns.{adds_at, none_at}
use Rattle.gap_core.proofs.unlinked.note_container_at.Goals as goal

pub returns-in-Some : goal.returns-in-Some
returns-in-Some c = on_ok_weaker c.note_container.result
    (adds_at c.args.sent.now (IsUnlinkedIn (sites_at c.args.sites.now) c.args.at) c.args.place c.in-Some.container.now (Contains c.args.found.now.items) (Contains c.note_container.new.found.items)
    (sym (sym (ap (option_map (λ i. i.now)) c.in-Some.is) ∙ c.get.ensures)))
    c.note_container.ensures

pub returns-in-None : goal.returns-in-None
returns-in-None c = none_at c.args.sent.now (IsUnlinkedIn (sites_at c.args.sites.now) c.args.at) c.args.place (Contains c.args.found.now.items)
    (sym (ap (option_map (λ i. i.now)) c.in-None.is) ∙ c.get.ensures)
