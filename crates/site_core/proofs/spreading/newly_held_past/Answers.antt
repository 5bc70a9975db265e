use Rattle.std.proofs.Common.{◌≡◌, not, filter}
use Rattle.std.proofs.lemmas.Result.{IfOk-weaker}
use Rattle.site_core.specs.Quarantines.{held, with_items}
use Rattle.site_core.specs.Shortcuts.{TakeHeld}
use Rattle.site_core.specs.Spreading.{AreNewlyHeld}
use Rattle.site_core.proofs.Closed.{past_newly, past_seen}
use Rattle.site_core.proofs.spreading.newly_held_past.Goals as goal

pub returns-clause-newly : goal.returns-clause-newly
returns-clause-newly c = IfOk-weaker c.not_held.result
    (λ items. items.items ≡ filter (λ j. not (held c.args.quarantine.now c.args.recall j)) c.in_ok-found.found.items)
    (λ items. AreNewlyHeld c.args.captured.now c.args.quarantine.now c.args.recall c.args.item.now items.items)
    (λ items is. past_newly c.args.captured.now c.args.quarantine.now c.args.recall c.args.item.now c.args.seen.now c.spread_past.new.seen c.requires.closed c.requires.held c.in_ok-found.found.items c.in_ok-found.ensures.past items.items is c.in_ok-found.ensures.ascending)
    c.not_held.ensures

pub returns-clause-seen : goal.returns-clause-seen
returns-clause-seen c = IfOk-weaker c.not_held.result
    (λ items. items.items ≡ filter (λ j. not (held c.args.quarantine.now c.args.recall j)) c.in_ok-found.found.items)
    (λ items. TakeHeld c.args.captured.now (with_items c.args.quarantine.now c.args.recall items.items) c.args.recall c.spread_past.new.seen)
    (λ items is. past_seen c.args.captured.now c.args.quarantine.now c.args.recall c.args.item.now c.args.seen.now c.spread_past.new.seen c.requires.closed c.requires.held c.in_ok-found.found.items c.in_ok-found.ensures.past items.items is)
    c.not_held.ensures
