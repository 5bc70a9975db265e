use Rattle.std.proofs.Common.{rules, ◌≢◌}
use Rattle.report_core.proofs.SourcesFound.{one_at_site, sender_added}
use Rattle.report_core.proofs.sources.push_sender.Goals as goal

pub returns-in_ok-push : goal.returns-in_ok-push
returns-in_ok-push c =
    let apart : c.args.pair.now.site ≢ c.args.site.now.me = search rules in
    sender_added c.args.site.now c.args.found.now.items c.push.new.self.items c.args.pair.now c.me-then-sent_to.result c.me-then-sent_to.ensures apart (c.sent_to.ensures.0 c.if-sent_to.true)
    (one_at_site c.args.found.now.items c.push.new.self.items c.me-then-sent_to.result c.args.pair.now.item c.in_ok-copy.field-0 c.in_ok-copy.ensures c.in_ok-push.ensures.items)
