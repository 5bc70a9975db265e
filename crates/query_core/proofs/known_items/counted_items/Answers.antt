use Rattle.std.proofs.Common.{◌≡◌, ◌∙◌, length, subst}
use Rattle.std.proofs.lemmas.Result.{IfOk-weaker}
use Rattle.trace_core.specs.Sites.{SiteEvents}
use Rattle.query_core.specs.Counted.{counted_items, told_among}
use Rattle.query_core.specs.Mentions.{AreCounted}
use Rattle.query_core.proofs.CountedItems.{told_counted}
use Rattle.query_core.proofs.known_items.counted_items.Goals as goal

pub returns : goal.returns
returns c =
    let events = c.args.state.now.captured.events in
    let are = subst (λ (s : SiteEvents). AreCounted s.events (length c.captured.result.now.events) c.in_ok-counts.counts) c.captured.ensures c.in_ok-counts.ensures in
    IfOk-weaker c.those_counted.result
    (λ known. known.items ≡ told_among c.in_ok-counts.counts c.args.text.now c.args.items.items)
    (λ known. known.items ≡ counted_items events c.args.text.now c.args.items.items)
    (λ known is. is ∙ told_counted events (length c.captured.result.now.events) c.in_ok-counts.counts are c.args.text.now c.args.items.items)
    c.those_counted.ensures
