use Rattle.std.proofs.Common.{◌↔◌, List, subst}
use mathlib.Core.Logic.{◌⊎◌}
use Rattle.std.specs.List.{Contains}
use Rattle.event_json.specs.Events.{Content}
use Rattle.trace_core.specs.Nodes.{HasItem}
use Rattle.trace_core.proofs.BeyondSteps.{ends}
use Rattle.trace_core.proofs.beyond.numbers_beyond.Goals as goal

pub returns : goal.returns
returns c i at = ends c.args.site.now c.args.stop.now i c.args.seen.now c.nodes_beyond.new.seen c.in_ok-nodes.nodes c.new-found.result.items c.push_items.new.found.items c.new-found.ensures.items (c.in_ok-nodes.ensures i at)
    (λ j. subst (λ (es : List Content). Contains c.push_items.new.found.items j ↔ (Contains c.new-found.result.items j ⊎ HasItem es c.in_ok-nodes.nodes j)) c.book.ensures (c.in_ok-push_items.ensures j))
