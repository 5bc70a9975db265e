use Rattle.std.proofs.Common.{ap, sym, ◌∙◌}
use Rattle.std.specs.List.{Contains, list_any}
use Rattle.trace_core.specs.Places.{names_item}
use Rattle.trace_core.specs.Sites.{SiteEvents}
use Rattle.trace_core.specs.Spreads.{items_of}
use Rattle.trace_core.proofs.PairTestsDecide.{any_decides, lists_decides}
use Rattle.trace_core.proofs.captured.Captured.mentions.Goals as goal

pub returns : goal.returns
returns c =
    let is = c.mentions.ensures ∙ ap (λ (s : SiteEvents). list_any (names_item c.args.item.now) s.events) c.self.view_is in
    let decides = any_decides (names_item c.args.item.now) (λ e. Contains (items_of e.body) c.args.item.now) (λ e. lists_decides (items_of e.body) c.args.item.now) c.args.self.now.events in
    (λ named. decides.0 (sym is ∙ named), λ there. is ∙ decides.1 there)
