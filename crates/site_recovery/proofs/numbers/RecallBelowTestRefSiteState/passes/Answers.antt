use Rattle.std.proofs.Common.{◌↔◌, ◌≡◌, ◌<◌, ◌∙◌, Some, ap, refl}
use Rattle.std.specs.FinMap.{get, entries}
use Rattle.std.specs.Prelude.{IsTrue}
use Rattle.std.proofs.lemmas.Result.{IfOk-weaker}
use Rattle.frame_core.specs.Numbers.{Recall}
use Rattle.site_core.specs.ItemSets.{Items}
use Rattle.site_recovery.proofs.MapsOfSites.{Each, each_kept}
use Rattle.site_recovery.proofs.numbers.RecallBelowTestRefSiteState.passes.Goals as goal

pub returns : goal.returns
returns c =
    let state = c.args.state.now.now in
    IfOk-weaker c.each_entry.result
    (λ b. IsTrue b ↔ Each c.by_recall.result.now.entries (λ r _. r.site ≡ c.args.self.now.site → r.number < c.args.self.now.next))
    (λ b. IsTrue b ↔ ((r : Recall) (items : Items) → get state.quarantine r ≡ Some items → r.site ≡ c.args.self.now.site → r.number < c.args.self.now.next))
    (λ b decides. each_kept (λ _. state) 0 state refl b c.by_recall.result.now.entries (c.by_recall.ensures.entries ∙ ap entries c.quarantine.ensures) (λ r _. r.site ≡ c.args.self.now.site → r.number < c.args.self.now.next) decides)
    c.each_entry.ensures
