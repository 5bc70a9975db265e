use Rattle.std.proofs.Common.{◌↔◌, ◌≡◌, ◌<◌, Some, refl}
use Rattle.std.specs.FinMap.{get}
use Rattle.std.specs.Prelude.{IsTrue}
use Rattle.std.proofs.lemmas.Result.{IfOk-weaker}
use Rattle.frame_core.specs.Numbers.{Recall, Message}
use Rattle.site_recovery.proofs.MapsOfSites.{Each, each_seen}
use Rattle.site_recovery.proofs.numbers.MessageBelowTestRefSiteState.passes.Goals as goal

pub returns : goal.returns
returns c =
    let state = c.args.state.now.now in
    IfOk-weaker c.each_entry.result
    (λ b. IsTrue b ↔ Each c.seen.result.now.entries (λ m _. m.site ≡ c.args.self.now.site → m.number < c.args.self.now.next))
    (λ b. IsTrue b ↔ ((m : Message) (r : Recall) → get state.engagement.seen m ≡ Some r → m.site ≡ c.args.self.now.site → m.number < c.args.self.now.next))
    (λ b decides. each_seen (λ _. state) 0 state refl b c.seen.result.now.entries c.seen.ensures.entries (λ m _. m.site ≡ c.args.self.now.site → m.number < c.args.self.now.next) decides)
    c.each_entry.ensures
