use Rattle.std.proofs.Common.{◌↔◌, ◌∙◌, ℕ, List, ap}
use Rattle.std.specs.FinMap.{entries}
use Rattle.std.specs.Prelude.{IsTrue}
use Rattle.std.proofs.lemmas.Result.{IfOk-weaker}
use Rattle.frame_core.specs.Numbers.{Recall}
use Rattle.site_core.specs.ItemSets as set
use Rattle.site_recovery.specs.Checking.{IsBegun, world_at}
use Rattle.site_recovery.specs.Looks.{Held}
use Rattle.site_recovery.proofs.MapsOfSites.{Each, each_kept}
use Rattle.site_recovery.proofs.QuarantinedItems.{each_held}
use Rattle.site_recovery.proofs.reaching.BegunCondition.holds_at.Goals as goal

pub returns : goal.returns
returns c =
    let W = world_at c.args.sites.now in
    let s = c.args._site in
    let es = c.by_recall.result.now.entries in
    IfOk-weaker c.each_entry.result
    (λ b. IsTrue b ↔ Each es (λ r items. (i : List ℕ) → IsTrue (set.contains items i) → IsBegun W r))
    (λ b. IsTrue b ↔ ((r : Recall) (i : List ℕ) → Held W s r i → IsBegun W r))
    (λ b decides. each_held (W s).quarantine (λ r i. IsBegun W r) b
    (each_kept W s c.args.state.now c.requires.here b es (c.by_recall.ensures.entries ∙ ap entries c.quarantine.ensures) (λ r items. (i : List ℕ) → IsTrue (set.contains items i) → IsBegun W r) decides))
    c.each_entry.ensures
