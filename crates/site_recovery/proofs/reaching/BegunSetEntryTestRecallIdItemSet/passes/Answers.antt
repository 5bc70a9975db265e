use Rattle.std.proofs.Common.{◌↔◌, ℕ, List}
use Rattle.std.specs.List.{Contains}
use Rattle.std.specs.Prelude.{IsTrue}
use Rattle.std.proofs.lemmas.Result.{IfOk-weaker}
use Rattle.site_core.specs.ItemSets as set
use Rattle.site_recovery.specs.Checking.{IsBegun, world_at}
use Rattle.site_recovery.proofs.QuarantinedItems.{each_item}
use Rattle.site_recovery.proofs.reaching.BegunSetEntryTestRecallIdItemSet.passes.Goals as goal

pub returns : goal.returns
returns c =
    let W = world_at c.args.self.now.sites.now in
    let r = c.args.recall.now in
    IfOk-weaker c.each_key.result
    (λ b. IsTrue b ↔ ((i : List ℕ) → Contains c.items.result.now.keys i → IsTrue c.is_begun.result))
    (λ b. IsTrue b ↔ ((i : List ℕ) → IsTrue (set.contains c.args.items.now i) → IsBegun W r))
    (λ b decides.
    let each = each_item c.args.items.now c.items.result.now.keys c.items.ensures.items (λ i. IsTrue c.is_begun.result) b decides in
    (λ h i is. c.is_begun.ensures.0 (each.0 h i is), λ all. each.1 (λ i is. c.is_begun.ensures.1 (all i is))))
    c.each_key.ensures
