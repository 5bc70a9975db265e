use Rattle.std.proofs.Common.{◌⊎◌, ◌↔◌, ℕ, List}
use Rattle.std.specs.List.{Contains}
use Rattle.std.specs.Prelude.{IsTrue}
use Rattle.std.proofs.lemmas.Result.{IfOk-weaker}
use Rattle.site_core.specs.ItemSets as set
use Rattle.site_core.specs.Quarantines.{held}
use Rattle.site_core.specs.Ways as ways
use Rattle.site_recovery.specs.Checking.{world_at}
use Rattle.site_recovery.specs.Looks.{Held}
use Rattle.site_recovery.proofs.QuarantinedItems.{each_item}
use Rattle.site_recovery.proofs.telling.ToldFromEntryTestRecallIdItemSet.passes.Goals as goal

pub returns : goal.returns
returns c =
    let t = c.args.self.now in
    let r = c.args.recall.now in
    IfOk-weaker c.each_key.result
    (λ b. IsTrue b ↔ ((i : List ℕ) → Contains c.items.result.now.keys i → ways.ShipsTo t.from.now i t.to → IsTrue (held t.told.now r i) ⊎ Held (world_at t.sites.now) t.to r i))
    (λ b. IsTrue b ↔ ((i : List ℕ) → IsTrue (set.contains c.args.items.now i) → ways.ShipsTo t.from.now i t.to → IsTrue (held t.told.now r i) ⊎ Held (world_at t.sites.now) t.to r i))
    (λ b decides. each_item c.args.items.now c.items.result.now.keys c.items.ensures.items (λ i. ways.ShipsTo t.from.now i t.to → IsTrue (held t.told.now r i) ⊎ Held (world_at t.sites.now) t.to r i) b decides)
    c.each_key.ensures
