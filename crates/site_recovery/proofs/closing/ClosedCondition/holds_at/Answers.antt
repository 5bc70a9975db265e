use Rattle.std.proofs.Common.{◌↔◌, ℕ, List, sym, ap, ◌∙◌, subst}
use Rattle.std.specs.FinMap.{entries}
use Rattle.std.specs.Prelude.{IsTrue}
use Rattle.std.proofs.lemmas.Result.{IfOk-weaker}
use Rattle.trace_core.specs.Spreads.{Inside}
use Rattle.site_core.specs.ItemSets as set
use Rattle.site_recovery.specs.Checking.{world_at}
use Rattle.site_recovery.specs.Fit.{IsClosedAt}
use Rattle.site_recovery.proofs.MapsOfSites.{Each, each_kept}
use Rattle.site_recovery.proofs.QuarantinedItems.{held_is, kept_set}
use Rattle.site_recovery.proofs.closing.ClosedCondition.holds_at.Goals as goal

pub returns : goal.returns
returns c =
    let W = world_at c.args._sites.now in
    let s = c.args._site in
    let state = c.args.state.now in
    let es = c.by_recall.result.now.entries in
    IfOk-weaker c.each_entry.result
    (λ b. IsTrue b ↔ Each es (λ _ items. (i j : List ℕ) → IsTrue (set.contains items i) → Inside state.captured i j → IsTrue (set.contains items j)))
    (λ b. IsTrue b ↔ IsClosedAt W s)
    (λ b decides.
    let each = each_kept W s state c.requires.here b es (c.by_recall.ensures.entries ∙ ap entries c.quarantine.ensures)
    (λ _ items. (i j : List ℕ) → IsTrue (set.contains items i) → Inside state.captured i j → IsTrue (set.contains items j)) decides in (
      λ h r i j is made.
          let kept = kept_set (W s).quarantine r i is in
          held_is (W s).quarantine r kept.0 j kept.1 ∙ each.0 h r kept.0 kept.1 i j (sym (held_is (W s).quarantine r kept.0 i kept.1) ∙ is) (subst (λ z. Inside z.captured i j) (sym c.requires.here) made),
      λ closed. each.1 (λ r items kept i j is made.
          sym (held_is (W s).quarantine r items j kept) ∙ closed r i j (held_is (W s).quarantine r items i kept ∙ is) (subst (λ z. Inside z.captured i j) c.requires.here made)),
    ))
    c.each_entry.ensures
