use Rattle.std.proofs.Common.{◌⊎◌, ◌↔◌, inl, inr, ℕ, List, refl, ap, ◌∙◌}
use Rattle.std.specs.FinMap.{entries}
use Rattle.std.specs.Prelude.{IsTrue}
use Rattle.std.proofs.lemmas.Result.{IfOk-weaker}
use Rattle.frame_core.specs.Numbers.{Recall}
use Rattle.site_core.specs.ItemSets as set
use Rattle.site_core.specs.Quarantines.{held}
use Rattle.site_core.specs.Ways as ways
use Rattle.site_recovery.specs.Checking.{world_at}
use Rattle.site_recovery.specs.Looks.{Held}
use Rattle.site_recovery.proofs.MapsOfSites.{Each, each_kept}
use Rattle.site_recovery.proofs.QuarantinedItems.{each_held}
use Rattle.site_recovery.proofs.telling.TellingTestRefSiteState.passes.Goals as goal

pub returns : goal.returns
returns c =
    let t = c.args.self.now in
    let state = c.args.state.now.now in
    let told = c.in_ok-told.told in
    let es = c.by_recall.result.now.entries in
    let W = world_at t.sites.now in
    IfOk-weaker c.each_entry.result
    (λ b. IsTrue b ↔ Each es (λ r items. (i : List ℕ) → IsTrue (set.contains items i) → ways.ShipsTo state i t.to → IsTrue (held told r i) ⊎ Held W t.to r i))
    (λ b. IsTrue b ↔ ((r : Recall) (i : List ℕ) → ways.Holds state r i → ways.ShipsTo state i t.to → ways.Tells state t.to r i ⊎ Held W t.to r i))
    (λ b decides.
    let each = each_held state.quarantine (λ r i. ways.ShipsTo state i t.to → IsTrue (held told r i) ⊎ Held W t.to r i) b
    (each_kept (λ _. state) 0 state refl b es (c.by_recall.ensures.entries ∙ ap entries c.quarantine.ensures)
    (λ r items. (i : List ℕ) → IsTrue (set.contains items i) → ways.ShipsTo state i t.to → IsTrue (held told r i) ⊎ Held W t.to r i) decides) in (
      λ h r i is ships. elim (each.0 h r i is ships) as (λ _. ways.Tells state t.to r i ⊎ Held W t.to r i) [
        | inl tells ↦ inl ((c.in_ok-told.ensures r i).0 tells)
        | inr there ↦ inr there
      ],
      λ all. each.1 (λ r i is ships. elim (all r i is ships) as (λ _. IsTrue (held told r i) ⊎ Held W t.to r i) [
        | inl tells ↦ inl ((c.in_ok-told.ensures r i).1 tells)
        | inr there ↦ inr there
      ]),
    ))
    c.each_entry.ensures
