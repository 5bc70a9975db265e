use Rattle.std.proofs.Common.{◌↔◌, ℕ, List, subst, sym}
use mathlib.Core.Logic.{inl}
use Rattle.std.specs.List.{Any, Contains}
use Rattle.std.proofs.lemmas.Result.{IfOk-weaker}
use Rattle.trace_core.specs.Gaps.{ShipsTo}
use Rattle.gap_core.specs.Shipments.{ArePlacesTo, IsShippedAt}
use Rattle.gap_core.proofs.ShippedItems.{shipped_there}
use Rattle.gap_core.proofs.searches.starts_to.Goals as goal

pub returns : goal.returns
returns c =
    let events = c.args.site.now.events in
    let there = shipped_there events (inl c.args.to.now.me) c.as_slice.result.now
    (subst (ArePlacesTo events (inl c.args.to.now.me)) (sym c.as_slice.ensures) (subst (λ n. ArePlacesTo events (inl n) c.in_ok-places.places) c.me.ensures c.in_ok-places.ensures)) in
    IfOk-weaker c.shipped_items.result (λ items. (i : List ℕ) → Contains items i ↔ IsShippedAt events c.as_slice.result.now i)
    (λ items. (i : List ℕ) → Contains items i ↔ Any (λ e. ShipsTo i (inl c.args.to.now.me) e.body) events)
    (λ items are i. (λ h. (there i).0 ((are i).0 h), λ h. (are i).1 ((there i).1 h)))
    c.shipped_items.ensures
