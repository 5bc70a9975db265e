use Rattle.std.proofs.Common.{◌≡◌, ◌↔◌, ℕ, List, Some, None, refl, sym, ap, ◌∙◌}
use mathlib.Core.Bool.{false≢true}
use Rattle.std.specs.FinMap as finite
use Rattle.std.specs.List.{Contains}
use Rattle.std.specs.Option.{option_map}
use Rattle.std.specs.Prelude.{IsTrue}
use Rattle.std.proofs.lemmas.Result.{IfOk-weaker}
use Rattle.site_core.specs.Quarantines.{held}
use Rattle.site_core.proofs.Held.{none_held}
use Rattle.site_recovery.proofs.QuarantinedItems.{each_item, held_is}
use Rattle.site_recovery.proofs.narrowing.holds_within.Goals as goal

pub returns-in-Some : goal.returns-in-Some
returns-in-Some c =
    let r = c.args.recall in
    let q = c.args.state.now.quarantine in
    let items = c.in-Some.items.now in
    let reached = c.args.reached.now in
    let some : finite.get q r ≡ Some items = sym (sym (ap (option_map (λ items. items.now)) c.in-Some.is) ∙ c.under.ensures ∙ ap (λ z. finite.get z r) c.quarantine.ensures) in
    IfOk-weaker c.each_key.result
    (λ b. IsTrue b ↔ ((i : List ℕ) → Contains c.items.result.now.keys i → IsTrue (held reached r i)))
    (λ b. IsTrue b ↔ ((i : List ℕ) → IsTrue (held q r i) → IsTrue (held reached r i)))
    (λ b decides.
    let each = each_item items c.items.result.now.keys c.items.ensures.items (λ i. IsTrue (held reached r i)) b decides in
    (λ h i is. each.0 h i (sym (held_is q r items i some) ∙ is), λ all. each.1 (λ i is. all i (held_is q r items i some ∙ is))))
    c.each_key.ensures

pub returns-in-None : goal.returns-in-None
returns-in-None c =
    let r = c.args.recall in
    let q = c.args.state.now.quarantine in
    let none : finite.get q r ≡ None = sym (sym (ap (option_map (λ items. items.now)) c.in-None.is) ∙ c.under.ensures ∙ ap (λ z. finite.get z r) c.quarantine.ensures) in
    (λ _ i is. absurd (false≢true (sym (none_held q r i none) ∙ is)), λ _. refl)
