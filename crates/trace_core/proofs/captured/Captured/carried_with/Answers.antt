use Rattle.std.proofs.Common.{◌≡◌, ◌↔◌, ℕ, true, List, subst}
use mathlib.Core.Logic.{◌⊎◌}
use Rattle.std.specs.Cmp.Lexicographic.{slice_cmp}
use Rattle.std.specs.List.{Contains}
use Rattle.std.specs.Ordering.{nat_cmp}
use Rattle.std.specs.declared.cmp.Ordering.TheVariants.{Equal}
use Rattle.std.proofs.lemmas.Map.Lookups.{exact_bytes}
use Rattle.std.proofs.lemmas.Result.{IfOk-weaker}
use Rattle.event_json.specs.Events.{Content}
use Rattle.trace_core.specs.declared.sendings.Sending.{Sending}
use Rattle.trace_core.specs.Numbers.{numbered}
use Rattle.trace_core.specs.Pairs.{Carries}
use Rattle.trace_core.specs.PairTests.{lists}
use Rattle.trace_core.specs.Relations.{ReachedFrom}
use Rattle.trace_core.specs.Sendings.{HasItemOf}
use Rattle.trace_core.proofs.HeldItems.{all_held}
use Rattle.trace_core.proofs.captured.Captured.carried_with.Goals as goal

pub returns-clause-exact : goal.returns-clause-exact
returns-clause-exact c =
    let all = all_held c.args.self.now.events c.args.items.now c.in_ok-carried.carried c.push_items_of.new.found.items
    (λ i. subst (λ (es : List Content). HasItemOf es c.in_ok-carried.carried i ↔ ((lists (numbered es) i ≡ true) × ReachedFrom (Carries es) c.args.items.now i)) c.book.ensures (c.in_ok-carried.ensures i))
    (λ i. subst (λ (given : List (List ℕ)). Contains c.push_items_of.new.found.items i ↔ (Contains given i ⊎ HasItemOf c.args.self.now.events c.in_ok-carried.carried i)) c.in_ok-found.ensures
    (subst (λ (es : List Content). Contains c.push_items_of.new.found.items i ↔ (Contains c.in_ok-found.found.items i ⊎ HasItemOf es c.in_ok-carried.carried i)) c.book-2.ensures
    (subst (λ (ss : List Sending). Contains c.push_items_of.new.found.items i ↔ (Contains c.in_ok-found.found.items i ⊎ HasItemOf c.book-2.result.now ss i)) c.as_slice.ensures.members (c.in_ok-push_items_of.ensures i)))) in
    IfOk-weaker c.in_order.result
    (λ ordered. ((a b : List ℕ) → slice_cmp nat_cmp a b ≡ Equal → a ≡ b) → (k : List ℕ) → Contains ordered.items k ↔ Contains c.push_items_of.new.found.items k)
    (λ ordered. (j : List ℕ) → Contains ordered.items j ↔ ReachedFrom (Carries c.args.self.now.events) c.args.items.now j)
    (λ ordered same j. let both = same exact_bytes j in (λ h. (all j).0 (both.0 h), λ h. both.1 ((all j).1 h)))
    c.in_order.ensures.same
