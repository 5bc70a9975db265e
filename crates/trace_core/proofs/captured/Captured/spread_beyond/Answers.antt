use Rattle.std.proofs.Common.{◌≡◌, ◌↔◌, ℕ, List}
use Rattle.std.specs.Cmp.Lexicographic.{slice_cmp}
use Rattle.std.specs.List.{Contains}
use Rattle.std.specs.Ordering.{nat_cmp}
use Rattle.std.specs.declared.cmp.Ordering.TheVariants.{Equal}
use Rattle.std.proofs.lemmas.Map.Lookups.{exact_bytes}
use Rattle.std.proofs.lemmas.Result.{IfOk-weaker}
use Rattle.trace_core.specs.Beyond.{IsSpreadBeyond}
use Rattle.trace_core.proofs.BeyondSteps.{same_items}
use Rattle.trace_core.proofs.captured.Captured.spread_beyond.Goals as goal

pub returns-clause-beyond : goal.returns-clause-beyond
returns-clause-beyond c = IfOk-weaker c.in_order.result
    (λ ordered. ((a b : List ℕ) → slice_cmp nat_cmp a b ≡ Equal → a ≡ b) → (k : List ℕ) → Contains ordered.items k ↔ Contains c.in_ok-found.found.items k)
    (λ ordered. IsSpreadBeyond c.args.self.now c.args.item.now c.args.stop.now c.args.seen.now c.items_beyond.new.seen ordered.items)
    (λ ordered same. same_items c.args.self.now c.args.stop.now c.args.item.now c.args.seen.now c.items_beyond.new.seen c.in_ok-found.found.items ordered.items (same exact_bytes) c.in_ok-found.ensures)
    c.in_order.ensures.same
