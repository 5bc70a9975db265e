use Rattle.std.proofs.Common.{◌≡◌, ◌≤◌, ℕ, List, Some, slice_get, arith}
use Rattle.std.proofs.lemmas.List.{get_or_default}
use Rattle.trace_core.specs.Numbers.{numbered}
use Rattle.gap_core.specs.Packers.{IsFrom}
use Rattle.gap_core.proofs.Additions.{all_added, one_more}
use Rattle.gap_core.proofs.PackerSteps.{site_from}
use Rattle.gap_core.proofs.packers.note_site.Goals as goal

pub loop-number-preserved : goal.loop-number-preserved
loop-number-preserved c =
    one_more (λ (n : ℕ) (m : List ℕ × ℕ). (slice_get (numbered c.args.site.now.events) n ≡ Some m.0) × (c.args.site.now.me ≤ m.1)) c.children_of-number-items.result.now c.loop-number.number-index
    (IsFrom c.args.packers.now) (IsFrom c.loop-number.packers) (IsFrom c.note_number.new.packers)
    _ c.loop-number-test.true (get_or_default c.children_of-number-items.result.now c.loop-number.number-index _ _ (omega (arith, c.loop-number-test.true))) c.loop-number.invariant c.in_ok-note_number.ensures

pub returns : goal.returns
returns c =
    site_from c.args.packers.now c.loop-number.packers c.args.site.now c.args.container.now c.children_of-number-items.result.now c.children_of-number-items.ensures
    (all_added (λ (n : ℕ) (m : List ℕ × ℕ). (slice_get (numbered c.args.site.now.events) n ≡ Some m.0) × (c.args.site.now.me ≤ m.1)) c.children_of-number-items.result.now c.loop-number.number-index
    (IsFrom c.args.packers.now) (IsFrom c.loop-number.packers) c.loop-number-test.false c.loop-number.invariant)
