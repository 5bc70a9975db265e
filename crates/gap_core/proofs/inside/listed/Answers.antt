use Rattle.std.proofs.Common.{◌≡◌, ℕ, List, [], Some, slice_get, arith}
use Rattle.std.specs.List.{Contains}
use Rattle.gap_core.proofs.Additions.{more_before}
use Rattle.gap_core.proofs.InsideSteps.{all_listed}
use Rattle.gap_core.proofs.inside.listed.Goals as goal

pub loop-place-preserved : goal.loop-place-preserved
loop-place-preserved c =
    more_before (λ (k : ℕ) (i : List ℕ). slice_get c.args.found.now k ≡ Some i) c.loop-place.place (Contains []) (Contains c.loop-place.items.items) (Contains c.push_at.new.items.items)
    c.loop-place.invariant c.in_ok-push_at.ensures

pub returns : goal.returns
returns c =
    all_listed c.args.found.now c.loop-place.items.items c.loop-place.place (omega (arith, c.loop-place-test.false, c.len-place-end.ensures)) c.loop-place.invariant
