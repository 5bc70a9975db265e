use Rattle.std.proofs.Common.{◌≡◌, List, ℕ}
use Rattle.std.specs.List.{Contains}
use Rattle.gap_core.specs.Adding.{ByOne}
use Rattle.gap_core.proofs.Notings.{all_noted, each_itself, notes_alike, one_more_noted}
use Rattle.gap_core.proofs.shipments.note_items.Goals as goal

pub loop-item-preserved : goal.loop-item-preserved
loop-item-preserved c =
    one_more_noted (λ (y z : List ℕ). y ≡ z) c.args.some.now c.loop-item.item-index c.item-item.result c.loop-item-test.true c.item-item.is c.args.items.now c.loop-item.items c.note.new.self c.loop-item.invariant c.in_ok-note.ensures

pub returns : goal.returns
returns c =
    notes_alike (ByOne c.args.some.now (λ (y z : List ℕ). y ≡ z)) (Contains c.args.some.now) c.args.items.now c.loop-item.items (each_itself c.args.some.now)
    (all_noted (λ (y z : List ℕ). y ≡ z) c.args.some.now c.loop-item.item-index c.loop-item-test.false c.args.items.now c.loop-item.items c.loop-item.invariant)
