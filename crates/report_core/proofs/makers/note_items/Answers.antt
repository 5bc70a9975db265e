use Rattle.std.proofs.Common.{◌≡◌, ℕ, List}
use Rattle.report_core.specs.Sources.{IsWanted, Keeps}
use Rattle.report_core.specs.declared.makers.EventPlace.{EventPlace}
use Rattle.report_core.proofs.Additions.{one_more, all_added}
use Rattle.report_core.proofs.makers.note_items.Goals as goal

pub loop-item-preserved : goal.loop-item-preserved
loop-item-preserved c =
    one_more (λ (i : List ℕ) (m : List ℕ × EventPlace). IsWanted c.args.wanted i × (i ≡ m.0) × (c.args.place ≡ m.1)) c.args.items.now c.loop-item.item-index (Keeps c.args.index.now) (Keeps c.loop-item.index) (Keeps c.note_wanted.new.index)
    c.item-item.result c.loop-item-test.true c.item-item.is c.loop-item.invariant c.in_ok-note_wanted.ensures

pub returns : goal.returns
returns c =
    all_added (λ (i : List ℕ) (m : List ℕ × EventPlace). IsWanted c.args.wanted i × (i ≡ m.0) × (c.args.place ≡ m.1)) c.args.items.now c.loop-item.item-index (Keeps c.args.index.now) (Keeps c.loop-item.index) c.loop-item-test.false c.loop-item.invariant
