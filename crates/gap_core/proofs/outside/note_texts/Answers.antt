use Rattle.std.proofs.Common.{◌≡◌, ℕ, List}
use Rattle.gap_core.specs.Batches.{KeepsPlace}
use Rattle.gap_core.proofs.Additions.{all_added, one_more}
use Rattle.gap_core.proofs.outside.note_texts.Goals as goal

pub loop-text-preserved : goal.loop-text-preserved
loop-text-preserved c =
    one_more (λ (text : List ℕ) (m : List ℕ × ℕ). (text ≡ m.0) × (c.args.place ≡ m.1)) c.args.texts.now c.loop-text.text-index (KeepsPlace c.args.outside.now) (KeepsPlace c.loop-text.outside) (KeepsPlace c.note_text.new.outside)
    c.text-item.result c.loop-text-test.true c.text-item.is c.loop-text.invariant c.in_ok-note_text.ensures

pub returns : goal.returns
returns c =
    all_added (λ (text : List ℕ) (m : List ℕ × ℕ). (text ≡ m.0) × (c.args.place ≡ m.1)) c.args.texts.now c.loop-text.text-index (KeepsPlace c.args.outside.now) (KeepsPlace c.loop-text.outside) c.loop-text-test.false c.loop-text.invariant
