use Rattle.std.proofs.Common.{◌≡◌, ◌≤◌, length, take, ap, sym, ◌∙◌, subst, string_bytes, arith}
use Rattle.std.proofs.lemmas.List.{length-take-le}
use Rattle.epc_core.specs.KeptTexts.{kept_text, IsKept}
use Rattle.epc_core.specs.Spellings.{IsPlain}
use Rattle.epc_core.proofs.Held.{held_front, length-front, long_front}
use Rattle.epc_core.proofs.item_texts.ItemText.front.Goals as goal

pub slice_bounds-result-end-in-Heap : goal.slice_bounds-result-end-in-Heap
slice_bounds-result-end-in-Heap c =
    let long = (subst IsKept c.in-Heap.is c.self.invariant).0 in
    let all : length c.as_bytes.result.now ≡ length (string_bytes c.in-Heap.text) = ap length c.as_bytes.ensures.value in
    sym (length-take-le 30 c.as_bytes.result.now (omega arith))

pub returns-in-Inside : goal.returns-in-Inside
returns-in-Inside c =
    let kept = subst IsKept c.in-Inside.is c.self.invariant in
    let same : take c.in-Inside.count c.in-Inside.bytes ≡ c.args.self.now = ap kept_text (sym c.in-Inside.is) ∙ c.self.view_is in
    let front = (held_front 30 _ _ _ kept.0 same).0 in
    record {
      bytes = front;
      counted = ap length front ∙ length-front 30 c.args.self.now;
      plain = subst IsPlain same kept.2;
    }

pub returns-in-Heap : goal.returns-in-Heap
returns-in-Heap c =
    let kept = subst IsKept c.in-Heap.is c.self.invariant in
    let same : string_bytes c.in-Heap.text ≡ c.args.self.now = ap kept_text (sym c.in-Heap.is) ∙ c.self.view_is in
    let long : 30 ≤ length c.args.self.now = let above = kept.0 in omega (arith, ap length same) in
    let front = long_front 30 c.as_bytes.result.now c.args.self.now (c.as_bytes.ensures.value ∙ same) long in
    record {
      bytes = front;
      counted = ap length front ∙ length-front 30 c.args.self.now;
      plain = subst IsPlain same kept.1;
    }
