use Rattle.std.proofs.Common.{◌≡◌, take, drop, ap, sym, ◌∙◌, subst, string_bytes}
use Rattle.std.proofs.lemmas.List.{take_rest, drop_all}
use Rattle.epc_core.specs.KeptTexts.{kept_text, IsKept}
use Rattle.epc_core.proofs.Held.{held_front}
use Rattle.epc_core.proofs.item_texts.ItemText.rest.Goals as goal

pub returns-in-Inside : goal.returns-in-Inside
returns-in-Inside c =
    let kept = subst IsKept c.in-Inside.is c.self.invariant in
    let same : take c.in-Inside.count c.in-Inside.bytes ≡ c.args.self.now = ap kept_text (sym c.in-Inside.is) ∙ c.self.view_is in
    sym (drop_all 30 c.args.self.now (held_front 30 _ _ _ kept.0 same).1)

pub returns-in-Heap : goal.returns-in-Heap
returns-in-Heap c =
    let same : string_bytes c.in-Heap.text ≡ c.args.self.now = ap kept_text (sym c.in-Heap.is) ∙ c.self.view_is in
    take_rest c.as_bytes.result.now 30 ∙ ap (drop 30) (c.as_bytes.ensures.value ∙ same)
