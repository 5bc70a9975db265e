use Rattle.std.proofs.Common.{arith, sym, ap, ◌∙◌, Some, [], ◌∷◌}
use Rattle.wire_core.specs.Mailboxes.{word_of, slot_of}
use Rattle.wire_core.specs.declared.views.Doing.TheVariants.{Writes}
use Rattle.wire_core.proofs.AtSeat.{publishes_at}
use Rattle.wire_core.proofs.steps.publish.Goals as goal

pub store-requires : goal.store-requires
store-requires c =
    let q = c.requires in
    let f = q.frame.0 in
    let e = q.frame.4 in
    let from = sym q.frame.2 in
    let to = sym q.frame.3 in
    let w = c.word_index.ensures in
    let s = q.sites in
    let l = q.layout in (
      q.seat,
      omega arith,
      publishes_at _ _ _ _ _ _ f e (λ same. s.0 (from ∙ same ∙ sym to)) (q.frame.1 ∙ (λ k. (slot_of (from k) (to k), Some f) ∷ [])) (w ∙ (λ k. word_of (from k) (to k))) (let t = s.2 in let u = sym to in omega arith) q.frame.5 (q.frame.6 ∙ from)
          (q.frame.7 ∙ ap Writes to) q.frame.8,
    )
