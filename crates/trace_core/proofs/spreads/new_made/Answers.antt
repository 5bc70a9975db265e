use Rattle.std.proofs.Common.{◌||◌, ℕ, List, [], refl, ap, ◌∙◌, arith}
use Rattle.std.proofs.lemmas.List.{nil_from_length}
use Rattle.event_json.specs.Events.{Content}
use Rattle.trace_core.specs.Gathering.{is_in, added_by}
use Rattle.trace_core.proofs.AddedPairs.{none_taken, one_taken, newly_made, nothing_made}
use Rattle.trace_core.proofs.spreads.new_made.Goals as goal

pub returns-then-is_empty : goal.returns-then-is_empty
returns-then-is_empty c e is = nothing_made c.args.site.now c.args.body.now c.args.item.now e is [] c.gather_added.new.pairs (nil_from_length c.gather_added.new.pairs.keys (c.if-is_empty.ensures.0 refl))
    (none_taken c.args.site.now c.args.body.now c.args.item.now [] c.new-pairs.result c.gather_added.new.pairs c.new-pairs.ensures.empty
    (λ q. c.in_ok-gather_added.ensures q
    ∙ ap (λ (me : ℕ). is_in c.new-pairs.result q || added_by me c.book.result.now c.args.item.now c.args.body.now q) c.me.ensures
    ∙ ap (λ (es : List Content). is_in c.new-pairs.result q || added_by c.args.site.now.me es c.args.item.now c.args.body.now q) c.book.ensures))

pub loop-pair-preserved : goal.loop-pair-preserved
loop-pair-preserved c = one_taken c.args.site.now c.args.body.now c.args.item.now c.deref-pair-items.result.now c.loop-pair.pairs c.remove.new.self c.loop-pair.pair-index c.pair-item.result
    (omega arith) c.pair-item.is c.remove.ensures.updates c.loop-pair.invariant

pub returns : goal.returns
returns c e is = newly_made c.args.site.now c.args.body.now c.args.item.now e is c.deref-pair-items.result.now c.loop-pair.pairs c.loop-pair.pair-index (omega (arith, c.loop-pair-test.false))
    (rw c.deref-pair-items.ensures.value c.in_ok-before.ensures.exact) c.loop-pair.invariant
