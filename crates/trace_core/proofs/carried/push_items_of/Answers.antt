use Rattle.std.proofs.Common.{◌↔◌, List, subst, arith}
use mathlib.Core.Logic.{◌⊎◌}
use Rattle.std.specs.List.{Contains}
use Rattle.std.proofs.lemmas.List.{take_all}
use Rattle.trace_core.specs.declared.sendings.Sending.{Sending}
use Rattle.trace_core.specs.Sendings.{HasItemOf}
use Rattle.trace_core.proofs.HeldItems.{no_items_more, one_item_more}
use Rattle.trace_core.proofs.carried.push_items_of.Goals as goal

pub loop-sending-init : goal.loop-sending-init
loop-sending-init c = no_items_more c.args.book.now c.args.found.now.items

pub loop-sending-preserved : goal.loop-sending-preserved
loop-sending-preserved c = one_item_more c.args.book.now c.args.found.now.items c.loop-sending.found.items c.push_item.new.found.items c.args.sendings.now c.loop-sending.sending-index c.sending-item.result
    (omega (arith, c.loop-sending-test.true)) c.sending-item.is c.loop-sending.invariant c.in_ok-push_item.ensures

pub returns : goal.returns
returns c i = subst (λ (ss : List Sending). Contains c.loop-sending.found.items i ↔ (Contains c.args.found.now.items i ⊎ HasItemOf c.args.book.now ss i))
    (take_all c.loop-sending.sending-index c.args.sendings.now (omega (arith, c.loop-sending-test.false))) (c.loop-sending.invariant i)
