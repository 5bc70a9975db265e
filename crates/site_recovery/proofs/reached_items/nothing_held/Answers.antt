use Rattle.std.proofs.Common.{◌+◌, [], ◌∷◌, ◌++◌, get_or, length, ap, ◌∙◌, arith}
use Rattle.std.proofs.lemmas.List.{length_push}
use Rattle.std.specs.FinMap.{empty}
use Rattle.site_recovery.proofs.ReachedItems.{none_held_in, push_default}
use Rattle.site_recovery.proofs.reached_items.nothing_held.Goals as goal

pub loop-init : goal.loop-init
loop-init c = record { count = ap length c.new-reached.ensures.items; none = λ k. ap (λ xs. get_or xs k empty) c.new-reached.ensures.items }

pub loop-preserved : goal.loop-preserved
loop-preserved c =
    let pushed = c.in_ok-push.ensures.items ∙ ap (λ q. c.loop.reached.items ++ q ∷ []) c.new.ensures in
    record {
      count = ap length c.in_ok-push.ensures.items ∙ length_push c.loop.reached.items c.new.result ∙ ap (λ n. n + 1) c.loop.invariant.count;
      none = λ k. ap (λ xs. get_or xs k empty) pushed ∙ push_default empty c.loop.reached.items k ∙ c.loop.invariant.none k;
    }

pub returns : goal.returns
returns c = (omega (arith, c.loop.invariant.count, c.loop-test.false, c.loop.auto.counter-end), none_held_in c.loop.reached.items c.loop.invariant.none)
