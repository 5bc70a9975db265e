use Rattle.std.proofs.Common.{◌++◌, sym, ap, subst, ◌∙◌}
use Rattle.std.specs.List.Sorted.{IsStrictlySortedBy}
use Rattle.frame_core.specs.Identifiers.{recall_cmp}
use Rattle.site_core.proofs.Holders.{append_nil}
use Rattle.site_core.proofs.holding.in_order.Goals as goal

pub returns-clause-keys : goal.returns-clause-keys
returns-clause-keys c = sym (append_nil c.loop-recall.out.items) ∙ ap (λ rs. c.loop-recall.out.items ++ rs) (sym c.in-None.ensures.steps.0) ∙ c.loop-recall.invariant

pub returns-clause-ascending : goal.returns-clause-ascending
returns-clause-ascending c = subst (IsStrictlySortedBy recall_cmp) (sym (sym (append_nil c.loop-recall.out.items) ∙ ap (λ rs. c.loop-recall.out.items ++ rs) (sym c.in-None.ensures.steps.0) ∙ c.loop-recall.invariant)) c.into_iter-recall-iterator.ensures.into_iter_gives.4
