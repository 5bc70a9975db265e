use Rattle.std.proofs.Common.{◌++◌, not, filter, sym, ap, ◌∙◌, arith}
use Rattle.std.specs.Vec.Iter.{into_iter_items}
use Rattle.std.proofs.lemmas.List.{nil_from_length}
use Rattle.site_core.specs.Quarantines.{held}
use Rattle.site_core.proofs.Holders.{append_nil}
use Rattle.site_core.proofs.spreading.not_held.Goals as goal

pub returns : goal.returns
returns c =
    sym (append_nil c.loop-found.items.items)
    ∙ ap (λ es. c.loop-found.items.items ++ filter (λ j. not (held c.args.quarantine.now c.args.recall j)) es) (sym (nil_from_length (into_iter_items c.loop-found.found-iterator) (omega (arith, c.in-None.ensures.steps.0))))
    ∙ c.loop-found.invariant.all
    ∙ ap (filter (λ j. not (held c.args.quarantine.now c.args.recall j))) c.into_iter-found-iterator.ensures.into_iter_gives.0
