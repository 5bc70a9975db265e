use Rattle.std.proofs.Common.{◌≡◌, Some, None, sym, ap, subst, ◌∙◌}
use Rattle.std.specs.FinMap.{get, get-empty}
use Rattle.frame_core.specs.Identifiers.{recall_cmp}
use Rattle.frame_core.proofs.Maps.{no_entries}
use Rattle.site_core.specs.HeldIndex.{IsIndex}
use Rattle.site_core.specs.ItemSets as set
use Rattle.site_core.proofs.HeldIndex.{index_of_nothing}
use Rattle.site_core.proofs.quarantines.Quarantine.new.Goals as goal

pub invariant_of-result : goal.invariant_of-result
invariant_of-result c = (
  λ r is.
      let twice : None ≡ Some set.empty = sym (ap (λ m. get m r) (no_entries c.new.result c.new.ensures.empty) ∙ get-empty recall_cmp r) ∙ is in cc,
  subst (IsIndex c.new-2.result) (sym (no_entries c.new.result c.new.ensures.empty)) (index_of_nothing c.new-2.result c.new-2.ensures.empty),
)

pub returns : goal.returns
returns c = no_entries c.new.result c.new.ensures.empty
