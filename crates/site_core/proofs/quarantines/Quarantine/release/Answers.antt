use Rattle.std.proofs.Common.{sym, subst}
use Rattle.frame_core.specs.Identifiers.{recall_cmp}
use Rattle.frame_core.specs.Tables.{as_map}
use Rattle.site_core.specs.HeldIndex.{IsIndex}
use Rattle.site_core.specs.ItemSets as set
use Rattle.site_core.specs.Quarantines.{items_under, HasNoEmptySet}
use Rattle.site_core.proofs.Held.{no_empty_set}
use Rattle.site_core.proofs.HeldIndex.{index_without}
use Rattle.site_core.proofs.quarantines.Quarantine.release.Goals as goal

pub invariant_of-self : goal.invariant_of-self
invariant_of-self c =
    let q = as_map recall_cmp c.self.inside.recalls in (
      subst HasNoEmptySet (sym c.release_in.ensures) (no_empty_set q c.args.recall (set.remove (items_under q c.args.recall) c.args.item.now) c.self.invariant.0),
      subst (IsIndex c.forget.new.index) (sym c.release_in.ensures) (index_without c.self.inside.index c.forget.new.index q c.args.recall c.args.item.now c.self.invariant.1 c.forget.ensures),
    )
