use Rattle.std.proofs.Common.{sym, ap, ◌∙◌}
use Rattle.std.specs.FinMap.{get, len-empty}
use Rattle.std.specs.Option.{option_map}
use Rattle.site_core.specs.ItemSets as set
use Rattle.site_core.specs.Quarantines.{or_none}
use Rattle.query_core.proofs.standings.quarantined_at.Goals as goal

pub returns-in-None : goal.returns-in-None
returns-in-None c =
    let none = sym (ap (option_map (λ items. items.now)) c.in-None.is) ∙ c.under.ensures in
    sym (ap (λ found. set.len (or_none found)) (ap (λ q. get q c.args.recall) (sym c.quarantine.ensures) ∙ sym none) ∙ len-empty set.item_cmp (Unit {0}))
