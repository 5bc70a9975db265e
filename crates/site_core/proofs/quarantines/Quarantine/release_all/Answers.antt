use Rattle.std.proofs.Common.{◌∷◌, [], map, sym, ap, ◌∙◌}
use Rattle.std.proofs.lemmas.List.{map-append}
use Rattle.site_core.specs.Holding.{without_items}
use Rattle.site_core.proofs.Held.{without_last}
use Rattle.site_core.proofs.quarantines.Quarantine.release_all.Goals as goal

pub loop-item-preserved : goal.loop-item-preserved
loop-item-preserved c =
    ap (λ q. without_items q c.args.recall (map (λ i. i.now) c.pop.new.self.items)) c.release.ensures
    ∙ sym (without_last c.loop-item.self c.args.recall (map (λ i. i.now) c.pop.new.self.items) c.in-Some.item.now)
    ∙ ap (without_items c.loop-item.self c.args.recall) (sym (map-append (λ i. i.now) c.pop.new.self.items (c.in-Some.item ∷ [])) ∙ ap (map (λ i. i.now)) (sym c.in-Some.ensures.items))
    ∙ c.loop-item.invariant
