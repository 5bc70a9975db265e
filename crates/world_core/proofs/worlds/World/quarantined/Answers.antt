use Rattle.std.proofs.Common.{◌∙◌, ap, map, subst}
use Rattle.world_core.specs.Keepers.{AllShow, SitesFit}
use Rattle.world_core.specs.Recalls.{quarantined}
use Rattle.world_core.proofs.Showing.{shown_exact}
use Rattle.world_core.proofs.worlds.World.quarantined.Goals as goal

-- what the records that are all shown give
pub returns-clause-ascending : goal.returns-clause-ascending
returns-clause-ascending g c =
    let shown = g.K.SiteKeeper.shown in
    let may = g.K.SiteKeeper.may in
    let rs = map (λ s. s.now) c.in_ok-states.states.items in
    let all = subst (λ ks. AllShow shown ks rs) (c.deref.ensures.value ∙ ap (λ s. s.keepers) c.self.view_is) c.in_ok-states.ensures.ok in
    let are = c.in_ok-quarantined.ensures.list ∙ ap (λ l. quarantined c.args.recall (map (λ s. s.now) l)) c.deref-2.ensures.value in
    (shown_exact shown may c.args.self.now c.args.recall rs c.in_ok-quarantined.field-0.items (subst (SitesFit shown may) c.self.view_is c.self.invariant.0) all are).0

pub returns-clause-exact : goal.returns-clause-exact
returns-clause-exact g c =
    let shown = g.K.SiteKeeper.shown in
    let may = g.K.SiteKeeper.may in
    let rs = map (λ s. s.now) c.in_ok-states.states.items in
    let all = subst (λ ks. AllShow shown ks rs) (c.deref.ensures.value ∙ ap (λ s. s.keepers) c.self.view_is) c.in_ok-states.ensures.ok in
    let are = c.in_ok-quarantined.ensures.list ∙ ap (λ l. quarantined c.args.recall (map (λ s. s.now) l)) c.deref-2.ensures.value in
    (shown_exact shown may c.args.self.now c.args.recall rs c.in_ok-quarantined.field-0.items (subst (SitesFit shown may) c.self.view_is c.self.invariant.0) all are).1
