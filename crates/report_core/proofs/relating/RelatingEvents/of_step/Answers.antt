use Rattle.std.proofs.Common.{rules, ◌≡◌, ◌≢◌, ◌∙◌, Some, ap, slice_get, subst, sym, arith}
use Rattle.std.specs.Borrow.{Bor}
use Rattle.std.specs.Prelude.{IfOk}
use Rattle.std.proofs.lemmas.Result.{IfOk-weaker}
use Rattle.trace_core.specs.Chains.{sites_at}
use Rattle.trace_core.specs.Sites.{SiteEvents}
use Rattle.trace_core.proofs.Visiting.{site_stands}
use Rattle.report_core.specs.TrailEvents.{AnswersStep}
use Rattle.report_core.specs.FirstPlaces.{AnswersMake, AnswersShipment, Relating}
use Rattle.report_core.proofs.EventsRelating.{no_step, step_of_make, step_of_shipment}
use Rattle.report_core.proofs.relating.RelatingEvents.of_step.Goals as goal

pub returns-then-eq : goal.returns-then-eq
returns-then-eq c =
    let sites = c.args.self.now.sites in
    let own = sites_at c.self.inside.sites.now in
    let p = c.args.from.now in
    let q = c.args.to.now in
    let s = c.index-self-number.result.now in
    let number = c.number-number.result in
    let there : slice_get own number ≡ Some s = site_stands c.self.inside.sites.now number c.index-self-number.result (omega (arith, c.if-number-self.false)) ∙ ap (λ (r : Bor SiteEvents). Some r.now) (sym c.index-self-number.is) in
    let stands : slice_get sites p.site ≡ Some s = subst (λ (r : Relating). slice_get r.sites p.site ≡ Some s) c.self.view_is (subst (λ n. slice_get own n ≡ Some s) c.number-number.ensures.value there) in
    let here : q.site ≡ s.me = search rules in
    IfOk-weaker c.make_of.result (AnswersMake s.events p.item q.item) (AnswersStep sites p q) (λ found answer. step_of_make sites p q s stands found here answer)
    (subst (λ (r : Bor SiteEvents). IfOk c.make_of.result (AnswersMake r.now.events p.item q.item)) (sym c.index-self-number.is) c.make_of.ensures)

pub returns-then-eq-2 : goal.returns-then-eq-2
returns-then-eq-2 c =
    let sites = c.args.self.now.sites in
    let own = sites_at c.self.inside.sites.now in
    let p = c.args.from.now in
    let q = c.args.to.now in
    let s = c.index-self-number.result.now in
    let number = c.number-number.result in
    let there : slice_get own number ≡ Some s = site_stands c.self.inside.sites.now number c.index-self-number.result (omega (arith, c.if-number-self.false)) ∙ ap (λ (r : Bor SiteEvents). Some r.now) (sym c.index-self-number.is) in
    let stands : slice_get sites p.site ≡ Some s = subst (λ (r : Relating). slice_get r.sites p.site ≡ Some s) c.self.view_is (subst (λ n. slice_get own n ≡ Some s) c.number-number.ensures.value there) in
    let apart : q.site ≢ s.me = search rules in
    let same : q.item ≡ p.item = search rules in
    IfOk-weaker c.shipment_of.result (AnswersShipment s.events q.item q.site) (AnswersStep sites p q) (λ found answer. step_of_shipment sites p q s stands found apart same answer)
    (subst (λ (r : Bor SiteEvents). IfOk c.shipment_of.result (AnswersShipment r.now.events q.item q.site)) (sym c.index-self-number.is) c.shipment_of.ensures)

pub returns-else-eq-2 : goal.returns-else-eq-2
returns-else-eq-2 c =
    let sites = c.args.self.now.sites in
    let own = sites_at c.self.inside.sites.now in
    let p = c.args.from.now in
    let q = c.args.to.now in
    let s = c.index-self-number.result.now in
    let number = c.number-number.result in
    let there : slice_get own number ≡ Some s = site_stands c.self.inside.sites.now number c.index-self-number.result (omega (arith, c.if-number-self.false)) ∙ ap (λ (r : Bor SiteEvents). Some r.now) (sym c.index-self-number.is) in
    let stands : slice_get sites p.site ≡ Some s = subst (λ (r : Relating). slice_get r.sites p.site ≡ Some s) c.self.view_is (subst (λ n. slice_get own n ≡ Some s) c.number-number.ensures.value there) in
    let apart : q.site ≢ s.me = search rules in
    let other : q.item ≢ p.item = search rules in
    no_step sites p q s stands apart other
