use Rattle.std.proofs.Common.{◌≡◌, ◌∙◌, Some, ap, slice_get, subst, sym, arith}
use Rattle.std.specs.Borrow.{Bor}
use Rattle.std.specs.Prelude.{IfOk}
use Rattle.std.proofs.lemmas.Result.{IfOk-weaker}
use Rattle.trace_core.specs.Chains.{sites_at}
use Rattle.trace_core.specs.Sites.{SiteEvents}
use Rattle.trace_core.proofs.Visiting.{site_stands}
use Rattle.report_core.specs.FirstPlaces.{Relating}
use Rattle.report_core.specs.Leaving.{AnswersLeaving, AnswersOutside}
use Rattle.report_core.proofs.Leavings.{of_its_site}
use Rattle.report_core.proofs.relating.RelatingEvents.of_outside.Goals as goal

pub returns : goal.returns
returns c =
    let sites = c.args.self.now.sites in
    let own = sites_at c.self.inside.sites.now in
    let x = c.args.shipment.now in
    let s = c.index-self-number.result.now in
    let number = c.number-number.result in
    let there : slice_get own number ≡ Some s = site_stands c.self.inside.sites.now number c.index-self-number.result (omega (arith, c.if-number-self.false)) ∙ ap (λ (r : Bor SiteEvents). Some r.now) (sym c.index-self-number.is) in
    let stands : slice_get sites x.site ≡ Some s = subst (λ (r : Relating). slice_get r.sites x.site ≡ Some s) c.self.view_is (subst (λ n. slice_get own n ≡ Some s) c.number-number.ensures.value there) in
    IfOk-weaker c.leaving_of.result (AnswersLeaving s.events x.item x.destination) (AnswersOutside sites x) (λ found answer. of_its_site sites x s stands found answer)
    (subst (λ (r : Bor SiteEvents). IfOk c.leaving_of.result (AnswersLeaving r.now.events x.item x.destination)) (sym c.index-self-number.is) c.leaving_of.ensures)
