use Rattle.std.proofs.Common.{◌≡◌, ◌∙◌, All, List, ap, if◌then◌else◌, subst, sym}
use Rattle.std.proofs.lemmas.List.Elements.{All-weaker}
use Rattle.trace_core.specs.Chains.{sites_at}
use Rattle.trace_core.specs.Relations.{IsChain}
use Rattle.trace_core.specs.Sites.{SiteEvents}
use Rattle.site_recovery.specs.Checking.{records_at}
use Rattle.site_recovery.specs.Laws.{captured_of}
use Rattle.report_core.specs.FirstPlaces.{AreWanted}
use Rattle.report_core.specs.Leaving.{IsShippedOut}
use Rattle.report_core.specs.OutsideEvents.{AreToldOutside}
use Rattle.report_core.specs.TrailEvents.{AreToldAlong, IsRelatedStep, pairs_shown}
use Rattle.report_core.specs.declared.trail_events.ShownSteps.TheVariants.{Each}
use Rattle.report_core.proofs.StepsWanted.{still_out, still_wanted}
use Rattle.report_core.proofs.with_events.events_along.Goals as goal

pub told_along-requires-clause-related : goal.told_along-requires-clause-related
told_along-requires-clause-related g c =
    let own : c.in_ok-relating.relating.sites ≡ captured_of (records_at c.args.sites.now) = c.in_ok-relating.ensures.sites ∙ ap sites_at c.as_slice.ensures.value ∙ c.in_ok-captured.ensures in
    subst (λ (sites : List SiteEvents). All (IsChain (IsRelatedStep sites)) (g.T.ShownTrails.trails c.args.trails.now)) (sym own) c.requires.related

pub told_along-requires-clause-wanted : goal.told_along-requires-clause-wanted
told_along-requires-clause-wanted g c =
    let shown = if c.args.brief then g.T.ShownTrails.step c.args.trails.now else Each in
    let old = c.in_ok-wanted.wanted in
    let mid = c.add_outside.new.wanted in
    let new = c.in_ok-relating.relating.wanted in
    All-weaker (λ trail. AreWanted old (pairs_shown shown trail)) (λ trail. AreWanted new (pairs_shown shown trail))
    (λ trail wanted. still_wanted mid new c.in_ok-relating.ensures.wanted (pairs_shown shown trail) (still_wanted old mid c.in_ok-add_outside.ensures.before (pairs_shown shown trail) wanted))
    (g.T.ShownTrails.trails c.args.trails.now) c.in_ok-wanted.ensures

pub told_outside-requires-clause-out : goal.told_outside-requires-clause-out
told_outside-requires-clause-out g c =
    let own : c.in_ok-relating.relating.sites ≡ captured_of (records_at c.args.sites.now) = c.in_ok-relating.ensures.sites ∙ ap sites_at c.as_slice.ensures.value ∙ c.in_ok-captured.ensures in
    subst (λ (sites : List SiteEvents). All (IsShippedOut sites) c.args.outside.now) (sym own) c.requires.out

pub told_outside-requires-clause-wanted : goal.told_outside-requires-clause-wanted
told_outside-requires-clause-wanted g c =
    still_out c.add_outside.new.wanted c.in_ok-relating.relating.wanted c.in_ok-relating.ensures.wanted c.args.outside.now c.in_ok-add_outside.ensures.new

pub returns-clause-steps : goal.returns-clause-steps
returns-clause-steps g c =
    let own : c.in_ok-relating.relating.sites ≡ captured_of (records_at c.args.sites.now) = c.in_ok-relating.ensures.sites ∙ ap sites_at c.as_slice.ensures.value ∙ c.in_ok-captured.ensures in
    let shown = if c.args.brief then g.T.ShownTrails.step c.args.trails.now else Each in
    subst (λ (sites : List SiteEvents). AreToldAlong sites shown (g.T.ShownTrails.trails c.args.trails.now) c.in_ok-steps.steps.items) own c.in_ok-steps.ensures

pub returns-clause-outside : goal.returns-clause-outside
returns-clause-outside g c =
    let own : c.in_ok-relating.relating.sites ≡ captured_of (records_at c.args.sites.now) = c.in_ok-relating.ensures.sites ∙ ap sites_at c.as_slice.ensures.value ∙ c.in_ok-captured.ensures in
    subst (λ (sites : List SiteEvents). AreToldOutside sites c.args.outside.now c.in_ok-outside.outside) own c.in_ok-outside.ensures
