use Rattle.std.proofs.Common.{◌∙◌, Some, refl, sym, ap, arith}
use mathlib.Core.Bool.{false≢true}
use Rattle.std.specs.Borrow.{Bor}
use Rattle.std.proofs.lemmas.List.{length-map}
use Rattle.trace_core.specs.Chains.{sites_at}
use Rattle.trace_core.specs.Sites.{SiteEvents}
use Rattle.trace_core.proofs.NumberLists.{some_is}
use Rattle.trace_core.proofs.Visiting.{site_stands}
use Rattle.gap_core.proofs.LineEventSteps.{is_later, is_the_first, none_before, one_more_before, site_there}
use Rattle.gap_core.proofs.event_places.is_first.Goals as goal

pub loop-place-init : goal.loop-place-init
loop-place-init c s so = none_before (sites_at c.args.sites.now) s.me

pub loop-place-preserved : goal.loop-place-preserved
loop-place-preserved c s so =
    let other = c.index-sites-place.result in
    let own = c.index-sites-at.result in
    let there = site_stands c.args.sites.now c.loop-place.place other (omega (arith, c.loop-place-test.true, c.requires)) ∙ ap (λ (r : Bor SiteEvents). Some r.now) (sym c.index-sites-place.is) in
    let here = site_stands c.args.sites.now c.args.at own (omega (arith, c.requires)) ∙ ap (λ (r : Bor SiteEvents). Some r.now) (sym c.index-sites-at.is) in
    one_more_before (sites_at c.args.sites.now) s.me c.loop-place.place other.now there
    (λ same. false≢true (sym c.if-have_one_number.false ∙ c.have_one_number.ensures.1 (same ∙ ap (λ (z : SiteEvents). z.me) (some_is s own.now (sym so ∙ here)))))
    (c.loop-place.invariant s so)

pub returns-then-have_one_number : goal.returns-then-have_one_number
returns-then-have_one_number c =
    let other = c.index-sites-place.result in
    let own = c.index-sites-at.result in
    let there = site_stands c.args.sites.now c.loop-place.place other (omega (arith, c.loop-place-test.true, c.requires)) ∙ ap (λ (r : Bor SiteEvents). Some r.now) (sym c.index-sites-place.is) in
    let here = site_stands c.args.sites.now c.args.at own (omega (arith, c.requires)) ∙ ap (λ (r : Bor SiteEvents). Some r.now) (sym c.index-sites-at.is) in (
      λ h. absurd (false≢true h),
      λ first. absurd (is_later (sites_at c.args.sites.now) c.args.at c.loop-place.place own.now other.now here there (omega (arith, c.loop-place-test.true)) (c.have_one_number.ensures.0 c.if-have_one_number.true) first),
    )

pub returns : goal.returns
returns c = (
  λ h.
      let (s, so) = site_there (sites_at c.args.sites.now) c.args.at (omega (arith, c.requires, length-map c.args.sites.now (λ (r : Bor SiteEvents). r.now))) in
      is_the_first (sites_at c.args.sites.now) c.args.at c.loop-place.place s so c.loop-place-test.false (c.loop-place.invariant s so),
  λ h. refl,
)
