use Rattle.std.proofs.Common.{◌↔◌, ◌∙◌, ℕ, List, Some, sym, ap, subst, arith}
use mathlib.Core.Bool.{false≢true}
use Rattle.std.specs.Borrow.{Bor}
use Rattle.std.specs.List.{Contains}
use Rattle.std.proofs.lemmas.Result.{on_ok_weaker}
use Rattle.trace_core.specs.Chains.{sites_at}
use Rattle.trace_core.specs.Sites.{SiteEvents}
use Rattle.trace_core.proofs.NumberLists.{some_is}
use Rattle.trace_core.proofs.Visiting.{site_stands}
use Rattle.gap_core.specs.LineEvents.{IsFirstAt}
use Rattle.gap_core.proofs.LineEventSteps.{later_site, none_wanted, site_events}
use Rattle.gap_core.proofs.event_places.note_site.Goals as goal

pub returns-then-not-is_first : goal.returns-then-not-is_first
returns-then-not-is_first c = later_site c.args.kind (sites_at c.args.sites.now) c.args.pairs.now c.args.at c.args.index.now (λ first. false≢true (sym c.if-not-is_first.true ∙ c.is_first.ensures.1 first))

pub returns-then-len-eq0 : goal.returns-then-len-eq0
returns-then-len-eq0 c =
    let own = c.index-sites-at.result in
    let so = site_stands c.args.sites.now c.args.at own (omega (arith, c.requires.at)) ∙ ap (λ (r : Bor SiteEvents). Some r.now) (sym c.index-sites-at.is) in
    none_wanted c.args.kind (sites_at c.args.sites.now) c.args.pairs.now c.args.at own.now c.in_ok-wanted.wanted c.args.index.now so c.in_ok-wanted.ensures (omega (arith, c.if-len-eq0.true, c.len.ensures))

pub note_events-requires-clause-stands : goal.note_events-requires-clause-stands
note_events-requires-clause-stands c =
    site_stands c.args.sites.now c.args.at c.index-sites-at-2.result (omega (arith, c.requires.at)) ∙ ap (λ (r : Bor SiteEvents). Some r.now) (sym c.index-sites-at-2.is)

pub returns : goal.returns
returns c =
    let own = c.index-sites-at.result in
    let again = c.index-sites-at-2.result in
    let so = site_stands c.args.sites.now c.args.at own (omega (arith, c.requires.at)) ∙ ap (λ (r : Bor SiteEvents). Some r.now) (sym c.index-sites-at.is) in
    let also = site_stands c.args.sites.now c.args.at again (omega (arith, c.requires.at)) ∙ ap (λ (r : Bor SiteEvents). Some r.now) (sym c.index-sites-at-2.is) in
    let (s, first) = c.is_first.ensures.0 c.if-not-is_first.false in
    on_ok_weaker c.note_events.result
    (site_events c.args.kind (sites_at c.args.sites.now) c.args.pairs.now c.args.at again.now c.in_ok-wanted.wanted c.args.index.now c.note_events.new.index
    (subst (IsFirstAt (sites_at c.args.sites.now) c.args.at) (some_is s again.now (sym first.there ∙ also)) first)
    (subst (λ (z : SiteEvents). (i : List ℕ) → Contains c.in_ok-wanted.wanted i ↔ Contains c.args.pairs.now (record { site = z.me; item = i })) (some_is own.now again.now (sym so ∙ also)) c.in_ok-wanted.ensures))
    c.note_events.ensures
