use Rattle.std.proofs.Common.{rules, ◌≡◌, Some, sym, ap, ◌∙◌, arith}
use Rattle.std.specs.Borrow.{Bor}
use Rattle.std.specs.List.{Contains, slice_get}
use Rattle.event_json.specs.Events.{Content}
use Rattle.trace_core.specs.Chains.{sites_at}
use Rattle.trace_core.specs.Groups.{first_of}
use Rattle.trace_core.specs.Sites.{SiteEvents}
use Rattle.trace_core.proofs.Visiting.{site_stands}
use Rattle.report_core.proofs.UnseenAdded.{new_group, known_group, mapped_from}
use Rattle.report_core.proofs.sources.push_inputs_of.Goals as goal

pub returns-in_ok-push_group : goal.returns-in_ok-push_group
returns-in_ok-push_group c =
    let own = c.index-sites-place.result in
    let stands = site_stands c.args.sites.now c.args.place.site own (omega (arith, c.if-place-sites.false)) ∙ ap (λ (r : Bor SiteEvents). Some r.now) (sym c.index-sites-place.is) in
    let here : own.now.me ≡ c.args.at = search rules in
    let (e, there, is) = mapped_from (λ (e : Content). first_of own.now.events c.args.place.event e.body) (slice_get own.now.events c.args.place.event) c.in-Some.first (sym c.in-Some.is ∙ c.first_part.ensures) in
    new_group (sites_at c.args.sites.now) c.args.at c.args.place own.now stands c.in-Some.first e there is here c.args.seen.now c.see.new.self (Contains c.args.found.now.items) (Contains c.push_group.new.found.items)
    c.in_ok-see.ensures.seen c.in_ok-push_group.ensures

pub returns-else-branch : goal.returns-else-branch
returns-else-branch c =
    let own = c.index-sites-place.result in
    let stands = site_stands c.args.sites.now c.args.place.site own (omega (arith, c.if-place-sites.false)) ∙ ap (λ (r : Bor SiteEvents). Some r.now) (sym c.index-sites-place.is) in
    let here : own.now.me ≡ c.args.at = search rules in
    let (e, there, is) = mapped_from (λ (e : Content). first_of own.now.events c.args.place.event e.body) (slice_get own.now.events c.args.place.event) c.in-Some.first (sym c.in-Some.is ∙ c.first_part.ensures) in
    known_group (sites_at c.args.sites.now) c.args.at c.args.place own.now stands c.in-Some.first e there is here c.args.seen.now c.see.new.self (Contains c.args.found.now.items)
    c.in_ok-see.ensures.seen (sym c.if-branch.false ∙ c.in_ok-see.ensures.new)
