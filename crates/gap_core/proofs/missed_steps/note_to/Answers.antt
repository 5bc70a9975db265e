use Rattle.std.proofs.Common.{◌≡◌, ◌↔◌, ◌∙◌, ℕ, List, Some, sym, ap, subst, arith}
use mathlib.Core.Bool.{false≢true}
use Rattle.std.specs.Borrow.{Bor}
use Rattle.std.specs.List.{Contains}
use Rattle.std.proofs.lemmas.Result.{on_ok_weaker}
use Rattle.trace_core.specs.Chains.{sites_at}
use Rattle.trace_core.specs.Sites.{SiteEvents}
use Rattle.trace_core.specs.declared.pairs.Pair.{Pair}
use Rattle.trace_core.proofs.NumberLists.{some_is}
use Rattle.trace_core.proofs.Visiting.{site_stands}
use Rattle.gap_core.specs.Adding.{AddsToList}
use Rattle.gap_core.specs.GapItems.{IsSentBy}
use Rattle.gap_core.specs.Missed.{IsMissedIn}
use Rattle.gap_core.specs.MissedSteps.{IsStepFrom}
use Rattle.gap_core.proofs.MissedStepLists.{own_steps, steps_to}
use Rattle.gap_core.proofs.missed_steps.note_to.Goals as goal

pub returns-then-is_own : goal.returns-then-is_own
returns-then-is_own c =
    let own = c.index-sites-at.result in
    let so = site_stands c.args.sites.now c.args.at own (omega (arith, c.requires.at)) ∙ ap (λ (r : Bor SiteEvents). Some r.now) (sym c.index-sites-at.is) in
    own_steps (sites_at c.args.sites.now) c.args.at own.now so c.args.to c.args.steps.now.items (c.is_own.ensures.0 c.if-is_own.true)

pub returns : goal.returns
returns c =
    let sites = sites_at c.args.sites.now in
    let first = c.index-sites-at.result in
    let own = c.index-sites-at-2.result in
    let at_first = site_stands c.args.sites.now c.args.at first (omega (arith, c.requires.at)) ∙ ap (λ (r : Bor SiteEvents). Some r.now) (sym c.index-sites-at.is) in
    let so = site_stands c.args.sites.now c.args.at own (omega (arith, c.requires.at)) ∙ ap (λ (r : Bor SiteEvents). Some r.now) (sym c.index-sites-at-2.is) in
    let other = λ (is : c.args.to ≡ own.now.me). false≢true (sym c.if-is_own.false ∙ c.is_own.ensures.1 (is ∙ ap (λ (z : SiteEvents). z.me) (some_is own.now first.now (sym so ∙ at_first)))) in
    let missed = c.note_all.new.missed.items in
    on_ok_weaker c.push_steps.result
    (λ adds. steps_to sites c.args.at own.now so c.args.own.now c.args.known.now c.requires.own c.requires.known c.args.to other c.in_ok-places.places c.in_ok-places.ensures c.in_ok-told.told c.in_ok-sent.sent
    (λ i. subst (λ (xs : List ℕ). Contains c.in_ok-told.told i ↔ IsSentBy sites c.args.own.now c.args.at xs i) c.as_slice.ensures (c.in_ok-told.ensures i))
    (λ i. subst (λ (xs : List ℕ). Contains c.in_ok-sent.sent i ↔ IsSentBy sites c.args.known.now c.args.at xs i) c.as_slice-2.ensures (c.in_ok-sent.ensures i))
    missed
    (subst (λ (ps : List Pair). AddsToList ps missed (λ p. Contains c.in_ok-sent.sent p.item × IsMissedIn sites c.args.at c.in_ok-told.told p.item p)) c.new-missed.ensures.items c.in_ok-note_all.ensures)
    c.args.steps.now.items c.push_steps.new.steps.items
    (subst (λ (ps : List Pair). AddsToList c.args.steps.now.items c.push_steps.new.steps.items (IsStepFrom ps c.args.to)) c.deref.ensures.value adds))
    c.push_steps.ensures
