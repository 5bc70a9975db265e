use Rattle.std.proofs.Common.{rules, ◌≡◌, ◌↔◌, ℕ, List, [], Some, sym, ap, ◌∙◌, subst, arith}
use Rattle.std.specs.Borrow.{Bor}
use Rattle.std.proofs.lemmas.Result.{on_ok_weaker}
use Rattle.trace_core.specs.Chains.{sites_at}
use Rattle.trace_core.specs.Sites.{SiteEvents}
use Rattle.trace_core.proofs.Visiting.{site_stands}
use Rattle.gap_core.specs.Adding.{AddsToList, ByOne}
use Rattle.gap_core.specs.GapItems.{IsGapAt}
use Rattle.gap_core.specs.GapPacks.{IsEdgeOf, KeepsEdge}
use Rattle.gap_core.specs.declared.gap_items.GapItem.{GapItem}
use Rattle.gap_core.proofs.PackSteps.{packs_at}
use Rattle.gap_core.proofs.packs.note_packs.Goals as goal

pub returns : goal.returns
returns c =
    let own = c.index-sites-at-2.result in
    let stands = site_stands c.args.sites.now c.args.at own (omega (arith, c.requires.at)) ∙ ap (λ (r : Bor SiteEvents). Some r.now) (sym c.index-sites-at-2.is) in
    let none : c.new-gaps.result.items ≡ [] = search rules in
    let gaps = subst (λ (xs : List GapItem). AddsToList xs c.note_site_gaps.new.gaps.items (IsGapAt (sites_at c.args.sites.now) c.args.at)) none c.in_ok-note_site_gaps.ensures in
    let edges = subst (λ (xs : List GapItem). (m : List ℕ × List ℕ) → KeepsEdge c.in_ok-edges.edges m ↔ ByOne xs IsEdgeOf m) c.as_slice.ensures.value c.in_ok-edges.ensures in
    on_ok_weaker c.note_all.result
    (packs_at (sites_at c.args.sites.now) c.args.known.now c.requires.known c.args.at own.now stands c.note_site_gaps.new.gaps.items
    gaps c.in_ok-edges.edges edges c.me.result c.args.packs.now.items c.note_all.new.packs.items (c.me.ensures))
    c.note_all.ensures
