use Rattle.std.proofs.Common.{Some, sym, ap, ◌∙◌, arith}
use mathlib.Core.Bool.{false≢true}
use Rattle.std.specs.Borrow.{Bor}
use Rattle.std.specs.List.{Contains}
use Rattle.std.proofs.lemmas.Result.{on_ok_weaker}
use Rattle.trace_core.specs.Chains.{sites_at}
use Rattle.trace_core.specs.Sites.{SiteEvents}
use Rattle.trace_core.proofs.Visiting.{site_stands}
use Rattle.gap_core.proofs.Notings.{noted_alone}
use Rattle.gap_core.proofs.PackSteps.{item_packs_at, no_item_packs, of_same_items}
use Rattle.gap_core.proofs.packs.note_item_packs.Goals as goal

pub returns-then-not-is_own : goal.returns-then-not-is_own
returns-then-not-is_own c =
    let own = c.index-sites-at.result in
    let stands = site_stands c.args.sites.now c.args.at own (omega (arith, c.requires.at)) ∙ ap (λ (r : Bor SiteEvents). Some r.now) (sym c.index-sites-at.is) in
    no_item_packs (sites_at c.args.sites.now) c.args.items.now c.args.site c.args.at own.now stands (λ same. false≢true (sym c.if-not-is_own.true ∙ c.is_own.ensures.1 (sym same))) c.args.packs.now.items

pub returns : goal.returns
returns c =
    let own = c.index-sites-at.result in
    let stands = site_stands c.args.sites.now c.args.at own (omega (arith, c.requires.at)) ∙ ap (λ (r : Bor SiteEvents). Some r.now) (sym c.index-sites-at.is) in
    let me = sym (c.is_own.ensures.0 c.if-not-is_own.false) in
    let list = c.note_items.new.items in
    let same = noted_alone (Contains c.args.items.now) c.new-list.result list c.new-list.ensures c.in_ok-note_items.ensures in
    on_ok_weaker c.note_all.result
    (λ adds. of_same_items (sites_at c.args.sites.now) list c.args.items.now c.args.site c.args.at same c.args.packs.now.items c.note_all.new.packs.items
    (item_packs_at (sites_at c.args.sites.now) c.args.known.now c.requires.known list c.args.site c.args.at own.now stands me c.args.packs.now.items c.note_all.new.packs.items adds))
    c.note_all.ensures
