use Rattle.std.proofs.Common.{◌↔◌, ◌∙◌, ℕ, List, Some, sym, ap, subst, arith}
use Rattle.std.specs.Borrow.{Bor}
use Rattle.std.specs.List.{Contains}
use Rattle.std.proofs.lemmas.Result.{on_ok_weaker}
use Rattle.trace_core.specs.Chains.{sites_at}
use Rattle.trace_core.specs.Sites.{SiteEvents}
use Rattle.trace_core.proofs.Visiting.{site_stands}
use Rattle.gap_core.specs.GapItems.{IsSentBy}
use Rattle.gap_core.proofs.UntoldSteps.{place_untold}
use Rattle.gap_core.proofs.untold.note_place.Goals as goal

pub returns : goal.returns
returns c =
    let sites = sites_at c.args.sites.now in
    let own = c.index-sites-at.result in
    let so = site_stands c.args.sites.now c.args.at own (omega (arith, c.requires.at)) ∙ ap (λ (r : Bor SiteEvents). Some r.now) (sym c.index-sites-at.is) in
    on_ok_weaker c.note_items.result
    (place_untold sites c.args.own.now c.args.known.now c.args.reached.now c.args.at own.now so c.me.result c.me.ensures c.args.text.now c.args.places.now c.in_ok-told.told c.in_ok-sent.sent
    (λ i. subst (λ (xs : List ℕ). Contains c.in_ok-told.told i ↔ IsSentBy sites c.args.own.now c.args.at xs i) c.as_slice.ensures (c.in_ok-told.ensures i))
    (λ i. subst (λ (xs : List ℕ). Contains c.in_ok-sent.sent i ↔ IsSentBy sites c.args.known.now c.args.at xs i) c.as_slice-2.ensures (c.in_ok-sent.ensures i))
    c.args.found.now.items c.note_items.new.found.items)
    c.note_items.ensures
