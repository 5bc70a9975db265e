use Rattle.std.proofs.Common.{◌↔◌, ◌∙◌, Some, ℕ, List, sym, ap, subst, arith}
use Rattle.std.specs.Borrow.{Bor}
use Rattle.std.specs.List.{Contains}
use Rattle.std.proofs.lemmas.Result.{IfOk-weaker}
use Rattle.trace_core.specs.Chains.{sites_at}
use Rattle.trace_core.specs.Sites.{SiteEvents}
use Rattle.trace_core.proofs.Visiting.{site_stands}
use Rattle.gap_core.specs.Elsewhere.{ArePlacesElsewhere, IsSentElsewhere}
use Rattle.gap_core.specs.GapItems.{IsSentBy}
use Rattle.gap_core.proofs.ElsewhereSteps.{sent_on}
use Rattle.gap_core.proofs.elsewhere.sent_elsewhere.Goals as goal

pub returns : goal.returns
returns c =
    let sites = sites_at c.args.sites.now in
    let own = c.index-sites-at.result in
    let so = site_stands c.args.sites.now c.args.at own (omega (arith, c.requires.at)) ∙ ap (λ (r : Bor SiteEvents). Some r.now) (sym c.index-sites-at.is) in
    IfOk-weaker c.sent_by.result (λ sent. (i : List ℕ) → Contains sent i ↔ IsSentBy sites c.args.known.now c.args.at c.as_slice.result.now i)
    (λ sent. (i : List ℕ) → Contains sent i ↔ IsSentElsewhere sites c.args.at i)
    (λ sent is i.
    let (there, back) = sent_on sites c.args.known.now c.requires.known c.args.at own.now so c.as_slice.result.now (subst (ArePlacesElsewhere own.now) (sym c.as_slice.ensures) c.in_ok-places.ensures) i in
    let (to, from) = is i in
    (λ h. there (to h), λ h. from (back h)))
    c.sent_by.ensures
