use Rattle.std.proofs.Common.{◌↔◌, ◌∙◌, Some, ℕ, List, sym, ap, arith}
use Rattle.std.specs.Borrow.{Bor}
use Rattle.std.specs.List.{Contains}
use Rattle.std.proofs.lemmas.Result.{IfOk-weaker}
use Rattle.trace_core.specs.Chains.{sites_at}
use Rattle.trace_core.specs.Relations.{ReachedFrom}
use Rattle.trace_core.specs.Sites.{SiteEvents}
use Rattle.trace_core.proofs.Visiting.{site_stands}
use Rattle.gap_core.specs.GapItems.{IsSentBy}
use Rattle.gap_core.specs.Sources.{LiesIn}
use Rattle.gap_core.proofs.GapSteps.{sent_is}
use Rattle.gap_core.proofs.site_gaps.sent_by.Goals as goal

pub returns : goal.returns
returns c =
    let sites = sites_at c.args.sites.now in
    let own = c.index-sites-at.result in
    let so = site_stands c.args.sites.now c.args.at own (omega (arith, c.requires)) ∙ ap (λ (r : Bor SiteEvents). Some r.now) (sym c.index-sites-at.is) in
    IfOk-weaker c.walk.result (λ sent. (i : List ℕ) → Contains sent i ↔ ReachedFrom (LiesIn sites c.args.index.now c.args.at) c.in_ok-starts.starts i)
    (λ sent. (i : List ℕ) → Contains sent i ↔ IsSentBy sites c.args.index.now c.args.at c.args.places.now i)
    (λ sent walked. sent_is sites c.args.index.now c.args.at own.now c.args.places.now c.in_ok-starts.starts sent so c.in_ok-starts.ensures walked)
    c.walk.ensures
