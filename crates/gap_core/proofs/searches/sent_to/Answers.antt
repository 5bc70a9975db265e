use Rattle.std.proofs.Common.{◌↔◌, ◌∙◌, ℕ, List, Some, sym, ap, arith}
use Rattle.std.specs.Borrow.{Bor}
use Rattle.std.specs.List.{Contains}
use Rattle.std.proofs.lemmas.Result.{IfOk-weaker}
use Rattle.trace_core.specs.Chains.{sites_at}
use Rattle.trace_core.specs.Relations.{ReachedFrom}
use Rattle.trace_core.specs.Sites.{SiteEvents}
use Rattle.trace_core.proofs.Visiting.{site_stands}
use Rattle.gap_core.specs.Sources.{IsToldTo, LiesIn}
use Rattle.gap_core.proofs.ShippedItems.{all_sent}
use Rattle.gap_core.proofs.searches.sent_to.Goals as goal

pub returns : goal.returns
returns c =
    let sites = sites_at c.args.sites.now in
    let s = c.index-sites-at.result in
    let t = c.index-sites-to.result in
    let so = site_stands c.args.sites.now c.args.at s (omega (arith, c.requires.at)) ∙ ap (λ (r : Bor SiteEvents). Some r.now) (sym c.index-sites-at.is) in
    let also = site_stands c.args.sites.now c.args.to t (omega (arith, c.requires.to)) ∙ ap (λ (r : Bor SiteEvents). Some r.now) (sym c.index-sites-to.is) in
    IfOk-weaker c.walk.result (λ sent. (i : List ℕ) → Contains sent i ↔ ReachedFrom (LiesIn sites c.args.index.now c.args.at) c.in_ok-starts.starts i)
    (λ sent. (i : List ℕ) → Contains sent i ↔ IsToldTo sites c.args.index.now c.args.at c.args.to i)
    (λ sent walked. all_sent sites c.args.index.now c.args.at c.args.to s.now t.now c.in_ok-starts.starts sent so also c.in_ok-starts.ensures walked)
    c.walk.ensures
