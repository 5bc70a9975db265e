use Rattle.std.proofs.Common.{◌↔◌, ◌∙◌, ◌≡◌, Some, ℕ, List, sym, ap, arith}
use Rattle.std.specs.Borrow.{Bor}
use Rattle.std.specs.List.{Contains}
use Rattle.std.proofs.lemmas.Result.{IfOk-weaker}
use Rattle.trace_core.specs.Chains.{sites_at}
use Rattle.trace_core.specs.Relations.{ReachedFrom}
use Rattle.trace_core.specs.Sites.{SiteEvents}
use Rattle.trace_core.proofs.Visiting.{site_stands}
use Rattle.gap_core.specs.Sources.{LiesIn}
use Rattle.gap_core.specs.Touched.{LiesAt}
use Rattle.gap_core.proofs.Notings.{noted_alone}
use Rattle.gap_core.proofs.TouchedSteps.{walked_inside}
use Rattle.gap_core.proofs.touched.inside_of.Goals as goal

pub returns : goal.returns
returns c =
    let sites = sites_at c.args.sites.now in
    let own = c.index-sites-at.result in
    let so = site_stands c.args.sites.now c.args.at own (omega (arith, c.requires.at)) ∙ ap (λ (r : Bor SiteEvents). Some r.now) (sym c.index-sites-at.is) in
    IfOk-weaker c.walk.result (λ inside. (i : List ℕ) → Contains inside i ↔ ReachedFrom (LiesIn sites c.args.known.now c.args.at) c.note.new.self i)
    (λ inside. (i : List ℕ) → Contains inside i ↔ LiesAt sites c.args.at c.args.item.now i)
    (λ inside walked. walked_inside sites c.args.known.now c.requires.known c.args.at own.now so c.args.item.now c.note.new.self inside
    (noted_alone (λ i. c.args.item.now ≡ i) c.new-starts.result c.note.new.self c.new-starts.ensures c.in_ok-note.ensures) walked)
    c.walk.ensures
