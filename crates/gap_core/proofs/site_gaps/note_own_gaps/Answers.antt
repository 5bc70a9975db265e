use Rattle.std.proofs.lemmas.Result.{on_ok_weaker}
use Rattle.trace_core.specs.Chains.{sites_at}
use Rattle.trace_core.specs.Pairs.{Carries}
use Rattle.gap_core.specs.Sources.{LiesIn}
use Rattle.gap_core.proofs.GapSteps.{gaps_in}
use Rattle.gap_core.proofs.Notings.{noted_alone}
use Rattle.gap_core.proofs.site_gaps.note_own_gaps.Goals as goal

pub returns : goal.returns
returns c =
    let sites = sites_at c.args.sites.now in
    on_ok_weaker c.note_gaps.result
    (gaps_in sites c.args.known.now c.requires.known c.args.at c.args.site.now c.requires.stands c.me.result c.args.container.now c.args.told.now c.note_children.new.found c.note_inside.new.found c.in_ok-packers.packers c.args.gaps.now.items c.note_gaps.new.gaps.items
    c.me.ensures c.in_ok-packers.ensures
    (noted_alone (LiesIn sites c.args.known.now c.args.at c.args.container.now) c.new-children.result c.note_inside.new.found c.new-children.ensures c.in_ok-note_inside.ensures)
    (noted_alone (Carries c.args.site.now.events c.args.container.now) c.new-packed.result c.note_children.new.found c.new-packed.ensures c.in_ok-note_children.ensures))
    c.note_gaps.ensures
