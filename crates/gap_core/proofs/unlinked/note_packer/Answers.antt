use Rattle.std.proofs.Common.{◌∙◌, sym}
use mathlib.Core.Bool.{false≢true}
use Rattle.std.proofs.lemmas.Result.{on_ok_weaker}
use Rattle.trace_core.specs.Chains.{sites_at}
use Rattle.trace_core.specs.Pairs.{Carries}
use Rattle.gap_core.specs.Sources.{LiesIn}
use Rattle.gap_core.proofs.Notings.{noted_alone}
use Rattle.gap_core.proofs.UnlinkedSteps.{packer_linked, packer_unlinked}
use Rattle.gap_core.proofs.unlinked.note_packer.Goals as goal

pub returns-then-is_linked : goal.returns-then-is_linked
returns-then-is_linked c =
    packer_linked (sites_at c.args.sites.now) c.args.known.now c.requires.known c.args.at c.args.from c.args.site.now c.args.packer.now c.requires.at c.requires.from c.args.container.now
    c.args.found.now.items (c.is_linked.ensures.0 c.if-is_linked.true)

pub returns : goal.returns
returns c = on_ok_weaker c.push_children.result
    (packer_unlinked (sites_at c.args.sites.now) c.args.known.now c.requires.known c.args.at c.args.from c.args.site.now c.args.packer.now c.requires.at c.requires.from c.args.container.now
    c.me.result c.me-2.result c.note_inside.new.found c.note_children.new.found c.args.found.now.items c.push_children.new.found.items c.me.ensures c.me-2.ensures
    (λ linked. false≢true (sym c.if-is_linked.false ∙ c.is_linked.ensures.1 linked))
    (noted_alone (LiesIn (sites_at c.args.sites.now) c.args.known.now c.args.at c.args.container.now) c.new-inside.result c.note_inside.new.found c.new-inside.ensures c.in_ok-note_inside.ensures)
    (noted_alone (Carries c.args.packer.now.events c.args.container.now) c.new-children.result c.note_children.new.found c.new-children.ensures c.in_ok-note_children.ensures))
    c.push_children.ensures
