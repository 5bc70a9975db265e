use Rattle.std.proofs.Common.{refl}
use Rattle.folder_questions.proofs.PackLemmas.{none_has, none_more}
use Rattle.folder_questions.proofs.packs.event_of.Goals as goal

pub loop-site-preserved : goal.loop-site-preserved
loop-site-preserved c = none_more c.args.sites.now c.args.pack.now c.loop-site.site-index c.site-item.result c.loop-site-test.true c.site-item.is c.loop-site.invariant (c.in_default.ensures.none refl)

pub returns-clause-none : goal.returns-clause-none
returns-clause-none c = λ none. none_has c.args.sites.now c.args.pack.now c.loop-site.site-index c.loop-site-test.false c.loop-site.invariant
