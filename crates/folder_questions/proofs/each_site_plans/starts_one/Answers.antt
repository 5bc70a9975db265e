use Rattle.std.proofs.Common.{◌==◌, ◌∙◌, sym, ap}
use Rattle.folder_questions.proofs.EachSitePlanLemmas.{named_is, other_site}
use Rattle.folder_questions.proofs.each_site_plans.starts_one.Goals as goal

pub returns-else-eq : goal.returns-else-eq
returns-else-eq c =
    let r = c.args.state.now in
    other_site c.args.site c.args.item.now r c.mentions.result (ap (λ n. n == c.args.site) (sym c.me.ensures.me) ∙ sym c.eq.ensures ∙ c.if-eq.false)
    (named_is r c.args.item.now c.captured.result.now c.mentions.result c.captured.ensures c.mentions.ensures)
