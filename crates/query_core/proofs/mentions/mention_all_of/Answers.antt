use Rattle.std.proofs.Common.{sym, ap, subst}
use Rattle.trace_core.specs.Spreads.{items_of, parents}
use Rattle.site_core.proofs.Results.{after_ok}
use Rattle.query_core.specs.Mentions.{Counts, Mention}
use Rattle.query_core.proofs.Mentioning.{both_mentioned, none_mentioned, single_mentioned}
use Rattle.query_core.proofs.mentions.mention_all_of.Goals.{in-Some+in_ok-mention-in-Pack, in_default}
use Rattle.query_core.proofs.mentions.mention_all_of.Goals as goal

pub returns-after-parent : goal.returns-after-parent
returns-after-parent c =
    let place = c.args.place in
    let first = c.args.counts.now in
    let parent : Mention first c.match-parent.counts place (parents c.in-Pack.parent) = elim c.match-parent.branch as (λ _. Mention first c.match-parent.counts place (parents c.in-Pack.parent)) [
      | in-Some+in_ok-mention-in-Pack w ↦
          subst (λ (counts : Counts). Mention first counts place (parents c.in-Pack.parent)) (sym w.counts-is)
          (subst (Mention first w.mention.new.counts place) (sym (ap parents w.in-Some.is)) (single_mentioned place w.in-Some.item first w.mention.new.counts w.in_ok-mention-in-Pack.ensures))
      | in_default w ↦
          subst (λ (counts : Counts). Mention first counts place (parents c.in-Pack.parent)) (sym w.counts-is)
          (subst (Mention first first place) (sym (ap parents w.in_default.is)) (none_mentioned place first))
    ] in
    after_ok c.mention_all-in-Pack.result
    (λ more. subst (λ b. Mention first c.mention_all-in-Pack.new.counts place (items_of b)) (sym c.in-Pack.is)
    (both_mentioned place (parents c.in-Pack.parent) c.in-Pack.children first c.match-parent.counts c.mention_all-in-Pack.new.counts parent
    (subst (Mention c.match-parent.counts c.mention_all-in-Pack.new.counts place) c.as_slice-in-Pack.ensures more)))
    c.mention_all-in-Pack.ensures
