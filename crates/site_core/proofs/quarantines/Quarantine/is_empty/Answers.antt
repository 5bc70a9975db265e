use Rattle.std.proofs.Common.{length, sym, ap, ◌∙◌}
use Rattle.std.specs.FinMap.{len, len-entries, len-empty, empty_of_len}
use Rattle.frame_core.specs.Identifiers.{recall_cmp}
use Rattle.site_core.specs.ItemSets.{Items}
use Rattle.site_core.proofs.quarantines.Quarantine.is_empty.Goals as goal

pub returns : goal.returns
returns c =
    let same = ap length c.by_recall.ensures.entries ∙ sym (len-entries c.args.self.now) in
    (λ none. empty_of_len c.args.self.now (sym same ∙ c.is_empty.ensures.0 none), λ is. c.is_empty.ensures.1 (same ∙ ap len is ∙ len-empty recall_cmp Items))
