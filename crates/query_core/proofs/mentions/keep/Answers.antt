use Rattle.std.proofs.Common.{Some, refl, subst}
use Rattle.std.specs.BTreeMap.{Updates}
use Rattle.site_core.specs.ItemSets.{item_cmp}
use Rattle.query_core.proofs.Keeping.{already_kept, newly_kept}
use Rattle.query_core.proofs.mentions.keep.Goals as goal

pub returns-then-contains_key : goal.returns-then-contains_key
returns-then-contains_key c = already_kept c.args.counts.now c.args.item.now c.contains_key.result c.contains_key.ensures c.if-contains_key.true

pub returns : goal.returns
returns c =
    newly_kept c.args.counts.now c.insert.new.self c.args.item.now (record { events = 0; last = 0 }) c.contains_key.result c.contains_key.ensures c.if-contains_key.false refl
    (subst (λ k. Updates item_cmp c.args.counts.now c.insert.new.self k (Some (record { events = 0; last = 0 }))) c.in_ok-own.ensures c.in_ok-insert.ensures.updates)
