use Rattle.std.proofs.Common.{rules, Some, sym, ap}
use Rattle.std.specs.List.{list_any}
use Rattle.std.specs.BTreeMap.{is_at}
use Rattle.frame_core.specs.Identifiers.{recall_cmp}
use Rattle.site_core.proofs.HeldIndex.{set_at, same_at, others_stay, noted_new}
use Rattle.site_core.proofs.Results.{after_ok, after_err}
use Rattle.site_core.proofs.held_index.note.Goals as goal

pub returns-in-Some-clause-ok : goal.returns-in-Some-clause-ok
returns-in-Some-clause-ok c = after_ok c.add.result
    (λ upd. set_at c.args.index.now (c.get_mut.follows.lender c.add.new.recalls) c.args.item.now (Some c.add.new.recalls) ((c.get_mut.follows.holds c.add.new.recalls).3 (search rules)) (Some c.in-Some.recalls.now) c.args.recall _
    (sym c.in-Some.ensures.value) upd.1 (others_stay c.in-Some.recalls.now c.add.new.recalls c.args.recall _ upd))
    c.add.ensures.ok

pub returns-in-Some-clause-err : goal.returns-in-Some-clause-err
returns-in-Some-clause-err c = after_err c.add.result
    (λ is. same_at c.args.index.now (c.get_mut.follows.lender c.add.new.recalls) c.args.item.now (Some c.add.new.recalls) ((c.get_mut.follows.holds c.add.new.recalls).3 (search rules)) (Some c.in-Some.recalls.now)
    (sym c.in-Some.ensures.value) (λ s. ap (list_any (is_at (recall_cmp s))) is))
    c.add.ensures.err

-- the item is new
pub returns-clause-ok : goal.returns-clause-ok
returns-clause-ok c = noted_new c.args.index.now c.get_mut.follows.lender-at-none c.insert.new.self c.args.item.now c.in_ok-copy.field-0 c.args.recall c.new-recalls.result c.add-2.new.recalls c.get_mut.follows.holds-at-none c.in_ok-copy.ensures
    (sym c.in_default.ensures.value) c.in_ok-insert.ensures.updates c.new-recalls.ensures.empty c.in_ok-add.ensures.ok
