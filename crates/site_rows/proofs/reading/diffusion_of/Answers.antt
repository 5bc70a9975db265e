use Rattle.std.proofs.Common.{◌∙◌, subst, sym}
use Rattle.std.specs.FinMap.{get}
use Rattle.std.specs.Ordering.{nat_cmp}
use Rattle.frame_core.specs.Identifiers.{message_cmp, recall_cmp}
use Rattle.frame_core.specs.Tables.{as_map}
use Rattle.site_rows.specs.BadRows.{IsFirstBad, IsOutboxTable, IsParentTable, IsRecallTable, IsSeenTable}
use Rattle.site_rows.specs.declared.tables.Table.TheVariants.{Outbox, Parent, Recall, Seen}
use Rattle.site_rows.proofs.GoodTables.{before_outbox, before_parent, before_recall, before_seen, good_outbox, good_parents, good_seen}
use Rattle.site_rows.proofs.ReadBack.{some_value}
use Rattle.site_rows.proofs.ReadFaults.{table_fault}
use Rattle.site_rows.proofs.reading.diffusion_of.Goals as goal

pub returns-in-Err-clause-bad : goal.returns-in-Err-clause-bad
returns-in-Err-clause-bad c =
    let rows = c.args.rows.now in
    let n = c.args.sites in
    table_fault rows Outbox (IsOutboxTable n) c.as_slice.result.now rows.outbox c.in-Err.fault c.in_table.result c.as_slice.ensures
    (λ place bad. subst (λ k. IsFirstBad (IsOutboxTable k) rows.outbox place) c.requires.count bad) (before_outbox rows c.requires.good) c.in-Err.ensures.bad c.in_table.ensures

pub returns-in-Err-seen_of-clause-bad : goal.returns-in-Err-seen_of-clause-bad
returns-in-Err-seen_of-clause-bad c =
    let rows = c.args.rows.now in
    let n = c.args.sites in
    let outbox = good_outbox rows n (as_map nat_cmp c.in-Ok.outbox) c.requires.count (sym c.as_slice.ensures ∙ c.in-Ok.ensures.rows) c.in-Ok.ensures.among in
    table_fault rows Seen (IsSeenTable n) c.as_slice-2.result.now rows.seen c.in-Err-seen_of.fault c.in_table-in-Err-seen_of.result c.as_slice-2.ensures
    (λ place bad. subst (λ k. IsFirstBad (IsSeenTable k) rows.seen place) c.requires.count bad) (before_seen rows c.requires.good outbox) c.in-Err-seen_of.ensures.bad c.in_table-in-Err-seen_of.ensures

pub returns-in-Err-parents_of-clause-bad : goal.returns-in-Err-parents_of-clause-bad
returns-in-Err-parents_of-clause-bad c =
    let rows = c.args.rows.now in
    let n = c.args.sites in
    let outbox = good_outbox rows n (as_map nat_cmp c.in-Ok.outbox) c.requires.count (sym c.as_slice.ensures ∙ c.in-Ok.ensures.rows) c.in-Ok.ensures.among in
    let seen = good_seen rows n (as_map message_cmp c.in-Ok-seen_of.seen) c.requires.count (sym c.as_slice-2.ensures ∙ c.in-Ok-seen_of.ensures.rows) c.in-Ok-seen_of.ensures.among in
    table_fault rows Parent (IsParentTable n) c.as_slice-3.result.now rows.parent c.in-Err-parents_of.fault c.in_table-in-Err-parents_of.result c.as_slice-3.ensures
    (λ place bad. subst (λ k. IsFirstBad (IsParentTable k) rows.parent place) c.requires.count bad) (before_parent rows c.requires.good outbox seen) c.in-Err-parents_of.ensures.bad c.in_table-in-Err-parents_of.ensures

pub returns-in-Err-own_of-clause-bad : goal.returns-in-Err-own_of-clause-bad
returns-in-Err-own_of-clause-bad c =
    let rows = c.args.rows.now in
    let n = c.args.sites in
    let outbox = good_outbox rows n (as_map nat_cmp c.in-Ok.outbox) c.requires.count (sym c.as_slice.ensures ∙ c.in-Ok.ensures.rows) c.in-Ok.ensures.among in
    let seen = good_seen rows n (as_map message_cmp c.in-Ok-seen_of.seen) c.requires.count (sym c.as_slice-2.ensures ∙ c.in-Ok-seen_of.ensures.rows) c.in-Ok-seen_of.ensures.among in
    let parents = good_parents rows n (as_map recall_cmp c.in-Ok-parents_of.parents) c.requires.count (sym c.as_slice-3.ensures ∙ c.in-Ok-parents_of.ensures.rows) c.in-Ok-parents_of.ensures.among in
    table_fault rows Recall IsRecallTable c.as_slice-4.result.now rows.recall c.in-Err-own_of.fault c.in_table-in-Err-own_of.result c.as_slice-4.ensures (λ place bad. bad)
    (before_recall rows c.requires.good outbox seen parents) c.in-Err-own_of.ensures.bad c.in_table-in-Err-own_of.ensures

pub returns-clause-among : goal.returns-clause-among
returns-clause-among c = rw c.in_ok-restored.ensures (record {
  rows = λ n row is. (c.in-Ok.ensures.among n row is).0;
  seen = c.in-Ok-seen_of.ensures.among;
  parents = c.in-Ok-parents_of.ensures.among;
  own = λ n some. let own = some_value (get (as_map nat_cmp c.in-Ok-own_of.own) n) some in (c.in-Ok-own_of.ensures.among n own.0 own.1).0;
})

pub returns-clause-items : goal.returns-clause-items
returns-clause-items c = rw c.in_ok-restored.ensures (record {
  outbox = λ n row is. (c.in-Ok.ensures.among n row is).1;
  own = λ n own is. (c.in-Ok-own_of.ensures.among n own is).1;
})
