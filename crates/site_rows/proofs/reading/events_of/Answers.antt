use Rattle.std.proofs.Common.{sym, subst, ◌∙◌}
use Rattle.site_rows.specs.BadEvents.{IsEventTable}
use Rattle.site_rows.specs.PartsInTurn.{IsFaultOfLists}
use Rattle.site_rows.proofs.GoodTables.{before_event, before_pack, before_packed, before_part, four_good, good_events, lists_good, pack_good, part_good}
use Rattle.site_rows.proofs.ReadFaults.{event_fault, few_kinds, lists_fault}
use Rattle.site_rows.proofs.reading.events_of.Goals as goal

pub returns-in-Err-clause-bad : goal.returns-in-Err-clause-bad
returns-in-Err-clause-bad c =
    let rows = c.args.rows.now in
    event_fault rows c.kinds.result c.as_slice.result.now c.in-Err.fault c.in_table.result c.kinds.ensures c.as_slice.ensures (before_event rows c.requires.good) c.in-Err.ensures.bad c.in_table.ensures

pub captured_of-requires : goal.captured_of-requires
captured_of-requires c =
    let kinds = c.kinds.result in
    record { table = (kinds, few_kinds c.args.rows.now.version kinds c.kinds.ensures, subst (IsEventTable kinds) (c.as_slice.ensures ∙ sym c.as_slice-2.ensures) c.in_default.ensures.good) }

pub returns-in-Ok-clause-good : goal.returns-in-Ok-clause-good
returns-in-Ok-clause-good c =
    let rows = c.args.rows.now in
    let captured = c.in-Ok.captured in
    let events = good_events rows c.kinds.result c.as_slice.result.now c.kinds.ensures c.as_slice.ensures c.in_default.ensures.good in
    lists_good rows c.args.sites.now captured.events c.requires.read (sym c.as_slice-2.ensures ∙ c.in-Ok.ensures.events) (sym c.as_slice-3.ensures ∙ c.in-Ok.ensures.parts)
    (sym c.as_slice-4.ensures ∙ c.in-Ok.ensures.packs) (sym c.as_slice-5.ensures ∙ c.in-Ok.ensures.packed) c.in-Ok.ensures.among events

pub returns-in-Err-captured_of-clause-bad : goal.returns-in-Err-captured_of-clause-bad
returns-in-Err-captured_of-clause-bad c =
    let rows = c.args.rows.now in
    let sites = c.args.sites.now in
    let fault = c.in-Err-captured_of.fault in
    let events = good_events rows c.kinds.result c.as_slice.result.now c.kinds.ensures c.as_slice.ensures c.in_default.ensures.good in
    let four = four_good rows c.requires.good events in
    let bad : IsFaultOfLists sites rows.event rows.part rows.pack rows.packed fault =
    subst (λ xs. IsFaultOfLists sites rows.event rows.part rows.pack xs fault) c.as_slice-5.ensures
    (subst (λ xs. IsFaultOfLists sites rows.event rows.part xs c.as_slice-5.result.now fault) c.as_slice-4.ensures
    (subst (λ xs. IsFaultOfLists sites rows.event xs c.as_slice-4.result.now c.as_slice-5.result.now fault) c.as_slice-3.ensures
    (subst (λ xs. IsFaultOfLists sites xs c.as_slice-3.result.now c.as_slice-4.result.now c.as_slice-5.result.now fault) c.as_slice-2.ensures c.in-Err-captured_of.ensures.bad))) in
    lists_fault rows sites fault c.requires.read (before_part rows c.requires.good events) (λ parts. before_pack rows four (part_good rows sites c.requires.read parts))
    (λ parts packs. before_packed rows four (part_good rows sites c.requires.read parts) (pack_good rows sites c.requires.read packs)) bad
