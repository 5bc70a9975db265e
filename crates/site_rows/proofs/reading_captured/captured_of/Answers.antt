use Rattle.std.proofs.Common.{◌≡◌, ◌⊎◌, ◌+◌, ◌<◌, true, inl, inr, [], ◌∷◌, ◌++◌, length, map, take, sym, ap, subst, ◌∙◌}
use Rattle.std.proofs.lemmas.List.{length-append, length-map, map-append}
use Rattle.event_json.specs.Events.{Content}
use Rattle.trace_core.specs.Sites.{SiteEvents}
use Rattle.site_rows.specs.BadParts.{AreBodies}
use Rattle.site_rows.specs.PartsInTurn.{IsFaultOfLists, part_event, packed_event, pack_event}
use Rattle.site_rows.specs.RecordRows.{body_rows, pack_rows, packed_rows}
use Rattle.site_rows.proofs.AtTheEnd.{stands_at}
use Rattle.site_rows.proofs.EventsInTurn.{AreRead, all_read, all_stand, each_more, left_over, read_more, rows_of_events, stuck_there}
use Rattle.site_rows.proofs.GoodAddresses.{taken_there}
use Rattle.site_rows.proofs.ListsInTurn.{event_more}
use Rattle.site_rows.proofs.PacksInTurn.{ArePacksSoFar, packs_bad, packs_good, packs_more, past_pack, past_packed}
use Rattle.site_rows.proofs.PartTables.{all_among, past_body, some_bodies}
use Rattle.site_rows.proofs.reading_captured.captured_of.Goals as goal
use Rattle.site_rows.proofs.reading_captured.captured_of.Goals.{then-read-via-then-read, then-read-via-else-read+then-read-packs}

pub event_at-requires-clause-event : goal.event_at-requires-clause-event
event_at-requires-clause-event c =
    let at = stands_at c.args.events.now c.loop-place.place c.index-events-place.result c.loop-place-test.true c.index-events-place.is in
    (c.requires.table.0, c.requires.table.1, c.requires.table.2 c.loop-place.place c.index-events-place.result at)

pub loop-place-preserved : goal.loop-place-preserved
loop-place-preserved c =
    let body = λ (e : Content). e.body in
    let n = length c.args.sites.now in
    let rows = c.args.events.now in
    let place = c.loop-place.place in
    let row = c.index-events-place.result in
    let before = c.loop-place.captured.events in
    let after = c.restore_event.new.self.events in
    let event = c.in-Some.event in
    let so_far = c.loop-place.invariant in
    let there = stands_at rows place row c.loop-place-test.true c.index-events-place.is in
    let is = rw c.in-Some.is at c.in_ok-event.ensures.row in
    let read = rw c.in-Some.is at c.in_ok-event.ensures.part in
    let pack = rw c.in-Some.is at c.in_ok-event.ensures.pack in
    let packed = rw c.in-Some.is at c.in_ok-event.ensures.packed in
    let ok = c.in_ok-restore_event-in-Some.ensures.ok in
    let more : after ≡ before ++ event ∷ [] = ap (λ (s : SiteEvents). s.events) ok in
    let bodies : map body before ++ event.body ∷ [] ≡ map body after = sym (map-append body before (event ∷ [])) ∙ ap (map body) (sym more) in
    let counted : length (map body before) ≡ place = length-map before body ∙ so_far.counted in
    let all = some_bodies n c.requires.table.0 rows c.requires.table.1 c.requires.table.2 in
    record {
      me = ap (λ (s : SiteEvents). s.me) ok ∙ so_far.me;
      counted = ap length more ∙ length-append before (event ∷ []) ∙ ap (λ k. k + 1) so_far.counted;
      events = event_more rows place row before after event there so_far.counted is more so_far.events;
      each = subst (AreBodies n (take (place + 1) rows)) bodies (each_more n rows place row (map body before) event.body there read.good so_far.each);
      parts = subst (AreRead part_event (body_rows c.args.sites.now) (past_body c.args.sites.now) n rows c.args.parts.now (place + 1) c.event_at.new.read.part) bodies
          (read_more part_event (body_rows c.args.sites.now) (past_body c.args.sites.now) n rows c.args.parts.now place c.loop-place.read.part c.event_at.new.read.part row (map body before) event.body there counted read so_far.parts);
      packs = subst (ArePacksSoFar n rows c.args.packs.now (place + 1) c.event_at.new.read.pack.at c.event_at.new.read.pack.is_bad) bodies
          (packs_more n rows c.args.packs.now place c.loop-place.read.pack.at c.event_at.new.read.pack.at c.loop-place.read.pack.is_bad c.event_at.new.read.pack.is_bad row (map body before) all.0 event.body all.1 there so_far.each counted pack so_far.packs);
      packed = subst (AreRead packed_event packed_rows past_packed n rows c.args.packed.now (place + 1) c.event_at.new.read.packed) bodies
          (read_more packed_event packed_rows past_packed n rows c.args.packed.now place c.loop-place.read.packed c.event_at.new.read.packed row (map body before) event.body there counted packed so_far.packed);
    }

pub returns-in-None-clause-bad : goal.returns-in-None-clause-bad
returns-in-None-clause-bad c =
    let body = λ (e : Content). e.body in
    let n = length c.args.sites.now in
    let rows = c.args.events.now in
    let place = c.loop-place.place in
    let row = c.index-events-place.result in
    let es = c.loop-place.captured.events in
    let so_far = c.loop-place.invariant in
    let there = stands_at rows place row c.loop-place-test.true c.index-events-place.is in
    let all = some_bodies n c.requires.table.0 rows c.requires.table.1 c.requires.table.2 in
    let stuck = rw c.in-None.is at c.in_ok-event.ensures.part in
    subst (IsFaultOfLists c.args.sites.now rows c.args.parts.now c.args.packs.now c.args.packed.now) (sym c.bad_row.ensures)
    (stuck_there part_event (body_rows c.args.sites.now) (past_body c.args.sites.now) n rows c.args.parts.now place c.loop-place.read.part c.event_at.new.read.part row (map body es) all.0 all.1 there so_far.each
    (length-map es body ∙ so_far.counted) so_far.parts stuck)

pub returns-then-read-parts-clause-bad : goal.returns-then-read-parts-clause-bad
returns-then-read-parts-clause-bad c =
    let sites = c.args.sites.now in
    let rows = c.args.events.now in
    let bodies = map (λ (e : Content). e.body) c.loop-place.captured.events in
    let so_far = c.loop-place.invariant in
    subst (IsFaultOfLists sites rows c.args.parts.now c.args.packs.now c.args.packed.now) (sym c.bad_row-then-read-parts.ensures)
    (left_over part_event (body_rows sites) (past_body sites) (length sites) rows c.args.parts.now c.loop-place.place c.loop-place.read.part bodies c.loop-place-test.false c.if-read-parts.true so_far.each so_far.parts)

pub returns-then-read-clause-bad : goal.returns-then-read-clause-bad
returns-then-read-clause-bad c =
    let sites = c.args.sites.now in
    let n = length sites in
    let rows = c.args.events.now in
    let place = c.loop-place.place in
    let bodies = map (λ (e : Content). e.body) c.loop-place.captured.events in
    let so_far = c.loop-place.invariant in
    let parts = all_stand part_event (body_rows sites) (past_body sites) n rows c.args.parts.now place c.loop-place.read.part bodies c.loop-place-test.false c.if-read-parts.false so_far.each so_far.parts in
    let wrong : (c.loop-place.read.pack.is_bad ≡ true) ⊎ (c.loop-place.read.pack.at < length c.args.packs.now) = elim c.then-read.branch [
      | then-read-via-then-read w ↦ inl w.if-read.true
      | then-read-via-else-read+then-read-packs w ↦ inr w.if-read-packs.true
    ] in
    subst (IsFaultOfLists sites rows c.args.parts.now c.args.packs.now c.args.packed.now) (sym c.bad_row-then-read.ensures)
    (parts, packs_bad n rows c.args.packs.now place c.loop-place.read.pack.at c.loop-place.read.pack.is_bad bodies c.loop-place-test.false so_far.each wrong so_far.packs)

pub returns-then-read-packed-clause-bad : goal.returns-then-read-packed-clause-bad
returns-then-read-packed-clause-bad c =
    let sites = c.args.sites.now in
    let n = length sites in
    let rows = c.args.events.now in
    let place = c.loop-place.place in
    let over = c.loop-place-test.false in
    let bodies = map (λ (e : Content). e.body) c.loop-place.captured.events in
    let so_far = c.loop-place.invariant in
    let parts = all_stand part_event (body_rows sites) (past_body sites) n rows c.args.parts.now place c.loop-place.read.part bodies over c.if-read-parts.false so_far.each so_far.parts in
    let good = packs_good n rows c.args.packs.now place c.loop-place.read.pack.at c.loop-place.read.pack.is_bad bodies c.if-read.false so_far.packs in
    let packs = all_stand pack_event pack_rows past_pack n rows c.args.packs.now place c.loop-place.read.pack.at bodies over c.if-read-packs.false so_far.each good in
    subst (IsFaultOfLists sites rows c.args.parts.now c.args.packs.now c.args.packed.now) (sym c.bad_row-then-read-packed.ensures)
    (parts, packs, left_over packed_event packed_rows past_packed n rows c.args.packed.now place c.loop-place.read.packed bodies over c.if-read-packed.true so_far.each so_far.packed)

pub returns-clause-parts : goal.returns-clause-parts
returns-clause-parts c =
    let sites = c.args.sites.now in
    let es = c.loop-place.captured.events in
    all_read part_event (body_rows sites) (past_body sites) (length sites) c.args.events.now c.args.parts.now c.loop-place.place c.loop-place.read.part (map (λ (e : Content). e.body) es) c.if-read-parts.false
    c.loop-place.invariant.parts ∙ sym (rows_of_events (body_rows sites) 1 es)

pub returns-clause-packs : goal.returns-clause-packs
returns-clause-packs c =
    let n = length c.args.sites.now in
    let rows = c.args.events.now in
    let place = c.loop-place.place in
    let es = c.loop-place.captured.events in
    let bodies = map (λ (e : Content). e.body) es in
    let good = packs_good n rows c.args.packs.now place c.loop-place.read.pack.at c.loop-place.read.pack.is_bad bodies c.if-read.false c.loop-place.invariant.packs in
    all_read pack_event pack_rows past_pack n rows c.args.packs.now place c.loop-place.read.pack.at bodies c.if-read-packs.false good ∙ sym (rows_of_events pack_rows 1 es)

pub returns-clause-packed : goal.returns-clause-packed
returns-clause-packed c =
    let es = c.loop-place.captured.events in
    all_read packed_event packed_rows past_packed (length c.args.sites.now) c.args.events.now c.args.packed.now c.loop-place.place c.loop-place.read.packed (map (λ (e : Content). e.body) es) c.if-read-packed.false
    c.loop-place.invariant.packed ∙ sym (rows_of_events packed_rows 1 es)

pub returns-clause-among : goal.returns-clause-among
returns-clause-among c =
    let place = c.loop-place.place in
    let events = c.args.events.now in
    let so_far = c.loop-place.invariant in
    all_among (length c.args.sites.now) 1 (take place events) c.loop-place.captured.events so_far.each so_far.events
    (λ k row there. let it = c.requires.table.2 k row (taken_there events place k row there).0 in (it.id, it.make_id))
