use Rattle.std.proofs.Common.{All, ◌≡◌, ◌++◌, ◌∷◌, [], ◌∙◌, flat_map, ap, subst, sym, arith}
use Rattle.std.specs.List.{AllZip}
use Rattle.std.specs.Vec.Iter.{into_iter_items}
use Rattle.std.specs.Option.{option_or}
use Rattle.std.proofs.lemmas.List.{nil_from_length, append-nil}
use Rattle.std.proofs.lemmas.List.Concat.{flat_map-append}
use Rattle.std.proofs.lemmas.List.Elements.{All-push}
use Rattle.wire_core.specs.Seats.{Line, SeatView}
use Rattle.site_threads.specs.Sites.{IsSite, Running}
use Rattle.site_threads.specs.Parting.{HasKeeper, LeavesList, cause_of, first_cause}
use Rattle.site_threads.proofs.Looping.{left_more, less, one_of}
use Rattle.site_threads.proofs.Parting.{cause_more}
use Rattle.site_threads.proofs.Zips.{as_long, zipped_more}
use Rattle.site_threads.proofs.gather.part.Goals as goal

pub add-requires : goal.add-requires
add-requires g c =
    let i = c.loop-run.invariant in
    let fewer = less c.args.runs.items c.loop-run.yielded (into_iter_items c.loop-run.run-iterator) _ c.in-Some.run' i.left c.in-Some.ensures.steps.0 in
    let long = as_long HasKeeper c.loop-run.yielded c.loop-run.keepers.items i.keepers in
    let len = c.loop-run.keepers.ok.0 in
    let room = i.room_keepers in
    omega (arith, fewer, long, len, room)

pub join-seat-requires : goal.join-seat-requires
join-seat-requires g c =
    let i = c.loop-run.invariant in
    let AtWire = λ (r : Running g.row.K.Denot g.row.G.Denot). r.wire ≡ c.args.wire.now in
    let mine = one_of c.args.runs.items c.loop-run.yielded (into_iter_items c.loop-run.run-iterator) _ c.in-Some.run' i.left c.in-Some.ensures.steps.0 AtWire c.requires.wire in
    (i.seat, ap (λ (s : SeatView). s.table) c.finish-keeper.ensures.seat ∙ c.finish-keeper.ensures.site.seat ∙ ap (λ (w : Line). w.table) mine)

pub add-requires-in-loop-run : goal.add-requires-in-loop-run
add-requires-in-loop-run g c =
    let i = c.loop-run.invariant in
    let fewer = less c.args.runs.items c.loop-run.yielded (into_iter_items c.loop-run.run-iterator) _ c.in-Some.run' i.left c.in-Some.ensures.steps.0 in
    let long = as_long LeavesList c.loop-run.yielded c.loop-run.lists.items i.lists in
    let len = c.loop-run.lists.ok.0 in
    let room = i.room_lists in
    omega (arith, fewer, long, len, room)

pub loop-run-preserved : goal.loop-run-preserved
loop-run-preserved g c =
    let i = c.loop-run.invariant in
    let r = c.in-Some.run' in
    let f = c.finish-keeper.ensures in
    let Site = IsSite {K = g.row.K.Denot} {G = g.row.G.Denot} g.K.SiteKeeper.shown g.K.SiteKeeper.may in
    let logs = λ (x : Running g.row.K.Denot g.row.G.Denot). x.seat.logs in
    record {
      sites = All-push Site c.loop-run.yielded r i.sites f.site;
      seat = c.join-seat.ensures.seat;
      logs = c.join-seat.ensures.sites ∙ (λ j. i.logs j ++ (f.seat j).logs) ∙ sym (flat_map-append logs c.loop-run.yielded (r ∷ []) ∙ ap (λ l. flat_map logs c.loop-run.yielded ++ l) (append-nil r.seat.logs));
      left = left_more c.args.runs.items c.loop-run.yielded (into_iter_items c.loop-run.run-iterator) _ r i.left c.in-Some.ensures.steps.0;
      keepers = zipped_more HasKeeper c.loop-run.yielded c.loop-run.keepers.items r _ c.add.new.items.items i.keepers f.keeper c.add.ensures.items;
      lists = zipped_more LeavesList c.loop-run.yielded c.loop-run.lists.items r _ c.add-in-loop-run.new.items.items i.lists f.list c.add-in-loop-run.ensures.items;
      cause = c.or-cause.ensures ∙ (λ j. option_or (i.cause j) ((c.cause_of.ensures ∙ (λ k. cause_of (c.run.view_is k).me (f.list.fault k))) j)) ∙ cause_more c.loop-run.yielded r;
      room_keepers = omega (arith, i.room_keepers, c.add.ensures.room);
      room_lists = omega (arith, i.room_lists, c.add-in-loop-run.ensures.room);
    }

pub returns : goal.returns
returns g c =
    let i = c.loop-run.invariant in
    let left = c.loop-run.run-iterator.rest in
    let none = nil_from_length left.items (sym left.ok.0 ∙ c.in-None.ensures.steps.0) in
    let all = i.left ∙ (ap (λ xs. c.loop-run.yielded ++ xs) none ∙ append-nil c.loop-run.yielded) in
    record {
      sites = subst (All (IsSite g.K.SiteKeeper.shown g.K.SiteKeeper.may)) (sym all) i.sites;
      seat = i.seat;
      logs = i.logs ∙ ap (flat_map (λ (x : Running g.row.K.Denot g.row.G.Denot). x.seat.logs)) (sym all);
      keepers = subst (λ l. AllZip HasKeeper l c.loop-run.keepers.items) (sym all) i.keepers;
      lists = subst (λ l. AllZip LeavesList l c.loop-run.lists.items) (sym all) i.lists;
      cause = i.cause ∙ ap first_cause (sym all);
    }
