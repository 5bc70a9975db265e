use Rattle.std.proofs.Common.{◌∙◌, sym, ap, subst, arith}
use Rattle.std.specs.List.{range_with_len}
use Rattle.world_core.specs.Faults.{AreOneWorld}
use Rattle.wire_core.specs.Changes.{below, from}
use Rattle.site_threads.specs.Beginning.{BeganIn}
use Rattle.site_threads.specs.Gathering.{RanFrom}
use Rattle.site_threads.specs.Parting.{HasKeeper, IsRoomFor}
use Rattle.site_threads.specs.Runs.{Ran}
use Rattle.site_threads.specs.Sites.{Running}
use Rattle.site_threads.proofs.Ending.{kept_all, left_all, fresh_all, began_all, ends_all, turned_all, hinders_all, explains_all, first_named, none_named, ordered_all, starts_one, stored_all, wires_all}
use Rattle.site_threads.proofs.Gathering.{all_there, keepers_fit, keepers_ran}
use Rattle.site_threads.proofs.Starting.{none_apart}
use Rattle.site_threads.proofs.Zips.{as_long, same_map}
use Rattle.site_threads.proofs.worlds.run_in.Goals as goal

pub begin_all-runs-requires-clause-sites : goal.begin_all-runs-requires-clause-sites
begin_all-runs-requires-clause-sites g c =
    let w = c.requires.world in
    let at = c.in-Some.ensures.value in
    (w.0, c.split-root.ensures.parts.1 ∙ ap (from c.in-Some.first) w.3 ∙ (none_apart w.0 c.in-Some.first at).1, w.1, w.2.places)

pub run_each-requires-clause-count : goal.run_each-requires-clause-count
run_each-requires-clause-count g c =
    let long = as_long (BeganIn {G = g.row.G.Denot} g.K.SiteKeeper.shown) c.args.keepers.items c.begin_all-runs.result.items c.begin_all-runs.ensures.start in
    let few = c.requires.count in
    omega arith

pub part-seat-requires-clause-root : goal.part-seat-requires-clause-root
part-seat-requires-clause-root g c =
    let w = c.requires.world in
    let at = c.in-Some.ensures.value in
    (c.split-root.ensures.seats.0, c.split-root.ensures.parts.0 ∙ ap (below c.in-Some.first) w.3 ∙ (none_apart w.0 c.in-Some.first at).0)

pub part-seat-requires-clause-wire : goal.part-seat-requires-clause-wire
part-seat-requires-clause-wire g c =
    wires_all g.K.SiteKeeper.shown g.K.SiteKeeper.reopens g.G.Gate.gives_up g.K.SiteKeeper.stored c.args.turns c.args.room.wire c.begin_all-runs.result.items c.run_each.new.runs.items c.begin_all-runs.ensures.wire c.run_each.ensures

pub part-seat-requires-clause-room : goal.part-seat-requires-clause-room
part-seat-requires-clause-room g c =
    let long = as_long (BeganIn {G = g.row.G.Denot} g.K.SiteKeeper.shown) c.args.keepers.items c.begin_all-runs.result.items c.begin_all-runs.ensures.start in
    let more = as_long (Ran {G = g.row.G.Denot} g.K.SiteKeeper.shown g.K.SiteKeeper.reopens g.G.Gate.gives_up g.K.SiteKeeper.stored c.args.turns) c.begin_all-runs.result.items c.run_each.new.runs.items c.run_each.ensures in
    subst (λ n. IsRoomFor n c.args.room.ended) (sym (more ∙ long)) c.requires.ended

pub close-requires : goal.close-requires
close-requires g c =
    let runs = c.run_each.new.runs.items in
    let me = λ (r : Running g.row.K.Denot g.row.G.Denot). r.me in
    let same = same_map (Ran {G = g.row.G.Denot} g.K.SiteKeeper.shown g.K.SiteKeeper.reopens g.G.Gate.gives_up g.K.SiteKeeper.stored c.args.turns) me c.begin_all-runs.result.items runs (λ x y r. r.same.me) c.run_each.ensures in
    let order = same ∙ c.begin_all-runs.ensures.order ∙ ap (range_with_len 0) (sym c.requires.wire.1) in
    let p = c.part-seat.ensures in
    (p.seat, all_there g.K.SiteKeeper.shown g.K.SiteKeeper.may c.args.room.wire runs c.part-seat.result.0.logs p.sites p.logs order)

pub returns : goal.returns
returns g c =
    let K = g.K.SiteKeeper in
    let gives_up = g.G.Gate.gives_up in
    let most = c.args.turns in
    let wire = c.args.room.wire in
    let olds = c.begin_all-runs.result.items in
    let runs = c.run_each.new.runs.items in
    let left = c.part-seat.result.1 in
    let ks = left.keepers.items in
    let ls = left.lists.items in
    let w = c.requires.world in
    let b = c.begin_all-runs.ensures in
    let ran = c.run_each.ensures in
    let p = c.part-seat.ensures in
    let all = c.close.ensures in
    let R = Ran {G = g.row.G.Denot} K.shown K.reopens gives_up K.stored most in
    let me = λ (r : Running g.row.K.Denot g.row.G.Denot). r.me in
    let long = as_long R olds runs ran ∙ as_long (BeganIn {G = g.row.G.Denot} K.shown) c.args.keepers.items olds b.start in
    let numbers = same_map R me olds runs (λ x y r. r.same.me) ran ∙ b.order in
    let order = numbers ∙ ap (range_with_len 0) (sym c.requires.wire.1) in
    let placed = numbers ∙ ap (range_with_len 0) (sym long) in
    let logs = c.part-seat.result.0.logs in
    let one = starts_one K.shown K.reopens gives_up K.stored most c.args.keepers.items olds runs w.0 b.start ran w.1 w.2.one in
    let fresh = fresh_all K.shown K.reopens gives_up K.stored most olds runs b.ready ran in
    let fit = keepers_fit K.shown K.may wire runs logs p.sites p.logs order all.0 all.1 all.2 one ks p.keepers in
    record {
      kept = λ none. kept_all K.shown K.reopens gives_up K.stored most K.may olds runs ks ls b.ready ran p.sites p.keepers p.lists (sym p.cause ∙ none);
      left = left_all K.shown K.reopens gives_up K.stored most K.may olds runs ls b.ready ran p.sites p.lists;
      began = began_all K.shown K.reopens gives_up K.stored most olds runs ls ran p.lists c.args.keepers.items b.start;
      ends = ends_all K.shown K.reopens gives_up K.stored most olds runs ls ran p.lists c.args.desks.items b.desks;
      order = ordered_all K.shown K.reopens gives_up K.stored most olds runs ls ran p.lists placed;
      turns = λ none. turned_all K.shown K.reopens gives_up K.stored most olds runs ks ls ran p.keepers p.lists (sym p.cause ∙ none);
      fit = fit;
      run = record { before = w.0; began = w.1; ran = subst (λ rs. RanFrom K.shown K.may rs ks ls) w.4 (keepers_ran K.shown K.may wire runs logs p.sites p.logs order all.0 all.1 all.2 (subst AreOneWorld (sym w.4) w.2.one) fresh ks ls p.keepers p.lists) };
      stored = stored_all K.shown K.reopens gives_up K.stored most c.args.keepers.items olds runs ks b.start ran p.keepers;
      back = as_long (HasKeeper {G = g.row.G.Denot}) runs ks p.keepers ∙ long;
      cause = hinders_all K.shown K.reopens gives_up K.stored most K.may c.args.keepers.items olds runs ks left.cause ran p.keepers placed p.cause fit;
      why = explains_all K.shown K.reopens gives_up K.stored most olds runs ks left.cause ran p.keepers placed p.cause;
      first = first_named runs ls left.cause p.lists placed p.cause;
      none = λ none. none_named runs ls p.lists (sym p.cause ∙ none);
    }
