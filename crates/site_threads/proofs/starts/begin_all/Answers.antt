use Rattle.std.proofs.Common.{◌≡◌, ◌+◌, ◌<◌, ◌≤◌, ◌++◌, ◌∷◌, [], ◌∙◌, Some, List, All, length, true≢false, map, refl, sym, ap, subst, arith}
use Rattle.std.proofs.lemmas.List.{length_push, nil_from_length, append-nil}
use Rattle.std.proofs.lemmas.List.Elements.{All-nil, All-push}
use Rattle.std.specs.List.{AllZip, range_with_len}
use Rattle.std.specs.Vec.Iter.{into_iter_items}
use Rattle.wire_core.specs.Rule.{logs_from}
use Rattle.site_threads.specs.Sites.{Running}
use Rattle.site_threads.specs.Beginning.{BeganIn, TookEnd}
use Rattle.site_threads.specs.Ends.{IsUnused}
use Rattle.site_threads.specs.Runs.{IsReady}
use Rattle.site_threads.proofs.Looping.{left_more, less, one_of}
use Rattle.site_threads.proofs.Numbers.{numbered_push}
use Rattle.site_threads.proofs.Starting.{NumberedFrom, next_site, placed}
use Rattle.site_threads.proofs.Zips.{as_long, zipped_more}
use Rattle.site_threads.proofs.starts.begin_all.Goals as goal

pub loop-keeper-init : goal.loop-keeper-init
loop-keeper-init g c =
    let shown = g.K.SiteKeeper.shown in
    let none = c.requires.room.0 in
    let keepers = c.into_iter-keeper-iterator.ensures.into_iter_gives.0 in
    let desks = c.into_iter-ends.ensures.rest in
    let gates = c.into_iter-asked.ensures.rest in
    let sites = c.requires.sites in
    let count = c.requires.count in
    record {
      seat = c.requires.seat;
      left = sym keepers;
      ends = ([], sym desks, subst (λ l. AllZip TookEnd [] l) (sym none) tt);
      many = ap length desks ∙ (count.1 ∙ ap length (sym keepers));
      few = let empty = ap length none in let all = ap length keepers in let few = count.0 in omega (arith, empty, all, few);
      gates = ap length gates ∙ (count.2 ∙ ap length (sym keepers));
      sites = (
        sites.0,
        sites.1 ∙ ap (λ (l : List (Running g.row.K.Denot g.row.G.Denot)). logs_from (length l) sites.0) (sym none),
        subst (λ l. AllZip (λ k r. shown k ≡ Some r) l sites.0) (sym keepers) sites.2,
        subst (λ (l : List (Running g.row.K.Denot g.row.G.Denot)). NumberedFrom (length l) sites.0) (sym none) (placed sites.0 sites.3),
      );
      ready = let Ready = IsReady {K = g.row.K.Denot} {G = g.row.G.Denot} in subst (All Ready) (sym none) (All-nil Ready);
      wires = let AtWire = λ (r : Running g.row.K.Denot g.row.G.Denot). r.wire ≡ c.args.wire.now in subst (All AtWire) (sym none) (All-nil AtWire);
      order = subst (λ (l : List (Running g.row.K.Denot g.row.G.Denot)). map (λ (r : Running g.row.K.Denot g.row.G.Denot). r.me) l ≡ range_with_len 0 (length l)) (sym none) refl;
      start = subst (λ (l : List (Running g.row.K.Denot g.row.G.Denot)). AllZip (BeganIn shown) [] l) (sym none) tt;
      room = c.requires.room.1;
    }

pub add-requires : goal.add-requires
add-requires g c =
    let i = c.loop-keeper.invariant in
    let fewer = less c.args.keepers.items c.loop-keeper.yielded (into_iter_items c.loop-keeper.keeper-iterator) _ c.in-Some.keeper i.left c.in-Some.ensures.steps.0 in
    let long = as_long (BeganIn g.K.SiteKeeper.shown) c.loop-keeper.yielded c.loop-keeper.runs.items i.start in
    let len = c.loop-keeper.runs.ok.0 in
    let room = i.room in
    omega (arith, fewer, long, len, room)

pub unreachable-requires-in_default-of : goal.unreachable-requires-in_default-of
unreachable-requires-in_default-of g c =
    let i = c.loop-keeper.invariant in
    let steps = ap length c.in-Some.ensures.steps.0 in
    let runs = c.len.ensures ∙ c.loop-keeper.runs.ok.0 in
    let few = i.few in
    let small : c.len.result < 16 = omega (arith, steps, runs, few) in
    true≢false (sym (c.in_default-of.ensures.some.1 small))

pub begin-requires-clause-start : goal.begin-requires-clause-start
begin-requires-clause-start g c =
    let i = c.loop-keeper.invariant in
    let shown = g.K.SiteKeeper.shown in
    let runs = c.loop-keeper.runs.items in
    let me : c.in-Some-of.me ≡ length runs = c.in-Some-of.ensures.value ∙ c.len.ensures ∙ c.loop-keeper.runs.ok.0 in
    let items = into_iter_items c.loop-keeper.keeper-iterator in
    let n = next_site shown items _ c.in-Some.keeper (length runs) i.sites.0 i.sites.2 i.sites.3 c.in-Some.ensures.steps.0 in
    let held = i.sites.1 ∙ (λ j. logs_from (sym me j) (n.2 j)) in
    let long = as_long (λ k r. shown k ≡ Some r) items i.sites.0 i.sites.2 in
    let rest = ap length n.2 in
    let few = i.few in
    let bound : c.in-Some-of.me + length (n.0 ∷ n.1) ≤ 16 = omega (arith, me, long, rest, few) in
    (n.0, n.3, (c.first_apart-mine.ensures.parts n.0 n.1 held bound).0, n.5 ∙ sym me)

pub begin-requires-clause-desk : goal.begin-requires-clause-desk
begin-requires-clause-desk g c =
    let i = c.loop-keeper.invariant in
    one_of c.args.desks.items i.ends.0 (into_iter_items c.loop-keeper.ends) _ c.in-Some-next.out i.ends.1 c.in-Some-next.ensures.items IsUnused c.requires.desks

pub loop-keeper-preserved : goal.loop-keeper-preserved
loop-keeper-preserved g c =
    let i = c.loop-keeper.invariant in
    let shown = g.K.SiteKeeper.shown in
    let Ready = IsReady {K = g.row.K.Denot} {G = g.row.G.Denot} in
    let AtWire = λ (r : Running g.row.K.Denot g.row.G.Denot). r.wire ≡ c.args.wire.now in
    let runs = c.loop-keeper.runs.items in
    let run = c.begin.result in
    let new = c.add.new.items.items in
    let pushed : new ≡ runs ++ run ∷ [] = c.add.ensures.items in
    let me : c.in-Some-of.me ≡ length runs = c.in-Some-of.ensures.value ∙ c.len.ensures ∙ c.loop-keeper.runs.ok.0 in
    let items = into_iter_items c.loop-keeper.keeper-iterator in
    let next = c.in-Some.ensures.steps.0 in
    let n = next_site shown items _ c.in-Some.keeper (length runs) i.sites.0 i.sites.2 i.sites.3 next in
    let held = i.sites.1 ∙ (λ j. logs_from (sym me j) (n.2 j)) in
    let long = as_long (λ k r. shown k ≡ Some r) items i.sites.0 i.sites.2 in
    let rest = ap length n.2 in
    let few = i.few in
    let bound : c.in-Some-of.me + length (n.0 ∷ n.1) ≤ 16 = omega (arith, me, long, rest, few) in
    let steps = ap length next in
    let ends = ap length c.in-Some-next.ensures.items in
    let asked = ap length c.in-Some-next-2.ensures.items in
    let count : length new ≡ length runs + 1 = let l = ap length pushed in let p = length_push runs run in omega (arith, l, p) in
    let many = i.many in
    let gates = i.gates in
    record {
      seat = c.first_apart-mine.ensures.seats.1;
      left = left_more c.args.keepers.items c.loop-keeper.yielded items _ c.in-Some.keeper i.left next;
      ends = (
        i.ends.0 ++ c.in-Some-next.out ∷ [],
        left_more c.args.desks.items i.ends.0 (into_iter_items c.loop-keeper.ends) _ c.in-Some-next.out i.ends.1 c.in-Some-next.ensures.items,
        zipped_more TookEnd i.ends.0 runs c.in-Some-next.out run new i.ends.2 c.begin.ensures.desk pushed,
      );
      many = omega (arith, steps, ends, many);
      few = omega (arith, steps, count, few);
      gates = omega (arith, steps, asked, gates);
      sites = (
        n.1,
        (c.first_apart-mine.ensures.parts n.0 n.1 held bound).1 ∙ ap (λ k. logs_from k n.1) (let e : c.in-Some-of.me + 1 ≡ length new = omega (arith, me, count) in e),
        n.4,
        subst (λ k. NumberedFrom k n.1) (sym count) n.6,
      );
      ready = subst (All Ready) (sym pushed) (All-push Ready runs run i.ready c.begin.ensures.ready);
      wires = subst (All AtWire) (sym pushed) (All-push AtWire runs run i.wires c.begin.ensures.place.0);
      order = numbered_push (λ (r : Running g.row.K.Denot g.row.G.Denot). r.me) 0 runs new run i.order (c.begin.ensures.place.1 ∙ me ∙ (let z : length runs ≡ 0 + length runs = omega arith in z)) pushed;
      start = zipped_more (BeganIn shown) c.loop-keeper.yielded runs c.in-Some.keeper run new i.start c.begin.ensures.start pushed;
      room = omega (arith, i.room, c.add.ensures.room);
    }

pub returns-clause-order : goal.returns-clause-order
returns-clause-order g c =
    let i = c.loop-keeper.invariant in
    let long = as_long (BeganIn g.K.SiteKeeper.shown) c.loop-keeper.yielded c.loop-keeper.runs.items i.start in
    let left = c.loop-keeper.keeper-iterator.rest in
    let none = nil_from_length left.items (sym left.ok.0 ∙ c.in-None.ensures.steps.0) in
    let all = i.left ∙ (ap (λ xs. c.loop-keeper.yielded ++ xs) none ∙ append-nil c.loop-keeper.yielded) in
    i.order ∙ ap (range_with_len 0) (long ∙ sym (ap length all))

pub returns-clause-desks : goal.returns-clause-desks
returns-clause-desks g c =
    let i = c.loop-keeper.invariant in
    let left = c.loop-keeper.keeper-iterator.rest in
    let none = sym left.ok.0 ∙ c.in-None.ensures.steps.0 in
    let ends = nil_from_length (into_iter_items c.loop-keeper.ends) (i.many ∙ none) in
    let all = i.ends.1 ∙ (ap (λ xs. i.ends.0 ++ xs) ends ∙ append-nil i.ends.0) in
    subst (λ l. AllZip TookEnd l c.loop-keeper.runs.items) (sym all) i.ends.2
