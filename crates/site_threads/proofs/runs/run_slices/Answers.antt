use Rattle.std.proofs.Common.{slice_index_or, sym, subst}
use Rattle.std.proofs.lemmas.List.Elements.{All-get_or}
use Rattle.site_threads.specs.Sites.{Running}
use denote.Param.Send.{sendable}
use Rattle.site_threads.specs.Runs.{IsBetween, IsSliced}
use Rattle.site_threads.proofs.Sending.{running_send}
use Rattle.site_threads.proofs.runs.run_slices.Goals as goal

pub for_each_mut-requires-send-T : goal.for_each_mut-requires-send-T
for_each_mut-requires-send-T g c κs within =
    let k = c.type_bounds.send-K in
    let h = c.type_bounds.send-G in
    search (running_send, sendable) depth 20

pub for_each_mut-requires-clause-accepts : goal.for_each_mut-requires-clause-accepts
for_each_mut-requires-clause-accepts g c κs within i p h is =
    let between = IsBetween g.K.SiteKeeper.shown g.K.SiteKeeper.reopens g.G.Gate.gives_up c.args.turns in
    (subst between (sym is) (All-get_or between c.args.runs.now i p.now h c.requires.between), c.requires.turns)

pub returns-clause-each : goal.returns-clause-each
returns-clause-each g c i d h =
    let r = (c.for_each_mut.ensures i d h).1 in
    let sliced = IsSliced g.K.SiteKeeper.shown g.K.SiteKeeper.reopens g.G.Gate.gives_up c.args.turns g.K.SiteKeeper.stored in
    let old = slice_index_or c.args.runs.now i d in
    let new = slice_index_or c.for_each_mut.new.s i d in
    subst (λ (o : Running g.row.K.Denot g.row.G.Denot). sliced o new) r.argument_is (subst (λ (n : Running g.row.K.Denot g.row.G.Denot). sliced r.argument.now n) r.left r.call)
