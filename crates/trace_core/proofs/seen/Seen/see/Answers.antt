use Rattle.std.proofs.Common.{◌≡◌, false, not, ◌↔◌, ap, subst, ◌∙◌, arith}
use Rattle.std.proofs.Math.ListN.{set}
use Rattle.std.specs.BTreeSet.{BTreeSet, contains}
use Rattle.std.specs.List.{Contains}
use Rattle.std.proofs.lemmas.Result.{on_ok_weaker, IfOk-weaker}
use Rattle.trace_core.specs.declared.groups.Group.{Group}
use Rattle.trace_core.specs.Groups.{group_cmp, Sees}
use Rattle.trace_core.proofs.SeenSteps.{groups_at, marked_seen, marked_new}
use Rattle.trace_core.proofs.seen.Seen.see.Goals as goal

pub returns-clause-seen : goal.returns-clause-seen
returns-clause-seen c = on_ok_weaker c.mark.result
    (λ marked. subst (λ (old : BTreeSet Group). Sees old (groups_at (set c.make_room.new.sites.items c.args.site c.mark.new.self)) (record { site = c.args.site; first = c.args.first })) c.self.view_is
    (marked_seen c.self.inside.sites.items c.make_room.new.sites.items c.args.site c.args.first c.index_mut.result.now (omega (arith, c.in_ok-make_room.ensures.room, c.make_room.new.sites.ok)) c.in_ok-make_room.ensures.same c.index_mut.ensures.value c.mark.new.self marked))
    c.mark.ensures.marked

pub returns-clause-new : goal.returns-clause-new
returns-clause-new c = IfOk-weaker c.mark.result
    (λ new. new ≡ false ↔ Contains c.index_mut.result.now c.args.first)
    (λ new. new ≡ not (contains group_cmp c.args.self.now (record { site = c.args.site; first = c.args.first })))
    (λ new told. marked_new c.self.inside.sites.items c.make_room.new.sites.items c.args.site c.args.first c.index_mut.result.now (omega (arith, c.in_ok-make_room.ensures.room, c.make_room.new.sites.ok)) c.in_ok-make_room.ensures.same c.index_mut.ensures.value new told
    ∙ ap (λ (seen : BTreeSet Group). not (contains group_cmp seen (record { site = c.args.site; first = c.args.first }))) c.self.view_is)
    c.mark.ensures.new
