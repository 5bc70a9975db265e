use Rattle.std.proofs.Common.{◌∙◌, ◌+◌, ◌<◌, length, sym, ap, subst, arith}
use Rattle.std.specs.Option.{option_map}
use Rattle.trace_core.specs.Searches.{IsFound}
use Rattle.site_core.specs.ItemSets.{item_cmp}
use Rattle.report_core.specs.Sources.{AddsTo}
use Rattle.report_core.proofs.Additions.{adds_nothing}
use Rattle.report_core.proofs.EventsInTurn.{not_past}
use Rattle.report_core.proofs.StepsWanted.{ContainsBefore, container_added, containers_added}
use Rattle.report_core.proofs.wanted_steps.add_containers_of.Goals.{in-Some+in_ok-add_container, in_default}
use Rattle.report_core.proofs.wanted_steps.add_containers_of.Goals as goal

pub loop-place-init : goal.loop-place-init
loop-place-init c = adds_nothing (IsFound item_cmp c.args.items.now) (ContainsBefore c.args.site.now 0) (λ i (n, below, there). omega (arith, below))

pub loop-place-preserved : goal.loop-place-preserved
loop-place-preserved c =
    let s = c.args.site.now in
    let place = c.loop-place.place in
    elim c.match-event.branch as (λ _. AddsTo (IsFound item_cmp c.args.items.now) (IsFound item_cmp c.match-event.items) (ContainsBefore s (place + 1))) [
      | in-Some+in_ok-add_container w ↦
          let there = sym (sym (ap (option_map (λ e. e.now)) w.in-Some.is) ∙ c.event.ensures) in
          subst (λ f. AddsTo (IsFound item_cmp c.args.items.now) (IsFound item_cmp f) (ContainsBefore s (place + 1))) (sym w.items-is)
          (container_added s c.args.items.now c.loop-place.items w.add_container.new.items place w.in-Some.event.now w.body.result.now there w.body.ensures.value c.loop-place.invariant w.in_ok-add_container.ensures)
      | in_default w ↦
          let below : place < length s.events = subst (λ n. place < n) c.len-place-end.ensures c.loop-place-test.true in
          let none = sym (ap (option_map (λ e. e.now)) w.in_default.is) ∙ c.event.ensures in
          absurd (not_past s.events place below none)
    ]

pub returns : goal.returns
returns c = containers_added c.args.site.now c.args.items.now c.loop-place.items c.loop-place.place (omega (arith, c.loop-place-test.false, c.len-place-end.ensures)) c.loop-place.invariant
