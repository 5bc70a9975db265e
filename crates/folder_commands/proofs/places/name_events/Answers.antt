use Rattle.std.specs.Prelude.{Contains}
use Rattle.event_json.specs.Untraced.{outside_of}
use Rattle.event_json.specs.declared.events.Event.{Event}
use Rattle.folder_commands.proofs.PlaceLemmas.{all_named, none_named, one_more_named}
use Rattle.folder_commands.proofs.places.name_events.Goals as goal

pub loop-event-init : goal.loop-event-init
loop-event-init c = none_named (λ (e : Event). Contains (outside_of e.body)) c.args.events.now c.args.named.now.items

pub loop-event-preserved : goal.loop-event-preserved
loop-event-preserved c =
    one_more_named (λ (e : Event). Contains (outside_of e.body)) c.args.events.now c.loop-event.event-index c.event-item.result c.loop-event-test.true
    c.event-item.is c.args.named.now.items c.loop-event.named.items c.name_event.new.named.items c.loop-event.invariant c.in_ok-name_event.ensures

pub returns : goal.returns
returns c = all_named (λ (e : Event). Contains (outside_of e.body)) c.args.events.now c.loop-event.event-index c.loop-event-test.false c.args.named.now.items c.loop-event.named.items c.loop-event.invariant
