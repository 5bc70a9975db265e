use Rattle.std.proofs.Common.{◌+◌, Ok, All, subst, sym, ap, ◌∙◌}
use Rattle.std.proofs.lemmas.List.{take_all}
use Rattle.std.proofs.lemmas.List.Elements.{All-more}
use Rattle.event_json.specs.ItemLists.{destination_of}
use Rattle.event_json.specs.Lent.{destination_in, IsDestination}
use Rattle.event_json.proofs.Each.{lent_more}
use Rattle.event_json.proofs.item_lists.check_each_destination.Goals as goal

pub loop-value-preserved : goal.loop-value-preserved
loop-value-preserved c =
    let i = c.loop-value.value-index in
    let list = c.args.list.now in
    let value = c.value-item.result in
    let one = c.in_ok-destination.ensures in
    record {
      found = lent_more (λ _. destination_of) destination_in (i + 1) list i value _ c.loop-value-test.true
          (rw (← c.value-item.is) (sym one.value ∙ ap Ok one.lent)) c.loop-value.invariant.found;
      plain = All-more IsDestination list i value c.loop-value-test.true c.loop-value.invariant.plain
          (rw (← c.value-item.is) one.plain);
    }

pub returns-clause-texts : goal.returns-clause-texts
returns-clause-texts c =
    subst (All IsDestination) (take_all c.loop-value.value-index c.args.list.now c.loop-value-test.false) c.loop-value.invariant.plain
