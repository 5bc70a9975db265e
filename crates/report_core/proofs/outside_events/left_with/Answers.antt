use Rattle.std.proofs.Common.{◌∙◌, ap, inr, sym}
use mathlib.Core.Bool.{false≢true}
use Rattle.std.proofs.lemmas.Option.{get_or_from_slice_get}
use Rattle.trace_core.specs.declared.pairs.Pair.{Pair}
use Rattle.report_core.proofs.outside_events.left_with.Goals as goal

pub returns-in-Some : goal.returns-in-Some
returns-in-Some c =
    let carriers = c.args.carriers.now in
    let number = c.in-Some.number in
    let ((d, at, under), least) = c.in-Some.ensures in
    inr (
      λ kept. false≢true (sym c.if-stands_under.false ∙ c.stands_under.ensures.1 kept),
      (number, c.in-Some.ensures, (d, at, ap (λ (p : Pair). p.item) (sym (get_or_from_slice_get carriers number d c.index-carriers-number.result at)))),
    )
