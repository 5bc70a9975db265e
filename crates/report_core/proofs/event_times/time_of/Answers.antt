use Rattle.std.proofs.Common.{◌≡◌, ◌↔◌, ◌∙◌, IfSome, IsSome}
use Rattle.std.proofs.lemmas.Int.{to_z-of_z}
use Rattle.epc_core.specs.Spellings.{IsPlain}
use Rattle.report_core.specs.EventTimes.{TellsTime}
use Rattle.report_core.proofs.Results.{if_both}
use Rattle.report_core.proofs.TimesWritten.{time_told}
use Rattle.report_core.proofs.event_times.time_of.Goals as goal

pub returns : goal.returns
returns c =
    let text = c.deref.result.now in
    let at : c.in-Ok.timestamp.nanosecond ≡ c.args.instant = simp (to_z-of_z, c.ranges.instant) at c.in-Ok.ensures.value in
    if_both (λ own. IsSome own ↔ IsPlain text) (λ own. IfSome own (λ o. o ≡ text)) (TellsTime c.args.instant)
    (λ own plain value. time_told c.args.instant c.in-Ok.timestamp c.to_datetime-clock.result text at c.to_datetime-clock.ensures (c.deref.ensures ∙ c.in_ok-text.ensures.ok) own plain value)
    c.read.result c.read.ensures.plain c.read.ensures.value
