use Rattle.std.proofs.Common.{◌≡◌, List, [], ◌∷◌, ◌++◌, Some, take, slice_get, sym, ap, subst, ◌∙◌}
use Rattle.std.specs.Option.{option_map}
use Rattle.std.proofs.lemmas.List.{take_more}
use Rattle.std.proofs.lemmas.Option.{get_or_from_slice_get, slice_get_within}
use Rattle.event_json.specs.Events.{Content}
use Rattle.folder_questions.specs.Coverage.{IsEnd}
use Rattle.folder_questions.proofs.CoverageLemmas.{end_more}
use Rattle.folder_questions.proofs.coverage.end_of.Goals as goal

pub loop-place-preserved : goal.loop-place-preserved
loop-place-preserved c =
    let events = c.args.captured.now.events in
    let place = c.loop-place.place in
    let event = c.in-Some.event.now in
    let end = option_map (λ e. e.now) c.loop-place.end in
    let there : slice_get events place ≡ Some event = sym (sym (ap (option_map (λ e. e.now)) c.in-Some.is) ∙ c.event.ensures) in
    let more = take_more events place event (slice_get_within events place event there) ∙ ap (λ (e : Content). take place events ++ e ∷ []) (get_or_from_slice_get events place event event there) in
    subst (λ (es : List Content). IsEnd c.args.last es (Some c.further.result.now)) (sym more)
    (subst (λ (e : Content). IsEnd c.args.last (take place events ++ event ∷ []) (Some e)) (sym c.further.ensures)
    (end_more c.args.last (take place events) event end c.loop-place.invariant))
