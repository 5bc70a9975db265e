use Rattle.std.proofs.Common.{◌≡◌, ◌+◌, ◌++◌, ℕ, List, [], ◌∷◌, map, length, sym, ap, ◌∙◌, arith, append_assoc, length-append}
use Rattle.std.proofs.lemmas.List.{length-map, map_push}
use Rattle.std.specs.List.{enumerate_from}
use Rattle.std.specs.Vec.Iter.{into_iter_items}
use Rattle.serde_json.specs.Data.{Data}
use Rattle.serde_json.specs.View.{view}
use Rattle.document_convert.specs.Parted.{event_id, with_part_id}
use Rattle.document_convert.proofs.ByThousands.{numbered_end}
use Rattle.document_convert.proofs.ConvertLemmas.{left_more}
use Rattle.document_convert.proofs.part_ids.push_numbered.Goals as goal

pub loop-part-preserved : goal.loop-part-preserved
loop-part-preserved c =
    let (left, count, so_far) = c.loop-part.invariant in
    let taken = c.loop-part.yielded in
    let part = c.in-Some.part in
    let id = event_id (view c.args.event.now) in
    let front = map view c.args.events.now.items in
    let before : List Data = map (with_part_id id) (enumerate_from 1 (map view taken)) in
    let long : length (map view taken) ≡ length taken = length-map taken view in
    let number : c.loop-part.number ≡ 1 + length (map view taken) = omega (arith, count, long) in
    let more = length-append taken (part ∷ []) in (
      left_more c.args.parts.items taken (into_iter_items c.loop-part.part-iterator) _ part left c.in-Some.ensures.steps.0,
      omega (arith, count, more),
      ap (map view) c.in_ok-push.ensures.items
          ∙ map_push view c.loop-part.events.items c.in_ok-numbered.numbered
          ∙ ap (λ (ds : List Data). ds ++ view c.in_ok-numbered.numbered ∷ []) so_far
          ∙ ap (λ (d : Data). (front ++ before) ++ d ∷ []) c.in_ok-numbered.ensures
          ∙ ap (λ (n : ℕ). (front ++ before) ++ with_part_id id (n, view part) ∷ []) number
          ∙ append_assoc front before _
          ∙ ap (λ (ds : List Data). front ++ ds) (sym (ap (λ (xs : List Data). map (with_part_id id) (enumerate_from 1 xs)) (map_push view taken part) ∙ numbered_end id 1 (map view taken) (view part))),
    )
