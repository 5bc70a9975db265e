use Rattle.std.proofs.Common.{◌≡◌, ◌+◌, ℕ, List, [], ◌∷◌, ◌++◌, map, length, refl, sym, ap, ap₂, ◌∙◌, subst, arith, append-nil, length-append}
use Rattle.std.proofs.lemmas.List.{length-map, map_push, nil_from_length}
use Rattle.std.specs.Vec.Iter.{into_iter_items}
use Rattle.folder_commands.specs.Inputs.{Input, input_of}
use Rattle.folder_commands.specs.Words.{of_event, of_events}
use Rattle.folder_commands.specs.declared.inputs.Doing.TheVariants as doings
use Rattle.folder_commands.specs.declared.inputs.Given.{Given}
use Rattle.folder_commands.proofs.WordLemmas.{events_more, fewer, left_more}
use Rattle.folder_commands.proofs.words.event_inputs.Goals as goal

pub loop-bytes-init : goal.loop-bytes-init
loop-bytes-init c = (sym c.into_iter-bytes-iterator.ensures.into_iter_gives.0, refl, ap (map input_of) c.new-all.ensures.items)

pub overflow_add-number : goal.overflow_add-number
overflow_add-number c =
    let (left, count, so_far) = c.loop-bytes.invariant in
    let more = fewer (λ d. d.items) c.args.documents.items c.loop-bytes.yielded (into_iter_items c.loop-bytes.bytes-iterator) _ c.in-Some.bytes left c.in-Some.ensures.steps.0 in
    omega (arith, count, more, c.args.documents.ok, c.args.documents.small)

pub loop-bytes-preserved : goal.loop-bytes-preserved
loop-bytes-preserved c =
    let (left, count, so_far) = c.loop-bytes.invariant in
    let taken = c.loop-bytes.yielded in
    let bytes = c.in-Some.bytes in
    let path = c.args.path.now in
    let long : length (map (λ d. d.items) taken) ≡ length taken = length-map taken (λ d. d.items) in
    let next : c.loop-bytes.number + 1 ≡ 1 + length (map (λ d. d.items) taken) = omega (arith, count, long) in
    let one : Input = of_event path (1 + length (map (λ d. d.items) taken)) bytes.items in
    let given : Given = record { doing = doings.Capture; source = c.in_ok-source.source; bytes = bytes } in
    let is : input_of given ≡ one = (λ j. record { doing = one.doing; source = (c.in_ok-source.ensures.ok ∙ ap (λ (n : ℕ). (of_event path n bytes.items).source) next) j; bytes = one.bytes }) in (
      left_more (λ d. d.items) c.args.documents.items taken (into_iter_items c.loop-bytes.bytes-iterator) _ bytes left c.in-Some.ensures.steps.0,
      subst (λ (n : ℕ). n + 1 ≡ length (taken ++ bytes ∷ [])) (sym count) (omega (arith, length-append taken (bytes ∷ []))),
      ap (map input_of) c.in_ok-push.ensures.items ∙ map_push input_of c.loop-bytes.all.items given
          ∙ ap₂ (λ (xs : List Input) (x : Input). xs ++ x ∷ []) so_far is
          ∙ sym (ap (of_events path 1) (map_push (λ d. d.items) taken bytes) ∙ events_more path 1 (map (λ d. d.items) taken) bytes.items),
    )

pub returns : goal.returns
returns c =
    let (left, count, so_far) = c.loop-bytes.invariant in
    let rest = c.loop-bytes.bytes-iterator.rest in
    let none = nil_from_length rest.items (sym rest.ok.0 ∙ c.in-None.ensures.steps.0) in
    let all = left ∙ ap (λ ds. c.loop-bytes.yielded ++ ds) none ∙ append-nil c.loop-bytes.yielded in
    so_far ∙ ap (λ ds. of_events c.args.path.now 1 (map (λ d. d.items) ds)) (sym all)
