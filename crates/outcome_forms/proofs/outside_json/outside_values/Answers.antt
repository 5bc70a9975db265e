use Rattle.std.proofs.Common.{◌∙◌, ◌++◌, List, [], ◌∷◌, ap, ap₂, arith, map, sym, take}
use Rattle.std.proofs.lemmas.List.{map-append, take_all}
use Rattle.serde_json.specs.Data.{Data}
use Rattle.serde_json.specs.View.{view}
use Rattle.report_forms.specs.Accounts.{outside_part_of}
use Rattle.report_forms.proofs.Parts.{one_more}
use Rattle.outcome_forms.specs.Json.{outside_json}
use Rattle.outcome_forms.proofs.outside_json.outside_values.Goals as goal

pub loop-place-preserved : goal.loop-place-preserved
loop-place-preserved c =
    let of = outside_json c.args.sites.now in
    let outside = c.args.account.now.outside in
    let place = c.loop-place.place in
    let part = outside_part_of c.in-Some.part in
    let old = c.loop-place.values.items in
    let v = c.in_ok-outside_json.field-0 in
    ap (map view) c.in_ok-push.ensures.items ∙ map-append view old (v ∷ [])
    ∙ ap₂ (λ (ds es : List Data). ds ++ es) c.loop-place.invariant (ap (λ (d : Data). d ∷ []) c.in_ok-outside_json.ensures)
    ∙ sym (ap (map of) (one_more outside place part (sym c.in-Some.ensures)) ∙ map-append of (take place outside) (part ∷ []))

pub returns : goal.returns
returns c =
    let outside = c.args.account.now.outside in
    c.loop-place.invariant ∙ ap (map (outside_json c.args.sites.now)) (take_all c.loop-place.place outside (omega (arith, c.loop-place-test.false, c.outside_len-place-end.ensures)))
