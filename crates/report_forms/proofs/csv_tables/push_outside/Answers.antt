use Rattle.std.proofs.Common.{◌≡◌, ◌∙◌, ◌++◌, ℕ, List, [], ◌∷◌, None, ap, ap₂, codes, map, string_bytes}
use Rattle.std.proofs.lemmas.Result.{on_ok_weaker}
use Rattle.report_forms.specs.Accounts.{outside_part_of}
use Rattle.report_forms.specs.Csv.{Fields, cell_line, row_of}
use Rattle.report_forms.specs.Evidence.{carrier_of, event_outside, id_of, if_told, outside_evidence, time_of}
use Rattle.report_forms.proofs.csv_tables.push_outside.Goals as goal

pub returns : goal.returns
returns c =
    let x = outside_part_of c.args.part.now in
    let told = c.args.told in
    let id : c.id_of.result.now ≡ id_of (event_outside x) = c.id_of.ensures ∙ ap id_of c.event_outside-event.ensures in
    let time : c.time_of.result.now ≡ time_of (event_outside x) = c.time_of.ensures ∙ ap time_of c.event_outside-event.ensures in
    let carrier : c.as_str.result.now ≡ carrier_of x.shipment.item x.event = c.as_str.ensures.value ∙ c.in_ok-carrier.ensures in
    let evidence : map (λ f. f.now) c.if_told.result.now ≡ outside_evidence told x = c.if_told.ensures ∙ ap (if_told told) (λ i. id i ∷ time i ∷ carrier i ∷ []) in
    on_ok_weaker c.push_row.result
    (λ written. written
    ∙ ap₂ (λ (destination : List ℕ) (fields : Fields).
    string_bytes c.args.text.now ++ cell_line c.args.guard (row_of c.args.sites.now c.args.recall.now x.shipment.site x.shipment.item None (codes "outside") destination fields)) c.as_str-2.ensures evidence)
    c.push_row.ensures
