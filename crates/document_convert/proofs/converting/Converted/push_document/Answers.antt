use Rattle.std.proofs.Common.{◌≡◌, ap, ◌∙◌, List, ◌++◌, map, string_bytes, subst}
use Rattle.serde_json.specs.Data.{Data}
use Rattle.serde_json.specs.View.{view}
use Rattle.document_convert.specs.Accounts.{count_if, with_document, with_lines}
use Rattle.document_convert.specs.Converted.{AreLinesOf, counts_of, if_asked, in_light_parts}
use Rattle.document_convert.specs.LightParts.{is_light_document}
use Rattle.document_convert.specs.Linked.{document_with_links}
use Rattle.document_convert.specs.Links.{link_of}
use Rattle.document_convert.specs.Lotted.{document_with_lots}
use Rattle.document_convert.specs.Parted.{has_parts}
use Rattle.document_convert.specs.Placed.{document_with_places, has_destination, has_places}
use Rattle.document_convert.specs.Places.{is_of_several}
use Rattle.document_convert.specs.Respelled.{spells_otherwise_by}
use Rattle.document_convert.specs.UnitLots.{is_untied}
use Rattle.document_convert.specs.declared.accounts.Counts.{Counts}
use Rattle.document_convert.proofs.ConvertLemmas.{document_more}
use Rattle.document_convert.proofs.converting.Converted.push_document.Goals as goal

pub returns : goal.returns
returns c =
    let d = view c.args.document in
    let ways = c.args.ways in
    let sites = c.args.sites.now in
    let account = c.args.self.now.account in
    let was = view c.in_ok-asked.asked in
    let kept = c.in_ok-kept.ensures in
    let linked = c.in_ok-linked.ensures ∙ ap (if_asked ways.links document_with_links) kept in
    let placed = c.in_ok-placed.ensures ∙ ap (if_asked ways.places (document_with_places sites)) linked in
    let asked = c.in_ok-asked.ensures ∙ ap (if_asked ways.lots document_with_lots) placed in
    let light = c.in_ok-light.ensures in
    let all = c.in_ok-documents.ensures ∙ ap in_light_parts asked in
    let its = c.in_ok-push_lines.ensures in
    let links = c.in_ok-links.ensures ∙ ap (count_if ways.links (spells_otherwise_by link_of)) kept in
    let places = c.in_ok-places.ensures ∙ ap (count_if ways.places (has_places sites)) linked in
    let of_several = c.in_ok-places_of_several.ensures ∙ ap (count_if ways.places (has_destination (is_of_several sites))) linked in
    let untied = c.in_ok-untied.ensures ∙ ap (count_if ways.lots is_untied) placed in
    let parted = c.parted_of.ensures ∙ ap (λ yes. count_if yes has_parts was) light ∙ ap (λ e. count_if (is_light_document e) has_parts e) asked in
    let counts : ◌≡◌ {A = Counts} _ (counts_of ways sites d) =
    λ i. record {
      had = c.quantities-had.ensures i;
      came = c.event_count-came.ensures i;
      errors = c.errors_of-errors.ensures i;
      links = links i;
      places = places i;
      places_of_several = of_several i;
      untied = untied i;
      parted = parted i;
    } in
    let one = c.with-self.ensures ∙ (λ i. with_document account (counts i) (asked i)) in
    λ pieces are. document_more ways sites pieces d c.args.self.now c.push_lines.new.self
    (λ ds lines. subst (λ (es : List Data). AreLinesOf (ds ++ es) (string_bytes c.push_lines.new.self.lines)) all (its.lines ds lines))
    (ap (λ r. r.items) its.refused)
    (its.account ∙ ap (λ a. with_lines a (map view c.in_ok-documents.documents.items)) one ∙ ap (with_lines (with_document account (counts_of ways sites d) _)) all)
    are
