use Rattle.std.proofs.Common.{◌≡◌, ◌+◌, ◌≤◌, ◌∙◌, Some, None, length, fold, sym, ap, subst, arith}
use Rattle.std.specs.List.{slice_get}
use Rattle.std.specs.Prelude.{IsUtf8}
use Rattle.std.specs.Option.{option_and_then}
use Rattle.std.proofs.lemmas.Option.{same_Some}
use Rattle.frame_core.specs.Tables.{as_map}
use Rattle.event_json.specs.Sites.{Site}
use Rattle.site_core.proofs.EventsAmong.{one_place_more, all_from_places}
use Rattle.site_rows.specs.RecordRows.{with_address, address_at, addresses_at}
use Rattle.site_rows.specs.Texts.{text_cmp}
use Rattle.site_rows.proofs.AddressesOfSites.{few_addresses, none_left, nothing_stands}
use Rattle.site_rows.proofs.InTurn.{put_there}
use Rattle.site_rows.proofs.address_rows.put_addresses.Goals as goal
use Rattle.site_rows.proofs.address_rows.put_addresses.Goals.{in-Some+in_ok-of+in_ok-put_address, in_default}

pub loop-place-preserved : goal.loop-place-preserved
loop-place-preserved c =
    let number = c.args.number in
    let place = c.loop-place.place in
    let before = as_map text_cmp c.loop-place.addresses in
    elim c.match-address_at.branch [
      | in-Some+in_ok-of+in_ok-put_address w ↦
          let text = w.in-Some.text.now in
          let there : (site : Site) → slice_get c.args.sites.now number ≡ Some site → slice_get site.addresses place ≡ Some text =
          (λ site stands. sym (w.in-Some.ensures ∙ ap (option_and_then (λ (s : Site). slice_get s.addresses place)) stands)) in
          record {
            added = λ site stands.
                let total = fold with_address (as_map text_cmp c.args.addresses.now) (addresses_at (number, site)) in
                let made = put_there with_address (address_at number) place site.addresses place text before total (there site stands) (c.loop-place.invariant.added site stands) in
                rw w.addresses-is (rw w.in_ok-put_address.ensures (rw w.in_ok-of.ensures.value made));
            texts = λ site stands.
                one_place_more IsUtf8 site.addresses place (λ other at. subst IsUtf8 (same_Some text other (sym (there site stands) ∙ at)) w.in_ok-of.ensures.utf8) (c.loop-place.invariant.texts site stands);
          }
      | in_default w ↦
          let none : (site : Site) → slice_get c.args.sites.now number ≡ Some site → slice_get site.addresses place ≡ None =
          (λ site stands. sym (w.in_default.ensures ∙ ap (option_and_then (λ (s : Site). slice_get s.addresses place)) stands)) in
          record {
            added = λ site stands.
                let past = nothing_stands site.addresses place (none site stands) in
                let later : length site.addresses ≤ place + 1 = omega (arith, past) in
                rw w.addresses-is (none_left number (place + 1) (place + 1) site.addresses before later ∙ sym (none_left number place place site.addresses before past) ∙ c.loop-place.invariant.added site stands);
            texts = λ site stands.
                one_place_more IsUtf8 site.addresses place (λ other at. absurd (let nothing : None ≡ Some other = sym (none site stands) ∙ at in cc)) (c.loop-place.invariant.texts site stands);
          }
    ]

pub returns-clause-added : goal.returns-clause-added
returns-clause-added c = λ site stands.
    let place = c.loop-place.place in
    let few = few_addresses c.args.sites.now c.args.number site c.len-few.ensures.in_order stands in
    let past : length site.addresses ≤ place = omega (arith, few, c.loop-place-test.false) in
    sym (none_left c.args.number place place site.addresses (as_map text_cmp c.loop-place.addresses) past) ∙ c.loop-place.invariant.added site stands

pub returns-clause-texts : goal.returns-clause-texts
returns-clause-texts c = λ site stands.
    let few = few_addresses c.args.sites.now c.args.number site c.len-few.ensures.in_order stands in
    all_from_places IsUtf8 site.addresses c.loop-place.place (omega (arith, few, c.loop-place-test.false)) (c.loop-place.invariant.texts site stands)
