use Rattle.std.proofs.Common.{◌≡◌, ◌<◌, ◌∙◌, ap, subst, fold, arith}
use Rattle.std.proofs.lemmas.List.{nil_from_length}
use Rattle.std.specs.List.{enumerate_from, flat_map}
use Rattle.std.specs.FinMap as finite
use Rattle.frame_core.specs.Tables.{as_map}
use Rattle.frame_core.proofs.Maps.{none_sorted}
use Rattle.site_core.proofs.EventsAmong.{one_place_more, all_from_places}
use Rattle.site_core.proofs.Places.{some_stands}
use Rattle.site_rows.specs.Laws.{HasTexts}
use Rattle.site_rows.specs.RecordRows.{with_address, addresses_at, addresses_of, Addresses}
use Rattle.site_rows.specs.Texts.{text_cmp}
use Rattle.site_rows.proofs.InTurn.{folded_there}
use Rattle.site_rows.proofs.address_rows.addresses_of.Goals as goal

pub loop-number-init : goal.loop-number-init
loop-number-init c =
    let all = flat_map addresses_at (enumerate_from 0 c.args.sites.now) in
    let none : as_map text_cmp c.new-addresses.result ≡ finite.empty = ap (finite.from_sorted {R = text_cmp}) (nil_from_length c.new-addresses.result.entries c.new-addresses.ensures.len) ∙ none_sorted in
    record {
      all = ap (λ (m : Addresses). fold with_address m all) none;
      texts = λ i site low at. absurd (omega (arith, low));
    }

pub loop-number-preserved : goal.loop-number-preserved
loop-number-preserved c =
    let number = c.loop-number.number in
    let sites = c.args.sites.now in
    let site = some_stands sites number (subst (λ n. number < n) c.len-number-end.ensures.count c.loop-number-test.true) in
    record {
      all = rw (c.in_ok-put_addresses.ensures.added site.0 site.1)
          (folded_there with_address addresses_at number sites number site.0 (as_map text_cmp c.loop-number.addresses) (addresses_of sites) site.1 c.loop-number.invariant.all);
      texts = one_place_more HasTexts sites number c.in_ok-put_addresses.ensures.texts c.loop-number.invariant.texts;
    }

pub returns-clause-texts : goal.returns-clause-texts
returns-clause-texts c = all_from_places HasTexts c.args.sites.now c.loop-number.number (omega (arith, c.len-number-end.ensures.count, c.loop-number-test.false)) c.loop-number.invariant.texts
