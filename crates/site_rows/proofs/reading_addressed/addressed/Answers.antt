use Rattle.std.proofs.Common.{◌≡◌, length, sym, ap, subst, ◌∙◌}
use Rattle.std.proofs.lemmas.List.{length-map}
use Rattle.event_json.specs.Sites.{Site}
use Rattle.site_rows.specs.BadAddresses.{IsAddressTable}
use Rattle.site_rows.proofs.AddressesInTurn.{rows_of_sites, texts_in_utf8}
use Rattle.site_rows.proofs.reading_addressed.addressed.Goals as goal

pub with_addresses-requires : goal.with_addresses-requires
with_addresses-requires c = record { table = subst (λ n. IsAddressTable n c.args.rows.now) c.len.ensures.count c.in_ok-check_addresses.ensures.good }

pub returns-clause-addresses : goal.returns-clause-addresses
returns-clause-addresses c =
    let name = λ (s : Site). s.name in
    let sites = c.in_ok-sites.sites in
    let names = c.args.names.now in
    let size : length sites ≡ length names = sym (length-map sites name) ∙ ap length c.in_ok-sites.ensures.names ∙ length-map names name in
    rows_of_sites sites c.args.rows.now c.in_ok-sites.ensures.in_order (subst (λ n. IsAddressTable n c.args.rows.now) (c.len.ensures.count ∙ sym size) c.in_ok-check_addresses.ensures.good) c.in_ok-sites.ensures.addresses

pub returns-clause-texts : goal.returns-clause-texts
returns-clause-texts c = texts_in_utf8 (length c.args.names.now) c.args.rows.now c.in_ok-sites.sites (subst (λ n. IsAddressTable n c.args.rows.now) c.len.ensures.count c.in_ok-check_addresses.ensures.good) c.in_ok-sites.ensures.addresses
