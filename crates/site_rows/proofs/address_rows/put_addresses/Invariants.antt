use Rattle.std.proofs.Common.{◌≡◌, fold, drop, Some}
use Rattle.std.specs.Prelude.{IsUtf8, slice_get}
use Rattle.frame_core.specs.Tables.{as_map}
use Rattle.event_json.specs.Sites.{Site}
use Rattle.site_core.proofs.EventsAmong.{PassesBelow}
use Rattle.site_rows.specs.RecordRows.{with_address, addresses_at, addresses_from}
use Rattle.site_rows.specs.Texts.{text_cmp}
use Rattle.site_rows.proofs.address_rows.put_addresses.Given as goal

-- the addresses so far with those of the rest are all of them, and those below the place are UTF-8
abbrev pub invariant-loop-place : goal.invariant-loop-place
invariant-loop-place l = record {
  added : (site : Site) → slice_get l.sites l.number ≡ Some site
      → fold with_address (as_map text_cmp l.addresses) (addresses_from l.number l.place (drop l.place site.addresses)) ≡ fold with_address (as_map text_cmp l.fn.addresses) (addresses_at (l.number, site));
  texts : (site : Site) → slice_get l.sites l.number ≡ Some site → PassesBelow IsUtf8 site.addresses l.place;
}
