use Rattle.std.proofs.Common.{◌≡◌, fold, drop}
use Rattle.std.specs.List.{enumerate_from, flat_map}
use Rattle.frame_core.specs.Tables.{as_map}
use Rattle.site_core.proofs.EventsAmong.{PassesBelow}
use Rattle.site_rows.specs.Laws.{HasTexts}
use Rattle.site_rows.specs.RecordRows.{with_address, addresses_at, addresses_of}
use Rattle.site_rows.specs.Texts.{text_cmp}
use Rattle.site_rows.proofs.address_rows.addresses_of.Given as goal

-- the addresses so far with those of the rest are all of them, and those of the sites below the number are UTF-8
abbrev pub invariant-loop-number : goal.invariant-loop-number
invariant-loop-number l = record {
  all : fold with_address (as_map text_cmp l.addresses) (flat_map addresses_at (enumerate_from l.number (drop l.number l.sites))) ≡ addresses_of l.sites;
  texts : PassesBelow HasTexts l.sites l.number;
}
