use Rattle.std.proofs.Common.{◌≡◌, ◌++◌, drop, map, string_bytes}
use Rattle.document_convert.specs.LotEvents.{spellings}
use Rattle.document_convert.specs.SeenLots.{seen_lots}
use Rattle.document_convert.proofs.lot_events.spellings.Given as goal

-- those so far and those of the rest are all
abbrev pub invariant-loop-lot : goal.invariant-loop-lot
invariant-loop-lot l = map string_bytes l.texts.items ++ spellings (seen_lots (drop l.lot-index l.lots)) ≡ spellings (seen_lots l.lots)
