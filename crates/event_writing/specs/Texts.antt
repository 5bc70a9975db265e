-- The text by which an item is written.
use Rattle.std.specs.Prelude.{ℕ, List, codes, drop, take, Option, option_map, unwrap_or}
use Rattle.std.specs.Option.{option_or}
use Rattle.percent_encoding.specs.Percent.{percent_encode}
use Rattle.epc_core.specs.Items.{behind}
use Rattle.epc_core.specs.Spellings.{sgtin_link, sscc_link}
use Rattle.event_writing.specs.declared.item_texts.TheConstants.{RESERVED}

-- a trade item by its Digital Link (GS1 Digital Link standard, URI syntax): a GTIN of 14 digits, and the serial number behind a space
abbrev pub trade_item_text : List ℕ → Option (List ℕ)
trade_item_text key = option_map (λ rest. sgtin_link (take 14 rest) (percent_encode RESERVED (drop 15 rest))) (behind (codes "sgtin ") key)

-- a logistic unit by its Digital Link
abbrev pub logistic_unit_text : List ℕ → Option (List ℕ)
logistic_unit_text key = option_map sscc_link (behind (codes "sscc ") key)

-- the item with this key, which is any other where it is none of these
unfoldable pub item_text : List ℕ → List ℕ
item_text key = unwrap_or (option_or (trade_item_text key) (option_or (logistic_unit_text key) (behind (codes "uri ") key))) key
