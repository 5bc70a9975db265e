use Rattle.std.specs.Prelude.{ℕ, ◌<◌, List, length, take, string_bytes, IsUtf8}
use Rattle.epc_core.specs.declared.item_texts.Kept.{Kept}
use Rattle.epc_core.specs.declared.item_texts.Kept.TheVariants.{Inside, Heap}
use Rattle.epc_core.specs.Blocks.{HoldsText}
use Rattle.epc_core.specs.Spellings.{IsPlain}

-- the bytes of a text, wherever it lies
abbrev pub kept_text : Kept → List ℕ
kept_text (Inside bytes count) = take count bytes
kept_text (Heap text) = string_bytes text

-- a plain text lies where its length says
abbrev pub IsKept : Kept → Type 0
IsKept (Inside bytes count) = HoldsText 30 count bytes × IsUtf8 (take count bytes) × IsPlain (take count bytes)
IsKept (Heap text) = (30 < length (string_bytes text)) × IsPlain (string_bytes text)
