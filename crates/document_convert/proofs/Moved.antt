-- An event with lots among its items.
use Rattle.std.proofs.Common.{◌≡◌, ◌<◌, ℕ, List, [], ◌∷◌, Some, String, Global, length, map, string_bytes, refl, arith}
use Rattle.std.specs.Prelude.{option_map}
use Rattle.serde_json.specs.Data.{Data, array}
use Rattle.event_json.specs.Members.{member_named}
use Rattle.document_convert.specs.Types.{with_member}
use Rattle.document_convert.specs.Quantities.{and_texts, list_of, with_lots, without_member}

-- where there are some
pub some_lots : (quantities items : List ℕ) (d : Data) (lots : List (String Global)) → 0 < length lots
    → with_lots quantities items d (map string_bytes lots)
    ≡ option_map (λ found. without_member quantities (with_member items (array (and_texts found (map string_bytes lots))) d)) (list_of (member_named items d))
some_lots quantities items d [] few = absurd (omega arith)
some_lots quantities items d (lot ∷ lots) few = refl

-- where there are none
pub no_lots : (quantities items : List ℕ) (d : Data) (lots : List (String Global)) → length lots ≡ 0 → with_lots quantities items d (map string_bytes lots) ≡ Some d
no_lots quantities items d [] none = refl
no_lots quantities items d (lot ∷ lots) none = absurd (omega arith)
