-- Which element strings have a predefined length.
use Rattle.std.proofs.Common.{◌≡◌, ◌==◌, ℕ, false, refl, arith}
use Rattle.std.specs.List.{list_any}
use Rattle.std.proofs.lemmas.Bool.Decides.{nat_tests}
use Rattle.item_spellings.specs.Elements.{fixed_length}
use Rattle.item_spellings.specs.Laws.{LengthsAreThese, predefined}

no_other : (first : ℕ) → list_any (λ row. row.0 == first) predefined ≡ false → fixed_length first ≡ 0
no_other first none = grind (arith, nat_tests)

pub lengths_are_these : LengthsAreThese
lengths_are_these = record {
  each = (refl, (refl, (refl, (refl, (refl, (refl, (refl, (refl, (refl, (refl, (refl, (refl, (refl, (refl, (refl, (refl, (refl, (refl, (refl, (refl, (refl, (refl, tt))))))))))))))))))))));
  no_other = no_other;
}
