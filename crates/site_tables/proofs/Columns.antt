-- A row of so many columns.
use Rattle.std.proofs.Common.{◌≡◌, [], ◌∷◌, length, ap, ap₂, arith}
use Rattle.sqlite_value.specs.declared.value.Value.{Value}
use Rattle.sqlite.specs.Order.{Row}
use Rattle.sqlite_value.specs.Order.{column}

pub two_columns : (r : Row) (a b : Value) → length r ≡ 2 → column r 0 ≡ a → column r 1 ≡ b → r ≡ a ∷ b ∷ []
two_columns (s ∷ t ∷ []) a b len p0 p1 = ap₂ ◌∷◌ p0 (ap (λ x. x ∷ []) p1)
two_columns [] a b len p0 p1 = absurd (omega (arith, len))
two_columns (s ∷ []) a b len p0 p1 = absurd (omega (arith, len))
two_columns (s ∷ t ∷ u ∷ r) a b len p0 p1 = absurd (omega (arith, len))

pub three_columns : (r : Row) (a b c : Value) → length r ≡ 3 → column r 0 ≡ a → column r 1 ≡ b → column r 2 ≡ c → r ≡ a ∷ b ∷ c ∷ []
three_columns (s ∷ t ∷ u ∷ []) a b c len p0 p1 p2 = ap₂ ◌∷◌ p0 (ap₂ ◌∷◌ p1 (ap (λ x. x ∷ []) p2))
three_columns [] a b c len p0 p1 p2 = absurd (omega (arith, len))
three_columns (s ∷ []) a b c len p0 p1 p2 = absurd (omega (arith, len))
three_columns (s ∷ t ∷ []) a b c len p0 p1 p2 = absurd (omega (arith, len))
three_columns (s ∷ t ∷ u ∷ v ∷ r) a b c len p0 p1 p2 = absurd (omega (arith, len))

pub four_columns : (r : Row) (a b c d : Value) → length r ≡ 4 → column r 0 ≡ a → column r 1 ≡ b → column r 2 ≡ c → column r 3 ≡ d → r ≡ a ∷ b ∷ c ∷ d ∷ []
four_columns (s ∷ t ∷ u ∷ v ∷ []) a b c d len p0 p1 p2 p3 = ap₂ ◌∷◌ p0 (ap₂ ◌∷◌ p1 (ap₂ ◌∷◌ p2 (ap (λ x. x ∷ []) p3)))
four_columns [] a b c d len p0 p1 p2 p3 = absurd (omega (arith, len))
four_columns (s ∷ []) a b c d len p0 p1 p2 p3 = absurd (omega (arith, len))
four_columns (s ∷ t ∷ []) a b c d len p0 p1 p2 p3 = absurd (omega (arith, len))
four_columns (s ∷ t ∷ u ∷ []) a b c d len p0 p1 p2 p3 = absurd (omega (arith, len))
four_columns (s ∷ t ∷ u ∷ v ∷ w ∷ r) a b c d len p0 p1 p2 p3 = absurd (omega (arith, len))

pub five_columns : (r : Row) (a b c d e : Value) → length r ≡ 5 → column r 0 ≡ a → column r 1 ≡ b → column r 2 ≡ c → column r 3 ≡ d → column r 4 ≡ e → r ≡ a ∷ b ∷ c ∷ d ∷ e ∷ []
five_columns (s ∷ t ∷ u ∷ v ∷ w ∷ []) a b c d e len p0 p1 p2 p3 p4 = ap₂ ◌∷◌ p0 (ap₂ ◌∷◌ p1 (ap₂ ◌∷◌ p2 (ap₂ ◌∷◌ p3 (ap (λ x. x ∷ []) p4))))
five_columns [] a b c d e len p0 p1 p2 p3 p4 = absurd (omega (arith, len))
five_columns (s ∷ []) a b c d e len p0 p1 p2 p3 p4 = absurd (omega (arith, len))
five_columns (s ∷ t ∷ []) a b c d e len p0 p1 p2 p3 p4 = absurd (omega (arith, len))
five_columns (s ∷ t ∷ u ∷ []) a b c d e len p0 p1 p2 p3 p4 = absurd (omega (arith, len))
five_columns (s ∷ t ∷ u ∷ v ∷ []) a b c d e len p0 p1 p2 p3 p4 = absurd (omega (arith, len))
five_columns (s ∷ t ∷ u ∷ v ∷ w ∷ x ∷ r) a b c d e len p0 p1 p2 p3 p4 = absurd (omega (arith, len))

pub six_columns : (r : Row) (a b c d e f : Value) → length r ≡ 6 → column r 0 ≡ a → column r 1 ≡ b → column r 2 ≡ c → column r 3 ≡ d → column r 4 ≡ e → column r 5 ≡ f → r ≡ a ∷ b ∷ c ∷ d ∷ e ∷ f ∷ []
six_columns (s ∷ t ∷ u ∷ v ∷ w ∷ x ∷ []) a b c d e f len p0 p1 p2 p3 p4 p5 = ap₂ ◌∷◌ p0 (ap₂ ◌∷◌ p1 (ap₂ ◌∷◌ p2 (ap₂ ◌∷◌ p3 (ap₂ ◌∷◌ p4 (ap (λ x. x ∷ []) p5)))))
six_columns [] a b c d e f len p0 p1 p2 p3 p4 p5 = absurd (omega (arith, len))
six_columns (s ∷ []) a b c d e f len p0 p1 p2 p3 p4 p5 = absurd (omega (arith, len))
six_columns (s ∷ t ∷ []) a b c d e f len p0 p1 p2 p3 p4 p5 = absurd (omega (arith, len))
six_columns (s ∷ t ∷ u ∷ []) a b c d e f len p0 p1 p2 p3 p4 p5 = absurd (omega (arith, len))
six_columns (s ∷ t ∷ u ∷ v ∷ []) a b c d e f len p0 p1 p2 p3 p4 p5 = absurd (omega (arith, len))
six_columns (s ∷ t ∷ u ∷ v ∷ w ∷ []) a b c d e f len p0 p1 p2 p3 p4 p5 = absurd (omega (arith, len))
six_columns (s ∷ t ∷ u ∷ v ∷ w ∷ x ∷ y ∷ r) a b c d e f len p0 p1 p2 p3 p4 p5 = absurd (omega (arith, len))
