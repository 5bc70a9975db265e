-- Rows by destination: a place is a destination and the number of a row for it.
use Rattle.std.specs.Prelude.{ℕ, ⊤, ◌↔◌, IfSome, IsSome}
use Rattle.std.specs.Cmp.{IsTotalOrder}
use Rattle.std.specs.Ordering.{nat_cmp, ordering_then}
use Rattle.std.specs.declared.cmp.Ordering.{Ordering}
use Rattle.std.specs.FinMap.{FinMap, IsAntisymmetric, get}
use Rattle.std.proofs.Common.{ap}
use Rattle.std.proofs.lemmas.Cmp.{nat_cmp_total, on_total, then_total}
use Rattle.std.proofs.lemmas.Map.Lookups.{exact_pairs, exact_unsigned}
use Rattle.frame_core.specs.Outboxes.{IsRowTo}
use Rattle.frame_core.specs.Tables.{as_map}
use Rattle.frame_core.specs.declared.places.Place.{Place}
use Rattle.frame_core.specs.declared.places.Places.{Places}
use Rattle.frame_core.specs.declared.rows.Row.{Row}

-- by destination, then number
abbrev pub place_cmp : Place → Place → Ordering
place_cmp a b = ordering_then (nat_cmp a.dest b.dest) (nat_cmp a.number b.number)

pub place_total : IsTotalOrder place_cmp
place_total = then_total (on_total (λ (p : Place). p.dest) nat_cmp_total) (on_total (λ (p : Place). p.number) nat_cmp_total)

pub place_exact : IsAntisymmetric place_cmp
place_exact a b h = ap (λ (p : ℕ × ℕ). let q : Place = record { dest = p.0; number = p.1 } in q) (exact_pairs nat_cmp nat_cmp exact_unsigned exact_unsigned (a.dest, a.number) (b.dest, b.number) h)

-- a place is listed where a row of its number is for its destination
abbrev pub AreListed : FinMap nat_cmp Row → FinMap place_cmp ⊤ → Type 0
AreListed rows listed = (p : Place) → IsSome (get listed p) ↔ IsRowTo rows p.dest p.number

-- the same of what is kept, unless it was given up
abbrev pub AreListedIn : FinMap nat_cmp Row → Places → Type 0
AreListedIn rows places = IfSome places.listed (λ listed. AreListed rows (as_map place_cmp listed))
