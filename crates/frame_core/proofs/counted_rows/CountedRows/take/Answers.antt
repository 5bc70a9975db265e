use Rattle.std.proofs.Common.{refl, sym, subst, ◌∙◌, arith}
use Rattle.std.specs.Cmp.{nat_cmp_total}
use Rattle.std.specs.Ordering.{nat_cmp}
use Rattle.std.specs.FinMap.{nat_cmp-IsAntisymmetric}
use Rattle.frame_core.specs.Counts.{AreCounted}
use Rattle.frame_core.specs.Identifiers.{recall_cmp}
use Rattle.frame_core.specs.Places.{AreListedIn}
use Rattle.frame_core.specs.Tables.{as_map}
use Rattle.frame_core.proofs.Counting.{row_counts, counted_without}
use Rattle.frame_core.proofs.Maps.{remove_none}
use Rattle.frame_core.proofs.counted_rows.CountedRows.take.Goals as goal

pub lower-requires : goal.lower-requires
lower-requires c = omega (arith, c.self.invariant.0 c.in-Some.row.recall, row_counts (as_map nat_cmp c.self.inside.rows) c.args.number c.in-Some.row (sym c.take-before.ensures.value ∙ c.in-Some.is))

pub invariant_of-self : goal.invariant_of-self
invariant_of-self c =
    let stood = sym c.take-before.ensures.value ∙ c.in-Some.is in (
      subst (λ m. AreCounted m (as_map recall_cmp c.lower.new.counts)) (sym c.take-before.ensures.left)
          (counted_without (as_map nat_cmp c.self.inside.rows) (as_map recall_cmp c.self.inside.counts) _ c.args.number c.in-Some.row c.self.invariant.0 stood c.lower.ensures.lowered),
      subst (λ m. AreListedIn m c.unlist.new.self) (sym c.take-before.ensures.left) (c.unlist.ensures (as_map nat_cmp c.self.inside.rows) c.in-Some.row c.self.invariant.1 stood refl),
    )

pub invariant_of-self-in_default : goal.invariant_of-self-in_default
invariant_of-self-in_default c =
    let same = sym (c.take-before.ensures.left ∙ remove_none nat_cmp_total nat_cmp-IsAntisymmetric (as_map nat_cmp c.self.inside.rows) c.args.number (sym c.take-before.ensures.value ∙ c.in_default.is)) in (
      subst (λ m. AreCounted m (as_map recall_cmp c.self.inside.counts)) same c.self.invariant.0,
      subst (λ m. AreListedIn m c.self.inside.places) same c.self.invariant.1,
    )
