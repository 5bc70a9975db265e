use Rattle.std.proofs.Common.{sym, subst, ◌∙◌}
use mathlib.Core.Bool.{false≢true}
use Rattle.scholten_core.specs.FreeNumbers.{HasFreeNumbers}
use Rattle.scholten_core.proofs.diffusions.Diffusion.has_free_numbers.Goals as goal

pub returns-then-has_free_numbers : goal.returns-then-has_free_numbers
returns-then-has_free_numbers c = (
  λ own. subst HasFreeNumbers c.self.view_is (record { rows = c.has_free_numbers.ensures.0 c.if-has_free_numbers.true; own = c.are_below.ensures.0 own }),
  λ free. let was = subst HasFreeNumbers (sym c.self.view_is) free in c.are_below.ensures.1 was.own,
)

pub returns-else-has_free_numbers : goal.returns-else-has_free_numbers
returns-else-has_free_numbers c = (
  λ yes. absurd (false≢true (sym c.if-has_free_numbers.false ∙ yes)),
  λ free. let was = subst HasFreeNumbers (sym c.self.view_is) free in c.has_free_numbers.ensures.1 was.rows,
)
