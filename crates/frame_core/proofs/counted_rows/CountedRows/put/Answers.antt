use Rattle.std.proofs.Common.{refl, length, sym, ap, subst, ◌∙◌, arith}
use Rattle.std.specs.Ordering.{nat_cmp}
use Rattle.frame_core.specs.Counts.{AreCounted}
use Rattle.frame_core.specs.Identifiers.{recall_cmp}
use Rattle.frame_core.specs.Tables.{as_map}
use Rattle.frame_core.proofs.Counting.{few_rows, row_counts, counted_new, counted_over}
use Rattle.frame_core.proofs.Maps.{map_entries}
use Rattle.frame_core.proofs.Placing.{IsUnlisted, new_unlisted, over_unlisted, relisted}
use Rattle.frame_core.proofs.counted_rows.CountedRows.put.Goals as goal
use Rattle.frame_core.proofs.counted_rows.CountedRows.put.Goals.{in-Some, in_default}

-- a recall has no more rows than there are
pub raise-requires : goal.raise-requires
raise-requires c = omega (arith, c.self.invariant.0 c.args.row.recall, few_rows (as_map nat_cmp c.self.inside.rows) c.args.row.recall, ap length (map_entries nat_cmp c.self.inside.rows c.len-length.ensures.ordered), c.len-length.ensures.len, c.len-length.ensures.small)

-- the row that stood was counted
pub lower-requires-in-Some : goal.lower-requires-in-Some
lower-requires-in-Some c = omega (arith, c.in_ok-raise.ensures.ok c.in-Some.old.recall, c.self.invariant.0 c.in-Some.old.recall, row_counts (as_map nat_cmp c.self.inside.rows) c.args.number c.in-Some.old (sym c.in-Ok.ensures.old ∙ c.in-Some.is))

pub invariant_of-self : goal.invariant_of-self
invariant_of-self c = (subst (AreCounted (as_map nat_cmp c.self.inside.rows)) (sym c.in_err-raise.ensures.err) c.self.invariant.0, c.self.invariant.1)

pub invariant_of-self-2 : goal.invariant_of-self-2
invariant_of-self-2 c =
    let rows = as_map nat_cmp c.self.inside.rows in
    let n = c.args.number in
    let row = c.args.row in
    let put : (AreCounted (as_map nat_cmp c.match-before.self-inside.rows) (as_map recall_cmp c.match-before.self-inside.counts)) × IsUnlisted (as_map nat_cmp c.match-before.self-inside.rows) n row c.match-before.self-inside.places =
    elim c.match-before.branch as (λ _. (AreCounted (as_map nat_cmp c.match-before.self-inside.rows) (as_map recall_cmp c.match-before.self-inside.counts)) × IsUnlisted (as_map nat_cmp c.match-before.self-inside.rows) n row c.match-before.self-inside.places) [
      | in-Some w ↦
          let stood = sym c.in-Ok.ensures.old ∙ w.in-Some.is in
          rw w.self-inside-is (
            subst (λ m. AreCounted m (as_map recall_cmp w.lower-in-Some.new.counts)) (sym c.in-Ok.ensures.ok)
                (counted_over rows (as_map recall_cmp c.self.inside.counts) (as_map recall_cmp c.raise.new.counts) _ n row w.in-Some.old c.self.invariant.0 stood c.in_ok-raise.ensures.ok w.lower-in-Some.ensures.lowered),
            over_unlisted rows _ n row w.unlist.new.self c.in-Ok.ensures.ok (w.unlist.ensures rows w.in-Some.old c.self.invariant.1 stood refl),
          )
      | in_default w ↦
          let none = sym c.in-Ok.ensures.old ∙ w.in_default.is in
          rw w.self-inside-is (
            subst (λ m. AreCounted m (as_map recall_cmp c.raise.new.counts)) (sym c.in-Ok.ensures.ok)
                (counted_new rows (as_map recall_cmp c.self.inside.counts) _ n row c.self.invariant.0 none c.in_ok-raise.ensures.ok),
            new_unlisted rows _ n row c.self.inside.places c.in-Ok.ensures.ok c.self.invariant.1 none,
          )
    ]
    in (put.0, relisted _ _ _ _ c.list.new.self put.1 (c.list.ensures put.1.others row put.1.listed put.1.free refl))
