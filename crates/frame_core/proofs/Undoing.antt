-- Rows that were put one after another are taken away again, the last one first.
use Rattle.std.proofs.Common.{◌≡◌, ◌≢◌, ℕ, suc, ◌+◌, ◌<◌, List, [], ◌∷◌, ◌++◌, length, Option, Some, None, sym, ap, subst, ◌∙◌, arith}
use Rattle.std.specs.Prelude.{IsSome, IfSome}
use Rattle.std.specs.Ordering.{nat_cmp}
use Rattle.std.specs.Cmp.{nat_cmp_total}
use Rattle.std.specs.FinMap.{FinMap, nat_cmp-IsAntisymmetric, get, insert}
use Rattle.frame_core.specs.declared.rows.Row.{Row}
use Rattle.frame_core.specs.Counts.{Counted, KeepsCounts, undone, CanUndo}
use Rattle.frame_core.specs.Tables.{set_back}
use Rattle.frame_core.proofs.Lookups.{get_apart, get_left}
use Rattle.frame_core.proofs.Maps.{insert_undone}

-- a key that is set back leaves the others
pub set_back_apart : (rows : FinMap nat_cmp Row) (n : ℕ) (before : Option Row) (q : ℕ) → q ≢ n → get (set_back rows n before) q ≡ get rows q
set_back_apart rows n None q ne = get_left nat_cmp_total nat_cmp-IsAntisymmetric rows n q ne
set_back_apart rows n (Some row) q ne = get_apart nat_cmp_total nat_cmp-IsAntisymmetric rows n row q ne

-- to undo all is to undo the last one, and then the others
pub undone_last : (rows : FinMap nat_cmp Row) (n : ℕ) (xs : List (Option Row)) (before : Option Row) → undone rows n (xs ++ before ∷ []) ≡ undone (set_back rows (n + length xs) before) n xs
undone_last rows n [] before = ap (λ k. set_back rows k before) (omega arith)
undone_last rows n (x ∷ xs) before =
    let at : (n + 1) + length xs ≡ n + suc (length xs) = omega arith in
    ap (λ m. set_back m n x) (undone_last rows (n + 1) xs before ∙ ap (λ k. undone (set_back rows k before) (n + 1) xs) at)

-- what was put last is undone
pub undone_put : (rows : FinMap nat_cmp Row) (n : ℕ) (xs : List (Option Row)) (row : Row) (before : Option Row) → before ≡ get rows (n + length xs)
    → undone (insert rows (n + length xs) row) n (xs ++ before ∷ []) ≡ undone rows n xs
undone_put rows n xs row before was =
    undone_last (insert rows (n + length xs) row) n xs before
    ∙ ap (λ b. undone (set_back (insert rows (n + length xs) row) (n + length xs) b) n xs) was
    ∙ ap (λ m. undone m n xs) (insert_undone nat_cmp_total nat_cmp-IsAntisymmetric rows (n + length xs) row)

-- rows stand as before below a number, and no count is lost
pub record Agrees (old new : Counted) (bound : ℕ) : Type 0 where
  pub rows : (q : ℕ) → q < bound → get new.rows q ≡ get old.rows q
  pub counts : KeepsCounts old.counts new.counts

if_kept : (before : Option Row) (old new : Counted) → KeepsCounts old.counts new.counts → IfSome before (λ row. IsSome (get old.counts row.recall)) → IfSome before (λ row. IsSome (get new.counts row.recall))
if_kept None old new keeps h = h
if_kept (Some row) old new keeps h = keeps row.recall h

pub can_still : (old new : Counted) (n : ℕ) (xs : List (Option Row)) → Agrees old new (n + length xs) → CanUndo old n xs → CanUndo new n xs
can_still old new n [] agrees can = tt
can_still old new n (x ∷ xs) agrees can = (
  subst IsSome (sym (agrees.rows n (omega arith))) can.0,
  if_kept x old new agrees.counts can.1,
  can_still old new (n + 1) xs (record { rows = λ q lt. agrees.rows q (omega (arith, lt)); counts = agrees.counts }) can.2,
)

-- what is undone last can be
pub last_stands : (c : Counted) (n : ℕ) (xs : List (Option Row)) (before : Option Row) → CanUndo c n (xs ++ before ∷ []) → IsSome (get c.rows (n + length xs))
last_stands c n [] before can = subst (λ k. IsSome (get c.rows k)) (omega arith) can.0
last_stands c n (x ∷ xs) before can = subst (λ k. IsSome (get c.rows k)) (omega arith) (last_stands c (n + 1) xs before can.2)

pub last_counted : (c : Counted) (n : ℕ) (xs : List (Option Row)) (before : Option Row) → CanUndo c n (xs ++ before ∷ []) → IfSome before (λ row. IsSome (get c.counts row.recall))
last_counted c n [] before can = can.1
last_counted c n (x ∷ xs) before can = last_counted c (n + 1) xs before can.2

pub can_front : (c : Counted) (n : ℕ) (xs : List (Option Row)) (before : Option Row) → CanUndo c n (xs ++ before ∷ []) → CanUndo c n xs
can_front c n [] before can = tt
can_front c n (x ∷ xs) before can = (can.0, can.1, can_front c (n + 1) xs before can.2)

pub can_push : (c : Counted) (n : ℕ) (xs : List (Option Row)) (before : Option Row)
    → CanUndo c n xs → IsSome (get c.rows (n + length xs)) → IfSome before (λ row. IsSome (get c.counts row.recall)) → CanUndo c n (xs ++ before ∷ [])
can_push c n [] before can stands counted = (subst (λ k. IsSome (get c.rows k)) (omega arith) stands, counted, tt)
can_push c n (x ∷ xs) before can stands counted = (can.0, can.1, can_push c (n + 1) xs before can.2 (subst (λ k. IsSome (get c.rows k)) (omega arith) stands) counted)
