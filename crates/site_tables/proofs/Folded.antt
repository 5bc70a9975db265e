-- A loop that changes a table for each element.
use Rattle.std.proofs.Common.{◌≡◌, ℕ, ◌+◌, ◌<◌, List, length, take, get_or, Ok, Err, Result, refl, sym, ap, ◌∙◌}
use Rattle.std.specs.Prelude.{fold}
use Rattle.std.proofs.lemmas.List.{take_more}
use Rattle.std.proofs.lemmas.List.Sums.{fold_push}
use Rattle.sqlite.specs.Order.{Row}
use Rattle.sqlite.specs.Table.{Table}
use Rattle.sqlite.specs.declared.error.Error.{Error}
use Rattle.sqlite.specs.State.{State}
use Rattle.site_tables.specs.TableRows.{Writes, HasWritten, changes_each}
use Rattle.site_tables.proofs.Steps.{writes_then, fails, succeeds}

module _ {X : Type 0} (change : X → List Row → List Row) (xs : List X) (i : ℕ) where
  one_more : (x : X) (before : List Row) → i < length xs → x ≡ get_or xs i x → change x (changes_each change (take i xs) before) ≡ changes_each change (take (i + 1) xs) before
  one_more x before low at =
      sym (ap (fold (λ held y. change y held) before) (take_more xs i x low) ∙ fold_push (λ held y. change y held) before (take i xs) (get_or xs i x) ∙ ap (λ y. change y (changes_each change (take i xs) before)) (sym at))

  -- the change for one element more
  pub each_changed : {table : Table} {x : X} {a b c : State} {r : Result ℕ Error} {n : ℕ} → i < length xs → x ≡ get_or xs i x → r ≡ Ok n → HasWritten table (changes_each change (take i xs)) a b → Writes table (change x) b c r
      → HasWritten table (changes_each change (take (i + 1) xs)) a c
  each_changed {table} {x} {a} {b} {c} {r} {n} low at ok p q =
      let all = changes_each change (take (i + 1) xs) in
      succeeds table all a c r n (tt {0}) ok (writes_then table (changes_each change (take i xs)) (change x) all (λ before. one_more x before low at) a b c (tt {0}) r p q)

  -- the change for the next element fails
  pub each_failed : {table : Table} {x : X} {a b c : State} {r : Result ℕ Error} {Y : Type 0} {e : Error} {out : Result Y Error} {other : List Row → List Row} → r ≡ Err e → out ≡ Err e
      → HasWritten table (changes_each change (take i xs)) a b → Writes table (change x) b c r → Writes table other a c out
  each_failed {table} {x} {a} {b} {c} {r} {e = e} {out = out} {other = other} bad end p q =
      let both = λ (before : List Row). change x (changes_each change (take i xs) before) in
      fails table both other a c r e out bad end (writes_then table (changes_each change (take i xs)) (change x) both (λ _. refl) a b c (tt {0}) r p q)
