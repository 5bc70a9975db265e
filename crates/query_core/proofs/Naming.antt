-- Items are kept where an event names them.
use Rattle.std.proofs.Common.{◌≡◌, ◌↔◌, ℕ, ◌+◌, ◌<◌, Bool, true, false, cond, inl, inr, List, [], ◌∷◌, Option, Some, None, refl, sym, ap, ◌∙◌, arith, Contains}
use mathlib.Core.Bool.{false≢true}
use Rattle.std.specs.List.{Any, count_by}
use Rattle.std.specs.Prelude.{IsSome}
use Rattle.std.proofs.lemmas.List.Sums.{sum_by-cons}
use Rattle.event_json.specs.Events.{Content}
use Rattle.trace_core.specs.PairTests.{lists}
use Rattle.trace_core.specs.Spreads.{items_of}
use Rattle.trace_core.proofs.Members.{contains_here, contains_there, contains_cases, contains_none}
use Rattle.trace_core.proofs.PairTestsDecide.{lists_decides}
use Rattle.query_core.specs.KnownItems.{events_naming}
use Rattle.query_core.specs.Mentions.{IsCounted}
use Rattle.query_core.specs.declared.mentions.Mentions.{Mentions}

-- a test that some element passes, and that one passes which is counted
module _ {X : Type 0} (p : X → Bool) where
  count_cons : (b : Bool) (x : X) (xs : List X) → p x ≡ b → count_by p (x ∷ xs) ≡ cond b 1 0 + count_by p xs
  count_cons b x xs is = sum_by-cons (λ y. cond (p y) 1 0) x xs ∙ ap (λ t. cond t 1 0 + count_by p xs) is

  pub some_counted : (xs : List X) → 0 < count_by p xs → (x : X) × Contains xs x × (p x ≡ true)
  some_counted [] some = absurd (omega (arith, some))
  some_counted (x ∷ xs) some = elim (p x) as (λ b. p x ≡ b → (y : X) × Contains (x ∷ xs) y × (p y ≡ true)) [
    | true ↦ λ passes. (x, contains_here x xs, passes)
    | false ↦ λ fails.
        let rest = some_counted xs (omega (arith, some, count_cons false x xs fails)) in
        (rest.0, contains_there x rest.0 xs rest.1, rest.2)
  ] refl

  pub counted_some : (xs : List X) (x : X) → Contains xs x → p x ≡ true → 0 < count_by p xs
  counted_some [] x at passes = absurd (contains_none x at)
  counted_some (y ∷ ys) x at passes = elim (p y) as (λ b. p y ≡ b → 0 < count_by p (y ∷ ys)) [
    | true ↦ λ is. omega (arith, count_cons true y ys is)
    | false ↦ λ fails. elim (contains_cases y x ys at) as (λ _. 0 < count_by p (y ∷ ys)) [
      | inl same ↦ let wrong : true ≡ false = sym passes ∙ ap p (sym same) ∙ fails in cc
      | inr later ↦ omega (arith, counted_some ys x later passes, count_cons false y ys fails)
    ]
  ] refl

-- where it is counted, it is kept just where an event names it
pub named_by : (events : List Content) (place : ℕ) (i : List ℕ) (found : Option Mentions) → IsCounted (events_naming events i) place found
    → IsSome found ↔ Any (λ e. Contains (items_of e.body) i) events
named_by events place i None none = (
  λ is. absurd (false≢true is),
  λ (k, e, below, at, names).
      let some = counted_some (λ (d : Content). lists (items_of d.body) i) events e (k, below, at) ((lists_decides (items_of e.body) i).1 names) in
      absurd (omega (arith, some, none)),
)
named_by events place i (Some m) (same, some, before) = (
  λ _.
      let one = some_counted (λ (d : Content). lists (items_of d.body) i) events some in
      (one.1.0, one.0, one.1.1, one.1.2, (lists_decides (items_of one.0.body) i).0 one.2),
  λ _. refl,
)
