-- A receipt is confirmed by the step at its place.
use Rattle.std.proofs.Common.{◌≡◌, ◌↔◌, ℕ, zero, suc, ◌+◌, ◌-◌, ◌<◌, ◌≤◌, Bool, IsTrue, List, [], ◌∷◌, Some, map, drop, length, get_or, slice_get, sym, ap, ◌∙◌, subst, arith}
use Rattle.std.specs.List.{range_with_len}
use Rattle.std.proofs.lemmas.Option.{same_Some, slice_get-get_or, get_or_from_slice_get}
use Rattle.site_threads.specs.declared.jobs.Entry.{Entry}
use Rattle.site_threads.specs.declared.jobs.Receipt.{Receipt}
use Rattle.site_threads.specs.declared.lists.RunLog.{RunLog}
use Rattle.site_threads.specs.Gathering.{IsConfirmed}
use Rattle.site_threads.specs.Jobs.{AreNumbered, IsEntered, entry_of}

numbers : (first : ℕ) (xs : List Entry) (i : ℕ) (d : Entry) → map (λ (x : Entry). x.number) xs ≡ range_with_len first (length xs) → i < length xs → (get_or xs i d).number ≡ first + i
numbers first [] i d all h = absurd (omega arith)
numbers first (x ∷ xs) zero d all h = ap (λ (l : List ℕ). get_or l 0 0) all ∙ (let z : first ≡ first + 0 = omega arith in z)
numbers first (x ∷ xs) (suc i) d all h = numbers (first + 1) xs i d (ap (drop 1) all) (omega arith) ∙ (let z : first + 1 + i ≡ first + suc i = omega arith in z)

-- the place of the receipt's step
place : (xs : List Entry) (x : Receipt) → AreNumbered xs → (e : IsEntered xs x) → x.number ≡ 1 + e.0
place xs x all e = ap (λ (y : Entry). y.number) (sym e.2) ∙ numbers 1 xs e.0 (entry_of x) all e.1

pub never_zero : (xs : List Entry) (x : Receipt) → AreNumbered xs → x.number ≡ 0 → IsEntered xs x → ⊥
never_zero xs x all zero' e = let p = place xs x all e in omega arith

pub not_past : (xs : List Entry) (x : Receipt) → AreNumbered xs → length xs ≤ x.number - 1 → IsEntered xs x → ⊥
not_past xs x all past e = let p = place xs x all e in let h = e.1 in omega arith

pub just_there : (xs : List Entry) (x : Receipt) (y : Entry) (b : Bool) → AreNumbered xs → x.number - 1 < length xs → y ≡ get_or xs (x.number - 1) y → IsTrue b ↔ (y ≡ entry_of x) → IsTrue b ↔ IsEntered xs x
just_there xs x y b all within is same =
    let k = x.number - 1 in
    let any : (d : Entry) → get_or xs k d ≡ y = λ d. get_or_from_slice_get xs k y d (slice_get-get_or xs k y within ∙ ap Some (sym is)) in (
      λ yes. (k, within, any (entry_of x) ∙ same.0 yes),
      λ e. same.1 (let p = place xs x all e in let at : e.0 ≡ k = omega arith in sym (any (entry_of x)) ∙ ap (λ i. get_or xs i (entry_of x)) (sym at) ∙ e.2),
    )

-- of all sites

pub list_there : (ls : List RunLog) (site : ℕ) (l : RunLog) (x : Receipt) (b : Bool) → x.site ≡ site → slice_get ls site ≡ Some l → IsTrue b ↔ IsEntered l.entries.items x → IsTrue b ↔ IsConfirmed ls x
list_there ls site l x b at there same = (
  λ yes. (l, ap (slice_get ls) at ∙ there, same.0 yes),
  λ h. same.1 (subst (λ (m : RunLog). IsEntered m.entries.items x) (same_Some h.0 l (sym h.1 ∙ ap (slice_get ls) at ∙ there)) h.2),
)
