-- Ascending entries, and one more behind them.
use Rattle.std.proofs.Common.{◌≡◌, inl, inr, ℕ, suc, zero, ◌<◌, Bool, true, false, List, [], ◌∷◌, ◌++◌, length, Some, refl, sym, ap, subst, ◌∙◌, arith}
use Rattle.std.specs.Prelude.{T, IsTrue, ◌↔◌, ◌&&◌, ◌==◌, get_or}
use Rattle.std.specs.Map.{keys_of}
use Rattle.std.specs.Cmp.{IsTotalOrder}
use Rattle.std.specs.Ordering.{is_lt, ordering_reverse, ordering_index}
use Rattle.std.specs.declared.cmp.Ordering.{Ordering}
use Rattle.std.specs.declared.cmp.Ordering.TheVariants.{Less, Equal, Greater}
use Rattle.std.specs.FinMap.{is_sorted, put}
use Rattle.std.specs.FinMap.Entries.{below_all}
use Rattle.std.specs.List.{All, Contains, slice_get}
use Rattle.std.proofs.lemmas.List.Elements.{All-contains}
use Rattle.std.proofs.lemmas.List.{append-nil}
use Rattle.frame_core.proofs.Ascending.{first, second, put_next}
use Rattle.trace_core.proofs.Members.{contains_here, contains_there, contains_cases, contains_none, contains-map}
use Rattle.site_core.proofs.Places.{member_there}

both : (a b : Bool) → T a → T b → T (a && b)
both true b p q = q
both false b p q = absurd p

less : (o : Ordering) → T (is_lt o) → o ≡ Less
less Less p = refl
less Equal p = absurd p
less Greater p = absurd p

is_less : (o : Ordering) → o ≡ Less → T (is_lt o)
is_less o e = subst (λ r. T (is_lt r)) (sym e) tt

pub first_tells : (r : Ordering) → IsTrue (ordering_index r == 0) → r ≡ Less
first_tells Less e = refl
first_tells Equal e = cc
first_tells Greater e = cc

pub first_told : (r : Ordering) → r ≡ Less → IsTrue (ordering_index r == 0)
first_told Less e = refl
first_told Equal e = cc
first_told Greater e = cc

-- what isn't above a key is below each key above that
below_last : {K : Type 0} {R : K → K → Ordering} → IsTotalOrder R → (x last k : K) → is_lt (R last x) ≡ false → R last k ≡ Less → R x k ≡ Less
below_last {R = R} o x last k not_above low = elim (R last x) as (λ r. R last x ≡ r → is_lt r ≡ false → R x k ≡ Less) [
  | Less ↦ λ e n. cc
  | Equal ↦ λ e n. sym (o.congr last x k e) ∙ low
  | Greater ↦ λ e n. o.trans x last k (o.antisymm x last ∙ ap ordering_reverse e) low
] refl not_above

module _ {K X : Type 0} (R : K → K → Ordering) where
  -- a new last entry is above each other
  last_above : (x k : K) (v : X) (es : List (K × X)) (more : List (K × X)) → T (below_all R x (es ++ (k, v) ∷ more)) → R x k ≡ Less
  last_above x k v [] more h = less _ (first _ _ h)
  last_above x k v (e ∷ es) more h = last_above x k v es more (second _ _ h)

  pub each_below : (es more : List (K × X)) (k : K) (v : X) → T (is_sorted R (es ++ (k, v) ∷ more)) → (e : K × X) → Contains es e → R e.0 k ≡ Less
  each_below [] more k v up e at = absurd (contains_none e at)
  each_below (d ∷ es) more k v up e at = elim (contains_cases d e es at) [
    | inl same ↦ subst (λ (z : K × X). R z.0 k ≡ Less) same (last_above d.0 k v es more (first _ _ up))
    | inr later ↦ each_below es more k v (second _ _ up) e later
  ]

  below_more : (x k : K) (v : X) (es : List (K × X)) → T (below_all R x es) → R x k ≡ Less → T (below_all R x (es ++ (k, v) ∷ []))
  below_more x k v [] h low = both _ _ (is_less _ low) tt
  below_more x k v (e ∷ es) h low = both _ _ (first _ _ h) (below_more x k v es (second _ _ h) low)

  -- one that is above each may come last
  pub may_come : (es : List (K × X)) (k : K) (v : X) → T (is_sorted R es) → ((e : K × X) → Contains es e → R e.0 k ≡ Less) → T (is_sorted R (es ++ (k, v) ∷ []))
  may_come [] k v up low = tt
  may_come (e ∷ es) k v up low = both _ _ (below_more e.0 k v es (first _ _ up) (low e (contains_here e es))) (may_come es k v (second _ _ up) (λ d at. low d (contains_there e d es at)))

  below_first : (x : K) (es more : List (K × X)) → T (below_all R x (es ++ more)) → T (below_all R x es)
  below_first x [] more h = tt
  below_first x (e ∷ es) more h = both _ _ (first _ _ h) (below_first x es more (second _ _ h))

  -- the first entries of ascending ones ascend
  pub first_ascend : (es more : List (K × X)) → T (is_sorted R (es ++ more)) → T (is_sorted R es)
  first_ascend [] more up = tt
  first_ascend (e ∷ es) more up = both _ _ (below_first e.0 es more (first _ _ up)) (first_ascend es more (second _ _ up))

  -- and put in its place it stands last
  pub put_last : IsTotalOrder R → (es : List (K × X)) (k : K) (v : X) → T (is_sorted R (es ++ (k, v) ∷ [])) → put R k v es ≡ es ++ (k, v) ∷ []
  put_last o es k v up = sym (append-nil (put R k v es)) ∙ put_next o es [] (es ++ (k, v) ∷ []) k v refl up

  pub stands_last : IsTotalOrder R → (es after : List (K × X)) (k : K) (v : X) → after ≡ put R k v es → T (is_sorted R (es ++ (k, v) ∷ [])) → (after ≡ es ++ (k, v) ∷ []) × T (is_sorted R after)
  stands_last o es after k v is up =
      let last : after ≡ es ++ (k, v) ∷ [] = is ∙ put_last o es k v up in
      (last, subst (λ xs. T (is_sorted R xs)) (sym last) up)

  -- a key may come last exactly where it is above the last one
  pub comes_last : IsTotalOrder R → (es : List (K × X)) (n : ℕ) (last : K) (x : X) (k : K) (b : Bool) → T (is_sorted R es) → slice_get es n ≡ Some (last, x)
      → All (λ q. is_lt (R last q) ≡ false) (keys_of es) → b ≡ (ordering_index (R last k) == 0) → (v : X) → IsTrue b ↔ T (is_sorted R (es ++ (k, v) ∷ []))
  comes_last o es n last x k b up at all is v = (
    λ h.
        let low : R last k ≡ Less = first_tells (R last k) (sym is ∙ h) in
        may_come es k v up (λ e there. below_last o e.0 last k (All-contains (λ q. is_lt (R last q) ≡ false) (keys_of es) e.0 all (contains-map (λ (z : K × X). z.0) es e there)) low),
    λ ascends. is ∙ first_told (R last k) (each_below es [] k v ascends (last, x) (member_there es n (last, x) at)),
  )

-- the element at an index
pub stands_at : {X : Type 0} (xs : List X) (n : ℕ) (x : X) → n < length xs → x ≡ get_or xs n x → slice_get xs n ≡ Some x
stands_at [] n x low is = absurd (omega (arith, low))
stands_at (y ∷ xs) zero x low is = ap Some (sym is)
stands_at (y ∷ xs) (suc n) x low is = stands_at xs n x (omega (arith, low)) is
