-- What is added by the elements of a list, place by place.
use Rattle.std.proofs.Common.{◌≡◌, ◌↔◌, ℕ, ◌<◌, ◌≤◌, ◌∙◌, List, None, Some, length, slice_get, sym, subst, Bor, arith}
use Rattle.std.proofs.lemmas.Option.{slice_get_within}
use Rattle.trace_core.specs.Chains.{sites_at}
use Rattle.trace_core.specs.Sites.{SiteEvents}
use Rattle.trace_core.proofs.Members.{contains-map}
use Rattle.trace_core.proofs.NumberLists.{none_is, some_is}
use Rattle.trace_core.proofs.SetMembers.{contains-from_map}
use Rattle.gap_core.specs.Adding.{AddsTo, ByOne, ByOneAt}
use Rattle.gap_core.proofs.Additions.{Before, adds_alike, adds_nothing}
use Rattle.gap_core.proofs.Notings.{placed, stands_in}

module _ {X Y : Type 0} (ys : List Y) (P : Y → X → Type 0) where
  -- the one at a place
  pub adds_at : (place : ℕ) (y : Y) (Old New : X → Type 0) → slice_get ys place ≡ Some y → AddsTo Old New (P y) → AddsTo Old New (ByOneAt ys P place)
  adds_at place y Old New so = adds_alike Old New (P y) (ByOneAt ys P place)
      (λ x. (
        λ p. (y, so, p),
        λ (z, also, p). subst (λ w. P w x) (some_is z y (sym also ∙ so)) p,
      ))

  -- none is there
  pub none_at : (place : ℕ) (Old : X → Type 0) → None ≡ slice_get ys place → AddsTo Old Old (ByOneAt ys P place)
  none_at place Old none = adds_nothing Old (ByOneAt ys P place) (λ x (y, so, p). none_is y (none ∙ so))

  -- those at all places
  pub all_at : (n : ℕ) (Old New : X → Type 0) → length ys ≤ n → AddsTo Old New (Before n (ByOneAt ys P)) → AddsTo Old New (ByOne ys P)
  all_at n Old New past = adds_alike Old New (Before n (ByOneAt ys P)) (ByOne ys P)
      (λ x. (
        λ (k, below, (y, so, p)). (y, stands_in ys k y so, p),
        λ (y, there, p). let (k, so) = placed ys y there in (k, within k (slice_get_within ys k y so), (y, so, p)),
      ))
    where
      within : (k : ℕ) → k < length ys → k < n
      within k below = omega (arith, below, past)

-- the sites that references point to
pub by_sites : {X : Type 0} (refs : List (Bor SiteEvents)) (P : SiteEvents → X → Type 0) (x : X) → ByOne refs (λ (r : Bor SiteEvents). P r.now) x ↔ ByOne (sites_at refs) P x
by_sites refs P x = (
  λ (r, there, p). (r.now, contains-map (λ (r : Bor SiteEvents). r.now) refs r there, p),
  λ (s, there, p). let (r, at, is) = contains-from_map (λ (r : Bor SiteEvents). r.now) refs s there in (r, at, subst (λ t. P t x) (sym is) p),
)
