-- Opening sites, one after another.
use Rattle.std.proofs.Common.{◌≡◌, ℕ, zero, suc, ◌+◌, ◌<◌, ◌≤◌, ◌++◌, List, [], ◌∷◌, length, map, take, drop, Option, Some, None, refl, sym, ap, ◌∙◌, arith, slice_get, slice_set}
use Rattle.std.proofs.lemmas.List.{set-get_or}
use Rattle.std.proofs.lemmas.Option.{get_or_from_slice_get}
use Rattle.site_core.specs.Records.{Record}
use Rattle.world_core.specs.Worlds.{Standing, Up, Down}
use Rattle.recall_text.specs.State.{World}
use Rattle.script_core.specs.Happening.{opened, with_site}
use Rattle.script_core.specs.Pumping.{opened_at, with_opened}

abbrev pub with_standings : World → List Standing → World
with_standings w sites = record w { world = record w.world { sites = sites } }

pub opened_up : (w : World) (n : ℕ) (r : Record) → slice_get w.world.sites n ≡ Some (Up r) → w ≡ with_opened w n
opened_up w n r at =
    let sites = w.world.sites in
    let same : slice_set sites n (Up r) ≡ sites = ap (λ s. slice_set sites n s) (sym (get_or_from_slice_get sites n (Up r) (Up r) at)) ∙ set-get_or sites n (Up r) in
    ap (with_standings w) (sym same) ∙ ap (λ o. with_standings w (opened_at sites n o)) (sym at)

pub opened_down : (w : World) (n : ℕ) (r : Record) → slice_get w.world.sites n ≡ Some (Down r) → record w { world = with_site w.world n (Up r) } ≡ with_opened w n
opened_down w n r at = ap (λ o. with_standings w (opened_at w.world.sites n o)) (sym at)

-- the first sites are open
abbrev pub opened_to : List Standing → ℕ → List Standing
opened_to sites n = map opened (take n sites) ++ drop n sites

pub opened_next : (sites : List Standing) (n next : ℕ) → n < length sites → next ≡ n + 1 → opened_at (opened_to sites n) n (slice_get (opened_to sites n) n) ≡ opened_to sites next
opened_next sites n next within is = let one : next ≡ suc n = omega (arith, is) in by sites n within ∙ ap (opened_to sites) (sym one) where
  put : (x : Standing) (xs : List Standing) (n : ℕ) (o : Option Standing) → opened_at (x ∷ xs) (suc n) o ≡ x ∷ opened_at xs n o
  put x xs n None = refl
  put x xs n (Some s) = refl

  by : (sites : List Standing) (n : ℕ) → n < length sites → opened_at (opened_to sites n) n (slice_get (opened_to sites n) n) ≡ opened_to sites (suc n)
  by [] n within = absurd (omega (arith, within))
  by (x ∷ xs) zero within = refl
  by (x ∷ xs) (suc n) within = put (opened x) (opened_to xs n) n (slice_get (opened_to xs n) n) ∙ ap (λ ys. opened x ∷ ys) (by xs n (omega (arith, within)))

pub opened_all : (sites : List Standing) (n : ℕ) → length sites ≤ n → opened_to sites n ≡ map opened sites
opened_all [] zero all = refl
opened_all [] (suc n) all = refl
opened_all (x ∷ xs) zero all = absurd (omega (arith, all))
opened_all (x ∷ xs) (suc n) all = ap (λ ys. opened x ∷ ys) (opened_all xs n (omega (arith, all)))

pub opened_count : (sites : List Standing) (n : ℕ) → length (opened_to sites n) ≡ length sites
opened_count [] zero = refl
opened_count [] (suc n) = refl
opened_count (x ∷ xs) zero = refl
opened_count (x ∷ xs) (suc n) = omega (arith, opened_count xs n)
