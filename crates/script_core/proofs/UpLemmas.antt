-- Which sites are up.
use Rattle.std.proofs.Common.{◌≡◌, ℕ, zero, suc, ◌+◌, ◌<◌, true, false, List, [], ◌∷◌, ◌++◌, length, map, take, Some, None, refl, ap, ◌∙◌, arith}
use Rattle.std.specs.Prelude.{is_some, slice_get}
use Rattle.std.specs.List.{position_from}
use Rattle.std.proofs.lemmas.List.{map_push}
use Rattle.site_core.proofs.Places.{taken_more}
use Rattle.site_core.specs.Records.{Record}
use Rattle.site_recovery.specs.Laws.{captured_of}
use Rattle.trace_core.specs.Sites.{SiteEvents}
use Rattle.world_core.specs.Worlds.{Standing, Up, Down, record_of}
use Rattle.script_core.specs.State.{up_in}
use Rattle.script_core.specs.Tasks.{is_down}

first_at : (sites : List Standing) (i n : ℕ) → n < length sites → ((k : ℕ) → k < n → is_some (up_in sites k) ≡ true) → is_some (up_in sites n) ≡ false → position_from is_down i sites ≡ Some (i + n)
first_at [] i n within before here = absurd (omega (arith, within))
first_at (Up r ∷ rest) i zero within before here = cc
first_at (Down r ∷ rest) i zero within before here = let same : i ≡ i + 0 = omega arith in ap Some same
first_at (Up r ∷ rest) i (suc n) within before here =
    let same : (i + 1) + n ≡ i + suc n = omega arith in
    first_at rest (i + 1) n (omega (arith, within)) (λ k below. before (suc k) (omega (arith, below))) here ∙ ap Some same
first_at (Down r ∷ rest) i (suc n) within before here = let up = before 0 (omega arith) in cc

-- the first site that is down
pub first_is : (sites : List Standing) (n : ℕ) → n < length sites → ((k : ℕ) → k < n → is_some (up_in sites k) ≡ true) → is_some (up_in sites n) ≡ false → position_from is_down 0 sites ≡ Some n
first_is sites n within before here = let same : 0 + n ≡ n = omega arith in first_at sites 0 n within before here ∙ ap Some same

none_at : (sites : List Standing) (i : ℕ) → ((k : ℕ) → k < length sites → is_some (up_in sites k) ≡ true) → position_from is_down i sites ≡ None
none_at [] i all = refl
none_at (Up r ∷ rest) i all = none_at rest (i + 1) (λ k below. all (suc k) (omega (arith, below)))
none_at (Down r ∷ rest) i all = let up = all 0 (omega arith) in cc

-- no site is down
pub none_is : (sites : List Standing) → ((k : ℕ) → k < length sites → is_some (up_in sites k) ≡ true) → position_from is_down 0 sites ≡ None
none_is sites all = none_at sites 0 all

up_where : (sites : List Standing) (i n : ℕ) → position_from is_down i sites ≡ None → n < length sites → up_in sites n ≡ None → ⊥
up_where [] i n none within here = omega (arith, within)
up_where (Up r ∷ rest) i zero none within here = cc
up_where (Up r ∷ rest) i (suc n) none within here = up_where rest (i + 1) n none (omega (arith, within)) here
up_where (Down r ∷ rest) i n none within here = cc

-- where no site is down, each is up
pub each_up : (sites : List Standing) (n : ℕ) → position_from is_down 0 sites ≡ None → n < length sites → up_in sites n ≡ None → ⊥
each_up sites n none within here = up_where sites 0 n none within here

pub stands_up : (sites : List Standing) (n : ℕ) (r : Record) → up_in sites n ≡ Some r → slice_get sites n ≡ Some (Up r)
stands_up [] n r e = cc
stands_up (Up q ∷ rest) zero r e = let same : q ≡ r = cc in ap (λ x. Some (Up x)) same
stands_up (Down q ∷ rest) zero r e = cc
stands_up (x ∷ rest) (suc n) r e = stands_up rest n r e

pub stands_down : (sites : List Standing) (n : ℕ) → n < length sites → up_in sites n ≡ None → (r : Record) × (slice_get sites n ≡ Some (Down r))
stands_down [] n within e = absurd (omega (arith, within))
stands_down (Up q ∷ rest) zero within e = cc
stands_down (Down q ∷ rest) zero within e = (q, refl)
stands_down (x ∷ rest) (suc n) within e = stands_down rest n (omega (arith, within)) e

-- what the first sites captured
abbrev pub captured_by : List Standing → ℕ → List SiteEvents
captured_by sites n = captured_of (map record_of (take n sites))

pub captured_more : (sites : List Standing) (n : ℕ) (r : Record) → up_in sites n ≡ Some r → captured_by sites (n + 1) ≡ captured_by sites n ++ r.captured ∷ []
captured_more sites n r e =
    ap (λ xs. captured_of (map record_of xs)) (taken_more sites n (Up r) (stands_up sites n r e)) ∙ ap captured_of (map_push record_of (take n sites) (Up r)) ∙ map_push (λ q. q.captured) (map record_of (take n sites)) r
