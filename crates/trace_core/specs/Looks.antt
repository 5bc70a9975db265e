-- How a count of looks grows.
use Rattle.std.specs.Prelude.{◌≤◌, ◌+◌, ◌-◌, ◌^◌, ℕ, cond, min, nat_lt}

-- one look more; at 2^64 - 1 the count stays
abbrev pub one_look : ℕ → ℕ
one_look looks = cond (nat_lt looks (2 ^ 64 - 1)) (looks + 1) looks

-- so many looks more; at 2^64 - 1 the count stays
abbrev pub more_looks : ℕ → ℕ → ℕ
more_looks more looks = min (looks + more) (2 ^ 64 - 1)

-- at most so many looks more, and no fewer than before
pub record LooksAtMost (more looks looks' : ℕ) : Type 0 where
  pub least : looks ≤ looks'
  pub most : looks' ≤ looks + more

-- just so many looks more; at 2^64 - 1 the count stays
pub record LooksAtEach (more looks looks' : ℕ) : Type 0 where
  pub least : looks ≤ looks'
  pub most : looks' ≤ looks + more
  pub all : more_looks more looks ≤ looks'
