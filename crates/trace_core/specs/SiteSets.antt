-- Sets of sites, as masks with a bit for each.
use Rattle.std.specs.Prelude.{◌==◌, ◌&&◌, ℕ, zero, suc, Bool, cond, List, [], ◌∷◌, ◌++◌, nat_lt}
use Rattle.std.specs.Int.{bit_at}

-- the site is in the set
unfoldable pub has_site : ℕ → ℕ → Bool
has_site mask site = nat_lt site 16 && (bit_at mask site == 1)

-- those of the set that are below a number, ascending
unfoldable pub sites_below : ℕ → ℕ → List ℕ
sites_below zero mask = []
sites_below (suc n) mask = sites_below n mask ++ cond (has_site mask n) (n ∷ []) []

-- the sites of the set, ascending
abbrev pub sites_in : ℕ → List ℕ
sites_in mask = sites_below 16 mask
