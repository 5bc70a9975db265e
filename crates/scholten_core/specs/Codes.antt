-- How the values of this crate's maps are stored.
use Rattle.std.specs.Prelude.{ℕ, Bool, List, refl}
use Rattle.std.specs.Coded.{Coded, code_by, coded×, coded_ℕ, coded_bool, coded_list}
use Rattle.scholten_core.specs.declared.own_recalls.Own.{Own}

-- as the root's key, and whether it ended
abbrev pub coded_own : Coded Own
coded_own = code_by (List ℕ × Bool) (coded× (coded_list coded_ℕ) coded_bool) (λ o. (o.root, o.ended)) (λ p. record { root = p.0; ended = p.1 }) (λ _. refl)
