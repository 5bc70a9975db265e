-- The world as it begins.
use Rattle.std.proofs.Common.{◌≡◌, ℕ, List, [], ◌∷◌, map, None, refl, ap}
use Rattle.std.proofs.lemmas.List.Elements.{All-nil, All-cons}
use Rattle.event_json.specs.Sites.{Site}
use Rattle.site_core.specs.Records.{fresh}
use Rattle.world_core.specs.Worlds.{Up}
use Rattle.script_core.specs.Beginning.{fresh_keeper}
use Rattle.script_core.specs.Keepers.{standing_of}
use Rattle.script_core.proofs.KeeperLemmas.{AreUnarmed}

pub all_unarmed : (sites : List Site) (ns : List ℕ) → AreUnarmed (map (fresh_keeper sites) ns)
all_unarmed sites [] = All-nil (λ k. k.armed ≡ None)
all_unarmed sites (n ∷ ns) = All-cons (λ k. k.armed ≡ None) (fresh_keeper sites n) (map (fresh_keeper sites) ns) refl (all_unarmed sites ns)

pub all_fresh : (sites : List Site) (ns : List ℕ) → map standing_of (map (fresh_keeper sites) ns) ≡ map (λ n. Up (fresh sites n)) ns
all_fresh sites [] = refl
all_fresh sites (n ∷ ns) = ap (λ xs. Up (fresh sites n) ∷ xs) (all_fresh sites ns)
