-- the names of the sites as values, one by one
use Rattle.std.proofs.Common.{◌≡◌, ◌<◌, ◌+◌, ℕ, zero, suc, List, [], ◌∷◌, ◌++◌, map, take, length, refl, ap, subst, arith}
use Rattle.event_json.specs.Sites.{Site}
use Rattle.recall_text.specs.Words.{name_at}
use Rattle.serde_json.specs.Data.{string}

names_suc : (sites : List Site) (n : ℕ) → n < length sites
    → map (λ s. string s.name) (take (suc n) sites) ≡ map (λ s. string s.name) (take n sites) ++ string (name_at sites n) ∷ []
names_suc [] n h = absurd (omega arith)
names_suc (s ∷ sites) zero h = refl
names_suc (s ∷ sites) (suc n) h = ap (λ ds. string s.name ∷ ds) (names_suc sites n (omega arith))

-- the name of one site more
pub names_more : (sites : List Site) (n : ℕ) → n < length sites
    → map (λ s. string s.name) (take (n + 1) sites) ≡ map (λ s. string s.name) (take n sites) ++ string (name_at sites n) ∷ []
names_more sites n h =
    let next : suc n ≡ n + 1 = omega arith in
    subst (λ k. map (λ s. string s.name) (take k sites) ≡ map (λ s. string s.name) (take n sites) ++ string (name_at sites n) ∷ []) next (names_suc sites n h)
