-- Shortest trails to the same pair are equally long.
use Rattle.std.proofs.Common.{◌≡◌, ◌≤◌, List, [], ◌∷◌, Option, Some, None, length, map, option_map, refl, ap, ◌∙◌, subst, arith}
use Rattle.std.specs.List.{AllZip}
use Rattle.trace_core.specs.Chains.{Related}
use Rattle.trace_core.specs.Relations.{IsChain, last_of, Chain}
use Rattle.trace_core.specs.Sites.{SiteEvents}
use Rattle.trace_core.specs.Trails.{TellsTrail}
use Rattle.trace_core.specs.declared.pairs.Pair.{Pair}
use Rattle.trace_core.proofs.ChainLaws.{chain_front}

-- a list that is a chain has as many steps as elements after the first
chain_of_list : {X : Type 0} (R : X → X → Type 0) (x : X) (rest : List X) → IsChain R (x ∷ rest) → Chain R x (length rest) (last_of x rest)
chain_of_list R x [] chain = refl
chain_of_list R x (y ∷ rest) chain = chain_front R x y (last_of y rest) (length rest) chain.0 (chain_of_list R y rest chain.1)

-- what is told so of each of some values is equally long for each
pub equal_lengths : {A : Type 0} (T : A → List Pair → Type 0) → ((a : A) (t u : List Pair) → T a t → T a u → length t ≡ length u) → (xs : List A) (ts us : List (List Pair)) → AllZip T xs ts → AllZip T xs us → map length ts ≡ map length us
equal_lengths T one [] [] [] h g = refl
equal_lengths T one [] [] (u ∷ us) h g = absurd g
equal_lengths T one [] (t ∷ ts) us h g = absurd h
equal_lengths T one (x ∷ xs) [] us h g = absurd h
equal_lengths T one (x ∷ xs) (t ∷ ts) [] h g = absurd g
equal_lengths T one (x ∷ xs) (t ∷ ts) (u ∷ us) h g = ap (λ n. n ∷ map length ts) (one x t u h.0 g.0) ∙ ap (λ ns. length u ∷ ns) (equal_lengths T one xs ts us h.1 g.1)

module _ (sites : List SiteEvents) (root : Pair) where
  not_longer : (p : Pair) (a b : List Pair) → TellsTrail sites root p (Some a) → TellsTrail sites root p (Some b) → length a ≤ length b
  not_longer p a b (_, _, least) ((rest, is, chain, ends), _, _) =
      let steps : Chain (Related sites) root (length rest) p = subst (Chain (Related sites) root (length rest)) ends (chain_of_list (Related sites) root rest chain) in
      omega (arith, least (length rest) steps, ap length is)

  pub one_length : (p : Pair) (a b : List Pair) → TellsTrail sites root p (Some a) → TellsTrail sites root p (Some b) → length a ≡ length b
  one_length p a b tells tells' = omega (arith, not_longer p a b tells tells', not_longer p b a tells' tells)

  told_length : (p : Pair) (a : List Pair) (b : Option (List Pair)) → TellsTrail sites root p (Some a) → TellsTrail sites root p b → Some (length a) ≡ option_map length b
  told_length p a None ((rest, is, chain, ends), _, _) none = absurd (none (rest, chain, ends))
  told_length p a (Some b) tells tells' = ap (λ n. Some n) (one_length p a b tells tells')

  pub same_lengths : (ps : List Pair) (ts us : List (List Pair)) → AllZip (λ p t. TellsTrail sites root p (Some t)) ps ts → AllZip (λ p t. TellsTrail sites root p (Some t)) ps us → map length ts ≡ map length us
  same_lengths = equal_lengths (λ p t. TellsTrail sites root p (Some t)) one_length

  pub told_lengths : (ps : List Pair) (ts : List (List Pair)) (us : List (Option (List Pair))) → AllZip (λ p t. TellsTrail sites root p (Some t)) ps ts → AllZip (TellsTrail sites root) ps us → map (λ t. Some (length t)) ts ≡ map (option_map length) us
  told_lengths [] [] [] h g = refl
  told_lengths [] [] (u ∷ us) h g = absurd g
  told_lengths [] (t ∷ ts) us h g = absurd h
  told_lengths (p ∷ ps) [] us h g = absurd h
  told_lengths (p ∷ ps) (t ∷ ts) [] h g = absurd g
  told_lengths (p ∷ ps) (t ∷ ts) (u ∷ us) h g = ap (λ n. n ∷ map (λ t. Some (length t)) ts) (told_length p t u h.0 g.0) ∙ ap (λ ns. option_map length u ∷ ns) (told_lengths ps ts us h.1 g.1)
