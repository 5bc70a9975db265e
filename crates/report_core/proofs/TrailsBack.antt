-- Trails of the converse relation, read from their ends, are trails of the relation.
use Rattle.std.proofs.Common.{◌≢◌, suc, List, [], ◌∷◌, Some, reverse, map, get_or, sym, ◌∙◌, subst, ⊎_elim, arith}
use Rattle.std.specs.List.{AllZip, Contains}
use Rattle.std.proofs.lemmas.List.{get_or_default, length-reverse, reverse-append}
use Rattle.std.proofs.lemmas.List.Elements.{Contains-append_cases}
use Rattle.std.proofs.lemmas.List.Quantifiers.{all_pairs_push}
use Rattle.trace_core.specs.Relations.{Converse}
use Rattle.trace_core.specs.Trails.{HaveNoRepeats, TellsTrailBy}
use Rattle.trace_core.specs.declared.pairs.Pair.{Pair}
use Rattle.trace_core.proofs.ChainLaws.{LeadsBack, chain_reversed, chain_converse}
use Rattle.trace_core.proofs.Members.{contains_here, contains_there, contains_cases, contains_none}

reversed_has : (xs : List Pair) (y : Pair) → Contains (reverse xs) y → Contains xs y
reversed_has [] y h = h
reversed_has (x ∷ xs) y h = ⊎_elim
    (λ there. contains_there x y xs (reversed_has xs y there))
    (λ last. ⊎_elim (λ same. subst (Contains (x ∷ xs)) same (contains_here x xs)) (λ none. absurd (contains_none y none)) (contains_cases x y [] last))
    (Contains-append_cases (reverse xs) (x ∷ []) y (subst (λ ys. Contains ys y) (reverse-append (x ∷ []) xs) h))

apart_back : (xs : List Pair) → HaveNoRepeats xs → HaveNoRepeats (reverse xs)
apart_back [] apart = apart
apart_back (x ∷ xs) apart = subst HaveNoRepeats (sym (reverse-append (x ∷ []) xs))
    (all_pairs_push (λ (p q : Pair). p ≢ q) (reverse xs) x (apart_back xs (λ i j d below lt. apart (suc i) (suc j) d (omega (arith, below)) (omega (arith, lt))))
    (λ k d lt same.
    let y = get_or (reverse xs) k d in
    let (j, lt', at) = reversed_has xs y (k, lt, get_or_default (reverse xs) k y d lt) in
    apart 0 (suc j) y (omega arith) (omega (arith, lt')) (sym same ∙ sym at)))

module _ (R : Pair → Pair → Type 0) (root : Pair) where
  pub told_back : (p : Pair) (trail : List Pair) → TellsTrailBy (Converse R) root p (Some trail) → TellsTrailBy R p root (Some (reverse trail))
  told_back p trail ((rest, is, chain, ends), apart, least) = (
    subst (λ (xs : List Pair). LeadsBack R p root (reverse xs)) (sym is) (subst (λ z. LeadsBack R z root (reverse (root ∷ rest))) ends (chain_reversed R root rest chain)),
    apart_back trail apart,
    λ n there. let short = least n (chain_converse R root p n there) in omega (arith, short, length-reverse trail),
  )

  pub all_back : (pairs : List Pair) (trails : List (List Pair)) → AllZip (λ p t. TellsTrailBy (Converse R) root p (Some t)) pairs trails → AllZip (λ p t. TellsTrailBy R p root (Some t)) pairs (map reverse trails)
  all_back [] [] h = tt
  all_back [] (t ∷ ts) h = absurd h
  all_back (p ∷ ps) [] h = absurd h
  all_back (p ∷ ps) (t ∷ ts) h = (told_back p t h.0, all_back ps ts h.1)
