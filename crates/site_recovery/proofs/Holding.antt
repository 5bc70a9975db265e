-- What a site holds under a recall.
use Rattle.std.proofs.Common.{◌≡◌, ℕ, ◌+◌, ◌<◌, Some, None, List, [], ◌∷◌, ◌++◌, length, get_or, take, map, sym, ◌∙◌, ap}
use Rattle.std.proofs.lemmas.List.{nil_from_length, flat_map_more, map_push, take_more}
use Rattle.std.specs.FinMap as finite
use Rattle.frame_core.specs.Numbers.{Recall}
use Rattle.site_core.specs.ItemSets as set
use Rattle.site_core.specs.Quarantines.{Quarantine, Items, or_none}
use Rattle.site_core.specs.Records.{Record}
use Rattle.trace_core.specs.declared.pairs.Pair.{Pair}
use Rattle.site_recovery.specs.Recalls.{held_at, quarantined}

-- these items at this site
abbrev pub pairs_at : (site : ℕ) → List (List ℕ) → List Pair
pairs_at site items = map (λ i. record { site = site; item = i }) items

no_entries : finite.entries set.empty ≡ []
no_entries = nil_from_length (finite.entries set.empty) (sym (finite.len-entries set.empty) ∙ finite.len-empty set.item_cmp (Unit {0}))

no_items : set.items set.empty ≡ []
no_items = ap (map (λ e. e.0)) no_entries

pub held_none : (recall : Recall) (r : Record) (q : Quarantine) → q ≡ r.quarantine → None ≡ finite.get q recall → held_at recall r ≡ []
held_none recall r q same none =
    ap (λ found. pairs_at r.engagement.me (set.items (or_none found))) (ap (λ z. finite.get z recall) (sym same) ∙ sym none)
    ∙ ap (pairs_at r.engagement.me) no_items

pub held_some : (recall : Recall) (r : Record) (q : Quarantine) (items : Items) (keys : List (List ℕ)) → q ≡ r.quarantine → Some items ≡ finite.get q recall → keys ≡ set.items items → pairs_at r.engagement.me keys ≡ held_at recall r
held_some recall r q items keys same some are =
    ap (pairs_at r.engagement.me) are ∙ ap (λ found. pairs_at r.engagement.me (set.items (or_none found))) (some ∙ ap (λ z. finite.get z recall) same)

-- the pairs of one site more
pub more_held : {X : Type 0} (f : X → Record) (recall : Recall) (xs : List X) (i : ℕ) (x : X) (old new : List Pair) → i < length xs → x ≡ get_or xs i x
    → old ≡ quarantined recall (map f (take i xs)) → new ≡ old ++ held_at recall (f x) → new ≡ quarantined recall (map f (take (i + 1) xs))
more_held f recall xs i x old new below is was added =
    let more : take (i + 1) xs ≡ take i xs ++ x ∷ [] = take_more xs i x below ∙ ap (λ z. take i xs ++ z ∷ []) (sym is) in
    added ∙ ap (λ o. o ++ held_at recall (f x)) was ∙ flat_map_more (held_at recall) [] (map f (take i xs)) (f x)
    ∙ ap (quarantined recall) (sym (map_push f (take i xs) x)) ∙ ap (λ zs. quarantined recall (map f zs)) (sym more)
