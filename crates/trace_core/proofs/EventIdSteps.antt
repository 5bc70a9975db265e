-- What is looked up under the hashes of eventIDs, as events are noted and taken back.
use Rattle.std.proofs.Common.{◌≡◌, ℕ, Bool, true, false, cond, ◌&&◌, List, [], ◌∷◌, ◌++◌, Option, Some, None, length, refl, ap, sym, subst, ◌∙◌}
use Rattle.std.specs.Prelude.{nat_eq}
use Rattle.indexmap.specs.IndexMap.{UpdatesBy}
use Rattle.std.specs.declared.hash.RandomState.{RandomState}
use Rattle.event_json.specs.Events.{Content}
use Rattle.trace_core.specs.declared.event_ids.EventIds.{EventIds}
use Rattle.trace_core.specs.EventIds.{HashIndex, hash_key, hash_keys, hash_places, has_hash}
use Rattle.trace_core.specs.PairTests.{same_id, same_item}
use Rattle.trace_core.specs.Places.{IsIndex, Notes, Forgets}
use Rattle.trace_core.proofs.PlaceLists.{notes_id, forgets_id, index_more, index_less}

and_no : (b : Bool) → (b && false) ≡ false
and_no true = refl
and_no false = refl

and_yes : (b : Bool) → (b && true) ≡ b
and_yes true = refl
and_yes false = refl

-- what a look-up of a key finds after a change at a hash
pub hash_found : (old new : HashIndex) (hash : ℕ) (w : Option (List ℕ)) → UpdatesBy nat_eq (nat_eq hash) old new w
    → (key : List ℕ) → hash_places new key ≡ cond (same_item (hash_key hash) key) w (hash_places old key)
hash_found old new hash w upd [] = refl
hash_found old new hash w upd (k ∷ []) = upd.0 k ∙ ap (λ b. cond b w (hash_places old (k ∷ []))) (sym (and_yes (nat_eq hash k)))
hash_found old new hash w upd (k ∷ j ∷ ks) = ap (λ b. cond b w None) (sym (and_no (nat_eq hash k)))

-- the places of the eventIDs of these events
abbrev HasHashes : EventIds → List Content → Type 0
HasHashes ids events = IsIndex (hash_places ids.places) (has_hash ids.keys) events

module _ (old new : EventIds) (events : List Content) (place : ℕ) (last : place ≡ length events) (e : Content) (o : Option (List ℕ)) (is : o ≡ e.id) (keys : new.keys ≡ old.keys) where
  -- one event more
  pub ids_more : Notes (hash_places old.places) (hash_places new.places) place (λ key. same_id (hash_keys old.keys o) (Some key)) → HasHashes old events → HasHashes new (events ++ e ∷ [])
  ids_more noted before = subst (λ (k : RandomState). IsIndex (hash_places new.places) (has_hash k) (events ++ e ∷ [])) (sym keys)
      (index_more (hash_places old.places) (hash_places new.places) (has_hash old.keys) events place last e
      (notes_id (hash_places old.places) (hash_places new.places) place e (hash_keys old.keys o) (hash_keys old.keys e.id) (ap (hash_keys old.keys) is) noted) before)

  -- one event less
  pub ids_less : Forgets (hash_places old.places) (hash_places new.places) place (λ key. same_id (hash_keys old.keys o) (Some key)) → HasHashes old (events ++ e ∷ []) → HasHashes new events
  ids_less forgotten before = subst (λ (k : RandomState). IsIndex (hash_places new.places) (has_hash k) events) (sym keys)
      (index_less (hash_places old.places) (hash_places new.places) (has_hash old.keys) events place last e
      (forgets_id (hash_places old.places) (hash_places new.places) place e (hash_keys old.keys o) (hash_keys old.keys e.id) (ap (hash_keys old.keys) is) forgotten) before)
