-- What is looked up under the hashes of eventIDs.
use Rattle.std.specs.Prelude.{ℕ, Bool, nat_eq, List, [], ◌∷◌, Option, Some, None, option_map}
use Rattle.std.specs.Hash as fed
use Rattle.std.specs.Hash.DefaultHasher.{write, finish}
use Rattle.std.specs.List.{fold}
use Rattle.std.specs.RandomState.{initial_hasher}
use Rattle.std.specs.declared.hash.RandomState.{RandomState}
use Rattle.std.specs.declared.hash.BuildHasherDefault.{BuildHasherDefault}
use Rattle.std.specs.declared.hash.FoldHasher.{FoldHasher}
use Rattle.indexmap.specs.IndexMap.{IndexMap, get}
use Rattle.event_json.specs.Events.{Content}
use Rattle.trace_core.specs.PairTests.{same_id}

-- hashes, each with the places of the events whose eventID has it
abbrev pub HashIndex : Type 0
HashIndex = IndexMap ℕ (List ℕ) (BuildHasherDefault FoldHasher)

-- the hash of a text
unfoldable pub text_hash : RandomState → List ℕ → ℕ
text_hash keys text = finish (fold write (initial_hasher keys) (fed.str text))

-- a hash is a key of one number: so what is said of keys that are texts goes for hashes
abbrev pub hash_key : ℕ → List ℕ
hash_key hash = hash ∷ []

-- the key of an eventID
abbrev pub hash_keys : RandomState → Option (List ℕ) → Option (List ℕ)
hash_keys keys id = option_map (λ text. hash_key (text_hash keys text)) id

-- what is looked up under a key
abbrev pub hash_places : HashIndex → List ℕ → Option (List ℕ)
hash_places index [] = None
hash_places index (hash ∷ []) = get nat_eq index hash
hash_places index (hash ∷ next ∷ rest) = None

-- the event has an eventID of this hash
abbrev pub has_hash : RandomState → List ℕ → Content → Bool
has_hash keys key e = same_id (hash_keys keys e.id) (Some key)
