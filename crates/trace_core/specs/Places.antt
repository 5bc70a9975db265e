-- At which places of a list of events keys are named, and what an index of that has.
use Rattle.std.specs.Prelude.{◌≡◌, ◌==◌, ◌<◌, ◌-◌, ℕ, Bool, true, false, not, cond, ◌&&◌, ◌||◌, if◌then◌else◌, List, [], ◌∷◌, ◌++◌, Option, Some, None, Contains, length, take, slice_get, map, filter}
use Rattle.indexmap.specs.IndexMap.{IndexMap, get_by_text}
use Rattle.std.specs.List.{enumerate_from}
use Rattle.std.specs.declared.string.String.{String}
use Rattle.std.specs.declared.alloc.Global.{Global}
use Rattle.std.specs.declared.hash.RandomState.{RandomState}
use Rattle.event_json.specs.Events.{Content}
use Rattle.trace_core.specs.PairTests.{lists, same_item, same_id}
use Rattle.trace_core.specs.Pairs.{make_id}
use Rattle.trace_core.specs.Spreads.{items_of, ins_in}

-- the places, from 0, of those that pass, ascending
abbrev pub places_where : {X : Type 0} → (X → Bool) → List X → List ℕ
places_where p xs = map (λ a. a.0) (filter (λ a. p a.1) (enumerate_from 0 xs))

-- an index keeps no key without places
abbrev pub kept : List ℕ → Option (List ℕ)
kept [] = None
kept (k ∷ ks) = Some (k ∷ ks)

-- the places of a look-up, none where the key isn't kept
abbrev pub or_none : Option (List ℕ) → List ℕ
or_none None = []
or_none (Some places) = places

-- whether it is this place
abbrev pub is_place : ℕ → Option ℕ → Bool
is_place place None = false
is_place place (Some k) = k == place

-- whether the last one is this place
abbrev pub ends_with : ℕ → List ℕ → Bool
ends_with place places = is_place place (slice_get places (length places - 1))

-- with this place at the end, once
abbrev pub with_last : ℕ → List ℕ → List ℕ
with_last place places = if ends_with place places then places else places ++ place ∷ []

-- without this place at the end
abbrev pub without_last : ℕ → List ℕ → List ℕ
without_last place places = if ends_with place places then take (length places - 1) places else places

-- texts, each with the places of the events that have it
abbrev pub TextIndex : Type 0
TextIndex = IndexMap (String Global) (List ℕ) RandomState

-- what is looked up in an index of texts
abbrev pub text_places : TextIndex → List ℕ → Option (List ℕ)
text_places index text = get_by_text index text

-- the event names the item
abbrev pub names_item : List ℕ → Content → Bool
names_item item e = lists (items_of e.body) item

-- the event is a transformation that takes the item in
abbrev pub takes_item : List ℕ → Content → Bool
takes_item item e = lists (ins_in e.body) item

-- the event is a transformation with this id
abbrev pub has_part : List ℕ → Content → Bool
has_part id e = same_id (make_id e.body) (Some id)

-- what is looked up under an id, nothing where there is none
abbrev pub id_places : (List ℕ → Option (List ℕ)) → Option (List ℕ) → List ℕ
id_places found None = []
id_places found (Some id) = or_none (found id)

-- whether an event stands there, and passes
abbrev pub at_place : (Content → Bool) → Option Content → Bool
at_place p None = false
at_place p (Some e) = p e

-- at the place stands a part of the transformation with this id
abbrev pub IsPartAt : List Content → List ℕ → ℕ → Type 0
IsPartAt events id place = (e : Content) × (slice_get events place ≡ Some e) × (make_id e.body ≡ Some id)

-- a look-up finds the places of the events that name the key, no more and no fewer, for each key
abbrev pub IsIndex : (List ℕ → Option (List ℕ)) → (List ℕ → Content → Bool) → List Content → Type 0
IsIndex found names events = (key : List ℕ) → found key ≡ kept (places_where (names key) events)

-- the earlier places of each key, and this one for those keys that it is noted for
abbrev pub IsNoted : (List ℕ → Option (List ℕ)) → (List ℕ → List ℕ) → ℕ → (List ℕ → Bool) → Type 0
IsNoted found earlier place noted = (key : List ℕ) → found key ≡ kept (earlier key ++ cond (noted key) (place ∷ []) [])

abbrev pub AreEarlier : (List ℕ → List ℕ) → ℕ → Type 0
AreEarlier earlier place = (key : List ℕ) (k : ℕ) → Contains (earlier key) k → k < place

-- the last place is noted for these keys
abbrev pub Notes : (List ℕ → Option (List ℕ)) → (List ℕ → Option (List ℕ)) → ℕ → (List ℕ → Bool) → Type 0
Notes found found' place keys =
    (earlier : List ℕ → List ℕ) (noted : List ℕ → Bool) → AreEarlier earlier place
    → IsNoted found earlier place noted → IsNoted found' earlier place (λ key. noted key || keys key)

-- it is noted for some of these keys
pub record NotesSome (found found' : List ℕ → Option (List ℕ)) (place : ℕ) (keys : List ℕ → Bool) : Type 0 where
  pub some : List ℕ → Bool
  pub among : (key : List ℕ) → some key ≡ true → keys key ≡ true
  pub noted : Notes found found' place some

-- what is left of the places of one key, where they are kept
abbrev pub left_of : ℕ → Option (List ℕ) → Option (List ℕ)
left_of place None = None
left_of place (Some places) = Some (without_last place places)

abbrev pub is_emptied : ℕ → Option (List ℕ) → Bool
is_emptied place None = false
is_emptied place (Some places) = length (without_last place places) == 0

-- it is taken away from this key, whose entry stays
abbrev pub ForgetsIn : (List ℕ → Option (List ℕ)) → (List ℕ → Option (List ℕ)) → ℕ → List ℕ → Type 0
ForgetsIn found found' place key = (i : List ℕ) → found' i ≡ cond (same_item key i) (left_of place (found i)) (found i)

-- it is taken away from these keys
abbrev pub Forgets : (List ℕ → Option (List ℕ)) → (List ℕ → Option (List ℕ)) → ℕ → (List ℕ → Bool) → Type 0
Forgets found found' place keys =
    (earlier : List ℕ → List ℕ) (noted : List ℕ → Bool) → AreEarlier earlier place
    → IsNoted found earlier place noted → IsNoted found' earlier place (λ key. noted key && not (keys key))

-- where it was noted for no key, it is noted for none
abbrev pub KeepsNone : (List ℕ → Option (List ℕ)) → (List ℕ → Option (List ℕ)) → ℕ → Type 0
KeepsNone found found' place =
    (earlier : List ℕ → List ℕ) → AreEarlier earlier place → IsNoted found earlier place (λ key. false) → IsNoted found' earlier place (λ key. false)
