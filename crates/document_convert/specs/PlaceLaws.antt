-- What becomes of destinations, in the words of the one who has a shipment traced.
use Rattle.std.specs.Prelude.{◌≡◌, ◌⊎◌, ℕ, Bool, IsTrue, Contains, List, ◌∷◌, ◌++◌, codes, map, IsSome, None, Ok, Some}
use Rattle.std.specs.List.{find}
use Rattle.serde_json.specs.Data.{Data, Items, array, string}
use Rattle.serde_json.specs.Find.{get}
use Rattle.serde_json.specs.View.{items_of}
use Rattle.event_json.specs.Checks.{type_text}
use Rattle.event_json.specs.Members.{member_named}
use Rattle.event_json.specs.ItemLists.{destinations_of}
use Rattle.event_json.specs.Sites.{AreSites, Site, addressed}
use Rattle.event_json.specs.Untraced.{in_order, listed_events}
use Rattle.item_spellings.specs.Places.{are_one_place}
use Rattle.document_lint.specs.Locations.{location_of}
use Rattle.document_convert.specs.EachLaws.{ChangesEach}
use Rattle.document_convert.specs.Placed.{document_with_places, placed_member, with_places}
use Rattle.document_convert.specs.Places.{is_of_several, name_one_gln, place_of}
use Rattle.document_convert.specs.Respelled.{spelled_text}

-- ---- the place of a text

-- the text is an address of a listed site
abbrev pub IsAddress : List Site → List ℕ → Type 0
IsAddress sites text = (s : Site) × Contains sites s × Contains s.addresses text

-- two texts name one GLN, in whatever spellings and with whatever extensions
abbrev pub HaveOneGln : List ℕ → List ℕ → Type 0
HaveOneGln a b = (gln : List ℕ) × (location_of a ≡ Some gln) × (location_of b ≡ Some gln)

-- two texts name one place: they are one text, or the Digital Link and an EPC URI of one place with its extension, or they name one GLN
abbrev pub NameOnePlace : List ℕ → List ℕ → Type 0
NameOnePlace a b = (a ≡ b) ⊎ IsTrue (are_one_place a b) ⊎ HaveOneGln a b

-- What a text becomes is an address of a listed site, and names the same place.
abbrev pub PlacesAreListed : Type 0
PlacesAreListed = (sites : List Site) (text address : List ℕ) → place_of sites text ≡ Some address → IsAddress sites address × NameOnePlace text address

-- An address of a listed site is its own place.
abbrev pub AddressesStay : Type 0
AddressesStay = (sites : List Site) (text : List ℕ) → IsAddress sites text → place_of sites text ≡ Some text

-- no address of a listed site names the place of the text
abbrev pub IsElsewhere : List Site → List ℕ → Type 0
IsElsewhere sites text = (address : List ℕ) → IsAddress sites address → NameOnePlace text address → ⊥

-- Such a text has no place in the list.
abbrev pub OthersHaveNone : Type 0
OthersHaveNone = (sites : List Site) (text : List ℕ) → IsElsewhere sites text → place_of sites text ≡ None

-- one of the addresses of a site passes
abbrev pub HasAddress : (List ℕ → Bool) → Site → Type 0
HasAddress p s = (a : List ℕ) × Contains s.addresses a × IsTrue (p a)

-- this is the first address of a site that passes, and no other site of the list has one
pub record IsOnly (p : List ℕ → Bool) (sites : List Site) (address : List ℕ) : Type 0 where
  pub before : List Site
  pub site : Site
  pub after : List Site
  pub is : sites ≡ before ++ site ∷ after
  pub first : find p site.addresses ≡ Some address
  pub none_before : (s : Site) → Contains before s → HasAddress p s → ⊥
  pub none_after : (s : Site) → Contains after s → HasAddress p s → ⊥

-- two sites of the list have one that passes
pub record HaveSeveral (p : List ℕ → Bool) (sites : List Site) : Type 0 where
  pub before : List Site
  pub site : Site
  pub between : List Site
  pub other : Site
  pub after : List Site
  pub are : sites ≡ before ++ site ∷ (between ++ other ∷ after)
  pub first : HasAddress p site
  pub second : HasAddress p other

-- no site has one, or several have
abbrev pub HasNoOne : (List ℕ → Bool) → List Site → Type 0
HasNoOne p sites = ((s : Site) → Contains sites s → HasAddress p s → ⊥) ⊎ HaveSeveral p sites

-- A text that is no address itself has the first address of the one site that has its place in the other spelling; else that of the one
-- site that has its GLN; and where neither is one, it has none, also where several sites have its GLN.
pub record PlacesAreFound : Type 0 where
  pub by_place : (sites : List Site) (text address : List ℕ) → (IsAddress sites text → ⊥) → IsOnly (are_one_place text) sites address
      → place_of sites text ≡ Some address
  pub by_gln : (sites : List Site) (text address : List ℕ) → (IsAddress sites text → ⊥) → HasNoOne (are_one_place text) sites → IsOnly (name_one_gln text) sites address
      → place_of sites text ≡ Some address
  pub none : (sites : List Site) (text : List ℕ) → (IsAddress sites text → ⊥) → HasNoOne (are_one_place text) sites → HasNoOne (name_one_gln text) sites
      → place_of sites text ≡ None
  pub of_several : (sites : List Site) (text : List ℕ) → place_of sites text ≡ None → HaveSeveral (name_one_gln text) sites → IsTrue (is_of_several sites text)

-- ---- the destinations of an event

-- A member of the list of destinations whose text has a place in the list of sites has the address of this place for its text; any other
-- stays as it is, and so do its other members.
pub record DestinationsArePlaced : Type 0 where
  pub placed : (sites : List Site) (e : Data) (text address : List ℕ) → member_named (codes "destination") e ≡ Some (string text) → place_of sites text ≡ Some address
      → member_named (codes "destination") (placed_member (place_of sites) e) ≡ Some (string address)
  pub stays : (sites : List Site) (e : Data) → ((text address : List ℕ) → member_named (codes "destination") e ≡ Some (string text) → place_of sites text ≡ Some address → address ≡ text)
      → placed_member (place_of sites) e ≡ e
  pub others : (sites : List Site) (e : Data) (name : List ℕ) → (name ≡ codes "destination" → ⊥) → get name (placed_member (place_of sites) e) ≡ get name e

-- each member of the list of destinations stands in its place with its address, and no other member of the event changes
pub record IsPlaced (sites : List Site) (d found : Data) : Type 0 where
  pub list : (items : Items) → member_named (codes "destinationList") d ≡ Some (array items)
      → member_named (codes "destinationList") found ≡ Some (array (items_of (map (placed_member (place_of sites)) (in_order items))))
  pub others : (name : List ℕ) → (name ≡ codes "destinationList" → ⊥) → get name found ≡ get name d

-- Of an ObjectEvent the destinations become addresses, and nothing else changes; no other event changes.
pub record EventsArePlaced : Type 0 where
  pub objects : (sites : List Site) (d : Data) → type_text d ≡ Some (codes "ObjectEvent") → IsPlaced sites d (with_places sites d)
  pub others : (sites : List Site) (d : Data) → (type_text d ≡ Some (codes "ObjectEvent") → ⊥) → with_places sites d ≡ d

-- Of the event a capture reads the destinations that it read before, in order, each by the address of its place; and an address that a
-- text became is one of a traced site.
pub record ShipmentsAreTraced : Type 0 where
  pub read : (sites : List Site) (d : Data) (texts : List (List ℕ)) → AreSites sites → type_text d ≡ Some (codes "ObjectEvent") → destinations_of d ≡ Ok texts
      → destinations_of (with_places sites d) ≡ Ok (map (spelled_text (place_of sites)) texts)
  pub traced : (sites : List Site) (text address : List ℕ) → place_of sites text ≡ Some address → IsSome (addressed sites address)

-- ---- a document

-- Each event of a document is there with its destinations as addresses, in order, and no other; nothing beside its body changes.
abbrev pub DocumentsArePlaced : Type 0
DocumentsArePlaced = (sites : List Site) → ChangesEach (with_places sites) (document_with_places sites)

-- An event, or a document, that was converted stays as it is.
pub record SecondPlacesNothing : Type 0 where
  pub events : (sites : List Site) (d : Data) → with_places sites (with_places sites d) ≡ with_places sites d
  pub documents : (sites : List Site) (d : Data) → document_with_places sites (document_with_places sites d) ≡ document_with_places sites d

-- the text is a destination of an ObjectEvent of a document
pub record IsDestination (d : Data) (text : List ℕ) : Type 0 where
  pub event : Data
  pub is_its : Contains (listed_events d) event
  pub is_object : type_text event ≡ Some (codes "ObjectEvent")
  pub members : Items
  pub listed : member_named (codes "destinationList") event ≡ Some (array members)
  pub one : Data
  pub is_listed : Contains (in_order members) one
  pub is : member_named (codes "destination") one ≡ Some (string text)

-- A document stays as it is whose destinations are addresses of listed sites, or name the place of none.
abbrev pub PlacedStay : Type 0
PlacedStay = (sites : List Site) (d : Data) → ((text : List ℕ) → IsDestination d text → IsAddress sites text ⊎ IsElsewhere sites text) → document_with_places sites d ≡ d
