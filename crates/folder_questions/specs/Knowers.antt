-- What is known of an item that the site that was asked doesn't know: which sites know it, and which items of that site end in the text
-- that was given.
use Rattle.std.specs.Prelude.{◌≡◌, ◌≢◌, ◌⊎◌, ℕ, nat_eq, Bool, List, [], ◌∷◌, filter, map, take, string_bytes}
use Rattle.std.specs.List.{AllZip, ends_with, flat_map}
use Rattle.event_json.specs.Sites.{Site}
use Rattle.item_spellings.specs.declared.spellings.Spelled.{Spelled}
use Rattle.query_core.specs.KnownItems.{AreKnownItems}
use Rattle.query_core.specs.declared.known_items.KnownItem.{KnownItem}
use Rattle.recall_outcomes.specs.declared.notes.Knower.{Knower}
use Rattle.recall_outcomes.specs.declared.notes.Knower.TheVariants.{Has, Knows}
use Rattle.recall_outcomes.specs.declared.notes.Notes.{Notes}
use Rattle.recall_outcomes.specs.declared.notes.Notes.TheVariants as notes
use Rattle.recall_outcomes.specs.declared.outcomes.Outcome.{Outcome}
use Rattle.site_core.specs.Records.{Record}
use Rattle.site_core.specs.Spreading.{IsKnownItem}
use Rattle.folder_questions.specs.Asked.{RefusesItem}

-- the item's key ends in the text
abbrev pub ends_in : List ℕ → KnownItem → Bool
ends_in text known = ends_with nat_eq known.item text

-- the site has this item
abbrev pub has : ℕ → KnownItem → Knower
has site known = Has site known.item

-- of the items that the site knows and that end in the text the first five, by their keys
abbrev pub FindsEndings : List ℕ → Record → List Knower → Type 0
FindsEndings text r found =
    (known : List KnownItem) × AreKnownItems r text known × (found ≡ map (has r.engagement.me) (take 5 (filter (ends_in text) known)))

-- the site, if it knows the item
abbrev pub FindsKnower : List ℕ → Record → List Knower → Type 0
FindsKnower item r found =
    (IsKnownItem r.captured r.quarantine item × (found ≡ Knows r.engagement.me ∷ []))
    ⊎ ((IsKnownItem r.captured r.quarantine item → ⊥) × (found ≡ []))

-- what is found at the site that was asked, and at any other
abbrev pub FindsIn : ℕ → List ℕ → List ℕ → Record → List Knower → Type 0
FindsIn asked item text r found =
    ((r.engagement.me ≡ asked) × FindsEndings text r found) ⊎ ((r.engagement.me ≢ asked) × FindsKnower item r found)

-- what is found at the sites of these records, one after another
pub record FindsInAll (asked : ℕ) (item text : List ℕ) (rs : List Record) (found : List Knower) : Type 0 where
  pub parts : List (List Knower)
  pub of_each : AllZip (FindsIn asked item text) rs parts
  pub found_is : found ≡ flat_map (λ part. part) parts

-- that is told of the item and the text
abbrev pub AnswersKnowers : ℕ → List ℕ → List ℕ → List Record → Notes → Type 0
AnswersKnowers asked item text rs (notes.Knowers told) = (told.item ≡ item) × (string_bytes told.text ≡ text) × FindsInAll asked item text rs told.found.items
AnswersKnowers asked item text rs other = ⊥

-- nothing is told where a trace of the item is refused
abbrev pub TellsNobody : List ℕ → Spelled → List Site → Notes → Type 0
TellsNobody name item sites told = (told ≡ notes.Nothing) × ((outcome : Outcome) × RefusesItem name item sites outcome)
