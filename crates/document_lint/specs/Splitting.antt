-- A document that is taken apart into documents of which each has one of its events.
use Rattle.std.specs.Prelude.{◌≡◌, ℕ, List, IsUtf8, map, Some, Ok}
use Rattle.std.specs.List.{AllZip}
use Rattle.serde_json.specs.Data.{Data, Items, item, no_items}
use Rattle.serde_json.specs.Read.{read}
use Rattle.event_json.specs.Documents.{event_list}
use Rattle.event_json.specs.Untraced.{in_order}
use Rattle.document_lint.specs.declared.splitting.Split.{Split}
use Rattle.document_lint.specs.declared.splitting.Split.TheVariants.{Events, Unlisted}

-- the bytes are a document of these events
pub record Lists (bytes : List ℕ) (items : Items) : Type 0 where
  pub utf8 : IsUtf8 bytes
  pub value : Data
  pub reads : read bytes ≡ Some value
  pub lists : event_list value ≡ Ok items

-- they are one of this event alone
abbrev pub IsAlone : Data → List ℕ → Type 0
IsAlone event bytes = Lists bytes (item event no_items)

-- these are documents of the events of the first, one for each, in order
pub record AreEventsOf (bytes : List ℕ) (documents : List (List ℕ)) : Type 0 where
  pub items : Items
  pub lists : Lists bytes items
  pub apart : AllZip IsAlone (in_order items) documents

-- the bytes are no document that has a list of events
abbrev pub IsUnlisted : List ℕ → Type 0
IsUnlisted bytes = (items : Items) → Lists bytes items → ⊥

-- the document of these bytes was taken apart, or it has no list of events
abbrev pub IsSplit : List ℕ → Split → Type 0
IsSplit bytes (Events documents) = AreEventsOf bytes (map (λ document. document.items) documents.items)
IsSplit bytes (Unlisted same) = IsUnlisted bytes × (same.items ≡ bytes)
