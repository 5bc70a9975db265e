-- What documents say that isn't traced.
use Rattle.std.specs.Prelude.{◌≡◌, ◌≢◌, ℕ, ◌<◌, ◌≤◌, List, ◌++◌, length, Ok, AllPairs, Contains}
use Rattle.event_json.specs.Documents.{text_document}
use Rattle.event_json.specs.Sites.{Site}
use Rattle.event_json.specs.Untraced.{outside_of, text_untraced}
use Rattle.event_json.specs.declared.documents.Doc.{Doc}
use Rattle.event_json.specs.declared.events.Event.{Event}
use Rattle.event_json.specs.declared.untraced.Untraced.{Untraced}
use Rattle.gap_core.specs.Adding.{ByOne}
use Rattle.recall_outcomes.specs.Batches.{up}

-- nothing
abbrev pub none_untraced : Untraced
none_untraced = record { skipped = 0; aimless = 0; outside = 0; unnamed = 0 }

-- with what one document more says
abbrev pub with_untraced : Untraced → Untraced → Untraced
with_untraced all one = record {
  skipped = up all.skipped one.skipped;
  aimless = up all.aimless one.aimless;
  outside = up all.outside one.outside;
  unnamed = up all.unnamed one.unnamed;
}

-- ---- destinations that are named

-- one of the events is a shipment to this destination, which is no traced site
abbrev pub IsOutside : List Event → List ℕ → Type 0
IsOutside events = ByOne events (λ e. Contains (outside_of e.body))

-- so in a document that is read of a text
abbrev pub ShipsOutside : List Site → List ℕ → List ℕ → Type 0
ShipsOutside sites text place = (doc : Doc) × (text_document sites text ≡ Ok doc) × IsOutside doc.events place

-- each is named once, and at most five are
abbrev pub AreFew : List (List ℕ) → Type 0
AreFew places = AllPairs (λ a b. a ≢ b) places × (length places ≤ 5)

-- behind what is named there are more of P now: all of them, unless five are named
pub record NamesPlaces (P : List ℕ → Type 0) (old new : List (List ℕ)) : Type 0 where
  pub more : List (List ℕ)
  pub appended : new ≡ old ++ more
  pub only : (x : List ℕ) → Contains more x → P x
  pub few : AreFew old → AreFew new
  pub all : length new < 5 → (x : List ℕ) → P x → Contains new x

-- this is what a text says that isn't traced, and its destinations that are no traced site are named behind others
abbrev pub TellsUntraced : List Site → List ℕ → List (List ℕ) → Untraced → List (List ℕ) → Type 0
TellsUntraced sites text named untraced places = (text_untraced sites text ≡ Ok untraced) × NamesPlaces (ShipsOutside sites text) named places
