-- What a question is about, by the words that it is asked with: an item at a site, or a recall.
use Rattle.std.specs.Prelude.{◌≡◌, ◌⊎◌, ℕ, List, Some, None, Ok, Err}
use Rattle.event_json.specs.Sites.{Site, named}
use Rattle.frame_core.specs.Numbers.{Recall}
use Rattle.item_spellings.specs.Keys.{item_reading}
use Rattle.item_spellings.specs.declared.faults.SpellingFault.{SpellingFault}
use Rattle.item_spellings.specs.declared.spellings.Spelled.{Spelled}
use Rattle.recall_outcomes.specs.declared.outcomes.CommandRefusal.TheVariants.{BadRecall}
use Rattle.recall_outcomes.specs.declared.outcomes.Outcome.{Outcome}
use Rattle.recall_text.specs.Numbers.{recall_of}
use Rattle.site_folders.specs.Refusals.{IsNoSite, IsRefusal, refusal_of}

-- the item that is spelled, at the site of this name
abbrev pub AsksItem : List ℕ → Spelled → List Site → ℕ → List ℕ → Type 0
AsksItem name item sites site key = (named sites name ≡ Some site) × (item_reading item ≡ Ok key)

-- no site of this name is listed; or one is, and the text spells no item
abbrev pub RefusesItem : List ℕ → Spelled → List Site → Outcome → Type 0
RefusesItem name item sites outcome =
    ((named sites name ≡ None) × IsNoSite name outcome)
    ⊎ ((site : ℕ) × (fault : SpellingFault) × (named sites name ≡ Some site) × (item_reading item ≡ Err fault) × IsRefusal (refusal_of fault) outcome)

-- the recall that a text names, with its site
abbrev pub AsksRecall : List ℕ → List Site → Recall → Type 0
AsksRecall text sites r = (name : List ℕ) × (recall_of text ≡ Some (name, r.number)) × (named sites name ≡ Some r.site)

-- the text names no recall; or one of a site that isn't listed
abbrev pub RefusesRecall : List ℕ → List Site → Outcome → Type 0
RefusesRecall text sites outcome =
    ((recall_of text ≡ None) × IsRefusal BadRecall outcome)
    ⊎ ((name : List ℕ) × (number : ℕ) × (recall_of text ≡ Some (name, number)) × (named sites name ≡ None) × IsNoSite name outcome)
