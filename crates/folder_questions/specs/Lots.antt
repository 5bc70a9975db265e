-- Lots that a recall holds at one site and that another one names, where no recall holds them.
use Rattle.std.specs.Prelude.{◌≡◌, IsTrue, List, ℕ, Any, Contains}
use Rattle.item_spellings.specs.LotParts.{IsLot}
use Rattle.frame_core.specs.Numbers.{Recall}
use Rattle.site_core.specs.Quarantines.{Quarantine, held}
use Rattle.site_core.specs.Records.{Record}
use Rattle.trace_core.specs.Spreads.{items_of}
use Rattle.trace_core.specs.declared.pairs.Pair.{Pair}

-- an event of the site names the item
abbrev pub Names : Record → List ℕ → Type 0
Names r item = Any (λ e. Contains (items_of e.body) item) r.captured.events

-- no recall holds it there
abbrev pub IsFree : Record → List ℕ → Type 0
IsFree r item = (recall : Recall) → IsTrue (held r.quarantine recall item) → ⊥

-- a lot that some recall holds at one of the sites; at this site, an event names it and no recall holds it
pub record IsLotGap (records : List Record) (p : Pair) : Type 0 where
  pub lot : IsLot p.item
  pub holder : Record
  pub among : Contains records holder
  pub recall : Recall
  pub holds : IsTrue (held holder.quarantine recall p.item)
  pub record_of : Record
  pub there : Contains records record_of
  pub number : record_of.engagement.me ≡ p.site
  pub named : Names record_of p.item
  pub free : IsFree record_of p.item

-- ---- step by step

-- a lot that is held under some recall
abbrev pub HoldsLot : Quarantine → List ℕ → Type 0
HoldsLot q i = IsLot i × (r : Recall) × IsTrue (held q r i)

-- the lot at the site of the record, if an event of that names it and no recall holds it there
abbrev pub IsFreeAt : List ℕ → Record → Pair → Type 0
IsFreeAt lot r p = Names r lot × IsFree r lot × (record { site = r.engagement.me; item = lot } ≡ p)
