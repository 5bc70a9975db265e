-- What was shipped to places outside the traced sites (GS1 EPCIS 2.0, section 7.4: an ObjectEvent with
-- destinations ships its items to each, and with them what lies in them).
use Rattle.std.specs.Prelude.{◌↔◌, ℕ, List, Contains}
use Rattle.std.specs.List.Sorted.{IsStrictlySortedBy}
use Rattle.event_json.specs.Events.{Content}
use Rattle.event_json.specs.declared.bodies.Body.{Body}
use Rattle.event_json.specs.declared.bodies.Body.TheVariants.{Note, Ship, Make, Pack}
use Rattle.frame_core.specs.Numbers.{Recall}
use Rattle.trace_core.specs.Pairs.{IsCarriedWith}
use Rattle.trace_core.specs.declared.pairs.Pair.{Pair}
use Rattle.site_recovery.specs.Looks.{World, Held}
use Rattle.report_core.specs.Destinations.{outside_cmp}
use Rattle.report_core.specs.declared.outside.OutsideShipment.{OutsideShipment}

-- a shipment of the item to the destination, which isn't among the traced sites
abbrev pub ShipsOut : List ℕ → List ℕ → Body → Type 0
ShipsOut item destination (Note items) = ⊥
ShipsOut item destination (Ship items sites outside) = Contains items item × Contains outside destination
ShipsOut item destination (Make id ins outs) = ⊥
ShipsOut item destination (Pack action parent children) = ⊥

-- one of the events that the site captured ships something to the destination that the item is carried with
abbrev pub WentOut : World → ℕ → List ℕ → List ℕ → Type 0
WentOut W s item destination =
    (carrier : List ℕ) × ((e : Content) × Contains (W s).captured.events e × ShipsOut carrier destination e.body) × IsCarriedWith (W s).captured.events carrier item

-- the pair is one of these, and its item was shipped from its site to the destination, by itself or with what it lies in
abbrev pub IsOutsideOf : World → (Pair → Type 0) → OutsideShipment → Type 0
IsOutsideOf W IsOne x = IsOne (record { site = x.site; item = x.item }) × WentOut W x.site x.item x.destination

-- all of these shipments, by site, item and destination, and each once
pub record AreOutsideOf (W : World) (IsOne : Pair → Type 0) (out : List OutsideShipment) : Type 0 where
  pub ascending : IsStrictlySortedBy outside_cmp out
  pub exact : (x : OutsideShipment) → Contains out x ↔ IsOutsideOf W IsOne x

-- those of what is quarantined under the recall
abbrev pub AreOutside : World → Recall → List OutsideShipment → Type 0
AreOutside W recall out = AreOutsideOf W (λ p. Held W p.site recall p.item) out
