-- A document with the units of its events as links.
use Rattle.std.proofs.Common.{◌≡◌, false, refl}
use Rattle.serde_json.specs.Data.{Data}
use Rattle.document_convert.specs.Links.{link_of}
use Rattle.document_convert.specs.LinkLaws.{DocumentsAreLinked, EventsAreLinked}
use Rattle.document_convert.specs.Respelled.{spells_otherwise_by, with_spelled}
use Rattle.document_convert.proofs.EachLaws.{changes_each}
use Rattle.document_convert.proofs.RespelledLaws.{events_are_spelled, spelled_type}

-- an event that spells no unit otherwise stays
stays : (d : Data) → spells_otherwise_by link_of d ≡ false → with_spelled link_of d ≡ d
unfolding with_spelled
stays d none = rw none refl

pub documents_are_linked : DocumentsAreLinked
documents_are_linked = changes_each (spells_otherwise_by link_of) (with_spelled link_of) stays (spelled_type link_of)

pub events_are_linked : EventsAreLinked
events_are_linked = events_are_spelled link_of
