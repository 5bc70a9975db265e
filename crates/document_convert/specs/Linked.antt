-- A document with the units of its events as links.
use Rattle.serde_json.specs.Data.{Data}
use Rattle.document_convert.specs.EachEvent.{with_each}
use Rattle.document_convert.specs.Links.{link_of}
use Rattle.document_convert.specs.Respelled.{spells_otherwise_by, with_spelled}

-- each event of a document respelled in its place; one of which no event spells a unit otherwise stays as it is
abbrev pub document_with_links : Data → Data
document_with_links = with_each (spells_otherwise_by link_of) (with_spelled link_of)
