-- By which spelling an event is respelled.
use Rattle.document_convert.specs.Links.{link_of}
use Rattle.document_convert.specs.Lots.{lot_of}
use Rattle.document_convert.specs.Respelled.{Spelling}
use Rattle.document_convert.specs.declared.respelling.Speller.{Speller}
use Rattle.document_convert.specs.declared.respelling.Speller.TheVariants.{Links, Lots}

-- that of lots, or that of units as links
abbrev pub spelled_by : Speller → Spelling
spelled_by Lots = lot_of
spelled_by Links = link_of
