-- The instants of events that were read of documents.
use Rattle.std.specs.Prelude.{◌≡◌, All, List, ℕ, Ok}
use Rattle.jiff.specs.Words.{IsTimestampNanos}
use Rattle.event_json.specs.declared.documents.Doc.{Doc}
use Rattle.event_json.specs.Documents.{text_document}
use Rattle.event_json.specs.Sites.{Site}

-- a time can name each of them: so a packing that was read of a document can be written
abbrev pub ReadInstantsAreNamed : Type 0
ReadInstantsAreNamed = (sites : List Site) (text : List ℕ) (doc : Doc) → text_document sites text ≡ Ok doc
    → All (λ e. IsTimestampNanos e.instant) doc.events
