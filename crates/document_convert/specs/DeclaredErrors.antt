-- Events that were declared to be errors (GS1 EPCIS 2.0, section 7.4.1, `errorDeclaration`), kept as if they weren't.
use Rattle.std.specs.Prelude.{Bool, if◌then◌else◌, codes, is_some}
use Rattle.serde_json.specs.Data.{Data}
use Rattle.event_json.specs.Members.{member_named}
use Rattle.document_convert.specs.EachEvent.{with_each}
use Rattle.document_convert.specs.Quantities.{without_member}

-- an event was declared to be an error; a declaration that is null is absent, as it is to a capture
abbrev pub is_declared : Data → Bool
is_declared d = is_some (member_named (codes "errorDeclaration") d)

-- an event without its declaration; one that has none stays as it is
unfoldable pub undeclared : Data → Data
undeclared d = if is_declared d then without_member (codes "errorDeclaration") d else d

-- each event of a document without its declaration, in its place; one of which no event has any stays as it is
abbrev pub document_with_errors_kept : Data → Data
document_with_errors_kept = with_each is_declared undeclared
