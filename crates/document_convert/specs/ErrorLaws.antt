-- What becomes of events that were declared to be errors, in the words of the one who has them captured.
use Rattle.std.specs.Prelude.{◌≡◌, ℕ, List, codes, None, Ok}
use Rattle.serde_json.specs.Data.{Data, Members, object}
use Rattle.serde_json.specs.Find.{get}
use Rattle.event_json.specs.Checks.{without_declaration}
use Rattle.event_json.specs.EventReading.{event_of}
use Rattle.event_json.specs.Members.{member_named}
use Rattle.event_json.specs.Sites.{Site}
use Rattle.document_convert.specs.DeclaredErrors.{document_with_errors_kept, undeclared}
use Rattle.document_convert.specs.EachLaws.{ChangesEach}

abbrev pub declaration : List ℕ
declaration = codes "errorDeclaration"

-- An event that wasn't declared to be an error stays as it is.
abbrev pub OthersStay : Type 0
OthersStay = (e : Data) → member_named declaration e ≡ None → undeclared e ≡ e

-- Of an event that was, each member but the declaration is as it was, and the declaration is none after it: no capture refuses it for one.
pub record DeclarationsGo : Type 0 where
  pub members : (e : Data) (name : List ℕ) → (name ≡ declaration → ⊥) → get name (undeclared e) ≡ get name e
  pub none_left : (e : Data) → member_named declaration (undeclared e) ≡ None
  pub passes : (e : Data) → without_declaration (undeclared e) ≡ Ok tt

-- an event says what another one says, and wasn't declared to be an error
pub record SaysWithout (e other : Members) : Type 0 where
  pub none : member_named declaration (object other) ≡ None
  pub same : (name : List ℕ) → (name ≡ declaration → ⊥) → member_named name (object other) ≡ member_named name (object e)

-- So a capture reads it as it reads the event that says the same and wasn't declared to be an error.
abbrev pub ReadAsSaid : Type 0
ReadAsSaid = (sites : List Site) (e other : Members) → SaysWithout e other → event_of sites (undeclared (object e)) ≡ event_of sites (object other)

-- Each event of a document is there without its declaration, in order, and no other; nothing beside its body changes.
abbrev pub DocumentsAreKept : Type 0
DocumentsAreKept = ChangesEach undeclared document_with_errors_kept
