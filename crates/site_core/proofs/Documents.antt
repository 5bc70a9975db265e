-- A document that was read, and whose events were captured or refused.
use Rattle.std.proofs.Common.{◌≡◌, inl, inr, ℕ, true, false, List, refl, sym, ap, subst, ◌∙◌}
use Rattle.std.specs.Prelude.{Result, Ok, Err}
use Rattle.std.specs.Str.{IsUtf8, is_utf8}
use Rattle.std.proofs.lemmas.Str.{IsUtf8-from_is_utf8, is_utf8-from_IsUtf8}
use Rattle.event_json.specs.declared.doc_faults.DocFault.{DocFault}
use Rattle.event_json.specs.declared.doc_faults.DocField.TheVariants as fields
use Rattle.event_json.specs.declared.doc_faults.DocFaultKind.TheVariants as kinds
use Rattle.event_json.specs.declared.documents.Doc.{Doc}
use Rattle.event_json.specs.Documents.{whole, text_document}
use Rattle.event_json.specs.declared.doc_faults.ReadFault.{ReadFault}
use Rattle.event_json.specs.declared.doc_faults.ReadFault.TheVariants as reads
use Rattle.event_json.specs.Faults.{Gives}
use Rattle.event_json.specs.Events.{Content}
use Rattle.event_json.specs.Sites.{Site}
use Rattle.trace_core.specs.Sites.{SiteEvents}
use Rattle.site_core.specs.declared.capturing.CaptureFault.{CaptureFault}
use Rattle.site_core.specs.declared.capturing.CaptureFault.TheVariants as faults
use Rattle.site_core.specs.declared.inputs.SiteInput.TheVariants.{Capture}
use Rattle.site_core.specs.Capturing.{IsCaptured, TellsRefusal}
use Rattle.site_core.specs.Records.{Record}
use Rattle.site_core.specs.Steps.{IsReadAs, Captures, Refuses}
use Rattle.site_core.specs.Told.{told_capture, told_reading}

-- the bytes are read in one of two ways
pub read_as : (sites : List Site) (bytes : List ℕ) (read : Result Doc DocFault)
    → (IsUtf8 bytes → text_document sites bytes ≡ read) → ((IsUtf8 bytes → ⊥) → Err (whole fields.Document kinds.Syntax) ≡ read) → IsReadAs sites bytes read
read_as sites bytes read text other = elim (is_utf8 bytes) as (λ b. is_utf8 bytes ≡ b → IsReadAs sites bytes read) [
  | true ↦ λ is. let utf8 = IsUtf8-from_is_utf8 bytes is in inl (utf8, sym (text utf8))
  | false ↦ λ isnt. let no : IsUtf8 bytes → ⊥ = λ utf8. let twice : true ≡ false = sym (is_utf8-from_IsUtf8 bytes utf8) ∙ isnt in cc in inr (no, sym (other no))
] refl

pub unread : (s : Record) (bytes : List ℕ) (fault : ReadFault)
    → (IsUtf8 bytes → Gives {X = Doc} (Err fault) (text_document s.sites bytes)) → ((IsUtf8 bytes → ⊥) → Gives {X = Doc} (Err fault) (Err (whole fields.Document kinds.Syntax)))
    → Refuses s (Capture bytes) (told_reading fault)
unread s bytes reads.NoMemory text other = tt
unread s bytes (reads.Doc fault) text other = read_as s.sites bytes (Err fault) text other

pub captured : (s : Record) (bytes : List ℕ) (doc : Doc) (events : List Content) (after : SiteEvents) (fresh known : ℕ)
    → IsReadAs s.sites bytes (Ok doc) → events ≡ doc.events → IsCaptured s.captured s.quarantine events (record { events = after.events; fresh = fresh; known = known }) → after.me ≡ s.captured.me
    → Captures s bytes fresh known doc.skipped (record s { captured = after })
captured s bytes doc events after fresh known read same is here = record {
  doc = doc;
  read = read;
  skips = refl;
  captured = subst (λ es. IsCaptured s.captured s.quarantine es (record { events = after.events; fresh = fresh; known = known })) same is;
  rest = ap (λ m. record s { captured = record { me = m; events = after.events } }) here;
}

pub refused : (s : Record) (bytes : List ℕ) (doc : Doc) (events : List Content) (fault : CaptureFault)
    → IsReadAs s.sites bytes (Ok doc) → events ≡ doc.events → TellsRefusal s.captured s.quarantine events fault → Refuses s (Capture bytes) (told_capture fault)
refused s bytes doc events faults.NoMemory read same tells = tt
refused s bytes doc events (faults.IdTaken number) read same tells = record { doc = doc; read = read; refused = subst (λ es. TellsRefusal s.captured s.quarantine es (faults.IdTaken number)) same tells }
refused s bytes doc events (faults.Blocked r i number) read same tells = record { doc = doc; read = read; refused = subst (λ es. TellsRefusal s.captured s.quarantine es (faults.Blocked r i number)) same tells }
