-- an event that is read as a document of its own
use Rattle.std.proofs.Common.{◌≡◌, ◌≤◌, ℕ, List, [], ◌∷◌, Option, Some, None, Result, Ok, Err, length, refl, sym, ap, ◌∙◌, subst, arith}
use mathlib.Core.Bool.{false≢true, true≢false}
use Rattle.std.specs.Prelude.{Bool, true, false, codes, bytes_eq, is_some, option_and_then, option_to_list}
use Rattle.std.proofs.lemmas.Slice.Eq.{bytes_eq-Decides}
use Rattle.serde_json.specs.Data.{Data, item, no_items}
use Rattle.serde_json.specs.Find.{as_object}
use Rattle.event_json.specs.Checks.{event_type, type_named, type_text}
use Rattle.event_json.specs.declared.event_types.EventType.{EventType}
use Rattle.event_json.specs.declared.doc_faults.DocField.TheVariants as fields
use Rattle.event_json.specs.declared.doc_faults.DocFaultKind.TheVariants as kinds
use Rattle.event_json.specs.Documents.{doc_of, document_of, event_list, events_of, few_events, numbered_event}
use Rattle.event_json.specs.EventReading.{event_of}
use Rattle.event_json.specs.Events.{Content}
use Rattle.event_json.specs.Faults.{◌>>=◌, at_event}
use Rattle.event_json.specs.Sites.{Site}
use Rattle.event_json.specs.declared.doc_faults.DocFault.{DocFault}
use Rattle.event_json.specs.declared.doc_faults.Flaw.{Flaw}
use Rattle.event_json.specs.declared.documents.Doc.{Doc}
use Rattle.document_lint.specs.Findings.{at_number, event_findings, found_of, is_event}

-- what is found at an event doesn't depend on its number
same_at : (sites : List Site) (here : Option ℕ) (d : Data) (n m : ℕ) (read : Result (Option Content) Flaw) → found_of sites here d (at_event n read) ≡ found_of sites here d (at_event m read)
same_at sites here d n m (Ok None) = refl
same_at sites here d n m (Ok (Some e)) = refl
same_at sites here d n m (Err flaw) = refl

pub at_any_number : (sites : List Site) (here : Option ℕ) (n : ℕ) (d : Data) → at_number n (found_of sites here d (numbered_event sites 1 d)) ≡ event_findings sites here (n, d)
at_any_number sites here n d = ap (at_number n) (same_at sites here d 1 n (event_of sites d))

abbrev events_in : Result Doc DocFault → List Content
events_in (Ok doc) = doc.events
events_in (Err fault) = []

-- the event of a document of one
abbrev pub alone_in : Result (Option Content) DocFault → Result Doc DocFault
alone_in (Ok None) = Ok (record { events = []; skipped = 1 })
alone_in (Ok (Some e)) = Ok (record { events = e ∷ []; skipped = 0 })
alone_in (Err fault) = Err fault

alone_cases : (read : Result (Option Content) DocFault) → ((read >>= λ first. Ok (first ∷ [])) >>= λ found. Ok (doc_of found)) ≡ alone_in read
alone_cases (Ok None) = refl
alone_cases (Ok (Some e)) = refl
alone_cases (Err fault) = refl

-- a text that names an event type isn't that of a document
no_document : (text : List ℕ) → is_some (type_named text) ≡ true → bytes_eq text (codes "EPCISDocument") ≡ false
unfolding type_named
no_document text named = by (bytes_eq text (codes "EPCISDocument")) refl
  where
    by : (b : Bool) → bytes_eq text (codes "EPCISDocument") ≡ b → b ≡ false
    by false is = refl
    by true is =
        let same : text ≡ codes "EPCISDocument" = (bytes_eq-Decides text (codes "EPCISDocument")).0 is in
        absurd (false≢true (ap (λ t. is_some (type_named t)) (sym same) ∙ named))

-- a bare event is a document of itself
bare_list : (d : Data) (found : Option (List ℕ)) → type_text d ≡ found → is_some (option_and_then type_named found) ≡ true → event_list d ≡ Ok (item d no_items)
unfolding event_list
bare_list d None is named = absurd (false≢true named)
bare_list d (Some text) is named = rw is (rw (no_document text named) (rw named refl))

pub read_bare : (sites : List Site) (d : Data) → is_event d ≡ true → document_of sites d ≡ alone_in (numbered_event sites 1 d)
unfolding document_of few_events events_of
read_bare sites d named = rw (bare_list d (type_text d) refl named) (alone_cases (numbered_event sites 1 d))

-- what is no event by its type has its fault
by_type : (sites : List Site) (d : Data) (found : Option EventType) → option_and_then type_named (type_text d) ≡ found → is_some found ≡ false → is_some (as_object d) ≡ true
    → Err (record { event = 1; field = fields.Type; kind = kinds.NoType }) ≡ numbered_event sites 1 d
unfolding event_of event_type
by_type sites d None is none object = rw object (rw is refl)
by_type sites d (Some its) is none object = absurd (true≢false none)

pub no_type : (sites : List Site) (d : Data) → is_event d ≡ false → is_some (as_object d) ≡ true → Err (record { event = 1; field = fields.Type; kind = kinds.NoType }) ≡ numbered_event sites 1 d
no_type sites d none object = by_type sites d _ refl none object

pub no_object : (sites : List Site) (d : Data) → is_some (as_object d) ≡ false → Err (record { event = 1; field = fields.Event; kind = kinds.WrongShape }) ≡ numbered_event sites 1 d
unfolding event_of event_type
no_object sites d none = rw none refl

-- it has at most one
few_in : (read : Result (Option Content) DocFault) (doc : Doc) → alone_in read ≡ Ok doc → length doc.events ≤ 1
few_in (Ok None) doc is = subst (λ (l : List Content). length l ≤ 1) (ap (λ (r : Result Doc DocFault). events_in r) is) (omega arith)
few_in (Ok (Some e)) doc is = subst (λ (l : List Content). length l ≤ 1) (ap (λ (r : Result Doc DocFault). events_in r) is) (omega arith)
few_in (Err fault) doc is = cc

pub few_alone : (sites : List Site) (d : Data) (doc : Doc) → is_event d ≡ true → document_of sites d ≡ Ok doc → length doc.events ≤ 1
few_alone sites d doc named is = few_in (numbered_event sites 1 d) doc (sym (read_bare sites d named) ∙ is)

-- the event that is in it
kept_in : (read : Result (Option Content) DocFault) (doc : Doc) (only : Option Content) → alone_in read ≡ Ok doc → option_to_list only ≡ doc.events → Ok only ≡ read
kept_in (Ok None) doc None is cut = refl
kept_in (Ok None) doc (Some e) is cut = let same : [] ≡ e ∷ [] = ap (λ (r : Result Doc DocFault). events_in r) is ∙ sym cut in cc
kept_in (Ok (Some e)) doc None is cut = let same : e ∷ [] ≡ [] = ap (λ (r : Result Doc DocFault). events_in r) is ∙ sym cut in cc
kept_in (Ok (Some e)) doc (Some f) is cut = let same : e ∷ [] ≡ f ∷ [] = ap (λ (r : Result Doc DocFault). events_in r) is ∙ sym cut in cc
kept_in (Err fault) doc only is cut = cc

pub event_alone : (sites : List Site) (d : Data) (doc : Doc) (only : Option Content) → is_event d ≡ true → document_of sites d ≡ Ok doc → option_to_list only ≡ doc.events → Ok only ≡ numbered_event sites 1 d
event_alone sites d doc only named is cut = kept_in (numbered_event sites 1 d) doc only (sym (read_bare sites d named) ∙ is) cut

-- its fault
fault_in : (read : Result (Option Content) DocFault) (fault : DocFault) → alone_in read ≡ Err fault → Err fault ≡ read
fault_in (Ok None) fault is = cc
fault_in (Ok (Some e)) fault is = cc
fault_in (Err found) fault is = cc

pub fault_alone : (sites : List Site) (d : Data) (fault : DocFault) → is_event d ≡ true → document_of sites d ≡ Err fault → Err fault ≡ numbered_event sites 1 d
fault_alone sites d fault named is = fault_in (numbered_event sites 1 d) fault (sym (read_bare sites d named) ∙ is)
