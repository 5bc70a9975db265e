-- Documents of single events are read as these are read in their document.
use Rattle.std.proofs.Common.{◌≡◌, ◌+◌, ℕ, suc, List, [], ◌∷◌, filter, length, Option, Some, None, Result, Ok, Err, refl, sym, ap, ◌∙◌, subst, arith}
use Rattle.std.specs.Prelude.{⊤, is_none, sum_by}
use Rattle.std.specs.List.{AllZip}
use Rattle.std.proofs.lemmas.List.Sums.{sum_by-cons}
use Rattle.serde_json.specs.Data.{Data, Items, no_items, item}
use Rattle.event_json.specs.Documents.{doc_of, document_of, events_of, few_events, numbered_event, text_document}
use Rattle.event_json.specs.EventReading.{event_of}
use Rattle.event_json.specs.Events.{Content}
use Rattle.event_json.specs.Faults.{◌>>=◌, at_event}
use Rattle.event_json.specs.Members.{each}
use Rattle.event_json.specs.Sites.{Site}
use Rattle.event_json.specs.Untraced.{in_order}
use Rattle.event_json.specs.declared.doc_faults.DocFault.{DocFault}
use Rattle.event_json.specs.declared.doc_faults.Flaw.{Flaw}
use Rattle.event_json.specs.declared.documents.Doc.{Doc}
use Rattle.document_lint.specs.Laws.{AloneIsRead, EventsMakeTheDocument, together}
use Rattle.document_lint.specs.Splitting.{IsAlone, Lists}

-- what is read of a document of this list
read_listed : (sites : List Site) (bytes : List ℕ) (items : Items) → Lists bytes items → text_document sites bytes ≡ (few_events items >>= λ _. events_of sites items)
unfolding text_document document_of
read_listed sites bytes items lists = rw (lists.reads, lists.lists) refl

few_alone : (event : Data) → few_events (item event no_items) ≡ Ok tt
unfolding few_events
few_alone event = refl

pub alone_is_read : AloneIsRead
alone_is_read sites event bytes alone = read_listed sites bytes (item event no_items) alone ∙ ap (λ (r : Result ⊤ DocFault). r >>= λ _. events_of sites (item event no_items)) (few_alone event)

-- ---- events put together

-- what a document of one event says
abbrev one_doc : Option Content → Doc
one_doc found = doc_of (found ∷ [])

abbrev docs_of : List (Option Content) → List Doc
docs_of [] = []
docs_of (e ∷ es) = one_doc e ∷ docs_of es

joined : (a : Option Content) (es : List (Option Content)) → together (docs_of es) ≡ doc_of es → together (one_doc a ∷ docs_of es) ≡ doc_of (a ∷ es)
joined None es e =
    let rest : sum_by (λ (doc : Doc). doc.skipped) (docs_of es) ≡ length (filter is_none es) = ap (λ (doc : Doc). doc.skipped) e in
    let cons : sum_by (λ (doc : Doc). doc.skipped) (one_doc None ∷ docs_of es) ≡ 1 + sum_by (λ (doc : Doc). doc.skipped) (docs_of es) = sum_by-cons (λ (doc : Doc). doc.skipped) (one_doc None) (docs_of es) in
    let count : sum_by (λ (doc : Doc). doc.skipped) (one_doc None ∷ docs_of es) ≡ suc (length (filter is_none es)) = omega (arith, rest, cons) in
    λ i. record { events = (e i).events; skipped = count i }
joined (Some x) es e =
    let rest : sum_by (λ (doc : Doc). doc.skipped) (docs_of es) ≡ length (filter is_none es) = ap (λ (doc : Doc). doc.skipped) e in
    let cons : sum_by (λ (doc : Doc). doc.skipped) (one_doc (Some x) ∷ docs_of es) ≡ 0 + sum_by (λ (doc : Doc). doc.skipped) (docs_of es) = sum_by-cons (λ (doc : Doc). doc.skipped) (one_doc (Some x)) (docs_of es) in
    let count : sum_by (λ (doc : Doc). doc.skipped) (one_doc (Some x) ∷ docs_of es) ≡ length (filter is_none es) = omega (arith, rest, cons) in
    λ i. record { events = x ∷ (e i).events; skipped = count i }

all_together : (found : List (Option Content)) → together (docs_of found) ≡ doc_of found
all_together [] = refl
all_together (e ∷ es) = joined e es (all_together es)

-- an event that is read at one place is read so in a document of its own
read_alone : (sites : List Site) (n : ℕ) (event : Data) (found : Option Content) → numbered_event sites n event ≡ Ok found → events_of sites (item event no_items) ≡ Ok (one_doc found)
unfolding events_of
read_alone sites n event found is = by (event_of sites event) refl is
  where
    by : (read : Result (Option Content) Flaw) → event_of sites event ≡ read → at_event n read ≡ Ok found → ((at_event 1 (event_of sites event) >>= λ first. Ok (first ∷ [])) >>= λ all. Ok (doc_of all)) ≡ Ok (one_doc found)
    by (Ok e) same f = rw same (ap (λ (r : Result (Option Content) DocFault). r >>= λ first. Ok (one_doc first)) f)
    by (Err flaw) same f = cc

-- and so are all of a list
abbrev AreRead : List Site → List (List ℕ) → List Doc → Type 0
AreRead sites documents docs = AllZip (λ document doc. text_document sites document ≡ Ok doc) documents docs

same_found : (a b : List (Option Content)) → ◌≡◌ {A = Result (List (Option Content)) DocFault} (Ok a) (Ok b) → a ≡ b
same_found a b e = cc

read_first : (sites : List Site) (n : ℕ) (event : Data) (items : Items) (d : List ℕ) (ds : List (List ℕ)) (found : List (Option Content)) → IsAlone event d
    → ((others : List (Option Content)) → each (numbered_event sites) (n + 1) items ≡ Ok others → AreRead sites ds (docs_of others))
    → (numbered_event sites n event >>= λ first. each (numbered_event sites) (n + 1) items >>= λ rest. Ok (first ∷ rest)) ≡ Ok found → AreRead sites (d ∷ ds) (docs_of found)
read_first sites n event items d ds found alone tail is = by_first (numbered_event sites n event) refl is
  where
    by_rest : (first : Option Content) → numbered_event sites n event ≡ Ok first → (rest : Result (List (Option Content)) DocFault) → each (numbered_event sites) (n + 1) items ≡ rest
        → (rest >>= λ others. Ok (first ∷ others)) ≡ Ok found → AreRead sites (d ∷ ds) (docs_of found)
    by_rest first one (Ok others) more e =
        subst (λ fs. AreRead sites (d ∷ ds) (docs_of fs)) (same_found (first ∷ others) found e) (alone_is_read sites event d alone ∙ read_alone sites n event first one, tail others more)
    by_rest first one (Err fault) more e = cc

    by_first : (read : Result (Option Content) DocFault) → numbered_event sites n event ≡ read
        → (read >>= λ first. each (numbered_event sites) (n + 1) items >>= λ rest. Ok (first ∷ rest)) ≡ Ok found → AreRead sites (d ∷ ds) (docs_of found)
    by_first (Ok first) one e = by_rest first one (each (numbered_event sites) (n + 1) items) refl e
    by_first (Err fault) one e = cc

read_each : (sites : List Site) (n : ℕ) (items : Items) (documents : List (List ℕ)) (found : List (Option Content)) → AllZip IsAlone (in_order items) documents → each (numbered_event sites) n items ≡ Ok found
    → AreRead sites documents (docs_of found)
read_each sites n no_items [] [] apart is = tt
read_each sites n no_items [] (e ∷ es) apart is = cc
read_each sites n no_items (d ∷ ds) found apart is = absurd apart
read_each sites n (item event items) [] found apart is = absurd apart
read_each sites n (item event items) (d ∷ ds) found (alone, apart) is =
    read_first sites n event items d ds found alone (λ others more. read_each sites (n + 1) items ds others apart more) is

pub events_make_the_document : EventsMakeTheDocument
unfolding events_of
events_make_the_document sites bytes documents doc apart is = by_count (few_events apart.items) (sym (read_listed sites bytes apart.items apart.lists) ∙ is)
  where
    by_events : (found : Result (List (Option Content)) DocFault) → each (numbered_event sites) 1 apart.items ≡ found → (found >>= λ all. Ok (doc_of all)) ≡ Ok doc
        → (docs : List Doc) × AllZip (λ document read. text_document sites document ≡ Ok read) documents docs × (together docs ≡ doc)
    by_events (Ok found) same e = (docs_of found, read_each sites 1 apart.items documents found apart.apart same, all_together found ∙ same_Ok _ _ e)
      where
        same_Ok : (a b : Doc) → ◌≡◌ {A = Result Doc DocFault} (Ok a) (Ok b) → a ≡ b
        same_Ok a b f = cc
    by_events (Err fault) same e = cc

    by_count : (few : Result ⊤ DocFault) → (few >>= λ _. events_of sites apart.items) ≡ Ok doc
        → (docs : List Doc) × AllZip (λ document read. text_document sites document ≡ Ok read) documents docs × (together docs ≡ doc)
    by_count (Ok _) e = by_events (each (numbered_event sites) 1 apart.items) refl e
    by_count (Err fault) e = cc
