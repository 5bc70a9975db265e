-- a document that can be read, and what of it isn't traced
use Rattle.std.proofs.Common.{◌≡◌, Option, Some, None, Result, Ok, Err, List, ℕ, length, sum_by, inl, inr, refl, sym, subst, ◌∙◌}
use Rattle.std.specs.Prelude.{IsUtf8}
use Rattle.serde_json.specs.Data.{Data}
use Rattle.serde_json.specs.Read.{read}
use Rattle.event_json.specs.Documents.{whole, document_of, text_document}
use Rattle.event_json.specs.Sites.{Site}
use Rattle.event_json.specs.Untraced.{outside_of, text_untraced, untraced_of, value_untraced}
use Rattle.event_json.specs.declared.doc_faults.DocFault.{DocFault}
use Rattle.event_json.specs.declared.doc_faults.DocFaultKind.TheVariants as kinds
use Rattle.event_json.specs.declared.doc_faults.DocField.TheVariants as fields
use Rattle.event_json.specs.declared.documents.Doc.{Doc}
use Rattle.event_json.specs.declared.untraced.Untraced.{Untraced}
use Rattle.site_core.specs.Steps.{IsReadAs}

value_read : (sites : List Site) (d : Data) (doc : Doc) → document_of sites d ≡ Ok doc → value_untraced sites d ≡ Ok (untraced_of d doc)
unfolding value_untraced
value_read sites d doc is = rw is refl

-- what is told of a document, by its counts of what isn't traced
abbrev pub Counts : Doc → Untraced → Type 0
Counts doc untraced = untraced.outside ≡ sum_by (λ e. length (outside_of e.body)) doc.events

text_read : (sites : List Site) (text : List ℕ) (doc : Doc) → text_document sites text ≡ Ok doc → (untraced : Untraced) × (text_untraced sites text ≡ Ok untraced) × Counts doc untraced
unfolding text_document text_untraced
text_read sites text doc is =
    by (read text) refl
  where
    by : (o : Option Data) → read text ≡ o → (untraced : Untraced) × (text_untraced sites text ≡ Ok untraced) × Counts doc untraced
    by None none = absurd (let failed : text_document sites text ≡ Err (whole fields.Document kinds.Syntax) = rw none refl in let no : ⊥ = cc in no)
    by (Some d) some =
        let same : text_document sites text ≡ document_of sites d = rw some refl in
        let value : text_untraced sites text ≡ value_untraced sites d = rw some refl in
        (untraced_of d doc, value ∙ value_read sites d doc (sym same ∙ is), refl)

-- it is UTF-8, too
pub read_utf8 : (sites : List Site) (bytes : List ℕ) (doc : Doc) → IsReadAs sites bytes (Ok doc) → IsUtf8 bytes
read_utf8 sites bytes doc (inl (utf8, is)) = utf8
read_utf8 sites bytes doc (inr (broken, is)) = absurd (let bad : ◌≡◌ {A = Result Doc DocFault} (Ok doc) (Err (whole fields.Document kinds.Syntax)) = is in let none : ⊥ = cc in none)

-- it is read as a text
pub read_text : (sites : List Site) (bytes : List ℕ) (doc : Doc) → IsReadAs sites bytes (Ok doc) → text_document sites bytes ≡ Ok doc
read_text sites bytes doc (inl (utf8, is)) = sym is
read_text sites bytes doc (inr (broken, is)) = absurd (let bad : ◌≡◌ {A = Result Doc DocFault} (Ok doc) (Err (whole fields.Document kinds.Syntax)) = is in let none : ⊥ = cc in none)

pub read_untraced : (sites : List Site) (bytes : List ℕ) (doc : Doc) → IsReadAs sites bytes (Ok doc) → (untraced : Untraced) × (text_untraced sites bytes ≡ Ok untraced) × Counts doc untraced
read_untraced sites bytes doc read = text_read sites bytes doc (read_text sites bytes doc read)

-- what is known to be told has its counts
pub told_counts : (sites : List Site) (bytes : List ℕ) (doc : Doc) (untraced : Untraced) → IsReadAs sites bytes (Ok doc) → text_untraced sites bytes ≡ Ok untraced → Counts doc untraced
told_counts sites bytes doc untraced read is =
    let (own, has, counts) = read_untraced sites bytes doc read in
    let both : ◌≡◌ {A = Result Untraced DocFault} (Ok own) (Ok untraced) = sym has ∙ is in
    let same : own ≡ untraced = cc in
    subst (Counts doc) same counts
