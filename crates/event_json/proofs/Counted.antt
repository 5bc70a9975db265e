-- Counting the events of a document, as a chain does.
use Rattle.std.proofs.Common.{◌≡◌, ◌≤◌, ◌+◌, Bool, cond, List, [], ◌∷◌, length, count_by, Ok, refl, sym, ap, ◌∙◌, arith}
use Rattle.std.proofs.lemmas.List.Sums.{sum_by-cons}
use Rattle.serde_json.specs.Data.{Data}
use Rattle.serde_json.specs.View.{view, items_view}
use Rattle.serde_json.specs.declared.value.Value.{Value}
use Rattle.event_json.specs.declared.documents.Doc.{Doc}
use Rattle.event_json.specs.Documents.{document_of}
use Rattle.event_json.specs.Sites.{Site}
use Rattle.event_json.specs.Untraced.{in_order}
use Rattle.event_json.proofs.Listed.{read_of}

-- a test of what the values say counts as many
pub counted : (p : Data → Bool) (vs : List Value) → count_by (λ v. p (view v)) vs ≡ count_by p (in_order (items_view vs))
counted p [] = refl
counted p (v ∷ vs) =
    sum_by-cons (λ w. cond (p (view w)) 1 0) v vs
    ∙ ap (λ n. cond (p (view v)) 1 0 + n) (counted p vs)
    ∙ sym (sum_by-cons (λ d. cond (p d) 1 0) (view v) (in_order (items_view vs)))

-- a document that was read has at most 1,000 events
pub few_kept : (sites : List Site) (d : Data) (doc : Doc) → document_of sites d ≡ Ok doc → length doc.events ≤ 1000
few_kept sites d doc e =
    let read = read_of sites d doc e in
    omega (arith, read.2, read.4)
