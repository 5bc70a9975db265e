use Rattle.std.proofs.Common.{◌∙◌, Bor, ℕ, List, ap, bytes_eq, map}
use Rattle.std.specs.Prelude.{not}
use Rattle.document_convert.proofs.PlaceLemmas.{is_listed}
use Rattle.document_convert.proofs.places.is_address.Goals as goal

pub returns : goal.returns
returns c =
    let now : Bor (List ℕ) → List ℕ = λ t. t.now in
    ap not c.is_empty.ensures
    ∙ is_listed (bytes_eq c.args.text.now) c.args.sites.now c.as_slice-found.result.now (ap (map now) c.as_slice-found.ensures.value ∙ c.in_ok-found.ensures)
