-- no value that is printed has a float, so that its text is known byte for byte
use Rattle.std.proofs.Common.{◌≡◌, ℕ, false, List, refl}
use Rattle.serde_json.specs.Data.{object}
use Rattle.serde_json.specs.Written.{has_float}
use Rattle.document_lint.specs.Lines.{finding_json, what_members}
use Rattle.document_lint.specs.declared.findings.Finding.{Finding}
use Rattle.document_lint.specs.declared.findings.What.{What}
use Rattle.document_lint.specs.declared.findings.What.TheVariants.{Fault, Skipped, ShipsNowhere, Outside, OtherSpelling, NotShipped, NothingPacked, NoEventId, NearMiss, OtherPlace}

what_free : (source : List ℕ) (event : ℕ) (what : What) → has_float (object (what_members source event what)) ≡ false
what_free source event (Fault field kind) = refl
what_free source event (Skipped its_type) = refl
what_free source event ShipsNowhere = refl
what_free source event (Outside place) = refl
what_free source event (OtherSpelling site address) = refl
what_free source event NotShipped = refl
what_free source event NothingPacked = refl
what_free source event NoEventId = refl
what_free source event (NearMiss field text) = refl
what_free source event (OtherPlace place address) = refl

pub finding_free : (source : List ℕ) (found : Finding) → has_float (finding_json source found) ≡ false
finding_free source found = what_free source found.event found.what
