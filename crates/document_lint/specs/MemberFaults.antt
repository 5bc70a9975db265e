-- What the checks of members return, as their definitions of event_json have it.
use Rattle.std.specs.Prelude.{◌≡◌, List, [], ◌∷◌, Result, Ok, Err}
use Rattle.event_json.specs.declared.doc_faults.Flaw.{Flaw}
use Rattle.document_lint.specs.declared.findings.What.{What}
use Rattle.document_lint.specs.declared.findings.What.TheVariants.{Fault}
use Rattle.document_lint.specs.declared.member_checks.MemberFault.{MemberFault}

abbrev pub flaw_of : MemberFault → Flaw
flaw_of fault = record { field = fault.field; kind = fault.kind }

-- what a check returned, seen by view, is what its definition finds
abbrev pub Finds : {X Y : Type 0} → (X → Y) → Result X MemberFault → Result Y Flaw → Type 0
Finds view (Ok x) found = found ≡ Ok (view x)
Finds view (Err fault) found = found ≡ Err (flaw_of fault)

-- the fault that was returned, if one was
abbrev pub told_by : {X : Type 0} → Result X MemberFault → List What
told_by (Ok x) = []
told_by (Err fault) = Fault fault.field fault.kind ∷ []
