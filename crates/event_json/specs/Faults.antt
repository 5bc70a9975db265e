-- Why a document is refused. The JSON form of an event is that of GS1 EPCIS 2.0.
use Rattle.std.specs.Prelude.{◌≡◌, ℕ, Result, Ok, Err, ⊤}
use Rattle.event_json.specs.declared.doc_faults.Flaw.{Flaw}
use Rattle.event_json.specs.declared.doc_faults.DocFault.{DocFault}
use Rattle.event_json.specs.declared.doc_faults.ReadFault.{ReadFault}
use Rattle.event_json.specs.declared.doc_faults.ReadFault.TheVariants as reads

-- one check after another: the first fault wins
infixl 10 ◌>>=◌
abbrev pub ◌>>=◌ : {A B E : Type 0} → Result A E → (A → Result B E) → Result B E
(Ok x) >>= f = f x
(Err e) >>= f = Err e

-- what a check that does not allocate returned, seen by view, is what its definition finds
abbrev pub Shows : {X Y E : Type 0} → (X → Y) → Result X E → Result Y E → Type 0
Shows view (Ok x) found = found ≡ Ok (view x)
Shows view (Err e) found = found ≡ Err e

-- what a check that does not allocate and keeps nothing returned is whether its definition finds something, or else the fault
abbrev pub Passes : {Y E : Type 0} → Result ⊤ E → Result Y E → Type 0
Passes {Y} (Ok _) found = (y : Y) × (found ≡ Ok y)
Passes (Err e) found = found ≡ Err e

-- what a call returned is what the definition gives, unless memory ran out
abbrev pub Refuses : {Y : Type 0} → ReadFault → Result Y DocFault → Type 0
Refuses reads.NoMemory given = Unit {0}
Refuses (reads.Doc fault) given = given ≡ Err fault

abbrev pub Gives : {X : Type 0} → Result X ReadFault → Result X DocFault → Type 0
Gives (Ok x) given = given ≡ Ok x
Gives (Err e) given = Refuses e given

-- what is found of the event of this number
abbrev pub at_event : {A : Type 0} → ℕ → Result A Flaw → Result A DocFault
at_event n (Ok x) = Ok x
at_event n (Err flaw) = Err (record { event = n; field = flaw.field; kind = flaw.kind })
