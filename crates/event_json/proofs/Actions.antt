-- A text passes the check of actions exactly where it is one.
use Rattle.std.proofs.Common.{◌≡◌, Bool, true, false, cond, ◌||◌, List, ℕ, Some, None, Result, Ok, Err, refl}
use Rattle.std.specs.Prelude.{⊤, bytes_eq, codes}
use Rattle.serde_json.specs.Data.{Data}
use Rattle.event_json.specs.declared.bodies.Action.{Action}
use Rattle.event_json.specs.declared.bodies.Action.TheVariants.{Add, Observe, Delete}
use Rattle.event_json.specs.declared.doc_faults.DocField.TheVariants as fields
use Rattle.event_json.specs.declared.doc_faults.DocFaultKind.TheVariants as kinds
use Rattle.event_json.specs.declared.doc_faults.Flaw.{Flaw}
use Rattle.event_json.specs.Checks.{action_checked, action_named, action_of}
use Rattle.event_json.specs.Faults.{◌>>=◌}
use Rattle.event_json.specs.Members.{member_of, or_flaw, text_of}

abbrev wrong : Flaw
wrong = record { field = fields.Action; kind = kinds.Action }

abbrev passes : Bool → Result ⊤ Flaw
passes b = cond b (Ok tt) (Err wrong)

abbrev found : {A : Type 0} → A → Result ⊤ Flaw
found x = Ok tt

abbrev one_of_three : Bool → Bool → Bool → Result Action Flaw
one_of_three a b c = or_flaw wrong (cond a (Some Add) (cond b (Some Observe) (cond c (Some Delete) None)))

one_passes : (a b c : Bool) → passes (a || b || c) ≡ (one_of_three a b c >>= found)
one_passes true b c = refl
one_passes false true c = refl
one_passes false false true = refl
one_passes false false false = refl

-- the text of an action passes as the action that it names
pub checked_by_name : (d : Data) → action_checked d ≡ (action_of d >>= λ _. Ok tt)
unfolding action_checked action_of action_named
checked_by_name d = by (text_of fields.Action (member_of fields.Action d))
  where
    by : (text : Result (List ℕ) Flaw)
        → (text >>= λ t. passes (bytes_eq t (codes "ADD") || bytes_eq t (codes "OBSERVE") || bytes_eq t (codes "DELETE")))
        ≡ ((text >>= λ t. one_of_three (bytes_eq t (codes "ADD")) (bytes_eq t (codes "OBSERVE")) (bytes_eq t (codes "DELETE")))
        >>= found)
    by (Ok t) =
        one_passes (bytes_eq t (codes "ADD")) (bytes_eq t (codes "OBSERVE")) (bytes_eq t (codes "DELETE"))
    by (Err e) = refl
