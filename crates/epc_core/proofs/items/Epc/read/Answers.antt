use Rattle.std.proofs.Common.{◌≡◌, sym, ap, ◌∙◌, subst, None, Ok}
use Rattle.epc_core.specs.Reading.{fault_of}
use Rattle.epc_core.specs.Spellings.{Spells}
use Rattle.epc_core.proofs.Plain.{plain_from, fault_given, reading_plain}
use Rattle.epc_core.proofs.Spelled.{spells_key}
use Rattle.epc_core.proofs.items.Epc.read.Goals as goal

pub returns-in-Some-clause-gives : goal.returns-in-Some-clause-gives
returns-in-Some-clause-gives c =
    fault_given c.args.text.now _ (ap fault_of (sym c.as_bytes.ensures.value) ∙ (sym c.fault_of.ensures ∙ c.in-Some.is))

pub form_of-requires : goal.form_of-requires
form_of-requires c =
    let none : fault_of c.args.text.now ≡ None = ap fault_of (sym c.as_bytes.ensures.value) ∙ (sym c.fault_of.ensures ∙ c.in_default.is) in
    plain_from c.args.text.now none

pub returns-in-Ok : goal.returns-in-Ok
returns-in-Ok c =
    let none : fault_of c.args.text.now ≡ None = ap fault_of (sym c.as_bytes.ensures.value) ∙ (sym c.fault_of.ensures ∙ c.in_default.is) in
    record {
      gives = reading_plain c.args.text.now none ∙ ap Ok (sym c.in-Ok.ensures.key);
      memory = λ _. plain_from c.args.text.now none;
      long = λ other. absurd (let no : ⊥ = cc in no);
      spells = subst (Spells c.args.text.now) (sym c.in-Ok.ensures.key) (spells_key c.args.text.now (plain_from c.args.text.now none));
    }

pub returns-in-Err-clause-memory : goal.returns-in-Err-clause-memory
returns-in-Err-clause-memory c =
    let none : fault_of c.args.text.now ≡ None = ap fault_of (sym c.as_bytes.ensures.value) ∙ (sym c.fault_of.ensures ∙ c.in_default.is) in
    λ _. plain_from c.args.text.now none
