use Rattle.std.proofs.Common.{sym, ap, ◌∙◌, subst}
use Rattle.std.specs.Prelude.{IsUtf8}
use Rattle.std.proofs.lemmas.Bool.{both_ways}
use Rattle.epc_core.specs.Items.{uri_key}
use Rattle.epc_core.specs.Spellings.{Spells, IsKey}
use Rattle.epc_core.proofs.Words.{not_plain, number_is_no_other, other_is_key, on_err}
use Rattle.epc_core.proofs.keys.other_of_key.Goals as goal
use Rattle.epc_core.proofs.keys.other_of_key.Goals.{then-not-is_plain-via-then-not-is_plain, then-not-is_plain-via-else-not-is_plain+then-spells_number}

pub returns-then-not-is_plain-clause-form : goal.returns-then-not-is_plain-clause-form
returns-then-not-is_plain-clause-form c =
    elim c.then-not-is_plain.branch [
      | then-not-is_plain-via-then-not-is_plain w ↦ not_plain c.args.text.now (λ plain. both_ways _ w.if-not-is_plain.true (c.is_plain.ensures.plain.1 plain))
      | then-not-is_plain-via-else-not-is_plain+then-spells_number w ↦
          number_is_no_other c.args.text.now (sym w.spells_number.ensures ∙ w.if-spells_number.true)
    ]

pub returns-in_err-text-clause-memory : goal.returns-in_err-text-clause-memory
returns-in_err-text-clause-memory c =
    let plain = c.is_plain.ensures.plain.0 c.if-not-is_plain.false in
    let known : IsKey (uri_key c.args.text.now) = (c.args.text.now, other_is_key c.args.text.now plain (sym c.spells_number.ensures ∙ c.if-spells_number.false)) in
    on_err _ known

pub returns-clause-form : goal.returns-clause-form
returns-clause-form c =
    let plain = c.is_plain.ensures.plain.0 c.if-not-is_plain.false in
    let spells = other_is_key c.args.text.now plain (sym c.spells_number.ensures ∙ c.if-spells_number.false) in
    let same = c.in_ok-text.ensures.text in
    (ap uri_key same, (subst (λ t. Spells t (uri_key t)) (sym same) spells, subst IsUtf8 (sym same) c.utf8.text))
