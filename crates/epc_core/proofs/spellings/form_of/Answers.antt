use Rattle.std.proofs.Common.{sym, ap, ◌∙◌, subst}
use Rattle.std.specs.Prelude.{IsUtf8}
use Rattle.std.proofs.lemmas.Option.{MatchOption-at_some, MatchOption-at_none}
use Rattle.epc_core.specs.Items.{uri_key, key_of}
use Rattle.epc_core.specs.Forms.{TakesMemory}
use Rattle.epc_core.specs.Spellings.{Spells}
use Rattle.epc_core.proofs.Found.{found_key, found_other}
use Rattle.epc_core.proofs.Words.{on_err}
use Rattle.epc_core.proofs.spellings.form_of.Goals as goal

pub returns-in-Some-clause-key : goal.returns-in-Some-clause-key
returns-in-Some-clause-key c = sym (found_key c.args.text.now _ (MatchOption-at_some _ _ c.in-Some.form c.in-Some.is c.number_form.ensures).0)

pub returns-in_err-new-clause-memory : goal.returns-in_err-new-clause-memory
returns-in_err-new-clause-memory c =
    let known = found_other c.args.text.now (MatchOption-at_none _ _ c.in_default.is c.number_form.ensures) in
    let takes : TakesMemory (key_of c.args.text.now) = (c.args.text.now, known.0, c.in_err-new.ensures.memory) in
    on_err _ takes

pub returns-clause-key : goal.returns-clause-key
returns-clause-key c =
    let known = found_other c.args.text.now (MatchOption-at_none _ _ c.in_default.is c.number_form.ensures) in
    ap uri_key c.in_ok-new.ensures.text ∙ sym known.0

pub returns-clause-form : goal.returns-clause-form
returns-clause-form c =
    let known = found_other c.args.text.now (MatchOption-at_none _ _ c.in_default.is c.number_form.ensures) in
    let text = c.in_ok-new.ensures.text in
    (subst (λ t. Spells t (uri_key t)) (sym text) (known.1 c.requires), subst IsUtf8 (sym text) c.utf8.text)
