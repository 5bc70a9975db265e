use Rattle.std.proofs.Common.{subst}
use Rattle.std.specs.Prelude.{IsUtf8}
use Rattle.epc_core.specs.Spellings.{IsKey}
use Rattle.epc_core.proofs.KeysInUtf8.{form_in_utf8}
use Rattle.epc_core.proofs.Words.{key_of_form_is_key}
use Rattle.epc_core.proofs.items.Epc.form.Goals as goal

pub returns-clause-is_key : goal.returns-clause-is_key
returns-clause-is_key c = subst IsKey c.self.view_is (key_of_form_is_key c.self.inside.form c.self.invariant)

pub returns-clause-text : goal.returns-clause-text
returns-clause-text c = subst IsUtf8 c.self.view_is (form_in_utf8 c.self.inside.form c.self.invariant)
