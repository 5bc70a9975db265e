use Rattle.std.proofs.Common.{codes, refl, sym, subst, ◌<◌, length}
use Rattle.std.proofs.lemmas.List.{append_cancel_left}
use Rattle.epc_core.proofs.Words.{apart}
use Rattle.epc_core.proofs.laws.items_that_take_memory.Goals as goal

pub returns : goal.returns
returns c = record {
  gtin = λ gtin serial takes. apart _ _ 0 refl takes.1;
  sscc = λ digits takes. apart _ _ 0 refl takes.1;
  other = λ text. (
    λ takes. subst (λ t. 30 < length t) (sym (append_cancel_left (codes "uri ") text takes.0 takes.1)) takes.2,
    λ long. (text, refl, long),
  );
}
