use Rattle.epc_core.proofs.Refused.{empty_from, empty_to, long_from, long_to, bad_bytes}
use Rattle.epc_core.proofs.laws.refusals.Goals as goal

pub returns : goal.returns
returns c = record {
  empty = λ text. (empty_from text, empty_to text);
  too_long = λ text. (long_from text, long_to text);
  bad_byte = bad_bytes;
}
