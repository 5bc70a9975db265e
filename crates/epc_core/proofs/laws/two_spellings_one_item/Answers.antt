use Rattle.epc_core.proofs.Told.{gtins, ssccs}
use Rattle.epc_core.proofs.laws.two_spellings_one_item.Goals as goal

pub returns : goal.returns
returns c = record { gtin = gtins; sscc = ssccs }
