use Rattle.trace_core.specs.Chains.{Related}
use Rattle.trace_core.proofs.ChainLaws.{chain-from_reaches, reaches-from_chain}
use Rattle.trace_core.proofs.laws.chain_forms_agree.Goals as goal

pub returns : goal.returns
returns c = λ sites root p. (chain-from_reaches (Related sites) root p, λ chain. reaches-from_chain (Related sites) root p chain.0 chain.1)
