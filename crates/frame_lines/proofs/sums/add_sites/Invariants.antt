use Rattle.std.proofs.Common.{◌++◌, ℕ, List, take}
use Rattle.sha2.specs.Hashers.{Holds256}
use Rattle.frame_lines.specs.Sums.{sites_text}
use Rattle.frame_lines.proofs.sums.add_sites.Given as goal

-- the sites before this number are digested
abbrev pub invariant-loop-number : goal.invariant-loop-number
invariant-loop-number l = (m : List ℕ) → Holds256 l.fn.hasher m → Holds256 l.hasher (m ++ sites_text (take l.number l.sites))
