use Rattle.std.specs.Prelude.{option_map, take}
use Rattle.site_core.proofs.SentBlocks.{IsLeastAway}
use Rattle.site_core.proofs.sent_blocks.least_sent.Given as goal

-- the least of those so far
abbrev pub invariant-loop-sending : goal.invariant-loop-sending
invariant-loop-sending l = IsLeastAway l.captured l.quarantine (take l.sending-index l.sending-items) (option_map (λ i. i.now) l.least)
