use Rattle.std.proofs.Common.{◌≡◌, drop}
use Rattle.std.specs.List.{flat_map, fold}
use Rattle.std.specs.Hash as fed
use Rattle.epc_core.proofs.items.feed.Given as goal

abbrev pub invariant-loop-byte : goal.invariant-loop-byte
invariant-loop-byte g l =
    fold g.H.Hasher.write l.state (flat_map fed.u8 (drop l.byte-index l.bytes)) ≡ fold g.H.Hasher.write l.initial.state (flat_map fed.u8 l.bytes)
