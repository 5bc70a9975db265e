use Rattle.std.proofs.Common.{◌≡◌, ◌++◌, ℕ, List, Some, take}
use Rattle.std.specs.Prelude.{slice_get}
use Rattle.event_json.specs.Sites.{Site}
use Rattle.sha2.specs.Hashers.{Holds256}
use Rattle.frame_lines.specs.Sums.{addresses_text}
use Rattle.frame_lines.proofs.sums.add_addresses.Given as goal

-- the addresses before this place are digested
abbrev pub invariant-loop-place : goal.invariant-loop-place
invariant-loop-place l =
    (m : List ℕ) (s : Site) → slice_get l.sites l.site ≡ Some s → Holds256 l.fn.hasher m → Holds256 l.hasher (m ++ addresses_text (take l.place s.addresses))
