use Rattle.std.proofs.Common.{◌≡◌, map, take}
use Rattle.site_folders.specs.Begun.{roots}
use Rattle.site_folders.proofs.recalls.roots.Given as goal

-- those of the sites so far
abbrev pub invariant-loop-record : goal.invariant-loop-record
invariant-loop-record l = l.found.items ≡ roots l.each (map (λ r. r.now) (take l.record-index l.records))
