use Rattle.std.proofs.Common.{◌≡◌, map, take}
use Rattle.site_folders.specs.Begun.{begun}
use Rattle.site_folders.proofs.recalls.begun.Given as goal

-- those of the sites so far
abbrev pub invariant-loop-record : goal.invariant-loop-record
invariant-loop-record l = l.all.items ≡ begun (map (λ r. r.now) (take l.record-index l.records))
