use Rattle.std.proofs.Common.{◌≡◌, ◌++◌, map}
use Rattle.site_folders.specs.Begun.{begun_as, begun_by}
use Rattle.site_folders.proofs.recalls.push_begun.Given as goal

-- those so far and those of the rest are all of them
abbrev pub invariant-loop-number : goal.invariant-loop-number
invariant-loop-number l = l.all.items ++ map (begun_as l.site) l.number-iterator ≡ l.fn.all.items ++ begun_by l.state
