use Rattle.std.proofs.Common.{◌≡◌, ◌++◌}
use Rattle.std.specs.List.{flat_map}
use Rattle.site_folders.specs.Begun.{root_of, roots_by}
use Rattle.site_folders.proofs.recalls.push_roots.Given as goal

-- those so far and those of the rest are all of them
abbrev pub invariant-loop-own : goal.invariant-loop-own
invariant-loop-own l = l.found.items ++ flat_map (λ entry. root_of l.each l.site entry.1) l.own-iterator ≡ l.initial.found.items ++ roots_by l.each l.state
