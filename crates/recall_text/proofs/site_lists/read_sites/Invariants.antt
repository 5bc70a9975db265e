use Rattle.std.proofs.Common.{◌≤◌, ◌+◌, length}
use Rattle.recall_text.proofs.SiteListLemmas.{IsReadTo}
use Rattle.recall_text.proofs.site_lists.read_sites.Given as goal

-- The list is that of the lines before the rest. Each line so far has a byte at least, that of its end.
abbrev pub invariant-loop-end : goal.invariant-loop-end
invariant-loop-end l =
    record {
      so_far : IsReadTo l.text l.list l.number l.rest;
      within : l.number + length l.rest ≤ length l.text + 1;
    }

abbrev pub decreases-loop-end : goal.decreases-loop-end
decreases-loop-end l = length l.rest
