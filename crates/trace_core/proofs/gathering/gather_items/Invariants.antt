use Rattle.std.proofs.Common.{◌≡◌, ◌==◌, ◌&&◌, ◌||◌, take}
use Rattle.trace_core.specs.declared.pairs.Pair.{Pair}
use Rattle.trace_core.specs.Gathering.{is_in}
use Rattle.trace_core.specs.Looks.{LooksAtMost}
use Rattle.trace_core.specs.PairTests.{lists}
use Rattle.trace_core.proofs.gathering.gather_items.Given as goal

-- the items so far, at the site, each looked at once
abbrev pub invariant-loop-item : goal.invariant-loop-item
invariant-loop-item l = record {
  added : (p : Pair) → is_in l.pairs p ≡ (is_in l.initial.pairs p || (p.site == l.me && lists (take l.item-index l.items) p.item));
  looks : LooksAtMost l.item-index l.initial.looks l.looks;
}
