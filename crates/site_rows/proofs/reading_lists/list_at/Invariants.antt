use Rattle.std.proofs.Common.{◌≡◌, ◌≤◌, ◌++◌, length, map, take}
use Rattle.std.specs.List.{All, enumerate_from}
use Rattle.site_rows.proofs.reading_lists.list_at.Given as goal

-- the rows so far are those before and those of the members so far
abbrev pub invariant-loop-place : goal.invariant-loop-place
invariant-loop-place g l = record {
  within : l.at ≤ length l.rows;
  counted : length l.members.items ≡ l.place;
  rows : take l.at l.rows ≡ take l.fn.at l.rows ++ map (g.R.ListRow.row_of l.list.event l.list.role) (enumerate_from 0 (map (g.M.Member.written l.sites) l.members.items));
  all : All (g.M.Member.is l.sites) l.members.items;
}
