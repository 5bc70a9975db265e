use Rattle.std.proofs.Common.{◌≡◌, ◌-◌, ◌≤◌, ◌++◌, length, option_map}
use Rattle.item_spellings.specs.Reading.{elements_in, all_elements}
use Rattle.item_spellings.specs.Seen.{seen}
use Rattle.item_spellings.proofs.elements.all_elements.Given as goal

-- those so far and those of the rest are all
abbrev pub invariant-loop : goal.invariant-loop
invariant-loop l = record {
  all : option_map (λ es. seen l.elements.items ++ es) (elements_in l.form (l.end - l.counter) l.rest) ≡ all_elements l.form l.text;
  within : l.counter ≤ l.end;
  ended : l.end ≡ length l.text;
}
