use Rattle.std.proofs.Common.{◌≡◌, length, map}
use Rattle.site_rows.proofs.AddressesInTurn.{AreTold}
use Rattle.site_rows.proofs.reading_addressed.texts_of.Given as goal

-- the texts so far are those of the places so far
abbrev pub invariant-loop-place : goal.invariant-loop-place
invariant-loop-place l = record {
  counted : length l.texts.items ≡ l.place;
  told : AreTold l.rows l.number (map (λ t. t.now) l.texts.items);
}
