-- The test of a plain text says what it means.
use Rattle.std.proofs.Common.{◌≡◌, ℕ, List, true}
use Rattle.std.specs.Bool.{Decides}
use Rattle.std.proofs.lemmas.Bool.{and_parts, and_from, leb-true, le-leb}
use Rattle.epc_core.specs.Items.{is_plain}
use Rattle.epc_core.specs.Spellings.{IsPlain}

plain_from : (text : List ℕ) → is_plain text ≡ true → IsPlain text
unfolding is_plain
plain_from text h =
    let one = and_parts _ _ h in
    let two = and_parts _ _ one.1 in
    record { some = leb-true _ _ one.0; few = leb-true _ _ two.0; allowed = two.1 }

plain_to : (text : List ℕ) → IsPlain text → is_plain text ≡ true
unfolding is_plain
plain_to text p = and_from _ _ (le-leb _ _ p.some) (and_from _ _ (le-leb _ _ p.few) p.allowed)

pub plain_decides : (text : List ℕ) → Decides (is_plain text) (IsPlain text)
plain_decides text = (plain_from text, plain_to text)
