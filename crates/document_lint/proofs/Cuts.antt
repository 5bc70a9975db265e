-- What `split_once` and `strip_prefix` return.
use Rattle.std.proofs.Common.{◌≡◌, ℕ, ◌<◌, List, Option, Some, None, MatchOption, option_map, refl, sym}
use Rattle.std.specs.Borrow.{Bor}
use Rattle.std.specs.Str.Pattern.{FindsTextPrefix, StripsPrefix}
use Rattle.std.proofs.lemmas.Str.Pattern.{IsSplitOnceResult}
use Rattle.epc_core.specs.Items.{behind, parted}
use Rattle.epc_core.proofs.Cuts.{splits_none, splits_some, strips_none, strips_some}

pub splits : (byte : ℕ) (s : List ℕ) (r : Option (Bor (List ℕ) × Bor (List ℕ))) → byte < 128 → IsSplitOnceResult byte s r → option_map (λ p. (p.0.now, p.1.now)) r ≡ parted byte s
splits byte s None small h = sym (splits_none byte s None refl small h)
splits byte s (Some (x, y)) small h = sym (splits_some byte s (Some (x, y)) x y refl small h)

pub strips : (p s : List ℕ) (r : Option (Bor (List ℕ))) → MatchOption r (FindsTextPrefix p s None) (λ y. StripsPrefix (FindsTextPrefix p) s y.now) → option_map (λ t. t.now) r ≡ behind p s
strips p s None h = sym (strips_none p s None refl h)
strips p s (Some x) h = sym (strips_some p s (Some x) x refl h)
