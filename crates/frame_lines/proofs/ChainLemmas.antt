-- The id of a chain is text.
use Rattle.std.proofs.Common.{◌≡◌, ◌<◌, ◌==◌, ℕ, true, List, length, IsUtf8, arith}
use Rattle.std.specs.List.{list_all}
use Rattle.std.proofs.lemmas.Bool.{and_parts}
use Rattle.std.proofs.lemmas.Bool.Decides.{nat_tests}
use Rattle.std.proofs.lemmas.List.Sums.{AllPass-from_list_all}
use Rattle.std.proofs.lemmas.Str.{IsUtf8-from_ascii}
use Rattle.std.proofs.lemmas.Str.Ascii.{IsAscii-from_all}
use Rattle.frame_lines.specs.Chains.{is_chain_digit, is_chain_id}

digit_small : (b : ℕ) → is_chain_digit b ≡ true → b < 128
digit_small b h = grind (arith, nat_tests)

pub IsUtf8-chain : (text : List ℕ) → is_chain_id text ≡ true → IsUtf8 text
IsUtf8-chain text h =
    let parts = and_parts (length text == 32) (list_all is_chain_digit text) h in
    IsUtf8-from_ascii text (IsAscii-from_all text (λ k d l. digit_small _ (AllPass-from_list_all is_chain_digit text parts.1 k d l)))
