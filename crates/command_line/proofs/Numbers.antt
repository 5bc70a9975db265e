-- reading a number from an argument
use Rattle.std.proofs.Common.{◌≡◌, ℕ, List, Option, Some, None, Result, Ok, IfSome, refl, sym, subst}
use Rattle.std.specs.Str.Parse.{digits_value, without_leading_plus}
use Rattle.clap.specs.Matches.{ReadsOne}
use Rattle.clap.specs.Words.{Row, Text, one_of}
use Rattle.command_line.specs.CommandLines.{GivesNumber}

-- what is read of the argument's text, as a decimal number, is the number that the argument gives
pub gives_number : {E : Type 0} (gives : List ℕ → Result ℕ E → Type 0) (rows : List Row) (name : Text) (found : Option Text) (result : Option ℕ)
    → found ≡ one_of name rows → (found ≡ None → result ≡ None) → ((text : Text) → found ≡ Some text → ReadsOne gives text result)
    → ((text : Text) (n : ℕ) → gives text (Ok n) → n ≡ digits_value 10 (without_leading_plus text)) → IfSome result (GivesNumber rows name)
gives_number gives rows name None result is none reads value = subst (λ r. IfSome r (GivesNumber rows name)) (sym (none refl)) tt
gives_number gives rows name (Some text) None is none reads value = tt
gives_number gives rows name (Some text) (Some n) is none reads value = (text, sym is, value text n (reads text refl))
