-- What is read of a text, element by element.
use Rattle.std.proofs.Common.{◌≡◌, ℕ, true, false, zero, suc, eqb, drop, ◌<◌, List, [], ◌∷◌, ◌++◌, length, Option, Some, None, option_map, MatchOption, refl, sym, ap, ◌∙◌, arith}
use Rattle.std.specs.Borrow.{Bor}
use Rattle.std.specs.Str.Pattern.{FindsTextPrefix, StripsPrefix}
use Rattle.std.proofs.lemmas.List.{append_assoc, map-append}
use Rattle.epc_core.specs.Items.{behind}
use Rattle.epc_core.proofs.Cuts.{strips_some, strips_none}
use Rattle.item_spellings.specs.Elements.{Element}
use Rattle.item_spellings.specs.Reading.{elements_in, first_element, opens, ai_of, value_of}
use Rattle.item_spellings.specs.Seen.{seen, seen_element}
use Rattle.item_spellings.specs.declared.forms.Form.{Form}
use Rattle.item_spellings.specs.declared.forms.Form.TheVariants.{Bracketed}

pub is_behind : (front text : List ℕ) (r : Option (Bor (List ℕ)))
    → MatchOption r (FindsTextPrefix front text None) (λ y. StripsPrefix (FindsTextPrefix front) text y.now)
    → option_map (λ rest. rest.now) r ≡ behind front text
is_behind front text None h = sym (strips_none front text None refl h)
is_behind front text (Some rest) h = sym (strips_some front text (Some rest) rest refl h)

added : (before : List Element) (e : Element) (o : Option (List Element))
    → option_map (λ es. before ++ es) (option_map (λ es. e ∷ es) o) ≡ option_map (λ es. (before ++ e ∷ []) ++ es) o
added before e None = refl
added before e (Some es) = ap Some (sym (append_assoc before (e ∷ []) es))

-- an element is cut off
pub one_more : (form : Form) (n m : ℕ) (before : List Element) (text rest : List ℕ) (e : Element) → 0 < length text → n ≡ suc m
    → first_element form text ≡ Some (e, rest)
    → option_map (λ es. before ++ es) (elements_in form n text) ≡ option_map (λ es. (before ++ e ∷ []) ++ es) (elements_in form m rest)
one_more form n m before [] rest e some more is = absurd (omega arith)
one_more form n m before (b ∷ bs) rest e some more is =
    ap (λ k. option_map (λ es. before ++ es) (elements_in form k (b ∷ bs))) more ∙ rw is (added before e (elements_in form m rest))

-- none is
pub no_more : (form : Form) (n : ℕ) (before : List Element) (text : List ℕ) → 0 < length text → first_element form text ≡ None
    → option_map (λ es. before ++ es) (elements_in form n text) ≡ None
no_more form n before [] some is = absurd (omega arith)
no_more form zero before (b ∷ bs) some is = refl
no_more form (suc n) before (b ∷ bs) some is = rw is refl

-- no turn is left
pub no_turn : (form : Form) (n : ℕ) (before : List Element) (text : List ℕ) → 0 < length text → n ≡ 0
    → option_map (λ es. before ++ es) (elements_in form n text) ≡ None
no_turn form zero before (b ∷ bs) some none = refl
no_turn form (suc n) before text some none = absurd (omega arith)
no_turn form zero before [] some none = absurd (omega arith)

pub seen_more : (refs : List (Bor (List ℕ) × Bor (List ℕ))) (r : Bor (List ℕ) × Bor (List ℕ)) → seen (refs ++ r ∷ []) ≡ seen refs ++ seen_element r ∷ []
seen_more refs r = map-append seen_element refs (r ∷ [])

pub not_empty : {A : Type 0} (text : List A) → false ≡ eqb (length text) 0 → 0 < length text
not_empty [] h = absurd (let no : ⊥ = cc in no)
not_empty (b ∷ bs) h = omega arith

-- an element in brackets
pub in_brackets : (form : Form) (text ai rest : List ℕ) → form ≡ Bracketed → true ≡ opens 40 text → Some (ai, rest) ≡ ai_of (drop 1 text) → true ≡ opens 41 rest
    → value_of form ai (drop 1 rest) ≡ first_element form text
in_brackets form text ai rest is opened found closed =
    ap (λ f. value_of f ai (drop 1 rest)) is ∙ (rw (sym opened, sym found, sym closed) refl ∙ ap (λ f. first_element f text) (sym is))
