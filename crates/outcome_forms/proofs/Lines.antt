-- The line of a report or a trace in pieces, and what was written of a text.
use Rattle.std.proofs.Common.{◌≡◌, ◌+◌, ◌<◌, ℕ, zero, suc, Bool, true, false, List, [], ◌∷◌, ◌++◌, All, Option, None, Some, drop, length, map, slice_get, refl, sym, ap, ap₂, subst, ◌∙◌, append_assoc, append-nil, arith, codes}
use Rattle.std.specs.Prelude.{◌==◌, not}
use Rattle.std.specs.Io.KnownBytes.{Appends}
use Rattle.std.proofs.KnownBytes.{Appends-nil, Appends-trans}
use Rattle.std.proofs.lemmas.Bool.{ne_eqb}
use Rattle.std.proofs.lemmas.List.Elements.{All-cons, All-head, All-nil, All-tail}
use Rattle.event_json.specs.Sites.{Site}
use Rattle.json.specs.Print.{escape_byte}
use Rattle.recall_outcomes.specs.declared.outcomes.Outcome.{Outcome}
use Rattle.recall_outcomes.specs.declared.outcomes.Outcome.TheVariants as outcomes
use Rattle.recall_outcomes.specs.declared.outcomes.Ways.{Ways}
use Rattle.recall_text.specs.Words.{recall_text}
use Rattle.recall_text.specs.Writing.{AppendsBeginning}
use Rattle.report_forms.specs.Accounts.{Account, OutsidePart, back_account, report_account, trace_account}
use Rattle.report_forms.specs.declared.accounts.Title.{Title}
use Rattle.report_forms.specs.declared.accounts.Title.TheVariants as titles
use Rattle.serde_json.specs.Data.{Data, Items, array, boolean, string}
use Rattle.serde_json.specs.View.{items_of}
use Rattle.serde_json.specs.Written.{comma_if, compact_text, items_text}
use Rattle.trace_core.proofs.NumberLists.{none_is, some_is}
use Rattle.trace_core.specs.declared.pairs.Pair.{Pair}
use Rattle.outcome_forms.specs.Accounts.{account_of, told_events}
use Rattle.outcome_forms.specs.AccountTexts.{account_head, account_tail, titled_head, titled_tail}
use Rattle.outcome_forms.specs.Json.{account_json, json_line, json_lines, list_of, outcome_json, outside_json, pair_json, part_json, titled_json}
use Rattle.outcome_forms.specs.Writing.{AppendsText}

-- ---- what was written

pub beginning_after : (a b c : Option (List ℕ)) (xs ys : List ℕ) → Appends a b xs → AppendsBeginning b c ys → AppendsBeginning a c (xs ++ ys)
beginning_after a b c xs ys first (begin, end, is, more) =
    (xs ++ begin, end, ap (λ t. xs ++ t) is ∙ sym (append_assoc xs begin end), Appends-trans a b c xs begin first more)

pub beginning_of : (a b : Option (List ℕ)) (xs ys : List ℕ) → AppendsBeginning a b xs → AppendsBeginning a b (xs ++ ys)
beginning_of a b xs ys (begin, end, is, told) = (begin, end ++ ys, ap (λ t. t ++ ys) is ∙ append_assoc begin end ys, told)

pub none_written : (a : Option (List ℕ)) (xs : List ℕ) → AppendsBeginning a a xs
none_written a xs = ([], xs, refl, Appends-nil a)

pub all_begins : (a b : Option (List ℕ)) (xs ys : List ℕ) → Appends a b xs → AppendsBeginning a b (xs ++ ys)
all_begins a b xs ys told = (xs, ys, refl, told)

pub text_of_beginning : (a b : Option (List ℕ)) (xs : List ℕ) → AppendsBeginning a b xs → AppendsText a b
text_of_beginning a b xs (begin, end, is, told) = (begin, told)

pub texts_after : (a b c : Option (List ℕ)) → AppendsText a b → AppendsText b c → AppendsText a c
texts_after a b c (xs, first) (ys, more) = (xs ++ ys, Appends-trans a b c xs ys first more)

pub no_text : (a : Option (List ℕ)) → AppendsText a a
no_text a = ([], Appends-nil a)

-- two pieces that are the whole, and three
pub two_written : (a b c : Option (List ℕ)) (x y whole : List ℕ) → x ++ y ≡ whole → Appends a b x → Appends b c y → Appends a c whole
two_written a b c x y whole is first second = subst (λ t. Appends a c t) is (Appends-trans a b c x y first second)

pub three_written : (a b c d : Option (List ℕ)) (x x' y z z' whole : List ℕ) → x ≡ x' → z ≡ z' → whole ≡ x' ++ (y ++ z') → Appends a b x → Appends b c y → Appends c d z → Appends a d whole
three_written a b c d x x' y z z' whole same alike is first second third =
    subst (λ t. Appends a d t) (append_assoc x y z ∙ ap₂ (λ (s t : List ℕ). s ++ (y ++ t)) same alike ∙ sym is)
    (Appends-trans a c d (x ++ y) z (Appends-trans a b c x y first second) third)

-- of what is so of each mapped one
pub all_back : {X Y : Type 0} (f : X → Y) (P : Y → Type 0) (xs : List X) → All P (map f xs) → All (λ x. P (f x)) xs
all_back f P [] all = All-nil (λ x. P (f x))
all_back f P (x ∷ xs) all = All-cons (λ z. P (f z)) x xs (All-head P (f x) (map f xs) all) (all_back f P xs (All-tail P (f x) (map f xs) all))

-- ---- part by part

-- whether something stands before a place
abbrev pub is_later : ℕ → Bool
is_later zero = false
is_later (suc n) = true

pub later_is : (n : ℕ) → not (n == 0) ≡ is_later n
later_is zero = refl
later_is (suc n) = ap not (ne_eqb (suc n) 0 (λ e. let no : ⊥ = omega (arith, e) in no))

drop_at : {X : Type 0} (xs : List X) (n : ℕ) (x : X) → slice_get xs n ≡ Some x → drop n xs ≡ x ∷ drop (suc n) xs
drop_at [] n x at = none_is x at
drop_at (a ∷ xs) zero x at = ap (λ y. y ∷ xs) (some_is a x at)
drop_at (a ∷ xs) (suc n) x at = drop_at xs n x at

drop_past : {X : Type 0} (xs : List X) (n : ℕ) → slice_get xs n ≡ None → drop n xs ≡ []
drop_past [] zero none = refl
drop_past [] (suc n) none = refl
drop_past (x ∷ xs) zero none = none_is x (sym none)
drop_past (x ∷ xs) (suc n) none = drop_past xs n none

-- what stands at a place below the length
pub one_there : {X : Type 0} (xs : List X) (n : ℕ) → n < length xs → slice_get xs n ≡ None → ⊥
one_there [] n below none = omega (arith, below)
one_there (x ∷ xs) zero below none = none_is x (sym none)
one_there (x ∷ xs) (suc n) below none = one_there xs n (omega (arith, below)) none

module _ {X : Type 0} (of : X → Data) where
  abbrev rest_text : List X → ℕ → List ℕ
  rest_text xs n = items_text (is_later n) (items_of (map of (drop n xs)))

  -- one more is written
  pub rest_goes : (xs : List X) (n : ℕ) (x : X) (done piece whole : List ℕ) → slice_get xs n ≡ Some x → piece ≡ comma_if (is_later n) ++ compact_text (of x)
      → done ++ rest_text xs n ≡ whole → (done ++ piece) ++ rest_text xs (n + 1) ≡ whole
  rest_goes xs n x done piece whole at is so_far =
      let next : suc n ≡ n + 1 = omega arith in
      let rest : rest_text xs n ≡ piece ++ rest_text xs (suc n) =
      ap (λ ys. items_text (is_later n) (items_of (map of ys))) (drop_at xs n x at)
      ∙ sym (append_assoc (comma_if (is_later n)) (compact_text (of x)) (rest_text xs (suc n))) ∙ ap (λ t. t ++ rest_text xs (suc n)) (sym is) in
      subst (λ k. (done ++ piece) ++ rest_text xs k ≡ whole) next (append_assoc done piece (rest_text xs (suc n)) ∙ ap (λ t. done ++ t) (sym rest) ∙ so_far)

  -- all are
  pub rest_ends : (xs : List X) (n : ℕ) (done whole : List ℕ) → slice_get xs n ≡ None → done ++ rest_text xs n ≡ whole → done ++ 93 ∷ [] ≡ whole
  rest_ends xs n done whole none so_far = ap (λ ys. done ++ items_text (is_later n) (items_of (map of ys))) (sym (drop_past xs n none)) ∙ so_far

-- ---- the whole line

five : (p a b c d e l m n o x y : List ℕ)
    → (p ++ (a ++ (l ++ (b ++ (m ++ (c ++ (n ++ (d ++ (o ++ (e ++ x)))))))))) ++ y ≡ ((((p ++ a) ++ l) ++ b) ++ m) ++ (c ++ ((((n ++ d) ++ o) ++ e) ++ (x ++ y)))
five p a b c d e l m n o x y = simp append_assoc refl

three : (p b c e m n x y : List ℕ) → (p ++ (b ++ (m ++ (c ++ (n ++ (e ++ x)))))) ++ y ≡ ((p ++ b) ++ m) ++ (c ++ ((n ++ e) ++ (x ++ y)))
three p b c e m n x y = simp append_assoc refl

titled_line : (sites : List Site) (title : Title) (root : Pair) (outside : List OutsidePart) (origins : List Pair) (ds : Items)
    → json_line (titled_json sites title root outside origins (array ds)) ≡ titled_head sites title outside origins ++ (items_text false ds ++ titled_tail sites title root)
unfolding escape_byte
titled_line sites (titles.Recall r ended) root outside origins ds =
    five (codes "{\"ended\":") (compact_text (boolean ended)) (compact_text (list_of (outside_json sites) outside)) (items_text false ds) (compact_text (string (recall_text sites r)))
    (compact_text (pair_json sites root)) (codes ",\"outside\":") (codes ",\"pairs\":[") (codes ",\"recall\":") (codes ",\"root\":") (125 ∷ []) (10 ∷ [])
titled_line sites titles.Forward root outside origins ds =
    three (codes "{\"outside\":") (compact_text (list_of (outside_json sites) outside)) (items_text false ds) (compact_text (pair_json sites root)) (codes ",\"pairs\":[") (codes ",\"root\":")
    (codes ",\"trace\":\"forward\"}") (10 ∷ [])
titled_line sites titles.Back root outside origins ds =
    three (codes "{\"origins\":") (compact_text (list_of (pair_json sites) origins)) (items_text false ds) (compact_text (pair_json sites root)) (codes ",\"pairs\":[") (codes ",\"root\":")
    (codes ",\"trace\":\"back\"}") (10 ∷ [])

pub account_line : (sites : List Site) (ways : Ways) (a : Account)
    → json_line (account_json sites ways a) ≡ account_head sites a ++ (items_text false (items_of (map (part_json sites ways) a.parts)) ++ account_tail sites a)
unfolding account_json
account_line sites ways a = titled_line sites a.title a.root a.outside a.origins (items_of (map (part_json sites ways) a.parts))

-- ---- outcomes

abbrev first_in : {X Y : Type 0} → X → Option (X × Y) → X
first_in d None = d
first_in d (Some p) = p.0

abbrev second_in : {X Y : Type 0} → Y → Option (X × Y) → Y
second_in d None = d
second_in d (Some p) = p.1

some_both : {X Y : Type 0} (a b : X) (x y : Y) (B : X → Y → Type 0) → ◌≡◌ {A = Option (X × Y)} (Some (a, x)) (Some (b, y)) → B a x → B b y
some_both {X} {Y} a b x y B e h =
    let first : a ≡ b = ap (first_in a) e in
    let second : x ≡ y = ap (second_in x) e in
    subst (λ c. B c y) first (subst (λ z. B a z) second h)

-- a report and a trace have the value of their account
pub account_value : (sites : List Site) (o : Outcome) (a : Account) (ways : Ways) → account_of o ≡ Some (a, ways) → outcome_json sites o ≡ account_json sites ways a ∷ []
account_value sites (outcomes.Reported r report w events) a ways e = some_both (report_account r report events) a w ways (λ b v. account_json sites w (report_account r report events) ∷ [] ≡ account_json sites v b ∷ []) e refl
account_value sites (outcomes.Traced trace w events) a ways e = some_both (trace_account trace events) a w ways (λ b v. account_json sites w (trace_account trace events) ∷ [] ≡ account_json sites v b ∷ []) e refl
account_value sites (outcomes.TracedBack trace w events) a ways e = some_both (back_account trace (told_events events)) a w ways (λ b v. account_json sites w (back_account trace (told_events events)) ∷ [] ≡ account_json sites v b ∷ []) e refl
account_value sites o a ways e = cc

pub account_lines : (sites : List Site) (o : Outcome) (a : Account) (ways : Ways) → account_of o ≡ Some (a, ways) → json_line (account_json sites ways a) ≡ json_lines (outcome_json sites o)
account_lines sites o a ways e = sym (append-nil (json_line (account_json sites ways a))) ∙ ap json_lines (sym (account_value sites o a ways e))
