-- a text as spaces, a field, and the rest
use Rattle.std.proofs.Common.{◌≡◌, ℕ, suc, ◌+◌, ◌<◌, ◌==◌, true, false, not, cond, List, [], ◌∷◌, ◌++◌, length, take, drop, filter, refl, sym, ap, ◌∙◌, subst, append-nil, arith, All, inl, inr, ◌⊎◌, eqb-true}
use Rattle.std.specs.List.{slice_split, onto_first, prefix_len, position_or_len, before_first, after_first}
use Rattle.std.proofs.lemmas.List.Elements.{All-nil, All-cons, All-head, All-tail}
use Rattle.std.proofs.lemmas.List.Splits.{slice_split_at, slice_split_none}
use Rattle.std.proofs.lemmas.Bool.{ne_eqb}
use Rattle.recall_text.specs.Fields.{is_space, fields, AreSpaces, IsField, BeginsWithField}
use Rattle.recall_text.specs.Steps.{past_spaces, first_field, after_field}

-- ---- spaces at the front

pub past_more : (gap text : List ℕ) → AreSpaces gap → past_spaces (gap ++ text) ≡ past_spaces text
past_more [] text spaces = refl
past_more (b ∷ gap) text spaces =
    let one = All-head (λ x. is_space x ≡ true) b gap spaces in
    let next : 1 + prefix_len is_space (gap ++ text) ≡ suc (prefix_len is_space (gap ++ text)) = omega arith in
    ap (λ v. drop (cond v (1 + prefix_len is_space (gap ++ text)) 0) (b ∷ (gap ++ text))) one
    ∙ ap (λ n. drop n (b ∷ (gap ++ text))) next
    ∙ past_more gap text (All-tail (λ x. is_space x ≡ true) b gap spaces)

pub past_none : (b : ℕ) (text : List ℕ) → is_space b ≡ false → past_spaces (b ∷ text) ≡ b ∷ text
past_none b text e = ap (λ v. drop (cond v (1 + prefix_len is_space text) 0) (b ∷ text)) e

pub past_here : (text : List ℕ) → BeginsWithField text → past_spaces text ≡ text
past_here [] h = absurd h
past_here (b ∷ text) h = past_none b text h

pub fields_more : (gap text : List ℕ) → AreSpaces gap → fields (gap ++ text) ≡ fields text
fields_more [] text spaces = refl
fields_more (b ∷ gap) text spaces =
    let one = All-head (λ x. is_space x ≡ true) b gap spaces in
    ap (λ v. filter (λ field. not (length field == 0)) (cond v ([] ∷ slice_split is_space (gap ++ text)) (onto_first b (slice_split is_space (gap ++ text))))) one
    ∙ fields_more gap text (All-tail (λ x. is_space x ≡ true) b gap spaces)

-- the spaces at the front, and what follows them
pub record Behind (text : List ℕ) : Type 0 where
  pub gap : List ℕ
  pub spaces : AreSpaces gap
  pub is : text ≡ gap ++ past_spaces text
  pub begins : (past_spaces text ≡ []) ⊎ BeginsWithField (past_spaces text)

pub behind : (text : List ℕ) → Behind text
behind [] = record { gap = []; spaces = All-nil (λ x. is_space x ≡ true); is = refl; begins = inl refl }
behind (b ∷ text) = elim (is_space b) as (λ v. is_space b ≡ v → Behind (b ∷ text)) [
  | true ↦ λ e.
      let more = behind text in
      let one : AreSpaces (b ∷ []) = All-cons (λ x. is_space x ≡ true) b [] e (All-nil (λ x. is_space x ≡ true)) in
      let same = past_more (b ∷ []) text one in
      record {
        gap = b ∷ more.gap;
        spaces = All-cons (λ x. is_space x ≡ true) b more.gap e more.spaces;
        is = ap (λ xs. b ∷ xs) more.is ∙ ap (λ xs. b ∷ (more.gap ++ xs)) (sym same);
        begins = subst (λ xs. (xs ≡ []) ⊎ BeginsWithField xs) (sym same) more.begins;
      }
  | false ↦ λ e.
      let same = past_none b text e in
      record {
        gap = [];
        spaces = All-nil (λ x. is_space x ≡ true);
        is = sym same;
        begins = inr (subst BeginsWithField (sym same) e);
      }
] refl

-- ---- a field

-- the field's bytes, to the first space or the end
field_ends : (field rest : List ℕ) → All (λ b. is_space b ≡ false) field → position_or_len is_space (field ++ 32 ∷ rest) ≡ length field
field_ends [] rest within = refl
field_ends (b ∷ field) rest within =
    let one = All-head (λ x. is_space x ≡ false) b field within in
    let more = field_ends field rest (All-tail (λ x. is_space x ≡ false) b field within) in
    ap (λ v. cond (not v) (1 + position_or_len is_space (field ++ 32 ∷ rest)) 0) one ∙ omega (arith, more)

field_alone : (field : List ℕ) → All (λ b. is_space b ≡ false) field → position_or_len is_space field ≡ length field
field_alone [] within = refl
field_alone (b ∷ field) within =
    let one = All-head (λ x. is_space x ≡ false) b field within in
    let more = field_alone field (All-tail (λ x. is_space x ≡ false) b field within) in
    ap (λ v. cond (not v) (1 + position_or_len is_space field) 0) one ∙ omega (arith, more)

take_front : (xs ys : List ℕ) → take (length xs) (xs ++ ys) ≡ xs
take_front [] ys = refl
take_front (x ∷ xs) ys = ap (λ l. x ∷ l) (take_front xs ys)

take_whole : (xs : List ℕ) → take (length xs) xs ≡ xs
take_whole [] = refl
take_whole (x ∷ xs) = ap (λ l. x ∷ l) (take_whole xs)

drop_behind : (xs : List ℕ) (y : ℕ) (ys : List ℕ) → drop (length xs + 1) (xs ++ y ∷ ys) ≡ ys
drop_behind [] y ys = refl
drop_behind (x ∷ xs) y ys =
    let next : length (x ∷ xs) + 1 ≡ suc (length xs + 1) = omega arith in ap (λ n. drop n (x ∷ (xs ++ y ∷ ys))) next ∙ drop_behind xs y ys

drop_past : (xs : List ℕ) → drop (length xs + 1) xs ≡ []
drop_past [] = refl
drop_past (x ∷ xs) = let next : length (x ∷ xs) + 1 ≡ suc (length xs + 1) = omega arith in ap (λ n. drop n (x ∷ xs)) next ∙ drop_past xs

begins_so : (field rest : List ℕ) → IsField field → BeginsWithField (field ++ rest)
begins_so [] rest is = let none = is.some in absurd (omega arith)
begins_so (b ∷ field) rest is = All-head (λ x. is_space x ≡ false) b field is.within

pub nonzero : (xs : List ℕ) → 0 < length xs → (length xs == 0) ≡ false
nonzero xs some = ne_eqb (length xs) 0 (λ e. let no : ⊥ = omega arith in no)

kept : (field : List ℕ) (parts : List (List ℕ)) → IsField field → filter (λ f. not (length f == 0)) (field ∷ parts) ≡ field ∷ filter (λ f. not (length f == 0)) parts
kept field parts is = ap (λ v. cond (not v) (field ∷ filter (λ f. not (length f == 0)) parts) (filter (λ f. not (length f == 0)) parts)) (nonzero field is.some)

-- a field behind spaces, and before a space
module _ (gap field rest : List ℕ) (spaces : AreSpaces gap) (is : IsField field) where
  past_at : past_spaces (gap ++ (field ++ 32 ∷ rest)) ≡ field ++ 32 ∷ rest
  past_at = past_more gap (field ++ 32 ∷ rest) spaces ∙ past_here (field ++ 32 ∷ rest) (begins_so field (32 ∷ rest) is)

  pub first_at : first_field (gap ++ (field ++ 32 ∷ rest)) ≡ field
  first_at = ap (before_first is_space) past_at ∙ ap (λ n. take n (field ++ 32 ∷ rest)) (field_ends field rest is.within) ∙ take_front field (32 ∷ rest)

  pub after_at : after_field (gap ++ (field ++ 32 ∷ rest)) ≡ rest
  after_at = ap (after_first is_space) past_at ∙ ap (λ n. drop (n + 1) (field ++ 32 ∷ rest)) (field_ends field rest is.within) ∙ drop_behind field 32 rest

  pub fields_at : fields (gap ++ (field ++ 32 ∷ rest)) ≡ field ∷ fields rest
  fields_at = fields_more gap (field ++ 32 ∷ rest) spaces ∙ ap (filter (λ f. not (length f == 0))) (slice_split_at is_space field 32 rest is.within refl) ∙ kept field (slice_split is_space rest) is

-- a field behind spaces, and at the end
module _ (gap field : List ℕ) (spaces : AreSpaces gap) (is : IsField field) where
  past_last : past_spaces (gap ++ field) ≡ field
  past_last = past_more gap field spaces ∙ past_here field (subst BeginsWithField (append-nil field) (begins_so field [] is))

  pub first_last : first_field (gap ++ field) ≡ field
  first_last = ap (before_first is_space) past_last ∙ ap (λ n. take n field) (field_alone field is.within) ∙ take_whole field

  pub after_last : after_field (gap ++ field) ≡ []
  after_last = ap (after_first is_space) past_last ∙ ap (λ n. drop (n + 1) field) (field_alone field is.within) ∙ drop_past field

  pub fields_last : fields (gap ++ field) ≡ field ∷ []
  fields_last = fields_more gap field spaces ∙ ap (filter (λ f. not (length f == 0))) (slice_split_none is_space field is.within) ∙ kept field [] is

-- ---- the first field of any text

-- no field
pub record Blank (text : List ℕ) : Type 0 where
  pub past : past_spaces text ≡ []
  pub first : first_field text ≡ []
  pub after : after_field text ≡ []
  pub none : fields text ≡ []

-- a field, and what follows it
pub record Begins (text : List ℕ) : Type 0 where
  pub is_field : IsField (first_field text)
  pub all : fields text ≡ first_field text ∷ fields (after_field text)
  pub gap : List ℕ
  pub spaces : AreSpaces gap
  pub shape : (after_field text ≡ []) ⊎ (text ≡ gap ++ (first_field text ++ 32 ∷ after_field text))

-- a text that begins with no space, to its first space
abbrev Cut : List ℕ → Type 0
Cut text = All (λ b. is_space b ≡ false) text ⊎ ((field : List ℕ) × (rest : List ℕ) × (text ≡ field ++ 32 ∷ rest) × All (λ b. is_space b ≡ false) field)

cut : (text : List ℕ) → Cut text
cut [] = inl (All-nil (λ b. is_space b ≡ false))
cut (b ∷ text) = elim (is_space b) as (λ v. is_space b ≡ v → Cut (b ∷ text)) [
  | true ↦ λ e. inr ([], text, ap (λ x. x ∷ text) (eqb-true b 32 e), All-nil (λ b. is_space b ≡ false))
  | false ↦ λ e. elim (cut text) as (λ c. Cut (b ∷ text)) [
    | inl all ↦ inl (All-cons (λ b. is_space b ≡ false) b text e all)
    | inr found ↦ inr (b ∷ found.0, found.1, ap (λ l. b ∷ l) found.2, All-cons (λ b. is_space b ≡ false) b found.0 e found.3)
  ]
] refl

pub some_of : (text : List ℕ) → BeginsWithField text → 0 < length text
some_of [] h = absurd h
some_of (b ∷ text) h = omega arith

some_cut : (text field rest : List ℕ) → BeginsWithField text → text ≡ field ++ 32 ∷ rest → 0 < length field
some_cut text [] rest h e = let bad : is_space 32 ≡ false = subst BeginsWithField e h in cc
some_cut text (b ∷ field) rest h e = omega arith

blank : (text : List ℕ) → past_spaces text ≡ [] → (gap : List ℕ) → AreSpaces gap → text ≡ gap ++ past_spaces text → Blank text
blank text past gap spaces is = record {
  past = past;
  first = ap (before_first is_space) past;
  after = ap (after_first is_space) past;
  none = ap fields is ∙ fields_more gap (past_spaces text) spaces ∙ ap fields past;
}

pub step : (text : List ℕ) → Blank text ⊎ Begins text
step text =
    let b = behind text in
    elim b.begins as (λ h. Blank text ⊎ Begins text) [
      | inl past ↦ inl (blank text past b.gap b.spaces b.is)
      | inr begins ↦ inr (elim (cut (past_spaces text)) as (λ c. Begins text) [
        | inl all ↦
            let field = past_spaces text in
            let is : IsField field = record { some = some_of field begins; within = all } in
            let first : first_field text ≡ field = ap first_field b.is ∙ first_last b.gap field b.spaces is in
            let after : after_field text ≡ [] = ap after_field b.is ∙ after_last b.gap field b.spaces is in
            record {
              is_field = subst IsField (sym first) is;
              all = ap fields b.is ∙ fields_last b.gap field b.spaces is ∙ ap (λ f. f ∷ []) (sym first) ∙ ap (λ rest. first_field text ∷ fields rest) (sym after);
              gap = b.gap;
              spaces = b.spaces;
              shape = inl after;
            }
        | inr found ↦
            let field = found.0 in
            let rest = found.1 in
            let is : IsField field = record { some = some_cut (past_spaces text) field rest begins found.2; within = found.3 } in
            let whole : text ≡ b.gap ++ (field ++ 32 ∷ rest) = b.is ∙ ap (λ xs. b.gap ++ xs) found.2 in
            let first : first_field text ≡ field = ap first_field whole ∙ first_at b.gap field rest b.spaces is in
            let after : after_field text ≡ rest = ap after_field whole ∙ after_at b.gap field rest b.spaces is in
            record {
              is_field = subst IsField (sym first) is;
              all = ap fields whole ∙ fields_at b.gap field rest b.spaces is ∙ ap (λ f. f ∷ fields rest) (sym first) ∙ ap (λ r. first_field text ∷ fields r) (sym after);
              gap = b.gap;
              spaces = b.spaces;
              shape = inr (whole ∙ ap (λ f. b.gap ++ (f ++ 32 ∷ rest)) (sym first) ∙ ap (λ r. b.gap ++ (first_field text ++ 32 ∷ r)) (sym after));
            }
      ])
    ]

-- ---- the fields of a text, counted

pub blank_fields : (text : List ℕ) → length (first_field text) ≡ 0 → fields text ≡ []
blank_fields text none = elim (step text) as (λ s. fields text ≡ []) [
  | inl b ↦ b.none
  | inr b ↦ let some = b.is_field.some in absurd (omega (arith, some, none))
]

pub more_fields : (text : List ℕ) → 0 < length (first_field text) → fields text ≡ first_field text ∷ fields (after_field text)
more_fields text some = elim (step text) as (λ s. fields text ≡ first_field text ∷ fields (after_field text)) [
  | inl b ↦ let none = ap length b.first in absurd (omega (arith, some, none))
  | inr b ↦ b.all
]

pub past_fields : (text : List ℕ) → length (past_spaces text) ≡ 0 → fields text ≡ []
past_fields text none =
    let b = behind text in
    ap fields b.is ∙ fields_more b.gap (past_spaces text) b.spaces ∙ ap fields (empty (past_spaces text) none) where
      empty : (xs : List ℕ) → length xs ≡ 0 → xs ≡ []
      empty [] e = refl
      empty (x ∷ xs) e = absurd (omega (arith, e))

pub some_fields : (text : List ℕ) → 0 < length (past_spaces text) → 0 < length (fields text)
some_fields text some = elim (step text) as (λ s. 0 < length (fields text)) [
  | inl b ↦ let none = ap length b.past in absurd (omega (arith, some, none))
  | inr b ↦ let all = ap length b.all in omega (arith, all)
]

-- the same where the first field was read
pub none_of : (text one : List ℕ) → one ≡ first_field text → length one ≡ 0 → fields text ≡ []
none_of text one is none = blank_fields text (ap length (sym is) ∙ none)

pub one_of : (text one rest : List ℕ) → one ≡ first_field text → rest ≡ after_field text → 0 < length one → fields text ≡ one ∷ fields rest
one_of text one rest is then some =
    let more : 0 < length (first_field text) = subst (λ (x : List ℕ). 0 < length x) is some in
    more_fields text more ∙ ap (λ x. x ∷ fields (after_field text)) (sym is) ∙ ap (λ x. one ∷ fields x) (sym then)
