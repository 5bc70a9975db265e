-- what a reader finds in rows that were written
use Rattle.std.proofs.Common.{◌≡◌, ◌≤◌, ◌<◌, ◌+◌, ◌==◌, ◌||◌, ℕ, zero, suc, false, List, [], ◌∷◌, ◌++◌, Some, length, refl, sym, ap, ◌∙◌, inl, inr, append_assoc, arith, subst}
use Rattle.std.specs.Prelude.{⊤, All}
use Rattle.std.specs.List.{list_any}
use Rattle.std.proofs.lemmas.Bool.{cases_Bool, or_parts}
use Rattle.std.proofs.lemmas.List.{length-append}
use Rattle.std.proofs.lemmas.List.Elements.{All-head, All-tail}
use Rattle.csv.specs.Machine.{next_record}
use Rattle.csv.specs.Reading.{default_config, records, records_from}
use Rattle.csv.specs.Writing.{default_writer, field_text, fields_text, needs_byte}
use Rattle.csv.specs.declared.parser.State.TheVariants as st
use Rattle.csv.proofs.RoundTrip.{field-run, record-same}
use Rattle.report_forms.specs.Csv.{Fields, csv_field, csv_line, csv_lines, csv_rest}

-- it has two fields or more
abbrev pub IsFull : Fields → Type 0
IsFull [] = ⊥
IsFull (x ∷ []) = ⊥
IsFull (x ∷ y ∷ ys) = ⊤

-- ---- one row

-- a byte that calls for no quotes ends no line
no_end : (b : ℕ) → needs_byte default_writer b ≡ false → ((b == 13) ≡ false) × ((b == 10) ≡ false)
no_end b e =
    let marks = (b == 44) || (b == 34) in
    let ends = (b == 13) || (b == 10) in
    let without_comment = or_parts ((marks || ends) || false) false e in
    let without_escape = or_parts (marks || ends) false without_comment.0 in
    let line = or_parts marks ends without_escape.0 in
    or_parts (b == 13) (b == 10) line.1

-- a row begins as its first field does, where another follows
row_begins : (x u : List ℕ)
    → next_record default_config st.StartRecord [] [] (field_text default_writer x ++ 44 ∷ u)
    ≡ next_record default_config st.StartField [] [] (field_text default_writer x ++ 44 ∷ u)
row_begins x u = elim (cases_Bool (list_any (needs_byte default_writer) x)) [
  | inl needs ↦ rw needs (record-same [] [] 34 _ refl refl)
  | inr plain ↦ rw plain (plain_begins x plain)
]
  where
    plain_begins : (y : List ℕ) → list_any (needs_byte default_writer) y ≡ false
        → next_record default_config st.StartRecord [] [] (y ++ 44 ∷ u) ≡ next_record default_config st.StartField [] [] (y ++ 44 ∷ u)
    plain_begins [] plain = record-same [] [] 44 u refl refl
    plain_begins (b ∷ y) plain =
        let first = no_end b (or_parts (needs_byte default_writer b) _ plain).0 in
        record-same [] [] b (y ++ 44 ∷ u) first.0 first.1

comma : (fields : List (List ℕ)) (x u : List ℕ)
    → next_record default_config st.InField fields x (44 ∷ u) ≡ next_record default_config st.StartField (fields ++ x ∷ []) [] u
unfolding next_record
comma fields x u = refl

-- what stands behind a field
abbrev first_behind : List (List ℕ) → ℕ
first_behind [] = 13
first_behind (y ∷ ys) = 44

abbrev rest_behind : List (List ℕ) → List ℕ → List ℕ
rest_behind [] tail = 10 ∷ tail
rest_behind (y ∷ ys) tail = (field_text default_writer y ++ fields_text default_writer ys) ++ 13 ∷ 10 ∷ tail

behind_is : (ys : List (List ℕ)) (tail : List ℕ) → fields_text default_writer ys ++ 13 ∷ 10 ∷ tail ≡ first_behind ys ∷ rest_behind ys tail
unfolding fields_text
behind_is [] tail = refl
behind_is (y ∷ ys) tail = refl

no_quote_behind : (ys : List (List ℕ)) → (first_behind ys == 34) ≡ false
no_quote_behind [] = refl
no_quote_behind (y ∷ ys) = refl

-- the fields behind one, up to the line's end
rest_read : (fields : List (List ℕ)) (x : List ℕ) (ys : List (List ℕ)) (tail : List ℕ)
    → next_record default_config st.InField fields x (fields_text default_writer ys ++ 13 ∷ 10 ∷ tail) ≡ Some (fields ++ x ∷ ys, st.AfterCr, 10 ∷ tail)
unfolding next_record fields_text
rest_read fields x [] tail = refl
rest_read fields x (y ∷ ys) tail =
    let e = behind_is ys tail in
    let u : (field_text default_writer y ++ fields_text default_writer ys) ++ 13 ∷ 10 ∷ tail ≡ field_text default_writer y ++ first_behind ys ∷ rest_behind ys tail =
    append_assoc (field_text default_writer y) (fields_text default_writer ys) (13 ∷ 10 ∷ tail) ∙ ap (λ (t : List ℕ). field_text default_writer y ++ t) e in
    let run = field-run (fields ++ x ∷ []) y (first_behind ys) (rest_behind ys tail) (no_quote_behind ys) in
    let more = rest_read (fields ++ x ∷ []) y ys tail in
    let back = subst (λ (t : List ℕ). next_record default_config st.InField (fields ++ x ∷ []) y t ≡ Some ((fields ++ x ∷ []) ++ y ∷ ys, st.AfterCr, 10 ∷ tail)) e more in
    rw (comma fields x _, u) (run ∙ back ∙ rw (append_assoc fields (x ∷ []) (y ∷ ys)) refl)

-- the fields behind one are written as `csv` writes them
others_are : (ys : List (List ℕ)) → csv_rest ys ≡ fields_text default_writer ys ++ 13 ∷ 10 ∷ []
unfolding fields_text csv_field
others_are [] = refl
others_are (y ∷ ys) =
    ap (λ (t : List ℕ). 44 ∷ (field_text default_writer y ++ t)) (others_are ys)
    ∙ ap (λ (t : List ℕ). 44 ∷ t) (sym (append_assoc (field_text default_writer y) (fields_text default_writer ys) (13 ∷ 10 ∷ [])))

-- a row of two fields or more
row_read : (x y : List ℕ) (ys : List (List ℕ)) (tail : List ℕ)
    → next_record default_config st.StartRecord [] [] (csv_line (x ∷ y ∷ ys) ++ tail) ≡ Some (x ∷ y ∷ ys, st.AfterCr, 10 ∷ tail)
unfolding csv_line csv_field
row_read x y ys tail =
    let u = rest_behind (y ∷ ys) tail in
    let e = behind_is (y ∷ ys) tail in
    let first = field_text default_writer x in
    let others = fields_text default_writer (y ∷ ys) in
    let rest = ap (λ (t : List ℕ). t ++ tail) (others_are (y ∷ ys)) ∙ append_assoc others (13 ∷ 10 ∷ []) tail ∙ e in
    let line : csv_line (x ∷ y ∷ ys) ++ tail ≡ first ++ 44 ∷ u =
    append_assoc first (csv_rest (y ∷ ys)) tail ∙ ap (λ (t : List ℕ). first ++ t) rest in
    let read = subst (λ (t : List ℕ). next_record default_config st.InField [] x t ≡ Some (x ∷ y ∷ ys, st.AfterCr, 10 ∷ tail)) e (rest_read [] x (y ∷ ys) tail) in
    ap (next_record default_config st.StartRecord [] []) line ∙ row_begins x u ∙ field-run [] x 44 u refl ∙ read

-- a full one
full_row_read : (row : Fields) (tail : List ℕ) → IsFull row → next_record default_config st.StartRecord [] [] (csv_line row ++ tail) ≡ Some (row, st.AfterCr, 10 ∷ tail)
full_row_read [] tail full = absurd full
full_row_read (x ∷ []) tail full = absurd full
full_row_read (x ∷ y ∷ ys) tail full = row_read x y ys tail

-- ---- all of them

-- the second byte of a line's end is passed over
after_return : (n : ℕ) (xs : List ℕ) → records_from default_config n st.AfterCr (10 ∷ xs) ≡ records_from default_config n st.StartRecord xs
unfolding records_from next_record
after_return zero xs = refl
after_return (suc n) xs = refl

none_read : (n : ℕ) → records_from default_config (suc n) st.StartRecord [] ≡ []
unfolding records_from next_record
none_read n = refl

all_read : (rows : List Fields) (n : ℕ) → All IsFull rows → length rows < n → records_from default_config n st.StartRecord (csv_lines rows) ≡ rows
unfolding records_from
all_read rows zero full more = absurd (omega (arith, more))
all_read [] (suc n) full more = none_read n
all_read (row ∷ rows) (suc n) full more =
    rw (full_row_read row (csv_lines rows) (All-head IsFull row rows full))
    (ap (λ (rest : List Fields). row ∷ rest) (after_return n (csv_lines rows) ∙ all_read rows n (All-tail IsFull row rows full) (omega (arith, more))))

-- a row has a line's end
rest_ends : (ys : Fields) → 1 ≤ length (csv_rest ys)
rest_ends [] = omega arith
rest_ends (y ∷ ys) = omega arith

ends : (row : Fields) → 1 ≤ length (csv_line row)
unfolding csv_line
ends [] = omega arith
ends (x ∷ ys) = omega (arith, length-append (csv_field x) (csv_rest ys), rest_ends ys)

-- there are as many bytes
enough : (rows : List Fields) → length rows ≤ length (csv_lines rows)
enough [] = omega arith
enough (row ∷ rows) =
    let both = length-append (csv_line row) (csv_lines rows) in
    omega (arith, both, ends row, enough rows)

pub rows_read : (rows : List Fields) → All IsFull rows → records default_config (csv_lines rows) ≡ rows
rows_read rows full = all_read rows (length (csv_lines rows) + 1) full (omega (arith, enough rows))
