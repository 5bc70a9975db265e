-- texts behind an apostrophe
use Rattle.std.proofs.Common.{◌≡◌, ◌==◌, ◌∙◌, ℕ, Bool, true, false, List, [], ◌∷◌, ◌++◌, ap, inl, inr, map, refl, subst, sym}
use Rattle.std.proofs.lemmas.Bool.{cases_Bool, eqb-true, or_cases, true≢false}
use Rattle.csv.specs.Writing.{default_writer, escaped, needs_quotes}
use Rattle.report_forms.specs.Csv.{Fields, cell, cells, csv_field, guarded, is_formula, table_rows}
use Rattle.report_forms.proofs.Replacing.{doubled_other}
use Rattle.report_forms.specs.Laws.{BeginsFormula, FormulasAreGuarded}

-- ---- the law

begins : (text : List ℕ) → is_formula text ≡ true → BeginsFormula text
begins [] marked = true≢false (sym marked)
begins (b ∷ rest) marked = elim (or_cases (b == 61) _ marked) [
  | inl equals ↦ inl (eqb-true b 61 equals)
  | inr after ↦ elim (or_cases (b == 43) _ after) [
    | inl plus ↦ inr (inl (eqb-true b 43 plus))
    | inr after2 ↦ elim (or_cases (b == 45) _ after2) [
      | inl minus ↦ inr (inr (inl (eqb-true b 45 minus)))
      | inr after3 ↦ elim (or_cases (b == 64) _ after3) [
        | inl at ↦ inr (inr (inr (inl (eqb-true b 64 at))))
        | inr after4 ↦ elim (or_cases (b == 9) _ after4) [
          | inl tab ↦ inr (inr (inr (inr (inl (eqb-true b 9 tab)))))
          | inr after5 ↦ elim (or_cases (b == 13) _ after5) [
            | inl cr ↦ inr (inr (inr (inr (inr (eqb-true b 13 cr)))))
            | inr none ↦ absurd (true≢false (sym none))
          ]
        ]
      ]
    ]
  ]
]

is_one : (text : List ℕ) → BeginsFormula text → is_formula text ≡ true
is_one [] none = absurd none
is_one (b ∷ rest) (inl equals) = rw equals refl
is_one (b ∷ rest) (inr (inl plus)) = rw plus refl
is_one (b ∷ rest) (inr (inr (inl minus))) = rw minus refl
is_one (b ∷ rest) (inr (inr (inr (inl at)))) = rw at refl
is_one (b ∷ rest) (inr (inr (inr (inr (inl tab))))) = rw tab refl
is_one (b ∷ rest) (inr (inr (inr (inr (inr cr))))) = rw cr refl

is_none : (text : List ℕ) → is_formula text ≡ false → BeginsFormula text → ⊥
is_none text plain is = true≢false (sym (is_one text is) ∙ plain)

behind : (text : List ℕ) → is_formula text ≡ true → guarded text ≡ 39 ∷ text
behind text marked = rw marked refl

as_it_was : (text : List ℕ) → is_formula text ≡ false → guarded text ≡ text
as_it_was text plain = rw plain refl

pub formulas_guarded : FormulasAreGuarded
formulas_guarded = (
  λ text is. elim (cases_Bool (is_formula text)) [
    | inl marked ↦ is_none (39 ∷ text) refl (subst BeginsFormula (behind text marked) is)
    | inr plain ↦ is_none text plain (subst BeginsFormula (as_it_was text plain) is)
  ],
  λ text is. behind text (is_one text is),
  λ text other. elim (cases_Bool (is_formula text)) [
    | inl marked ↦ absurd (other (begins text marked))
    | inr plain ↦ as_it_was text plain
  ],
)

-- ---- the cells of rows

plain_cell : (field : List ℕ) → cell false field ≡ field
plain_cell field = elim (cases_Bool (is_formula field)) [
  | inl marked ↦ rw marked refl
  | inr plain ↦ rw plain refl
]

guarded_cell : (field : List ℕ) → cell true field ≡ guarded field
guarded_cell field = elim (cases_Bool (is_formula field)) [
  | inl marked ↦ rw marked refl
  | inr plain ↦ rw plain refl
]

plain_row : (row : Fields) → cells false row ≡ row
plain_row [] = refl
plain_row (x ∷ xs) = rw (plain_cell x, plain_row xs)

guarded_row : (row : Fields) → cells true row ≡ map guarded row
guarded_row [] = refl
guarded_row (x ∷ xs) = rw (guarded_cell x, guarded_row xs)

pub rows_are : (guard : Bool) (rows : List Fields) → map (cells guard) rows ≡ table_rows guard rows
rows_are false [] = refl
rows_are false (row ∷ rows) = rw (plain_row row, rows_are false rows)
rows_are true [] = refl
rows_are true (row ∷ rows) = rw (guarded_row row, rows_are true rows)

-- ---- as text

-- an apostrophe calls for no quotes, and isn't doubled
pub quoted_behind : (field : List ℕ) → needs_quotes default_writer field ≡ true → csv_field (39 ∷ field) ≡ 34 ∷ 39 ∷ (escaped default_writer field ++ 34 ∷ [])
unfolding csv_field
quoted_behind field needs = rw needs (ap (λ (t : List ℕ). 34 ∷ (t ++ 34 ∷ [])) (doubled_other 39 field refl))
