-- what the rows of reports and traces are
use Rattle.std.proofs.Common.{◌≡◌, ◌∷◌, ◌++◌, ◌∙◌, ℕ, Bool, List, [], ap, map, refl}
use Rattle.std.specs.Prelude.{All}
use Rattle.std.proofs.lemmas.List.Elements.{All-append, All-cons, All-head, All-nil, All-tail}
use Rattle.csv.specs.Reading.{default_config, records}
use Rattle.event_json.specs.Sites.{Site}
use Rattle.report_forms.specs.Accounts.{Account}
use Rattle.report_forms.specs.Csv.{Fields, account_rows, cell_line, cell_lines, cells, columns_of, csv_line, csv_lines, kind_of, origin_row, outside_row, part_row, recall_field, table_rows}
use Rattle.report_forms.specs.declared.accounts.Title.{Title}
use Rattle.report_forms.specs.declared.accounts.Title.TheVariants as titles
use Rattle.report_forms.proofs.Guarding.{rows_are}
use Rattle.report_forms.proofs.RowLaws.{IsFull, rows_read}

-- rows that are all full
all_full : {X : Type 0} (row : X → Fields) → ((x : X) → IsFull (row x)) → (xs : List X) → All IsFull (map row xs)
all_full row full [] = All-nil IsFull
all_full row full (x ∷ xs) = All-cons IsFull (row x) (map row xs) (full x) (all_full row full xs)

columns_full : (title : Title) (told : Bool) → IsFull (columns_of title told)
columns_full (titles.Recall r ended) told = tt
columns_full titles.Forward told = tt
columns_full titles.Back told = tt

-- so is each row of an account
account_full : (sites : List Site) (a : Account) → All IsFull (account_rows sites a)
account_full sites a =
    let recall = recall_field sites a.title in
    let part = part_row sites recall (kind_of a.title) a.told in
    let outside = outside_row sites recall a.told in
    let origin = origin_row sites recall a.told in
    All-cons IsFull (columns_of a.title a.told) (map part a.parts ++ (map outside a.outside ++ map origin a.origins)) (columns_full a.title a.told)
    (All-append IsFull (map part a.parts) (map outside a.outside ++ map origin a.origins) (all_full part (λ p. tt) a.parts)
    (All-append IsFull (map outside a.outside) (map origin a.origins) (all_full outside (λ x. tt) a.outside) (all_full origin (λ p. tt) a.origins)))

-- rows whose cells are guarded have as many
cells_stay : (g : Bool) (row : Fields) → IsFull row → IsFull (cells g row)
cells_stay g [] full = full
cells_stay g (x ∷ []) full = full
cells_stay g (x ∷ y ∷ ys) full = full

cells_full : (g : Bool) (rows : List Fields) → All IsFull rows → All IsFull (map (cells g) rows)
cells_full g [] full = All-nil IsFull
cells_full g (row ∷ rows) full =
    All-cons IsFull (cells g row) (map (cells g) rows) (cells_stay g row (All-head IsFull row rows full)) (cells_full g rows (All-tail IsFull row rows full))

lines_of_cells : (g : Bool) (rows : List Fields) → cell_lines g rows ≡ csv_lines (map (cells g) rows)
unfolding cell_line
lines_of_cells g [] = refl
lines_of_cells g (row ∷ rows) = ap (λ (rest : List ℕ). csv_line (cells g row) ++ rest) (lines_of_cells g rows)

-- A reader finds in the text of the rows just these.
pub account_read : (g : Bool) (sites : List Site) (a : Account) → records default_config (cell_lines g (account_rows sites a)) ≡ table_rows g (account_rows sites a)
account_read g sites a =
    let rows = account_rows sites a in
    ap (records default_config) (lines_of_cells g rows) ∙ rows_read (map (cells g) rows) (cells_full g rows (account_full sites a)) ∙ rows_are g rows
