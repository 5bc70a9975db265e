use Rattle.std.proofs.Common.{◌≡◌, ◌++◌, [], ◌∷◌, drop, map, string_bytes}
use Rattle.report_forms.specs.Csv.{cell, cells, csv_field, csv_rest}
use Rattle.report_forms.proofs.csv_cells.push_line.Given as goal

-- the fields so far and those of the rest are all of them
abbrev pub invariant-loop-field : goal.invariant-loop-field
invariant-loop-field l =
    string_bytes l.text ++ csv_rest (cells l.guard (map (λ f. f.now) (drop l.field-index l.rest) ++ (map (λ f. f.now) l.evidence ++ l.last ∷ [])))
    ≡ string_bytes l.fn.text ++ (csv_field (cell l.guard l.first) ++ csv_rest (cells l.guard (map (λ f. f.now) l.rest ++ (map (λ f. f.now) l.evidence ++ l.last ∷ []))))

abbrev pub invariant-loop-field-2 : goal.invariant-loop-field-2
invariant-loop-field-2 l =
    string_bytes l.text ++ csv_rest (cells l.guard (map (λ f. f.now) (drop l.field-index l.evidence) ++ l.last ∷ []))
    ≡ string_bytes l.fn.text ++ (csv_field (cell l.guard l.first) ++ csv_rest (cells l.guard (map (λ f. f.now) l.rest ++ (map (λ f. f.now) l.evidence ++ l.last ∷ []))))
