use Rattle.std.proofs.Common.{◌≡◌, bytes_eq, drop, map}
use Rattle.std.specs.List.{list_any}
use Rattle.document_convert.proofs.unit_lots.is_among.Given as goal

-- one is, where one of the rest is
abbrev pub invariant-loop-one : goal.invariant-loop-one
invariant-loop-one l =
    list_any (bytes_eq l.text) (map (λ t. t.now) (drop l.one-index l.texts)) ≡ list_any (bytes_eq l.text) (map (λ t. t.now) l.texts)
