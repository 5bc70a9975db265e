-- A keeper that may have been taken out for a moment.
use Rattle.std.specs.Prelude.{Option, Some, None}
use Rattle.site_core.specs.Records.{Record}

-- the record that is shown
abbrev pub shown_if : {K : Type 0} → (K → Option Record) → Option K → Option Record
shown_if shown None = None
shown_if shown (Some k) = shown k

-- the records in which it may be opened
abbrev pub may_if : {K : Type 0} → (K → Record → Type 0) → Option K → Record → Type 0
may_if may None r = ⊥
may_if may (Some k) r = may k r
