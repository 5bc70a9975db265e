-- What becomes of entries when one is added behind them.
use Rattle.std.specs.Prelude.{◌≡◌, ℕ, pos, Bool, true, false, T, List, [], ◌∷◌, ◌++◌, length, None}
use Rattle.std.specs.FinMap.{is_sorted}
use Rattle.std.specs.declared.cmp.Ordering.{Ordering}
use Rattle.event_json.specs.Sites.{Site, sites_fault}
use Rattle.site_rows.specs.declared.rows.SiteRow.{SiteRow}

-- the entry stands at the end, or it can't, since its key is not above the others
abbrev pub IsAppended : {K V : Type 0} → (K → K → Ordering) → List (K × V) → K × V → List (K × V) → Bool → Type 0
IsAppended cmp before e after true = (after ≡ before ++ e ∷ []) × T (is_sorted cmp after)
IsAppended cmp before e after false = T (is_sorted cmp (before ++ e ∷ [])) → ⊥

-- an entry that is so was added
pub record IsMore {K V : Type 0} (cmp : K → K → Ordering) (Is : K → V → Type 0) (before es : List (K × V)) : Type 0 where
  pub key : K
  pub value : V
  pub is : Is key value
  pub last : es ≡ before ++ (key, value) ∷ []
  pub ascending : T (is_sorted cmp es)

-- an entry that is so stands at the end, or none can
abbrev pub IsAdded : {K V : Type 0} → (K → K → Ordering) → (K → V → Type 0) → List (K × V) → List (K × V) → Bool → Type 0
IsAdded cmp Is before after true = IsMore cmp Is before after
IsAdded cmp Is before after false = (k : _) (v : _) → Is k v → T (is_sorted cmp (before ++ (k, v) ∷ [])) → ⊥

abbrev pub named_only : List ℕ → Site
named_only name = record { name = name; addresses = [] }

-- the site of a row stands at the end, without addresses, or none can: the row has another number, or no site of its name can be added
abbrev pub IsNamed : List Site → SiteRow → List Site → Bool → Type 0
IsNamed before row after true = (after ≡ before ++ named_only row.name ∷ []) × (row.no ≡ pos (length before))
IsNamed before row after false = row.no ≡ pos (length before) → sites_fault before row.name [] ≡ None → ⊥
