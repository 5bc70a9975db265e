use Rattle.std.proofs.Common.{◌≡◌, [], ◌∷◌, refl, sym, ap₂, ◌∙◌}
use Rattle.site_tables.specs.Tables.{site, address, part, quarantine, seen, parent, packed, first_schema, site_schema}
use Rattle.site_tables.proofs.Declared.{index_is}
use Rattle.site_tables.proofs.all_declared.are_indexes.Goals as goal

pub returns-in-First : goal.returns-in-First
returns-in-First c =
    let all : _ ≡ first_schema.indexes = ap₂ ◌∷◌ (index_is site (2 ∷ []) 2 _ refl refl) (ap₂ ◌∷◌ (index_is address (1 ∷ []) 4 _ refl refl) (ap₂ ◌∷◌ (index_is part (1 ∷ 2 ∷ 3 ∷ []) 7 _ refl refl)
    (ap₂ ◌∷◌ (index_is quarantine (1 ∷ 2 ∷ 3 ∷ []) 9 _ refl refl) (ap₂ ◌∷◌ (index_is seen (1 ∷ 2 ∷ []) 12 _ refl refl) (ap₂ ◌∷◌ (index_is parent (1 ∷ 2 ∷ []) 14 _ refl refl) refl))))) in
    rw c.in-First.is (λ h. c.are_automatic.ensures.0 h ∙ all, λ e. c.are_automatic.ensures.1 (e ∙ sym all))

pub returns-in-Second : goal.returns-in-Second
returns-in-Second c =
    let all : _ ≡ site_schema.indexes = ap₂ ◌∷◌ (index_is site (2 ∷ []) 2 _ refl refl) (ap₂ ◌∷◌ (index_is address (1 ∷ []) 4 _ refl refl) (ap₂ ◌∷◌ (index_is part (1 ∷ 2 ∷ 3 ∷ []) 7 _ refl refl)
    (ap₂ ◌∷◌ (index_is quarantine (1 ∷ 2 ∷ 3 ∷ []) 9 _ refl refl) (ap₂ ◌∷◌ (index_is seen (1 ∷ 2 ∷ []) 12 _ refl refl) (ap₂ ◌∷◌ (index_is parent (1 ∷ 2 ∷ []) 14 _ refl refl)
    (ap₂ ◌∷◌ (index_is packed (1 ∷ 2 ∷ []) 18 _ refl refl) refl)))))) in
    rw c.in-Second.is (λ h. c.are_automatic-in-Second.ensures.0 h ∙ all, λ e. c.are_automatic-in-Second.ensures.1 (e ∙ sym all))
