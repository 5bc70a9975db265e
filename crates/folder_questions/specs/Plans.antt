-- What sites take one after another by a plan, which the records of all sites decide.
use Rattle.std.specs.Prelude.{ℕ, List, [], ◌∷◌, map, string_bytes}
use Rattle.std.specs.Ordering.{nat_cmp}
use Rattle.std.specs.declared.cmp.Ordering.{Ordering}
use Rattle.event_json.specs.Sites.{Site}
use Rattle.item_spellings.specs.declared.spellings.Spelled.{Spelled}
use Rattle.recall_outcomes.specs.declared.batches.Task.{Task}
use Rattle.recall_outcomes.specs.declared.outcomes.CommandRefusal.{CommandRefusal}
use Rattle.site_folders.specs.Refusals.{IsRefusal}
use Rattle.folder_questions.specs.Asked.{RefusesItem}
use Rattle.folder_questions.specs.declared.plans.Planned.TheVariants.{Refused}
use Rattle.folder_questions.specs.declared.plans.Planned.{Planned}
use Rattle.folder_questions.specs.declared.plans.PlannedBatch.{PlannedBatch}
use Rattle.folder_questions.specs.declared.plans.PlannedInput.{PlannedInput}

-- ---- what a plan says, whatever its inputs are told as

-- the texts of inputs
abbrev pub texts_of : List PlannedInput → List (List ℕ)
texts_of inputs = map (λ i. string_bytes i.text) inputs

-- a site, what it does, and with which texts
abbrev pub Outline : Type 0
Outline = ℕ × Task × List (List ℕ)

abbrev pub outlines : List PlannedBatch → List Outline
outlines plan = map (λ b. (b.site, b.task, texts_of b.inputs.items)) plan

-- a site does this with these texts, if there are any
abbrev pub outlined : ℕ → Task → List (List ℕ) → List Outline
outlined site task [] = []
outlined site task (text ∷ texts) = (site, task, text ∷ texts) ∷ []

-- by site
abbrev pub outline_cmp : Outline → Outline → Ordering
outline_cmp a b = nat_cmp a.0 b.0

-- ---- where there is no plan

-- there is none, for this reason
abbrev pub RefusesPlan : CommandRefusal → Planned → Type 0
RefusesPlan why (Refused outcome) = IsRefusal why outcome
RefusesPlan why other = ⊥

-- the site or the item is refused
abbrev pub RefusesItemPlan : List ℕ → Spelled → List Site → Planned → Type 0
RefusesItemPlan name item sites (Refused outcome) = RefusesItem name item sites outcome
RefusesItemPlan name item sites other = ⊥
