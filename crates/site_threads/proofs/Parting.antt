-- What is left of the sites, one after another.
use Rattle.std.proofs.Common.{◌≡◌, Option, Some, None, List, [], ◌∷◌, ◌++◌, refl, sym, ap, ◌∙◌}
use Rattle.std.specs.Option.{option_or}
use Rattle.site_threads.specs.Sites.{Running}
use Rattle.site_threads.specs.Parting.{cause_of, first_cause}

or_none : {A : Type 0} (a : Option A) → a ≡ option_or a None
or_none None = refl
or_none (Some x) = refl

or_or : {A : Type 0} (a b c : Option A) → option_or a (option_or b c) ≡ option_or (option_or a b) c
or_or None b c = refl
or_or (Some x) b c = refl

pub cause_more : {K G : Type 0} (runs : List (Running K G)) (run : Running K G) → option_or (first_cause runs) (cause_of run.me run.fault) ≡ first_cause (runs ++ run ∷ [])
cause_more [] run = or_none (cause_of run.me run.fault)
cause_more (r ∷ rs) run = sym (or_or (cause_of r.me r.fault) (first_cause rs) (cause_of run.me run.fault)) ∙ ap (option_or (cause_of r.me r.fault)) (cause_more rs run)
