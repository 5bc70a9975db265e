use Rattle.std.proofs.Common.{◌≡◌, ℕ, None, Some, Option, ap, sym, ◌∙◌, rules, slice_set, length, refl}
use Rattle.std.specs.Prelude.{option_and_then, slice_get}
use Rattle.std.proofs.lemmas.Option.{slice_get_read}
use Rattle.keeper_core.specs.declared.faults.Keep.{Keep}
use Rattle.recall_text.specs.State.{World}
use Rattle.script_core.proofs.running.Running.disarm.Goals as goal

pub returns : goal.returns
returns c =
    let armed = c.self.inside.armed.items in
    let there : slice_get armed c.number-place.result ≡ Some c.index-armed.result.now = slice_get_read armed (length armed) c.number-place.result c.index-armed.result.now refl (search rules) c.index-armed.ensures in
    rw (← c.self.view_is) (record {
      was = sym (ap (option_and_then (λ (keep : Option Keep). keep)) (ap (slice_get armed) (sym c.number-place.ensures.value) ∙ there));
      now = ap (λ (n : ℕ). let w : World = record { sites = c.self.inside.sites; world = c.self.inside.world; armed = slice_set armed n None } in w) c.number-place.ensures.value;
    })
