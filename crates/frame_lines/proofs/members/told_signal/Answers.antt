use Rattle.std.proofs.Common.{◌≡◌, sym, ap, ◌∙◌, eq-eqb}
use mathlib.Core.Bool.{true≢false}
use Rattle.serde_json.specs.View.{view}
use Rattle.frame_core.specs.Numbers.{Message}
use Rattle.frame_lines.proofs.FrameLemmas.{not_to}
use Rattle.frame_lines.proofs.members.told_signal.Goals as goal

pub returns-else-eq : goal.returns-else-eq
returns-else-eq c = λ chain said f is.
    let id = c.in_ok-id.ensures in
    let to = c.in_ok-to.ensures in
    let other : c.in_ok-to.to ≡ c.in_ok-id.id.site → ⊥ = (λ e.
    true≢false (sym (eq-eqb c.in_ok-to.to c.id.inside.site (e ∙ ap (λ (m : Message). m.site) (sym c.id.view_is))) ∙ sym c.eq.ensures ∙ c.if-eq.false)) in
    not_to c.args.sites.now chain (view c.args.value.now) f c.in_ok-id.id c.in_ok-to.to c.len-names.ensures.in_order id.0 id.1 to.0 to.1 c.requires other is.0 is.1
