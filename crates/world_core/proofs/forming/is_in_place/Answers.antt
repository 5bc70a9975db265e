use Rattle.std.proofs.Common.{sym, ◌∙◌}
use mathlib.Core.Bool.{false≢true}
use Rattle.world_core.proofs.InPlace.{in_place, of_other_sites, within_sites}
use Rattle.world_core.proofs.forming.is_in_place.Goals as goal

pub returns-then-eq : goal.returns-then-eq
returns-then-eq c =
    let sites = c.args.sites.now in
    let state = c.args.state.now in
    let yes = in_place sites c.sites.result.now c.args.place c.number.result c.me.result state c.eq.result c.sites.ensures c.eq.ensures c.if-eq.true c.me.ensures.me c.number.ensures.value in
    record { yes = yes; within = λ h. within_sites sites c.args.place state c.me.ensures.sound (yes.0 h); sound = λ _. c.me.ensures.sound }

pub returns-else-eq : goal.returns-else-eq
returns-else-eq c =
    record {
      yes = of_other_sites c.args.sites.now c.sites.result.now c.args.place c.args.state.now c.eq.result c.sites.ensures c.eq.ensures c.if-eq.false;
      within = λ h. absurd (false≢true (sym c.if-eq.false ∙ h));
      sound = λ h. absurd (false≢true (sym c.if-eq.false ∙ h));
    }
