use Rattle.std.proofs.Common.{◌↔◌, ◌∙◌, true, refl, subst, sym}
use Rattle.std.specs.Prelude.{IsTrue}
use Rattle.report_core.specs.Sources.{IsWanted}
use Rattle.report_core.proofs.makers.is_wanted.Goals as goal

pub returns-in-Some : goal.returns-in-Some
returns-in-Some c = subst (λ wanted. IsTrue c.contains.result ↔ IsWanted wanted c.args.item.now) (sym c.in-Some.is) (λ h. sym c.contains.ensures ∙ h, λ found. c.contains.ensures ∙ found)

pub returns-in-None : goal.returns-in-None
returns-in-None c = subst (λ wanted. IsTrue true ↔ IsWanted wanted c.args.item.now) (sym c.in-None.is) (λ h. tt, λ any. refl)
