use Rattle.std.proofs.Common.{◌≡◌, Some, false, rules, sym}
use Rattle.std.specs.List.{Contains}
use Rattle.std.proofs.lemmas.Result.{IfOk-weaker, on_ok_weaker}
use Rattle.gap_core.specs.Adding.{AddsNothing}
use Rattle.gap_core.specs.Sources.{IsPassed, Keeps}
use Rattle.gap_core.proofs.SourceLists.{list_changed, list_unchanged, passed_on}
use Rattle.gap_core.proofs.sources.pass_item.Goals as goal

pub returns-in-Some-clause-added : goal.returns-in-Some-clause-added
returns-in-Some-clause-added c =
    let new = c.get_mut.follows.lender c.pass.new.self in
    on_ok_weaker c.pass.result
    (λ adds. passed_on c.args.index.now new c.args.item.now c.args.at c.args.to c.in-Some.sources.now (sym c.in-Some.ensures.value)
    (list_changed c.args.index.now new c.args.item.now c.pass.new.self ((c.get_mut.follows.holds c.pass.new.self).3 (search rules)) (Some c.in-Some.sources.now)
    (sym c.in-Some.ensures.value) (IsPassed c.args.at c.args.to c.in-Some.sources.now) adds))
    c.pass.ensures.added

pub returns-in-Some-clause-new : goal.returns-in-Some-clause-new
returns-in-Some-clause-new c =
    let changed = c.get_mut.follows.lender c.pass.new.self in
    IfOk-weaker c.pass.result (λ new. new ≡ false → AddsNothing (Contains c.in-Some.sources.now) (Contains c.pass.new.self)) (λ new. new ≡ false → AddsNothing (Keeps c.args.index.now) (Keeps changed))
    (λ new nothing none. list_unchanged c.args.index.now changed c.args.item.now c.pass.new.self ((c.get_mut.follows.holds c.pass.new.self).3 (search rules)) (Some c.in-Some.sources.now)
    (sym c.in-Some.ensures.value) (nothing none))
    c.pass.ensures.new
