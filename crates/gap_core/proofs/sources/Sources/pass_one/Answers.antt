use Rattle.std.proofs.Common.{◌≡◌, arith}
use Rattle.std.specs.List.{Contains}
use Rattle.std.proofs.lemmas.Result.{on_ok_weaker}
use Rattle.gap_core.specs.Sources.{IsPassedBy}
use Rattle.gap_core.proofs.Additions.{adds_alike}
use Rattle.gap_core.proofs.sources.Sources.pass_one.Goals as goal

pub returns-then-source-at-clause-added : goal.returns-then-source-at-clause-added
returns-then-source-at-clause-added c =
    let here : c.args.source.at ≡ c.args.at = omega (arith, c.if-source-at.true) in
    on_ok_weaker c.note.result
    (adds_alike (Contains c.args.self.now) (Contains c.note.new.self) (λ x. record { at = c.args.to; from = c.args.source.from } ≡ x) (IsPassedBy c.args.at c.args.to c.args.source)
    (λ x. (λ is. (here, is), λ h. h.1)))
    c.note.ensures.added
