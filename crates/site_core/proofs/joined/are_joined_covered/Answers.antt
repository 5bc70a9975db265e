use Rattle.std.proofs.Common.{Bool, sym}
use Rattle.std.specs.Prelude.{IsTrue}
use Rattle.std.proofs.lemmas.Result.{IfOk-weaker}
use Rattle.site_core.specs.Joined.{CoversAnOutput, JoinedAreCovered}
use Rattle.site_core.proofs.JoinedParts.{joined_covered}
use Rattle.site_core.proofs.joined.are_joined_covered.Goals as goal

pub returns-in-Some : goal.returns-in-Some
returns-in-Some c = IfOk-weaker c.are_outputs_covered.result
    (λ (covered : Bool). IsTrue covered → CoversAnOutput c.args.captured.now.events c.args.quarantine.now c.in-Some.id.now c.args.own.now)
    (λ (covered : Bool). IsTrue covered → JoinedAreCovered c.args.captured.now c.args.quarantine.now c.args.body.now)
    (λ covered covers yes. joined_covered c.args.captured.now c.args.quarantine.now c.args.body.now c.args.own.now c.in-Some.id.now (c.requires.closed c.if-not-closed.false) c.requires.own (sym c.in-Some.ensures) (covers yes))
    c.are_outputs_covered.ensures
