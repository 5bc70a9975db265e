use Rattle.std.proofs.Common.{refl, subst}
use Rattle.site_core.specs.Blocks.{IsFirstBlockOf}
use Rattle.site_core.proofs.SentBlocks.{blocked_before, passed_free}
use Rattle.site_core.proofs.capturing.capture_sent.Goals as goal

pub returns-in-Ok-None-clause-passed : goal.returns-in-Ok-None-clause-passed
returns-in-Ok-None-clause-passed c =
    passed_free c.args.captured.now c.add_event.new.self c.args.quarantine.now c.args.event c.in-Ok.standing c.requires.fresh c.in-Ok.ensures.standing c.in-Ok.ensures.ok c.requires.sending
    c.in-Ok-None.field-0 c.in-Ok-None.field-0-is c.in-Ok-None.ensures

pub returns-in-Ok-Some-clause-refused : goal.returns-in-Ok-Some-clause-refused
returns-in-Ok-Some-clause-refused c =
    let first = blocked_before c.args.captured.now c.add_event.new.self c.args.quarantine.now c.args.event c.in-Ok.standing c.requires.fresh c.in-Ok.ensures.standing c.in-Ok.ensures.ok c.requires.sending
    c.in-Ok-Some.field-0 c.in-Ok-Some.ensures in
    (refl, (c.requires.fresh, subst (IsFirstBlockOf c.args.captured.now c.args.quarantine.now c.args.event) c.in-Ok-Some.field-0-is first))
