use Rattle.site_core.proofs.TakenBack.{nothing_else, captured_from, started_from, took_from}
use Rattle.site_core.proofs.states.SiteState.take_back.Goals as goal

pub take_back_capture-requires : goal.take_back_capture-requires
take_back_capture-requires c =
    let (old, does, undo) = c.requires.done in
    (old, captured_from old c.args.self.now _ c.args.effects.now c.args.undo c.args.input.now c.in-Capture.is does undo)

pub take_back_start-requires : goal.take_back_start-requires
take_back_start-requires c =
    let none = nothing_else c.args.undo.whole c.in_default.not-Some in
    let (old, does, undo) = c.requires.done in
    (old, started_from old c.args.self.now _ c.args.effects.now c.args.undo c.args.input.now c.in-Start.is none does undo)

pub take_back_frame-requires : goal.take_back_frame-requires
take_back_frame-requires c =
    let none = nothing_else c.args.undo.whole c.in_default.not-Some in
    let (old, does, undo) = c.requires.done in
    (old, took_from old c.args.self.now _ c.args.effects.now c.args.undo c.args.input.now c.in-Deliver.is none c.requires.no_signal does undo)

pub returns-in-Start : goal.returns-in-Start
returns-in-Start c old does undo =
    let none = nothing_else c.args.undo.whole c.in_default.not-Some in
    c.take_back_start.ensures old (started_from old c.args.self.now _ c.args.effects.now c.args.undo c.args.input.now c.in-Start.is none does undo)

pub returns-in-Deliver : goal.returns-in-Deliver
returns-in-Deliver c old does undo =
    let none = nothing_else c.args.undo.whole c.in_default.not-Some in
    c.take_back_frame.ensures old (took_from old c.args.self.now _ c.args.effects.now c.args.undo c.args.input.now c.in-Deliver.is none c.requires.no_signal does undo)
