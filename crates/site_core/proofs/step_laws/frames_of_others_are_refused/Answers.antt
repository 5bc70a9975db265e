use Rattle.site_core.proofs.FramesOfOthers.{misdirected_messages_are_refused, signals_of_others_are_refused, stale_signals_are_own}
use Rattle.site_core.proofs.step_laws.frames_of_others_are_refused.Goals as goal

pub returns : goal.returns
returns c = record { messages = misdirected_messages_are_refused; signals = signals_of_others_are_refused; stale = stale_signals_are_own }
