use Rattle.std.proofs.Common.{◌≡◌, map}
use Rattle.std.specs.Prelude.{slice_get}
use Rattle.site_core.specs.Emitting.{message_frame, message_frames}
use Rattle.site_core.proofs.emitting.message_at.Given as goal

-- the frame stands among those to come
abbrev pub invariant-loop-number : goal.invariant-loop-number
invariant-loop-number l = slice_get (map (message_frame l.state.engagement.me) l.number-iterator) l.left ≡ slice_get (message_frames l.state.engagement) l.place
