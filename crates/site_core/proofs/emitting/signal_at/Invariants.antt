use Rattle.std.proofs.Common.{◌≡◌, not, map}
use Rattle.std.specs.Prelude.{slice_get, filter}
use Rattle.site_core.specs.Emitting.{is_parent, signal_frame, signal_frames}
use Rattle.site_core.proofs.emitting.signal_at.Given as goal

-- the frame stands among those to come
abbrev pub invariant-loop-message : goal.invariant-loop-message
invariant-loop-message l =
    slice_get (map (λ s. signal_frame l.state.engagement.me s.0) (filter (λ s. not (is_parent l.state.engagement s.0)) l.message-iterator)) l.left ≡ slice_get (signal_frames l.state.engagement) l.place
