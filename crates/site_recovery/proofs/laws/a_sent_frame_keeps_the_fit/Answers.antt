use Rattle.site_recovery.proofs.Worlds.{sends_keep_the_fit, fewer_frames_fit}
use Rattle.site_recovery.proofs.laws.a_sent_frame_keeps_the_fit.Goals as goal

pub returns : goal.returns
returns c = record { sent = sends_keep_the_fit; forgotten = fewer_frames_fit }
