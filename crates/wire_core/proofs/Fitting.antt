-- The laws of the records and the frames sent, and the form in which the rule uses them.
use Rattle.std.proofs.Common.{◌≡◌, ℕ, List, [], set, sym, subst}
use mathlib.Core.Option.{some}
use lib.ListN.{get_elem?}
use Rattle.frame_core.specs.declared.frames.Frame.{Frame}
use Rattle.site_core.specs.Records.{Record, fresh}
use Rattle.site_core.specs.declared.inputs.SiteInput.{SiteInput}
use Rattle.site_recovery.specs.Looks.{world_of}
use Rattle.site_recovery.proofs.Worlds.{steps_keep_the_fit, sends_keep_the_fit, fewer_frames_fit}
use Rattle.keeper_core.specs.Keeping.{IsAfter}
use Rattle.wire_core.specs.Fitting.{RecordsFit}
use Rattle.wire_core.specs.Frames.{DeliversOneOf}
use Rattle.wire_core.specs.Laws.{MarksKeepTheFit, PostsKeepTheFit, FewerSentFit}
use Rattle.wire_core.proofs.Lists.{within, index_is}

pub marks_keep_the_fit : MarksKeepTheFit
marks_keep_the_fit records sent s input next fit small delivers after =
    let k = steps_keep_the_fit records sent s input after.0 next fit.places fit.fits small delivers after.1 in
    record { places = k.1; fits = k.0.fits }

pub posts_keep_the_fit : PostsKeepTheFit
posts_keep_the_fit records sent s f fit small emitted = record { places = fit.places; fits = sends_keep_the_fit records sent s f fit.places fit.fits small emitted }

pub fewer_fit : FewerSentFit
fewer_fit records sent fewer fit sub = record { places = fit.places; fits = fewer_frames_fit records sent fewer fit.fits sub }

record_at : (rs : List Record) (s : ℕ) (r : Record) → get_elem? rs s ≡ some r → world_of rs s ≡ r
record_at rs s r at = index_is rs s r (fresh [] s) at

-- a step of one site, on a frame that was sent
pub one_step : (rs : List Record) (sent : List Frame) (s : ℕ) (r : Record) (input : SiteInput) (new : Record) → RecordsFit rs sent → get_elem? rs s ≡ some r → IsAfter r input new → DeliversOneOf sent input → RecordsFit (set rs s new) sent
one_step rs sent s r input new fit at after delivers =
    marks_keep_the_fit rs sent s input new fit (within rs s r at) delivers (subst (λ x. IsAfter x input new) (sym (record_at rs s r at)) after)
