-- What there is to capture the events by which a site closes its packed gaps.
use Rattle.std.specs.Prelude.{ℕ, List, ◌++◌, Contains}
use Rattle.std.specs.List.{AllZip}
use Rattle.event_json.specs.Events.{Content}
use Rattle.trace_core.specs.Gaps.{Place, HasCapturedKnown, HasClosed, IsPackedGap, by_known}
use Rattle.trace_core.specs.Sites.{SiteEvents}
use Rattle.gap_core.specs.GapPacks.{ClosesGap}

-- an event of one of the sites that closes a gap of this one
pub record IsClosingEvent (sites : List SiteEvents) (s : SiteEvents) (e : Content) : Type 0 where
  pub packer : SiteEvents
  pub listed : Contains sites packer
  pub captured : Contains packer.events e
  pub container : List ℕ
  pub closes : ClosesGap sites packer s container e.body

-- the site once it has captured these, too
abbrev pub with_more : SiteEvents → List Content → SiteEvents
with_more s more = record { me = s.me; events = s.events ++ more }

-- A site that captures some of these events captures what is known there. Once it has captured all of them its gaps are closed, and none
-- is left, whatever the other sites captured of what is known at them.
abbrev pub CapturedPacksClose : Type 0
CapturedPacksClose =
    (sites : List SiteEvents) (s : SiteEvents) (more : List Content) → Contains sites s → ((e : Content) → Contains more e → IsClosingEvent sites s e)
    → HasCapturedKnown sites s (with_more s more)
    × (((e : Content) → IsClosingEvent sites s e → Contains more e)
    → HasClosed sites s (with_more s more)
    × ((others : List SiteEvents) → AllZip (HasCapturedKnown sites) sites others
    → (parent child : List ℕ) (to : Place) → IsPackedGap (by_known others) (with_more s more) parent child to → ⊥))
