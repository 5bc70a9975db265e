-- Items that lie in a container which was taken into a transformation, and that weren't taken in with it.
use Rattle.std.specs.Prelude.{◌≡◌, ℕ, List, [], Some, Any, Contains, slice_get}
use Rattle.event_json.specs.Events.{Content}
use Rattle.event_json.specs.declared.bodies.Body.{Body}
use Rattle.event_json.specs.declared.bodies.Body.TheVariants.{Note, Ship, Make, Pack}
use Rattle.trace_core.specs.Gaps.{by_known}
use Rattle.trace_core.specs.Groups.{IsPartOf}
use Rattle.trace_core.specs.Pairs.{AreOneMake, TakesIn}
use Rattle.trace_core.specs.Relations.{Reaches}
use Rattle.trace_core.specs.Sites.{SiteEvents}
use Rattle.gap_core.specs.declared.gap_items.GapItem.{GapItem}

-- the event, or another part of its transformation, takes the item in
abbrev pub IsTakenWith : List Content → Content → List ℕ → Type 0
IsTakenWith events event item = Any (λ e. TakesIn item e.body × AreOneMake e event) events

-- the container goes into the transformation of one of the site's events, the item is known to lie in it, and doesn't go in
pub record IsUsedChild (sites : List SiteEvents) (g : GapItem) : Type 0 where
  pub site : SiteEvents
  pub there : Contains sites site
  pub number : site.me ≡ g.site
  pub itself : g.by ≡ g.site
  pub event : Content
  pub captured : Contains site.events event
  pub taken : IsTakenWith site.events event g.container
  pub inside : Reaches (by_known sites site) g.container g.child
  pub left : IsTakenWith site.events event g.child → ⊥

-- ---- place by place

-- so with the event at a place
abbrev pub IsTakenAt : List Content → ℕ → List ℕ → Type 0
IsTakenAt events place item = (f : Content) × (slice_get events place ≡ Some f) × IsTakenWith events f item

-- the items that an event takes in
abbrev pub taken_in : Body → List (List ℕ)
taken_in (Note items) = []
taken_in (Ship items sites outside) = []
taken_in (Make id ins outs) = ins
taken_in (Pack action parent children) = []

-- the event at the place takes the item in
abbrev pub IsTakenOnce : List Content → ℕ → List ℕ → Type 0
IsTakenOnce events place item = (e : Content) × (slice_get events place ≡ Some e) × Contains (taken_in e.body) item

-- an item that isn't among the inputs
abbrev pub IsLeftOf : ℕ → List ℕ → List (List ℕ) → List ℕ → GapItem → Type 0
IsLeftOf site container inputs item g =
    (Contains inputs item → ⊥) × (record { site = site; container = container; by = site; child = item } ≡ g)

-- at the site of a place, an item that lies in the container and isn't among the inputs
pub record IsLeft (sites : List SiteEvents) (at : ℕ) (inputs : List (List ℕ)) (container : List ℕ) (g : GapItem) : Type 0 where
  pub site : SiteEvents
  pub there : slice_get sites at ≡ Some site
  pub number : site.me ≡ g.site
  pub itself : g.by ≡ g.site
  pub of : container ≡ g.container
  pub inside : Reaches (by_known sites site) container g.child
  pub left : Contains inputs g.child → ⊥

-- so of the transformation of the event at a place
pub record IsUsedWith (sites : List SiteEvents) (at place : ℕ) (g : GapItem) : Type 0 where
  pub site : SiteEvents
  pub there : slice_get sites at ≡ Some site
  pub number : site.me ≡ g.site
  pub itself : g.by ≡ g.site
  pub taken : IsTakenAt site.events place g.container
  pub inside : Reaches (by_known sites site) g.container g.child
  pub left : IsTakenAt site.events place g.child → ⊥

-- if it is the first part
abbrev pub IsUsedFirst : List SiteEvents → ℕ → ℕ → GapItem → Type 0
IsUsedFirst sites at place g = ((s : SiteEvents) × (slice_get sites at ≡ Some s) × IsPartOf s.events place place) × IsUsedWith sites at place g

-- of one of the site's events
abbrev pub IsUsedAt : List SiteEvents → ℕ → GapItem → Type 0
IsUsedAt sites at g = (place : ℕ) × IsUsedWith sites at place g
