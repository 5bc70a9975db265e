-- Events that the rows of all tables show to be events.
use Rattle.std.proofs.Common.{ℕ, List, All}
use Rattle.event_json.specs.Events.{Content}
use Rattle.event_json.specs.Sites.{ShipsAmong}
use Rattle.event_json.specs.declared.bodies.Body.{Body}
use Rattle.event_json.specs.declared.bodies.Body.TheVariants.{Note, Ship, Make, Pack}
use Rattle.site_core.proofs.EventsAmong.{passes_at}
use Rattle.site_rows.specs.BadParts.{AreMembers}
use Rattle.site_rows.specs.EventTexts.{EachFrom, HasPlainIds, HasParts, HasParent, HasChildren}
use Rattle.site_rows.specs.Laws.{IsEventAmong}

members_shown : (sites : ℕ) (body : Body) → ShipsAmong sites body → HasParts body → HasParent body → HasChildren body → AreMembers sites body
members_shown sites (Note items) ships parts parent children = parts
members_shown sites (Ship items to outside) ships parts parent children = (parts.0, ships, parts.1)
members_shown sites (Make id ins outs) ships parts parent children = parts
members_shown sites (Pack action parent children) ships parts is_item are_items = (is_item, are_items)

pub events_shown : (sites from : ℕ) (events : List Content) → All (λ e. ShipsAmong sites e.body) events → EachFrom HasPlainIds from events
    → EachFrom (λ e. HasParts e.body) from events → EachFrom (λ e. HasParent e.body) from events → EachFrom (λ e. HasChildren e.body) from events
    → EachFrom (IsEventAmong sites) from events
events_shown sites from events ships ids parts parents children place e low at =
    let own = ids place e low at in
    record {
      identifier = own.identifier;
      make_id = own.make_id;
      limits = own.limits;
      members = members_shown sites e.body (passes_at (λ (x : Content). ShipsAmong sites x.body) events place ships e at) (parts place e low at) (parents place e low at) (children place e low at);
    }
