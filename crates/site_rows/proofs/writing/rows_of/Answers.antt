use Rattle.std.proofs.Common.{◌≡◌, All, length, subst}
use Rattle.event_json.specs.Events.{Content}
use Rattle.trace_core.specs.Sites.{SiteEvents}
use Rattle.site_rows.specs.EventTexts.{EachFrom, HasPlainIds, HasParts, HasParent, HasChildren}
use Rattle.site_rows.specs.Laws.{HasTexts, HoldsKeys, IsEventAmong}
use Rattle.site_rows.proofs.EventsShown.{events_shown}
use Rattle.site_rows.proofs.FromPlaces.{all_each}
use Rattle.site_rows.proofs.writing.rows_of.Goals as goal

pub returns-clause-items : goal.returns-clause-items
returns-clause-items c =
    let s = c.args.state.now in
    let n = length s.sites in
    let each : (P : Content → Type 0) (captured : SiteEvents) → captured ≡ s.captured → EachFrom P 0 captured.events → EachFrom P 0 s.captured.events =
    (λ P captured same all. subst (λ (x : SiteEvents). EachFrom P 0 x.events) same all) in
    let events = events_shown n 0 s.captured.events c.me.ensures.sound.events
    (each HasPlainIds _ c.captured.ensures c.in_ok-event_rows.ensures.ids)
    (each (λ e. HasParts e.body) _ c.captured-2.ensures c.in_ok-part_rows.ensures.parts)
    (each (λ e. HasParent e.body) _ c.captured-3.ensures c.in_ok-pack_rows.ensures.parents)
    (each (λ e. HasChildren e.body) _ c.captured-4.ensures c.in_ok-packed_rows.ensures.children) in
    record {
      sites = subst (All HasTexts) c.sites-3.ensures c.in_ok-address_rows.ensures.texts;
      events = all_each (IsEventAmong n) s.captured.events events;
      quarantine = subst HoldsKeys c.quarantine.ensures c.in_ok-quarantine_rows.ensures.items;
      engagement = record { outbox = c.in_ok-outbox_rows.ensures.items; own = c.in_ok-recall_rows.ensures.items };
    }
