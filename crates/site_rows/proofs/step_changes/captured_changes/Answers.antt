use Rattle.std.proofs.Common.{◌≡◌, ◌+◌, None, length, drop, map, flat_map, ◌∙◌, subst}
use Rattle.std.specs.List.{enumerate_from}
use Rattle.event_json.specs.Events.{Content}
use Rattle.trace_core.specs.Sites.{SiteEvents}
use Rattle.site_rows.specs.RecordRows.{children_of, event_row, packs_of, parts_of}
use Rattle.site_rows.proofs.StepsLead.{capture_leads, capture_sites}
use Rattle.site_rows.specs.EventTexts.{EachFrom, HasPlainIds, HasParts, HasParent, HasChildren}
use Rattle.site_rows.proofs.EventsShown.{events_shown}
use Rattle.site_rows.proofs.step_changes.captured_changes.Goals as goal

pub returns-clause-changes : goal.returns-clause-changes
returns-clause-changes c = λ s bytes told does from.
    let t = c.args.new.now in
    let old = length s.captured.events in
    let sites = c.sites.ensures ∙ capture_sites s t bytes told does in
    let events : c.in_ok-event.event ≡ map event_row (enumerate_from (old + 1) (drop old t.captured.events)) =
    c.in_ok-event.ensures.rows ∙ (λ i. map event_row (enumerate_from (from i + 1) (drop (from i) (c.captured.ensures i).events))) in
    let parts : c.in_ok-part.part ≡ flat_map (parts_of s.sites) (enumerate_from (old + 1) (drop old t.captured.events)) =
    c.in_ok-part.ensures.rows ∙ (λ i. flat_map (parts_of (sites i)) (enumerate_from (from i + 1) (drop (from i) (c.captured-2.ensures i).events))) in
    let packs : c.in_ok-pack.pack ≡ flat_map packs_of (enumerate_from (old + 1) (drop old t.captured.events)) =
    c.in_ok-pack.ensures.rows ∙ (λ i. flat_map packs_of (enumerate_from (from i + 1) (drop (from i) (c.captured-3.ensures i).events))) in
    let children : c.in_ok-packed.packed ≡ flat_map children_of (enumerate_from (old + 1) (drop old t.captured.events)) =
    c.in_ok-packed.ensures.rows ∙ (λ i. flat_map children_of (enumerate_from (from i + 1) (drop (from i) (c.captured-4.ensures i).events))) in
    capture_leads s t bytes told does _ (λ i. record {
      event = events i;
      part = parts i;
      pack = packs i;
      packed = children i;
      quarantine = c.new.ensures i;
      outbox = c.new-2.ensures i;
      seen = c.new-3.ensures i;
      parent = c.new-4.ensures i;
      signalled = c.new-5.ensures i;
      left = c.new-6.ensures i;
      recall = c.new-7.ensures i;
      numbers = None;
    })

pub returns-clause-events : goal.returns-clause-events
returns-clause-events c =
    let t = c.args.new.now in
    let from = c.args.from in
    let each : (P : Content → Type 0) (captured : SiteEvents) → captured ≡ t.captured → EachFrom P from captured.events → EachFrom P from t.captured.events =
    (λ P captured same all. subst (λ (x : SiteEvents). EachFrom P from x.events) same all) in
    events_shown (length t.sites) from t.captured.events c.me-me.ensures.sound.events
    (each HasPlainIds _ c.captured.ensures c.in_ok-event.ensures.ids)
    (each (λ e. HasParts e.body) _ c.captured-2.ensures c.in_ok-part.ensures.parts)
    (each (λ e. HasParent e.body) _ c.captured-3.ensures c.in_ok-pack.ensures.parents)
    (each (λ e. HasChildren e.body) _ c.captured-4.ensures c.in_ok-packed.ensures.children)
