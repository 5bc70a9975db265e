-- Two records with the same rows are one.
use Rattle.std.proofs.Common.{◌≡◌, ℕ, All, length, List, [], ◌∷◌, sym, ap, subst, ◌∙◌}
use Rattle.std.specs.List.{enumerate_from, flat_map}
use Rattle.event_json.specs.Events.{Content}
use Rattle.event_json.specs.Sites.{Site, ShipsAmong}
use Rattle.site_core.specs.Records.{Record}
use Rattle.site_rows.specs.declared.address_rows.Address.{Address}
use Rattle.site_rows.specs.declared.rows.AddressRow.{AddressRow}
use Rattle.site_rows.specs.declared.rows.StoreRow.{StoreRow}
use Rattle.site_rows.specs.declared.rows.Rows.{Rows}
use Rattle.site_rows.specs.Laws.{IsKept}
use Rattle.site_rows.specs.declared.tables.Version.{Version}
use Rattle.site_rows.specs.RecordRows.{address_row, outbox_row, seen_row, parent_row, recall_row, store_row, rows_under, parts_of, addresses_of}
use Rattle.site_rows.proofs.SameEvents.{same_events}
use Rattle.site_rows.proofs.SameQuarantines.{same_quarantine}
use Rattle.site_rows.proofs.SameRecalls.{same_map_rows, same_number, outbox_row_same, seen_row_same, parent_row_same, recall_row_same}
use Rattle.site_rows.proofs.SameSites.{names_tell, same_names, same_site_lists}

address_row_same : (a b : List ℕ × Address) → address_row a ≡ address_row b → a ≡ b
address_row_same a b is =
    let text = ap (λ (r : AddressRow). r.text) is in
    let site = same_number a.1.site b.1.site (ap (λ (r : AddressRow). r.site) is) in
    let place = same_number a.1.place b.1.place (ap (λ (r : AddressRow). r.place) is) in
    λ i. (text i, record { site = site i; place = place i })

module _ (v : Version) (s t : Record) (hs : IsKept s) (ht : IsKept t) (e : rows_under v s ≡ rows_under v t) where
  sites : s.sites ≡ t.sites
  sites =
      let names = same_names 0 s.sites t.sites (ap (λ (r : Rows). r.site) e) in
      let addresses = same_map_rows address_row address_row_same (addresses_of s.sites) (addresses_of t.sites) (ap (λ (r : Rows). r.address) e) in
      same_site_lists s.sites t.sites hs.sites ht.sites names addresses

  store : store_row v s ≡ store_row v t
  store = let both : store_row v s ∷ [] ≡ store_row v t ∷ [] = ap (λ (r : Rows). r.store) e in cc

  events : s.captured.events ≡ t.captured.events
  events =
      let ships = λ (sites : List Site) (es : List Content). All (λ c. ShipsAmong (length sites) c.body) es in
      let parts : flat_map (parts_of s.sites) (enumerate_from 1 s.captured.events) ≡ flat_map (parts_of s.sites) (enumerate_from 1 t.captured.events) =
      ap (λ (r : Rows). r.part) e ∙ ap (λ (ss : List Site). flat_map (parts_of ss) (enumerate_from 1 t.captured.events)) (sym sites) in
      same_events s.sites (names_tell s.sites hs.sites) 1 s.captured.events t.captured.events hs.sound.events
      (subst (λ (ss : List Site). ships ss t.captured.events) (sym sites) ht.sound.events) (ap (λ (r : Rows). r.event) e) parts (ap (λ (r : Rows). r.pack) e) (ap (λ (r : Rows). r.packed) e)

  quarantine : s.quarantine ≡ t.quarantine
  quarantine = same_quarantine s.quarantine t.quarantine hs.sound.no_empty_set ht.sound.no_empty_set (ap (λ (r : Rows). r.quarantine) e)

  me : s.engagement.me ≡ t.engagement.me
  me = same_number _ _ (ap (λ (r : StoreRow). r.me) store)

  engagement : s.engagement ≡ t.engagement
  engagement =
      let outbox = same_map_rows outbox_row outbox_row_same s.engagement.outbox t.engagement.outbox (ap (λ (r : Rows). r.outbox) e) in
      let seen = same_map_rows seen_row seen_row_same s.engagement.seen t.engagement.seen (ap (λ (r : Rows). r.seen) e) in
      let parents = same_map_rows parent_row parent_row_same s.engagement.parents t.engagement.parents (ap (λ (r : Rows). r.parent) e) in
      let own = same_map_rows recall_row recall_row_same s.engagement.own t.engagement.own (ap (λ (r : Rows). r.recall) e) in
      let next_message = same_number _ _ (ap (λ (r : StoreRow). r.next_message) store) in
      let next_recall = same_number _ _ (ap (λ (r : StoreRow). r.next_recall) store) in
      λ i. record { me = me i; outbox = outbox i; seen = seen i; parents = parents i; own = own i; next_message = next_message i; next_recall = next_recall i }

  captured : s.captured ≡ t.captured
  captured =
      let site : s.captured.me ≡ t.captured.me = hs.sound.one_site ∙ me ∙ sym ht.sound.one_site in
      λ i. record { me = site i; events = events i }

pub same_record : (v : Version) (s t : Record) → IsKept s → IsKept t → rows_under v s ≡ rows_under v t → s ≡ t
same_record v s t hs ht e =
    let one = sites v s t hs ht e in
    let two = captured v s t hs ht e in
    let three = quarantine v s t hs ht e in
    let four = engagement v s t hs ht e in
    λ i. record { sites = one i; captured = two i; quarantine = three i; engagement = four i }
