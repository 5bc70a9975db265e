-- The tables that were read have no bad row.
use Rattle.std.proofs.Common.{◌≡◌, ℕ, List, ◌∷◌, [], ◌++◌, length, map, Some, refl, sym, subst}
use Rattle.std.specs.Prelude.{IsSome}
use Rattle.std.specs.Cmp as Cmp
use Rattle.std.specs.FinMap.{FinMap, entries, get}
use Rattle.std.specs.List.{All, enumerate_from, flat_map}
use Rattle.std.specs.Ordering.{nat_cmp}
use Rattle.site_rows.specs.Texts.{IsItemText}
use Rattle.event_json.specs.Events.{Content}
use Rattle.event_json.specs.Sites.{AreSites, Site}
use Rattle.frame_core.specs.Identifiers.{message_cmp, recall_cmp}
use Rattle.frame_core.specs.Numbers.{Message, Recall}
use Rattle.frame_core.specs.Orders.{message_total, recall_total}
use Rattle.frame_core.specs.declared.rows.Row.{Row}
use Rattle.site_core.specs.Quarantines.{Quarantine}
use Rattle.site_core.specs.Records.{IsMessageAmong, IsRecallAmong, IsRowAmong}
use Rattle.site_rows.specs.BadAddresses.{IsAddressTable}
use Rattle.site_rows.specs.BadEvents.{IsEventTable}
use Rattle.site_rows.specs.BadParts.{IsPackTable, IsPackedTable, IsPartTable, site_of_row}
use Rattle.site_rows.specs.BadRows.{AreOfMap, IsOutboxEntry, IsParentEntry, IsQuarantineTable, IsSeenEntry, IsSiteTable, IsStore, IsStoreTable}
use Rattle.site_rows.specs.Laws.{HasTexts, HoldsKeys, IsEventAmong}
use Rattle.site_rows.specs.ReadRows.{AreGoodBefore, HasNoBadRow, HaveNoBadRow}
use Rattle.site_rows.specs.RecordRows.{address_row, addresses_of, children_of, event_row, kinds_under, outbox_row, pack_rows, packed_rows, packs_of, parent_row, parts_of, quarantine_rows, seen_row, site_row}
use Rattle.site_rows.specs.declared.reading_sites.StoreNumbers.{StoreNumbers}
use Rattle.site_rows.specs.declared.rows.EventRow.{EventRow}
use Rattle.site_rows.specs.declared.rows.Rows.{Rows}
use Rattle.site_rows.specs.declared.rows.SiteRow.{SiteRow}
use Rattle.site_rows.specs.declared.rows.StoreRow.{StoreRow}
use Rattle.site_rows.specs.declared.tables.Table.{Table}
use Rattle.site_rows.specs.declared.tables.Table.TheVariants.{Store, Site as SiteTable, Address, Event, Part, Pack, Packed, Quarantine as QuarantineTable, Outbox, Seen, Parent, Recall as RecallTable}
use Rattle.site_rows.proofs.GoodAddresses.{good_addresses}
use Rattle.site_rows.proofs.GoodRows.{map_stands, none_bad, packs_stand, parts_stand, quarantine_stands}
use Rattle.site_rows.proofs.ReadFaults.{as_many_sites, names_of_rows, sites_of_rows, table_alike}

module _ (rows : Rows) where
  -- ---- which tables come before one
  pub before_store : AreGoodBefore rows Store
  before_store = ([], _, refl, tt)

  pub before_site : HaveNoBadRow rows (Store ∷ []) → AreGoodBefore rows SiteTable
  before_site good = (Store ∷ [], _, refl, good)

  pub before_address : HaveNoBadRow rows (Store ∷ []) → HasNoBadRow rows SiteTable → AreGoodBefore rows Address
  before_address good sites = (Store ∷ SiteTable ∷ [], _, refl, (good.0, (sites, tt)))

  pub before_event : HaveNoBadRow rows (Store ∷ SiteTable ∷ Address ∷ []) → AreGoodBefore rows Event
  before_event good = (Store ∷ SiteTable ∷ Address ∷ [], _, refl, good)

  pub before_part : HaveNoBadRow rows (Store ∷ SiteTable ∷ Address ∷ []) → HasNoBadRow rows Event → AreGoodBefore rows Part
  before_part good events = (Store ∷ SiteTable ∷ Address ∷ Event ∷ [], _, refl, (good.0, (good.1.0, (good.1.1.0, (events, tt)))))

  -- those of the sites and of the events
  abbrev pub Four : Type 0
  Four = HaveNoBadRow rows (Store ∷ SiteTable ∷ Address ∷ Event ∷ [])

  pub four_good : HaveNoBadRow rows (Store ∷ SiteTable ∷ Address ∷ []) → HasNoBadRow rows Event → Four
  four_good good events = (good.0, (good.1.0, (good.1.1.0, (events, tt))))

  pub before_pack : Four → HasNoBadRow rows Part → AreGoodBefore rows Pack
  before_pack good part = (Store ∷ SiteTable ∷ Address ∷ Event ∷ Part ∷ [], _, refl, (good.0, (good.1.0, (good.1.1.0, (good.1.1.1.0, (part, tt))))))

  pub before_packed : Four → HasNoBadRow rows Part → HasNoBadRow rows Pack → AreGoodBefore rows Packed
  before_packed good part pack = (Store ∷ SiteTable ∷ Address ∷ Event ∷ Part ∷ Pack ∷ [], _, refl, (good.0, (good.1.0, (good.1.1.0, (good.1.1.1.0, (part, (pack, tt)))))))

  -- and of their lists
  abbrev Seven : Type 0
  Seven = HaveNoBadRow rows (Store ∷ SiteTable ∷ Address ∷ Event ∷ Part ∷ Pack ∷ Packed ∷ [])

  pub seven_good : HasNoBadRow rows Store → HasNoBadRow rows SiteTable × HasNoBadRow rows Address → HaveNoBadRow rows (Event ∷ Part ∷ Pack ∷ Packed ∷ []) → Seven
  seven_good store sites events = (store, (sites.0, (sites.1, events)))

  pub before_quarantine : Seven → AreGoodBefore rows QuarantineTable
  before_quarantine good = (Store ∷ SiteTable ∷ Address ∷ Event ∷ Part ∷ Pack ∷ Packed ∷ [], _, refl, good)

  abbrev Eight : Type 0
  Eight = HaveNoBadRow rows (Store ∷ SiteTable ∷ Address ∷ Event ∷ Part ∷ Pack ∷ Packed ∷ QuarantineTable ∷ [])

  pub before_outbox : Eight → AreGoodBefore rows Outbox
  before_outbox good = (Store ∷ SiteTable ∷ Address ∷ Event ∷ Part ∷ Pack ∷ Packed ∷ QuarantineTable ∷ [], _, refl, good)

  -- one table more
  more_good : (tables : List Table) (table : Table) → HaveNoBadRow rows tables → HasNoBadRow rows table → HaveNoBadRow rows (tables ++ table ∷ [])
  more_good [] table good one = (one, tt)
  more_good (t ∷ tables) table good one = (good.0, more_good tables table good.1 one)

  -- the tables before those of messages and recalls
  abbrev eight : List Table
  eight = Store ∷ SiteTable ∷ Address ∷ Event ∷ Part ∷ Pack ∷ Packed ∷ QuarantineTable ∷ []

  with_outbox : Eight → HasNoBadRow rows Outbox → HaveNoBadRow rows (eight ++ Outbox ∷ [])
  with_outbox good outbox = more_good eight Outbox good outbox

  with_seen : Eight → HasNoBadRow rows Outbox → HasNoBadRow rows Seen → HaveNoBadRow rows ((eight ++ Outbox ∷ []) ++ Seen ∷ [])
  with_seen good outbox seen = more_good (eight ++ Outbox ∷ []) Seen (with_outbox good outbox) seen

  pub before_seen : Eight → HasNoBadRow rows Outbox → AreGoodBefore rows Seen
  before_seen good outbox = (eight ++ Outbox ∷ [], _, refl, with_outbox good outbox)

  pub before_parent : Eight → HasNoBadRow rows Outbox → HasNoBadRow rows Seen → AreGoodBefore rows Parent
  before_parent good outbox seen = ((eight ++ Outbox ∷ []) ++ Seen ∷ [], _, refl, with_seen good outbox seen)

  pub before_recall : Eight → HasNoBadRow rows Outbox → HasNoBadRow rows Seen → HasNoBadRow rows Parent → AreGoodBefore rows RecallTable
  before_recall good outbox seen parents =
      (((eight ++ Outbox ∷ []) ++ Seen ∷ []) ++ Parent ∷ [], _, refl, more_good ((eight ++ Outbox ∷ []) ++ Seen ∷ []) Parent (with_seen good outbox seen) parents)

  -- ---- that each is good
  pub good_store : (sites : List SiteRow) (stores : List StoreRow) (n : StoreNumbers) → sites ≡ rows.site → stores ≡ rows.store → IsStore rows.version sites stores n → HasNoBadRow rows Store
  good_store sites stores n same here is = λ place bad.
      none_bad (IsStoreTable rows.version rows.site) rows.store place (subst (λ t. IsStoreTable rows.version rows.site t) here (subst (λ ss. IsStoreTable rows.version ss stores) same (n, is))) bad

  pub good_sites : (sites : List Site) → rows.site ≡ map site_row (enumerate_from 0 sites) → AreSites sites → HasNoBadRow rows SiteTable
  good_sites sites is are = λ place bad. none_bad IsSiteTable rows.site place (sites, are, is) bad

  pub good_address : (sites : List Site) → rows.site ≡ map site_row (enumerate_from 0 sites) → rows.address ≡ map address_row (entries (addresses_of sites)) → AreSites sites → All HasTexts sites → HasNoBadRow rows Address
  good_address sites is there are texts = λ place bad.
      bad.bad (subst (IsAddressTable (length rows.site)) (sym there) (subst (λ n. IsAddressTable n (map address_row (entries (addresses_of sites)))) (as_many_sites sites rows.site is) (good_addresses sites are texts)) bad.before bad.row bad.there)

  pub good_events : (kinds : ℕ) (table : List EventRow) → kinds ≡ kinds_under rows.version → table ≡ rows.event → IsEventTable kinds table → HasNoBadRow rows Event
  good_events kinds table many same stand = λ place bad.
      bad.bad (subst (IsEventTable (kinds_under rows.version)) same (subst (λ n. IsEventTable n table) many stand) bad.before bad.row bad.there)

  pub good_parts : (sites : List Site) (es : List Content) → rows.site ≡ map site_row (enumerate_from 0 sites) → rows.event ≡ map event_row (enumerate_from 1 es)
      → rows.part ≡ flat_map (parts_of sites) (enumerate_from 1 es) → All (IsEventAmong (length sites)) es → HasNoBadRow rows Part
  good_parts sites es is events parts among = λ place bad.
      let stand = parts_stand sites es among in
      let of_sites = subst (λ ss. IsPartTable (map site_of_row ss) (map event_row (enumerate_from 1 es)) (flat_map (parts_of sites) (enumerate_from 1 es))) (sym is) stand in
      let of_events = subst (λ xs. IsPartTable (map site_of_row rows.site) xs (flat_map (parts_of sites) (enumerate_from 1 es))) (sym events) of_sites in
      none_bad (IsPartTable (map site_of_row rows.site) rows.event) rows.part place (subst (IsPartTable (map site_of_row rows.site) rows.event) (sym parts) of_events) bad

  -- the tables of lists stand
  pub part_good : (sites : List Site) → rows.site ≡ map site_row (enumerate_from 0 sites) → IsPartTable sites rows.event rows.part → HasNoBadRow rows Part
  part_good sites is stand = λ place bad.
      let read : List Site = map site_of_row (map site_row (enumerate_from 0 sites)) in
      let here = table_alike sites read (λ t. sym (names_of_rows 0 sites t)) (sym (sites_of_rows 0 sites)) rows.event rows.part stand in
      none_bad (IsPartTable (map site_of_row rows.site) rows.event) rows.part place (subst (λ ss. IsPartTable (map site_of_row ss) rows.event rows.part) (sym is) here) bad

  pub pack_good : (sites : List Site) → rows.site ≡ map site_row (enumerate_from 0 sites) → IsPackTable (length sites) rows.event rows.pack → HasNoBadRow rows Pack
  pack_good sites is stand = λ place bad.
      none_bad (IsPackTable (length rows.site) rows.event) rows.pack place (subst (λ n. IsPackTable n rows.event rows.pack) (as_many_sites sites rows.site is) stand) bad

  pub packed_good : (sites : List Site) → rows.site ≡ map site_row (enumerate_from 0 sites) → IsPackedTable (length sites) rows.event rows.packed → HasNoBadRow rows Packed
  packed_good sites is stand = λ place bad.
      none_bad (IsPackedTable (length rows.site) rows.event) rows.packed place (subst (λ n. IsPackedTable n rows.event rows.packed) (as_many_sites sites rows.site is) stand) bad

  -- those of the events of a record do
  pub lists_good : (sites : List Site) (es : List Content) → rows.site ≡ map site_row (enumerate_from 0 sites) → rows.event ≡ map event_row (enumerate_from 1 es)
      → rows.part ≡ flat_map (parts_of sites) (enumerate_from 1 es) → rows.pack ≡ flat_map packs_of (enumerate_from 1 es) → rows.packed ≡ flat_map children_of (enumerate_from 1 es)
      → All (IsEventAmong (length sites)) es → HasNoBadRow rows Event → HaveNoBadRow rows (Event ∷ Part ∷ Pack ∷ Packed ∷ [])
  lists_good sites es is events parts packs children among event =
      let n = length sites in
      let pack = subst (IsPackTable n rows.event) (sym packs) (subst (λ xs. IsPackTable n xs (flat_map packs_of (enumerate_from 1 es))) (sym events) (packs_stand pack_rows n es among)) in
      let packed = subst (IsPackedTable n rows.event) (sym children) (subst (λ xs. IsPackedTable n xs (flat_map children_of (enumerate_from 1 es))) (sym events) (packs_stand packed_rows n es among)) in
      (event, (good_parts sites es is events parts among, (pack_good sites is pack, (packed_good sites is packed, tt))))

  pub good_quarantine : (n : ℕ) (q : Quarantine) → n ≡ length rows.site → rows.quarantine ≡ flat_map quarantine_rows (entries q)
      → ((r : Recall) → IsSome (get q r) → IsRecallAmong n r) → HoldsKeys q → HasNoBadRow rows QuarantineTable
  good_quarantine n q size is among holds = λ place bad.
      let stand = subst (λ k. IsQuarantineTable k (flat_map quarantine_rows (entries q))) size (quarantine_stands n q among holds) in
      none_bad (IsQuarantineTable (length rows.site)) rows.quarantine place (subst (IsQuarantineTable (length rows.site)) (sym is) stand) bad

  -- ---- the tables of maps
  pub good_outbox : (n : ℕ) (m : FinMap nat_cmp Row) → n ≡ length rows.site → rows.outbox ≡ map outbox_row (entries m)
      → ((k : ℕ) (row : Row) → get m k ≡ Some row → IsRowAmong n k row × IsItemText row.item) → HasNoBadRow rows Outbox
  good_outbox n m size is among = λ place bad.
      let stand = map_stands (IsOutboxEntry n) Cmp.nat_cmp_total outbox_row m (λ k v at. record { same = refl; among = (among k v at).0; item = (among k v at).1 }) in
      let sized = subst (λ j. AreOfMap nat_cmp (IsOutboxEntry j) (map outbox_row (entries m))) size stand in
      none_bad (AreOfMap nat_cmp (IsOutboxEntry (length rows.site))) rows.outbox place (subst (AreOfMap nat_cmp (IsOutboxEntry (length rows.site))) (sym is) sized) bad

  pub good_seen : (n : ℕ) (m : FinMap message_cmp Recall) → n ≡ length rows.site → rows.seen ≡ map seen_row (entries m)
      → ((k : Message) (r : Recall) → get m k ≡ Some r → IsMessageAmong n k × IsRecallAmong n r) → HasNoBadRow rows Seen
  good_seen n m size is among = λ place bad.
      let stand = map_stands (IsSeenEntry n) message_total seen_row m (λ k v at. record { same = refl; message = (among k v at).0; recall = (among k v at).1 }) in
      let sized = subst (λ j. AreOfMap message_cmp (IsSeenEntry j) (map seen_row (entries m))) size stand in
      none_bad (AreOfMap message_cmp (IsSeenEntry (length rows.site))) rows.seen place (subst (AreOfMap message_cmp (IsSeenEntry (length rows.site))) (sym is) sized) bad

  pub good_parents : (n : ℕ) (m : FinMap recall_cmp Message) → n ≡ length rows.site → rows.parent ≡ map parent_row (entries m)
      → ((r : Recall) (k : Message) → get m r ≡ Some k → IsRecallAmong n r × IsMessageAmong n k) → HasNoBadRow rows Parent
  good_parents n m size is among = λ place bad.
      let stand = map_stands (IsParentEntry n) recall_total parent_row m (λ k v at. record { same = refl; recall = (among k v at).0; message = (among k v at).1 }) in
      let sized = subst (λ j. AreOfMap recall_cmp (IsParentEntry j) (map parent_row (entries m))) size stand in
      none_bad (AreOfMap recall_cmp (IsParentEntry (length rows.site))) rows.parent place (subst (AreOfMap recall_cmp (IsParentEntry (length rows.site))) (sym is) sized) bad
