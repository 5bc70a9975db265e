-- The rows of a record stand in tables that have no bad row.
use Rattle.std.proofs.Common.{◌≡◌, ◌⊎◌, inl, inr, ℕ, zero, suc, ◌+◌, ◌-◌, ◌%◌, ◌<◌, ℤ, pos, Option, Some, None, List, [], ◌∷◌, ◌++◌, length, map, drop, refl, sym, ap, subst, ◌∙◌, arith}
use lib.IntN.{negsuc}
use Rattle.std.specs.Prelude.{IsSome, is_some}
use Rattle.std.specs.Cmp.{IsTotalOrder}
use Rattle.std.specs.Cmp as Cmp
use Rattle.std.specs.FinMap.{FinMap, entries, entries-from_sorted, from_sorted, get}
use Rattle.std.specs.Int.{int_rem_euclid}
use Rattle.std.specs.List.{All, Contains, enumerate_from, flat_map, slice_get}
use Rattle.std.specs.Ordering.{nat_cmp}
use Rattle.std.specs.declared.cmp.Ordering.{Ordering}
use Rattle.std.proofs.Math.Nat.{mod-lt}
use Rattle.std.proofs.lemmas.Bool.{cases_lt}
use Rattle.std.proofs.lemmas.List.{take-append-drop}
use Rattle.std.proofs.lemmas.List.Elements.{All-head, All-tail}
use Rattle.std.proofs.lemmas.Option.{get_or_from_slice_get}
use Rattle.site_rows.specs.Texts.{IsItemText}
use Rattle.event_json.specs.Contents.{id_of, kind_of}
use Rattle.event_json.specs.Events.{Content}
use Rattle.event_json.specs.Sites.{Site}
use Rattle.event_json.specs.declared.bodies.Body.{Body}
use Rattle.event_json.specs.declared.bodies.Body.TheVariants.{Note, Ship, Make, Pack as PackBody}
use Rattle.frame_core.specs.Identifiers.{message_cmp, recall_cmp}
use Rattle.frame_core.specs.Numbers.{Recall}
use Rattle.frame_core.specs.Orders.{message_total, recall_total}
use Rattle.trace_core.proofs.Members.{contains_here, contains_there}
use Rattle.site_core.proofs.Entries.{entry_found}
use Rattle.site_core.proofs.Places.{some_stands, stands_within}
use Rattle.site_core.specs.ItemSets as set
use Rattle.site_core.specs.Quarantines.{Items, Quarantine}
use Rattle.site_core.specs.Records.{IsRecallAmong, Record}
use Rattle.site_rows.specs.BadAddresses.{IsAddressTable}
use Rattle.site_rows.specs.BadEvents.{IsBelow, IsEvent, IsEventTable}
use Rattle.site_rows.specs.BadParts.{AreBodies, IsPackTable, IsPackedTable, IsPartTable, IsTableBy, site_of_row}
use Rattle.site_rows.specs.BadRows.{AreOfMap, IsFirstBad, IsHeldEntry, IsOutboxEntry, IsOwnEntry, IsParentEntry, IsQuarantineTable, IsSeenEntry, IsSiteTable, IsStoreTable, Match}
use Rattle.site_rows.specs.HeldItems.{all_held, held_cmp, held_of, held_under}
use Rattle.site_rows.specs.Laws.{FirstVersionHasNoPacks, HoldsItems, HoldsKeys, IsEventAmong, IsKept, RowsOfRecordsAreGood}
use Rattle.site_rows.specs.ReadRows.{IsBadRow}
use Rattle.site_rows.specs.RecordRows.{HasTables, SECOND, body_rows, event_row, kinds_under, outbox_row, pack_rows, packed_rows, packs_of, parent_row, parts_of, quarantine_row, quarantine_rows, recall_row, rows_under, seen_row, site_row, store_row}
use Rattle.site_rows.specs.declared.rows.SiteRow.{SiteRow}
use Rattle.site_rows.specs.declared.tables.Table.{Table}
use Rattle.site_rows.specs.declared.tables.Version.{Version}
use Rattle.site_rows.specs.declared.tables.Version.TheVariants.{First, Second}
use Rattle.site_rows.specs.declared.tables.Table.TheVariants.{Store, Site as SiteTable, Address, Event, Part, Pack, Packed, Quarantine as QuarantineTable, Outbox, Seen, Parent, Recall as RecallTable}
use Rattle.site_rows.proofs.HeldInTurn.{all_ascend}
use Rattle.site_rows.proofs.GoodAddresses.{any_there, good_addresses, mapped_at, numbered_there}
use Rattle.site_rows.proofs.EventsInTurn.{rows_of_events}
use Rattle.site_rows.proofs.ReadFaults.{names_of_rows, sites_of_rows, sizes, table_alike}

-- a table that stands has no first bad row
pub none_bad : {R : Type 0} (Stand : List R → Type 0) (rows : List R) (place : ℕ) → Stand rows → IsFirstBad Stand rows place → ⊥
none_bad Stand rows place stand bad = elim (cases_lt bad.before (length rows)) [
  | inl low ↦ bad.bad low (record { more = drop (bad.before + 1) rows; stand = subst Stand (sym (take-append-drop (bad.before + 1) rows)) stand })
  | inr past ↦ (bad.wanting past).1 stand
]

-- ---- sites
site_there : (n : ℕ) (sites : List Site) (k : ℕ) (site : Site) → slice_get sites k ≡ Some site → slice_get (map site_row (enumerate_from n sites)) k ≡ Some (site_row (n + k, site))
site_there n [] k site is = cc
site_there n (s ∷ sites) zero site is =
    let same : s ≡ site = cc in
    let at : n ≡ n + 0 = omega arith in
    λ i. Some (site_row (at i, same i))
site_there n (s ∷ sites) (suc k) site is = let at : n + 1 + k ≡ n + suc k = omega arith in site_there (n + 1) sites k site is ∙ ap (λ j. Some (site_row (j, site))) at

store_stands : (v : Version) (s : Record) → IsKept s → IsStoreTable v (map site_row (enumerate_from 0 s.sites)) (store_row v s ∷ [])
store_stands v s kept =
    let me = s.engagement.me in
    let site = some_stands s.sites me kept.sound.me in
    let rows = map site_row (enumerate_from 0 s.sites) in (
      record { me = me; next_message = s.engagement.next_message; next_recall = s.engagement.next_recall },
      record {
        same = refl;
        small = omega (arith, kept.sound.me, kept.sites.few);
        listed = any_there (λ (r : SiteRow). r.no ≡ pos me) rows me (site_row (0 + me, site.0)) (site_there 0 s.sites me site.0 site.1) (ap pos (omega arith));
        next_message = kept.sound.next_message;
        next_recall = kept.sound.next_recall;
      },
    )

-- ---- events
-- both parts of an empty list are empty
first_part : {X : Type 0} (xs ys : List X) → xs ++ ys ≡ [] → xs ≡ []
first_part [] ys e = refl
first_part (x ∷ xs) ys e = cc

last_part : {X : Type 0} (xs ys : List X) → xs ++ ys ≡ [] → ys ≡ []
last_part [] ys e = e
last_part (x ∷ xs) ys e = cc

pub rest_below : (t : ℤ) → (n : ℕ) × IsBelow 1_000_000_000 (int_rem_euclid t SECOND) n
rest_below (pos a) =
    let positive : 0 < 1_000_000_000 = omega arith in
    (a % 1_000_000_000, record { number = refl; below = mod-lt a positive })
rest_below (negsuc a) = (1_000_000_000 - 1 - a % 1_000_000_000, record { number = refl; below = omega arith })

kind_below : (body : Body) → (n : ℕ) × IsBelow 4 (pos (kind_of body)) n
kind_below (Note items) = (0, record { number = refl; below = omega arith })
kind_below (Ship items to outside) = (1, record { number = refl; below = omega arith })
kind_below (Make id ins outs) = (2, record { number = refl; below = omega arith })
kind_below (PackBody action parent children) = (3, record { number = refl; below = omega arith })

-- where nothing was packed there is none of the last kind
first_kinds : (event : ℕ) (body : Body) → pack_rows event body ≡ [] → (n : ℕ) × IsBelow 3 (pos (kind_of body)) n
first_kinds event (Note items) none = (0, record { number = refl; below = omega arith })
first_kinds event (Ship items to outside) none = (1, record { number = refl; below = omega arith })
first_kinds event (Make id ins outs) none = (2, record { number = refl; below = omega arith })
first_kinds event (PackBody action parent children) none = cc

none_packed : (n : ℕ) (es : List Content) (k : ℕ) (e : Content) → flat_map packs_of (enumerate_from n es) ≡ [] → slice_get es k ≡ Some e → pack_rows (n + k) e.body ≡ []
none_packed n [] k e none is = cc
none_packed n (d ∷ es) zero e none is =
    let same : d ≡ e = cc in
    let at : n ≡ n + 0 = omega arith in
    sym (λ i. pack_rows (at i) (same i).body) ∙ first_part (pack_rows n d.body) (flat_map packs_of (enumerate_from (n + 1) es)) none
none_packed n (d ∷ es) (suc k) e none is =
    let at : n + 1 + k ≡ n + suc k = omega arith in
    subst (λ j. pack_rows j e.body ≡ []) at (none_packed (n + 1) es k e (last_part (pack_rows n d.body) (flat_map packs_of (enumerate_from (n + 1) es)) none) is)

id_of_make : (body : Body) → (pos (kind_of body) ≡ pos 2) ⊎ (id_of body ≡ None)
id_of_make (Note items) = inr refl
id_of_make (Ship items to outside) = inr refl
id_of_make (Make id ins outs) = inl refl
id_of_make (PackBody action parent children) = inr refl

all_there : {X : Type 0} (P : X → Type 0) (xs : List X) (k : ℕ) (x : X) → All P xs → slice_get xs k ≡ Some x → P x
all_there P xs k x all is = subst P (get_or_from_slice_get xs k x x is) (all k x (stands_within xs k x is))

events_stand : (sites kinds : ℕ) (es : List Content) → All (IsEventAmong sites) es → ((k : ℕ) (e : Content) → slice_get es k ≡ Some e → (n : ℕ) × IsBelow kinds (pos (kind_of e.body)) n)
    → IsEventTable kinds (map event_row (enumerate_from 1 es))
events_stand sites kinds es all kind k row is =
    let p = mapped_at event_row (enumerate_from 1 es) k row is in
    let at = numbered_there 1 es k p.0 p.1 in
    let e = p.0.1 in
    let good = all_there (IsEventAmong sites) es k e all at.1 in
    let number : pos p.0.0 ≡ pos (k + 1) = ap pos (at.0 ∙ omega arith) in
    subst (IsEvent kinds k) p.2 (record {
      number = number;
      id = good.identifier;
      nanos = rest_below e.instant;
      kind = kind k e at.1;
      make_id = good.make_id;
      of_make = id_of_make e.body;
    })

bodies_of : (sites n : ℕ) (es : List Content) → All (IsEventAmong sites) es → AreBodies sites (map event_row (enumerate_from n es)) (map (λ (e : Content). e.body) es)
bodies_of sites n [] all = tt
bodies_of sites n (e ∷ es) all =
    let good = All-head (IsEventAmong sites) e es all in
    (record { of_kind = refl; of_id = refl; limits = good.limits; members = good.members }, bodies_of sites (n + 1) es (All-tail (IsEventAmong sites) e es all))

pub parts_stand : (sites : List Site) (es : List Content) → All (IsEventAmong (length sites)) es
    → IsPartTable (map site_of_row (map site_row (enumerate_from 0 sites))) (map event_row (enumerate_from 1 es)) (flat_map (parts_of sites) (enumerate_from 1 es))
parts_stand sites es all =
    let events = map event_row (enumerate_from 1 es) in
    let parts = flat_map (parts_of sites) (enumerate_from 1 es) in
    let stand : IsPartTable sites events parts = record { bodies = map (λ (e : Content). e.body) es; each = bodies_of (length sites) 1 es all; listed = rows_of_events (body_rows sites) 1 es } in
    table_alike sites (map site_of_row (map site_row (enumerate_from 0 sites))) (λ t. sym (names_of_rows 0 sites t)) (sym (sites_of_rows 0 sites)) events parts stand

-- those of packs: the events of a record have bodies
pub packs_stand : {R : Type 0} (rows_by : ℕ → Body → List R) (sites : ℕ) (es : List Content) → All (IsEventAmong sites) es
    → IsTableBy rows_by sites (map event_row (enumerate_from 1 es)) (flat_map (λ (p : ℕ × Content). rows_by p.0 p.1.body) (enumerate_from 1 es))
packs_stand rows_by sites es all = record { bodies = map (λ (e : Content). e.body) es; each = bodies_of sites 1 es all; listed = rows_of_events rows_by 1 es }

-- the events of a version: all kinds, or none that packs
pub kinds_stand : (v : Version) (sites : ℕ) (es : List Content) → All (IsEventAmong sites) es → (v ≡ First → flat_map packs_of (enumerate_from 1 es) ≡ [])
    → IsEventTable (kinds_under v) (map event_row (enumerate_from 1 es))
kinds_stand First sites es all tables = events_stand sites 3 es all (λ k e there. first_kinds (1 + k) e.body (none_packed 1 es k e (tables refl) there))
kinds_stand Second sites es all tables = events_stand sites 4 es all (λ k e there. kind_below e.body)

-- none packs just where nothing stands in the table of packs
no_last_kind : (event : ℕ) (body : Body) → pack_rows event body ≡ [] → kind_of body ≡ 3 → ⊥
no_last_kind event (Note items) none is = omega (arith, is)
no_last_kind event (Ship items to outside) none is = omega (arith, is)
no_last_kind event (Make id ins outs) none is = omega (arith, is)
no_last_kind event (PackBody action parent children) none is = cc

no_rows_of : (event : ℕ) (body : Body) → (kind_of body ≡ 3 → ⊥) → pack_rows event body ≡ []
no_rows_of event (Note items) other = refl
no_rows_of event (Ship items to outside) other = refl
no_rows_of event (Make id ins outs) other = refl
no_rows_of event (PackBody action parent children) other = absurd (other refl)

none_listed : (n : ℕ) (es : List Content) → ((k : ℕ) (e : Content) → slice_get es k ≡ Some e → kind_of e.body ≡ 3 → ⊥) → flat_map packs_of (enumerate_from n es) ≡ []
none_listed n [] others = refl
none_listed n (e ∷ es) others =
    ap (λ xs. xs ++ flat_map packs_of (enumerate_from (n + 1) es)) (no_rows_of n e.body (others 0 e refl)) ∙ none_listed (n + 1) es (λ k d there. others (suc k) d there)

pub first_version : FirstVersionHasNoPacks
first_version = λ s. (
  λ tables k e there is. no_last_kind (1 + k) e.body (none_packed 1 s.captured.events k e (tables refl) there) is,
  λ others first. none_listed 1 s.captured.events others,
)

-- ---- maps
module _ {R K V : Type 0} (Is : R → K → V → Type 0) where
  matched : (row : K × V → R) (es : List (K × V)) → ((e : K × V) → Contains es e → Is (row e) e.0 e.1) → Match Is (map row es) es
  matched row [] good = tt
  matched row (e ∷ es) good = (good e (contains_here e es), matched row es (λ d there. good d (contains_there e d es there)))

  pub map_stands : {cmp : K → K → Ordering} (o : IsTotalOrder cmp) (row : K × V → R) (m : FinMap cmp V) → ((k : K) (v : V) → get m k ≡ Some v → Is (row (k, v)) k v) → AreOfMap cmp Is (map row (entries m))
  map_stands o row m good = record { kept = m; match = matched row (entries m) (λ e there. good e.0 e.1 (entry_found o m e.0 e.1 there)) }

  match_joined : (rs qs : List R) (es ds : List (K × V)) → Match Is rs es → Match Is qs ds → Match Is (rs ++ qs) (es ++ ds)
  match_joined [] qs [] ds h k = k
  match_joined [] qs (e ∷ es) ds h k = absurd h
  match_joined (r ∷ rs) qs [] ds h k = absurd h
  match_joined (r ∷ rs) qs (e ∷ es) ds h k = (h.0, match_joined rs qs es ds h.1 k)

-- ---- the quarantine
under_matched : (sites : ℕ) (r : Recall) (items : List (List ℕ)) → IsRecallAmong sites r → All IsItemText items → Match (IsHeldEntry sites) (map (quarantine_row r) items) (map (held_of r) items)
under_matched sites r [] among all = tt
under_matched sites r (i ∷ items) among all = (record { same = refl; among = among; item = All-head IsItemText i items all }, under_matched sites r items among (All-tail IsItemText i items all))

held_matched : (sites : ℕ) (es : List (Recall × Items)) → ((e : Recall × Items) → Contains es e → IsRecallAmong sites e.0 × All IsItemText (set.items e.1))
    → Match (IsHeldEntry sites) (flat_map quarantine_rows es) (flat_map held_under es)
held_matched sites [] good = tt
held_matched sites (e ∷ es) good =
    let here = good e (contains_here e es) in
    match_joined (IsHeldEntry sites) (quarantine_rows e) (flat_map quarantine_rows es) (held_under e) (flat_map held_under es)
    (under_matched sites e.0 (set.items e.1) here.0 here.1) (held_matched sites es (λ d there. good d (contains_there e d es there)))

found : {V : Type 0} (o : Option V) (v : V) → o ≡ Some v → IsSome o
found o v is = ap is_some is

pub quarantine_stands : (sites : ℕ) (q : Quarantine) → ((r : Recall) → IsSome (get q r) → IsRecallAmong sites r) → HoldsKeys q → IsQuarantineTable sites (flat_map quarantine_rows (entries q))
quarantine_stands sites q among holds =
    let match = held_matched sites (entries q) (λ e there.
    let is = entry_found recall_total q e.0 e.1 there in
    (among e.0 (found (get q e.0) e.1 is), holds e.0 e.1 is)) in
    record {
      kept = from_sorted (all_held q);
      match = subst (Match (IsHeldEntry sites) (flat_map quarantine_rows (entries q))) (sym (entries-from_sorted held_cmp (all_held q) (all_ascend q))) match;
    }

-- ---- all tables
good_rows : (v : Version) (s : Record) → IsKept s → HoldsItems s → HasTables (rows_under v s) → (table : Table) (place : ℕ) → IsBadRow (rows_under v s) table place → ⊥
good_rows v s kept holds tables Store place bad = none_bad (IsStoreTable v (map site_row (enumerate_from 0 s.sites))) (store_row v s ∷ []) place (store_stands v s kept) bad
good_rows v s kept holds tables SiteTable place bad = none_bad IsSiteTable (map site_row (enumerate_from 0 s.sites)) place (s.sites, kept.sites, refl) bad
good_rows v s kept holds tables Address place bad = bad.bad (subst (λ m. IsAddressTable m (rows_under v s).address) (sym (sizes 0 s.sites)) (good_addresses s.sites kept.sites holds.sites) bad.before bad.row bad.there)
good_rows v s kept holds tables Event place bad = bad.bad (kinds_stand v (length s.sites) s.captured.events holds.events tables bad.before bad.row bad.there)
good_rows v s kept holds tables Part place bad = none_bad (IsPartTable (map site_of_row (rows_under v s).site) (rows_under v s).event) (rows_under v s).part place (parts_stand s.sites s.captured.events holds.events) bad
good_rows v s kept holds tables Pack place bad =
    none_bad (IsPackTable (length (rows_under v s).site) (rows_under v s).event) (rows_under v s).pack place
    (subst (λ m. IsPackTable m (rows_under v s).event (rows_under v s).pack) (sym (sizes 0 s.sites)) (packs_stand pack_rows (length s.sites) s.captured.events holds.events)) bad
good_rows v s kept holds tables Packed place bad =
    none_bad (IsPackedTable (length (rows_under v s).site) (rows_under v s).event) (rows_under v s).packed place
    (subst (λ m. IsPackedTable m (rows_under v s).event (rows_under v s).packed) (sym (sizes 0 s.sites)) (packs_stand packed_rows (length s.sites) s.captured.events holds.events)) bad
good_rows v s kept holds tables QuarantineTable place bad =
    none_bad (IsQuarantineTable (length (rows_under v s).site)) (rows_under v s).quarantine place (subst (λ m. IsQuarantineTable m (rows_under v s).quarantine) (sym (sizes 0 s.sites)) (quarantine_stands (length s.sites) s.quarantine kept.sound.quarantine holds.quarantine)) bad
good_rows v s kept holds tables Outbox place bad =
    let stand = map_stands (IsOutboxEntry (length s.sites)) Cmp.nat_cmp_total outbox_row s.engagement.outbox (λ k v is. record { same = refl; among = kept.sound.rows k v is; item = holds.engagement.outbox k v is }) in
    none_bad (AreOfMap nat_cmp (IsOutboxEntry (length (rows_under v s).site))) (rows_under v s).outbox place (subst (λ m. AreOfMap nat_cmp (IsOutboxEntry m) (rows_under v s).outbox) (sym (sizes 0 s.sites)) stand) bad
good_rows v s kept holds tables Seen place bad =
    let stand = map_stands (IsSeenEntry (length s.sites)) message_total seen_row s.engagement.seen (λ k v is. record { same = refl; message = (kept.sound.seen k v is).0; recall = (kept.sound.seen k v is).1 }) in
    none_bad (AreOfMap message_cmp (IsSeenEntry (length (rows_under v s).site))) (rows_under v s).seen place (subst (λ m. AreOfMap message_cmp (IsSeenEntry m) (rows_under v s).seen) (sym (sizes 0 s.sites)) stand) bad
good_rows v s kept holds tables Parent place bad =
    let stand = map_stands (IsParentEntry (length s.sites)) recall_total parent_row s.engagement.parents (λ k v is. record { same = refl; recall = (kept.sound.parents k v is).0; message = (kept.sound.parents k v is).1 }) in
    none_bad (AreOfMap recall_cmp (IsParentEntry (length (rows_under v s).site))) (rows_under v s).parent place (subst (λ m. AreOfMap recall_cmp (IsParentEntry m) (rows_under v s).parent) (sym (sizes 0 s.sites)) stand) bad
good_rows v s kept holds tables RecallTable place bad =
    let stand = map_stands IsOwnEntry Cmp.nat_cmp_total recall_row s.engagement.own (λ k v is. record { same = refl; number = kept.sound.own k (found (get s.engagement.own k) v is); root = holds.engagement.own k v is }) in
    none_bad (AreOfMap nat_cmp IsOwnEntry) (rows_under v s).recall place stand bad

pub rows_are_good : RowsOfRecordsAreGood
rows_are_good = λ v s kept holds tables table place bad. good_rows v s kept holds tables table place bad
