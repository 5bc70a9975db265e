-- The test whether rows are the same says what it means.
use Rattle.std.proofs.Common.{◌≡◌, ◌∙◌, ℕ, ℤ, Bool, true, false, List, Option, Some, None, nat_eq, ◌&&◌, refl, ap}
use mathlib.Core.Bool.{false≢true}
use Rattle.std.specs.Bool.{Decides}
use Rattle.std.specs.Option.{option_eq}
use Rattle.std.specs.Ordering.{int_eq}
use Rattle.std.specs.Cmp.Lexicographic.{pointwise}
use Rattle.std.proofs.lemmas.Bool.Decides.{Decides-and, Decides-eqb, Decides-int_eq, Decides-like}
use Rattle.std.proofs.lemmas.Slice.Eq.{slice_eq-Decides}
use Rattle.site_rows.specs.declared.rows.StoreRow.{StoreRow}
use Rattle.site_rows.specs.declared.rows.SiteRow.{SiteRow}
use Rattle.site_rows.specs.declared.rows.AddressRow.{AddressRow}
use Rattle.site_rows.specs.declared.rows.EventRow.{EventRow}
use Rattle.site_rows.specs.declared.rows.PackRow.{PackRow}
use Rattle.site_rows.specs.declared.rows.PackedRow.{PackedRow}
use Rattle.site_rows.specs.declared.rows.PartRow.{PartRow}
use Rattle.site_rows.specs.declared.rows.QuarantineRow.{QuarantineRow}
use Rattle.site_rows.specs.declared.rows.OutboxRow.{OutboxRow}
use Rattle.site_rows.specs.declared.rows.SeenRow.{SeenRow}
use Rattle.site_rows.specs.declared.rows.ParentRow.{ParentRow}
use Rattle.site_rows.specs.declared.rows.RecallRow.{RecallRow}
use Rattle.site_rows.specs.declared.rows.Rows.{Rows}
use Rattle.site_rows.specs.declared.tables.Version.{Version}
use Rattle.site_rows.specs.declared.tables.Version.TheVariants.{First, Second}

abbrev pub same_text : List ℕ → List ℕ → Bool
same_text = pointwise nat_eq

pub text_decides : (a b : List ℕ) → Decides (same_text a b) (a ≡ b)
text_decides a b = slice_eq-Decides Decides-eqb a b _ refl

option_decides : (a b : Option (List ℕ)) → Decides (option_eq same_text a b) (a ≡ b)
option_decides None None = (λ _. refl, λ _. refl)
option_decides None (Some b) = (λ h. absurd (false≢true h), λ e. cc)
option_decides (Some a) None = (λ h. absurd (false≢true h), λ e. cc)
option_decides (Some a) (Some b) = Decides-like _ (λ e. ap Some e) (λ e. cc) (text_decides a b)

list_decides : {X : Type 0} {E : X → X → Bool} → ((a b : X) → Decides (E a b) (a ≡ b)) → (a b : List X) → Decides (pointwise E a b) (a ≡ b)
list_decides decides a b = slice_eq-Decides decides a b _ refl

abbrev pub same_store_row : StoreRow → StoreRow → Bool
same_store_row a b = int_eq a.version b.version && (int_eq a.me b.me && (int_eq a.next_message b.next_message && int_eq a.next_recall b.next_recall))

store_row_fields : (a b : StoreRow) → (a.version ≡ b.version) × ((a.me ≡ b.me) × ((a.next_message ≡ b.next_message) × (a.next_recall ≡ b.next_recall))) → a ≡ b
store_row_fields a b h =
    ap (λ (x : ℤ). record a { version = x }) h.0
    ∙ ap (λ (x : ℤ). record a { version = b.version; me = x }) h.1.0
    ∙ ap (λ (x : ℤ). record a { version = b.version; me = b.me; next_message = x }) h.1.1.0
    ∙ ap (λ (x : ℤ). record a { version = b.version; me = b.me; next_message = b.next_message; next_recall = x }) h.1.1.1

store_row_decides : (a b : StoreRow) → Decides (same_store_row a b) (a ≡ b)
store_row_decides a b = Decides-like _ (store_row_fields a b) (λ h. (ap (λ (r : StoreRow). r.version) h, (ap (λ (r : StoreRow). r.me) h, (ap (λ (r : StoreRow). r.next_message) h, ap (λ (r : StoreRow). r.next_recall) h)))) (Decides-and _ _ (Decides-int_eq a.version b.version) (Decides-and _ _ (Decides-int_eq a.me b.me) (Decides-and _ _ (Decides-int_eq a.next_message b.next_message) (Decides-int_eq a.next_recall b.next_recall))))

abbrev pub same_site_row : SiteRow → SiteRow → Bool
same_site_row a b = int_eq a.no b.no && same_text a.name b.name

site_row_fields : (a b : SiteRow) → (a.no ≡ b.no) × (a.name ≡ b.name) → a ≡ b
site_row_fields a b h =
    ap (λ (x : ℤ). record a { no = x }) h.0
    ∙ ap (λ (x : List ℕ). record a { no = b.no; name = x }) h.1

site_row_decides : (a b : SiteRow) → Decides (same_site_row a b) (a ≡ b)
site_row_decides a b = Decides-like _ (site_row_fields a b) (λ h. (ap (λ (r : SiteRow). r.no) h, ap (λ (r : SiteRow). r.name) h)) (Decides-and _ _ (Decides-int_eq a.no b.no) (text_decides a.name b.name))

abbrev pub same_address_row : AddressRow → AddressRow → Bool
same_address_row a b = same_text a.text b.text && (int_eq a.site b.site && int_eq a.place b.place)

address_row_fields : (a b : AddressRow) → (a.text ≡ b.text) × ((a.site ≡ b.site) × (a.place ≡ b.place)) → a ≡ b
address_row_fields a b h =
    ap (λ (x : List ℕ). record a { text = x }) h.0
    ∙ ap (λ (x : ℤ). record a { text = b.text; site = x }) h.1.0
    ∙ ap (λ (x : ℤ). record a { text = b.text; site = b.site; place = x }) h.1.1

address_row_decides : (a b : AddressRow) → Decides (same_address_row a b) (a ≡ b)
address_row_decides a b = Decides-like _ (address_row_fields a b) (λ h. (ap (λ (r : AddressRow). r.text) h, (ap (λ (r : AddressRow). r.site) h, ap (λ (r : AddressRow). r.place) h))) (Decides-and _ _ (text_decides a.text b.text) (Decides-and _ _ (Decides-int_eq a.site b.site) (Decides-int_eq a.place b.place)))

abbrev pub same_event_row : EventRow → EventRow → Bool
same_event_row a b = int_eq a.no b.no && (option_eq same_text a.id b.id && (int_eq a.seconds b.seconds && (int_eq a.nanos b.nanos && (int_eq a.kind b.kind && option_eq same_text a.make_id b.make_id))))

event_row_fields : (a b : EventRow) → (a.no ≡ b.no) × ((a.id ≡ b.id) × ((a.seconds ≡ b.seconds) × ((a.nanos ≡ b.nanos) × ((a.kind ≡ b.kind) × (a.make_id ≡ b.make_id))))) → a ≡ b
event_row_fields a b h =
    ap (λ (x : ℤ). record a { no = x }) h.0
    ∙ ap (λ (x : Option (List ℕ)). record a { no = b.no; id = x }) h.1.0
    ∙ ap (λ (x : ℤ). record a { no = b.no; id = b.id; seconds = x }) h.1.1.0
    ∙ ap (λ (x : ℤ). record a { no = b.no; id = b.id; seconds = b.seconds; nanos = x }) h.1.1.1.0
    ∙ ap (λ (x : ℤ). record a { no = b.no; id = b.id; seconds = b.seconds; nanos = b.nanos; kind = x }) h.1.1.1.1.0
    ∙ ap (λ (x : Option (List ℕ)). record a { no = b.no; id = b.id; seconds = b.seconds; nanos = b.nanos; kind = b.kind; make_id = x }) h.1.1.1.1.1

event_row_decides : (a b : EventRow) → Decides (same_event_row a b) (a ≡ b)
event_row_decides a b = Decides-like _ (event_row_fields a b) (λ h. (ap (λ (r : EventRow). r.no) h, (ap (λ (r : EventRow). r.id) h, (ap (λ (r : EventRow). r.seconds) h, (ap (λ (r : EventRow). r.nanos) h, (ap (λ (r : EventRow). r.kind) h, ap (λ (r : EventRow). r.make_id) h)))))) (Decides-and _ _ (Decides-int_eq a.no b.no) (Decides-and _ _ (option_decides a.id b.id) (Decides-and _ _ (Decides-int_eq a.seconds b.seconds) (Decides-and _ _ (Decides-int_eq a.nanos b.nanos) (Decides-and _ _ (Decides-int_eq a.kind b.kind) (option_decides a.make_id b.make_id))))))

abbrev pub same_part_row : PartRow → PartRow → Bool
same_part_row a b = int_eq a.event b.event && (int_eq a.role b.role && (int_eq a.place b.place && same_text a.text b.text))

part_row_fields : (a b : PartRow) → (a.event ≡ b.event) × ((a.role ≡ b.role) × ((a.place ≡ b.place) × (a.text ≡ b.text))) → a ≡ b
part_row_fields a b h =
    ap (λ (x : ℤ). record a { event = x }) h.0
    ∙ ap (λ (x : ℤ). record a { event = b.event; role = x }) h.1.0
    ∙ ap (λ (x : ℤ). record a { event = b.event; role = b.role; place = x }) h.1.1.0
    ∙ ap (λ (x : List ℕ). record a { event = b.event; role = b.role; place = b.place; text = x }) h.1.1.1

part_row_decides : (a b : PartRow) → Decides (same_part_row a b) (a ≡ b)
part_row_decides a b = Decides-like _ (part_row_fields a b) (λ h. (ap (λ (r : PartRow). r.event) h, (ap (λ (r : PartRow). r.role) h, (ap (λ (r : PartRow). r.place) h, ap (λ (r : PartRow). r.text) h)))) (Decides-and _ _ (Decides-int_eq a.event b.event) (Decides-and _ _ (Decides-int_eq a.role b.role) (Decides-and _ _ (Decides-int_eq a.place b.place) (text_decides a.text b.text))))

abbrev pub same_quarantine_row : QuarantineRow → QuarantineRow → Bool
same_quarantine_row a b = int_eq a.recall_site b.recall_site && (int_eq a.recall_no b.recall_no && same_text a.item b.item)

quarantine_row_fields : (a b : QuarantineRow) → (a.recall_site ≡ b.recall_site) × ((a.recall_no ≡ b.recall_no) × (a.item ≡ b.item)) → a ≡ b
quarantine_row_fields a b h =
    ap (λ (x : ℤ). record a { recall_site = x }) h.0
    ∙ ap (λ (x : ℤ). record a { recall_site = b.recall_site; recall_no = x }) h.1.0
    ∙ ap (λ (x : List ℕ). record a { recall_site = b.recall_site; recall_no = b.recall_no; item = x }) h.1.1

quarantine_row_decides : (a b : QuarantineRow) → Decides (same_quarantine_row a b) (a ≡ b)
quarantine_row_decides a b = Decides-like _ (quarantine_row_fields a b) (λ h. (ap (λ (r : QuarantineRow). r.recall_site) h, (ap (λ (r : QuarantineRow). r.recall_no) h, ap (λ (r : QuarantineRow). r.item) h))) (Decides-and _ _ (Decides-int_eq a.recall_site b.recall_site) (Decides-and _ _ (Decides-int_eq a.recall_no b.recall_no) (text_decides a.item b.item)))

abbrev pub same_outbox_row : OutboxRow → OutboxRow → Bool
same_outbox_row a b = int_eq a.number b.number && (int_eq a.dest b.dest && (int_eq a.recall_site b.recall_site && (int_eq a.recall_no b.recall_no && same_text a.item b.item)))

outbox_row_fields : (a b : OutboxRow) → (a.number ≡ b.number) × ((a.dest ≡ b.dest) × ((a.recall_site ≡ b.recall_site) × ((a.recall_no ≡ b.recall_no) × (a.item ≡ b.item)))) → a ≡ b
outbox_row_fields a b h =
    ap (λ (x : ℤ). record a { number = x }) h.0
    ∙ ap (λ (x : ℤ). record a { number = b.number; dest = x }) h.1.0
    ∙ ap (λ (x : ℤ). record a { number = b.number; dest = b.dest; recall_site = x }) h.1.1.0
    ∙ ap (λ (x : ℤ). record a { number = b.number; dest = b.dest; recall_site = b.recall_site; recall_no = x }) h.1.1.1.0
    ∙ ap (λ (x : List ℕ). record a { number = b.number; dest = b.dest; recall_site = b.recall_site; recall_no = b.recall_no; item = x }) h.1.1.1.1

outbox_row_decides : (a b : OutboxRow) → Decides (same_outbox_row a b) (a ≡ b)
outbox_row_decides a b = Decides-like _ (outbox_row_fields a b) (λ h. (ap (λ (r : OutboxRow). r.number) h, (ap (λ (r : OutboxRow). r.dest) h, (ap (λ (r : OutboxRow). r.recall_site) h, (ap (λ (r : OutboxRow). r.recall_no) h, ap (λ (r : OutboxRow). r.item) h))))) (Decides-and _ _ (Decides-int_eq a.number b.number) (Decides-and _ _ (Decides-int_eq a.dest b.dest) (Decides-and _ _ (Decides-int_eq a.recall_site b.recall_site) (Decides-and _ _ (Decides-int_eq a.recall_no b.recall_no) (text_decides a.item b.item)))))

abbrev pub same_seen_row : SeenRow → SeenRow → Bool
same_seen_row a b = int_eq a.sender b.sender && (int_eq a.number b.number && (int_eq a.recall_site b.recall_site && int_eq a.recall_no b.recall_no))

seen_row_fields : (a b : SeenRow) → (a.sender ≡ b.sender) × ((a.number ≡ b.number) × ((a.recall_site ≡ b.recall_site) × (a.recall_no ≡ b.recall_no))) → a ≡ b
seen_row_fields a b h =
    ap (λ (x : ℤ). record a { sender = x }) h.0
    ∙ ap (λ (x : ℤ). record a { sender = b.sender; number = x }) h.1.0
    ∙ ap (λ (x : ℤ). record a { sender = b.sender; number = b.number; recall_site = x }) h.1.1.0
    ∙ ap (λ (x : ℤ). record a { sender = b.sender; number = b.number; recall_site = b.recall_site; recall_no = x }) h.1.1.1

seen_row_decides : (a b : SeenRow) → Decides (same_seen_row a b) (a ≡ b)
seen_row_decides a b = Decides-like _ (seen_row_fields a b) (λ h. (ap (λ (r : SeenRow). r.sender) h, (ap (λ (r : SeenRow). r.number) h, (ap (λ (r : SeenRow). r.recall_site) h, ap (λ (r : SeenRow). r.recall_no) h)))) (Decides-and _ _ (Decides-int_eq a.sender b.sender) (Decides-and _ _ (Decides-int_eq a.number b.number) (Decides-and _ _ (Decides-int_eq a.recall_site b.recall_site) (Decides-int_eq a.recall_no b.recall_no))))

abbrev pub same_parent_row : ParentRow → ParentRow → Bool
same_parent_row a b = int_eq a.recall_site b.recall_site && (int_eq a.recall_no b.recall_no && (int_eq a.sender b.sender && int_eq a.number b.number))

parent_row_fields : (a b : ParentRow) → (a.recall_site ≡ b.recall_site) × ((a.recall_no ≡ b.recall_no) × ((a.sender ≡ b.sender) × (a.number ≡ b.number))) → a ≡ b
parent_row_fields a b h =
    ap (λ (x : ℤ). record a { recall_site = x }) h.0
    ∙ ap (λ (x : ℤ). record a { recall_site = b.recall_site; recall_no = x }) h.1.0
    ∙ ap (λ (x : ℤ). record a { recall_site = b.recall_site; recall_no = b.recall_no; sender = x }) h.1.1.0
    ∙ ap (λ (x : ℤ). record a { recall_site = b.recall_site; recall_no = b.recall_no; sender = b.sender; number = x }) h.1.1.1

parent_row_decides : (a b : ParentRow) → Decides (same_parent_row a b) (a ≡ b)
parent_row_decides a b = Decides-like _ (parent_row_fields a b) (λ h. (ap (λ (r : ParentRow). r.recall_site) h, (ap (λ (r : ParentRow). r.recall_no) h, (ap (λ (r : ParentRow). r.sender) h, ap (λ (r : ParentRow). r.number) h)))) (Decides-and _ _ (Decides-int_eq a.recall_site b.recall_site) (Decides-and _ _ (Decides-int_eq a.recall_no b.recall_no) (Decides-and _ _ (Decides-int_eq a.sender b.sender) (Decides-int_eq a.number b.number))))

abbrev pub same_recall_row : RecallRow → RecallRow → Bool
same_recall_row a b = int_eq a.number b.number && (same_text a.root b.root && int_eq a.ended b.ended)

recall_row_fields : (a b : RecallRow) → (a.number ≡ b.number) × ((a.root ≡ b.root) × (a.ended ≡ b.ended)) → a ≡ b
recall_row_fields a b h =
    ap (λ (x : ℤ). record a { number = x }) h.0
    ∙ ap (λ (x : List ℕ). record a { number = b.number; root = x }) h.1.0
    ∙ ap (λ (x : ℤ). record a { number = b.number; root = b.root; ended = x }) h.1.1

recall_row_decides : (a b : RecallRow) → Decides (same_recall_row a b) (a ≡ b)
recall_row_decides a b = Decides-like _ (recall_row_fields a b) (λ h. (ap (λ (r : RecallRow). r.number) h, (ap (λ (r : RecallRow). r.root) h, ap (λ (r : RecallRow). r.ended) h))) (Decides-and _ _ (Decides-int_eq a.number b.number) (Decides-and _ _ (text_decides a.root b.root) (Decides-int_eq a.ended b.ended)))

abbrev pub same_pack_row : PackRow → PackRow → Bool
same_pack_row a b = int_eq a.event b.event && (int_eq a.action b.action && option_eq same_text a.parent b.parent)

pack_row_fields : (a b : PackRow) → (a.event ≡ b.event) × ((a.action ≡ b.action) × (a.parent ≡ b.parent)) → a ≡ b
pack_row_fields a b h =
    ap (λ (x : ℤ). record a { event = x }) h.0
    ∙ ap (λ (x : ℤ). record a { event = b.event; action = x }) h.1.0
    ∙ ap (λ (x : Option (List ℕ)). record a { event = b.event; action = b.action; parent = x }) h.1.1

pack_row_decides : (a b : PackRow) → Decides (same_pack_row a b) (a ≡ b)
pack_row_decides a b = Decides-like _ (pack_row_fields a b) (λ h. (ap (λ (r : PackRow). r.event) h, (ap (λ (r : PackRow). r.action) h, ap (λ (r : PackRow). r.parent) h)))
    (Decides-and _ _ (Decides-int_eq a.event b.event) (Decides-and _ _ (Decides-int_eq a.action b.action) (option_decides a.parent b.parent)))

abbrev pub same_packed_row : PackedRow → PackedRow → Bool
same_packed_row a b = int_eq a.event b.event && (int_eq a.place b.place && same_text a.text b.text)

packed_row_fields : (a b : PackedRow) → (a.event ≡ b.event) × ((a.place ≡ b.place) × (a.text ≡ b.text)) → a ≡ b
packed_row_fields a b h =
    ap (λ (x : ℤ). record a { event = x }) h.0
    ∙ ap (λ (x : ℤ). record a { event = b.event; place = x }) h.1.0
    ∙ ap (λ (x : List ℕ). record a { event = b.event; place = b.place; text = x }) h.1.1

packed_row_decides : (a b : PackedRow) → Decides (same_packed_row a b) (a ≡ b)
packed_row_decides a b = Decides-like _ (packed_row_fields a b) (λ h. (ap (λ (r : PackedRow). r.event) h, (ap (λ (r : PackedRow). r.place) h, ap (λ (r : PackedRow). r.text) h)))
    (Decides-and _ _ (Decides-int_eq a.event b.event) (Decides-and _ _ (Decides-int_eq a.place b.place) (text_decides a.text b.text)))

abbrev pub same_version : Version → Version → Bool
same_version First First = true
same_version Second Second = true
same_version a b = false

version_decides : (a b : Version) → Decides (same_version a b) (a ≡ b)
version_decides First First = (λ _. refl, λ _. refl)
version_decides First Second = (λ h. absurd (false≢true h), λ e. cc)
version_decides Second First = (λ h. absurd (false≢true h), λ e. cc)
version_decides Second Second = (λ _. refl, λ _. refl)

abbrev pub same_rows : Rows → Rows → Bool
same_rows a b = same_version a.version b.version && (pointwise same_store_row a.store b.store && (pointwise same_site_row a.site b.site && (pointwise same_address_row a.address b.address && (pointwise same_event_row a.event b.event && (pointwise same_part_row a.part b.part && (pointwise same_pack_row a.pack b.pack && (pointwise same_packed_row a.packed b.packed && (pointwise same_quarantine_row a.quarantine b.quarantine && (pointwise same_outbox_row a.outbox b.outbox && (pointwise same_seen_row a.seen b.seen && (pointwise same_parent_row a.parent b.parent && (pointwise same_recall_row a.recall b.recall))))))))))))

rows_fields : (a b : Rows) → (a.version ≡ b.version) × ((a.store ≡ b.store) × ((a.site ≡ b.site) × ((a.address ≡ b.address) × ((a.event ≡ b.event) × ((a.part ≡ b.part) × ((a.pack ≡ b.pack) × ((a.packed ≡ b.packed) × ((a.quarantine ≡ b.quarantine) × ((a.outbox ≡ b.outbox) × ((a.seen ≡ b.seen) × ((a.parent ≡ b.parent) × ((a.recall ≡ b.recall))))))))))))) → a ≡ b
rows_fields a b h =
    ap (λ (x : Version). record a { version = x }) h.0
    ∙ ap (λ (x : List StoreRow). record a { version = b.version; store = x }) h.1.0
    ∙ ap (λ (x : List SiteRow). record a { version = b.version; store = b.store; site = x }) h.1.1.0
    ∙ ap (λ (x : List AddressRow). record a { version = b.version; store = b.store; site = b.site; address = x }) h.1.1.1.0
    ∙ ap (λ (x : List EventRow). record a { version = b.version; store = b.store; site = b.site; address = b.address; event = x }) h.1.1.1.1.0
    ∙ ap (λ (x : List PartRow). record a { version = b.version; store = b.store; site = b.site; address = b.address; event = b.event; part = x }) h.1.1.1.1.1.0
    ∙ ap (λ (x : List PackRow). record a { version = b.version; store = b.store; site = b.site; address = b.address; event = b.event; part = b.part; pack = x }) h.1.1.1.1.1.1.0
    ∙ ap (λ (x : List PackedRow). record a { version = b.version; store = b.store; site = b.site; address = b.address; event = b.event; part = b.part; pack = b.pack; packed = x }) h.1.1.1.1.1.1.1.0
    ∙ ap (λ (x : List QuarantineRow). record a { version = b.version; store = b.store; site = b.site; address = b.address; event = b.event; part = b.part; pack = b.pack; packed = b.packed; quarantine = x }) h.1.1.1.1.1.1.1.1.0
    ∙ ap (λ (x : List OutboxRow). record a { version = b.version; store = b.store; site = b.site; address = b.address; event = b.event; part = b.part; pack = b.pack; packed = b.packed; quarantine = b.quarantine; outbox = x }) h.1.1.1.1.1.1.1.1.1.0
    ∙ ap (λ (x : List SeenRow). record a { version = b.version; store = b.store; site = b.site; address = b.address; event = b.event; part = b.part; pack = b.pack; packed = b.packed; quarantine = b.quarantine; outbox = b.outbox; seen = x }) h.1.1.1.1.1.1.1.1.1.1.0
    ∙ ap (λ (x : List ParentRow). record a { version = b.version; store = b.store; site = b.site; address = b.address; event = b.event; part = b.part; pack = b.pack; packed = b.packed; quarantine = b.quarantine; outbox = b.outbox; seen = b.seen; parent = x }) h.1.1.1.1.1.1.1.1.1.1.1.0
    ∙ ap (λ (x : List RecallRow). record a { version = b.version; store = b.store; site = b.site; address = b.address; event = b.event; part = b.part; pack = b.pack; packed = b.packed; quarantine = b.quarantine; outbox = b.outbox; seen = b.seen; parent = b.parent; recall = x }) h.1.1.1.1.1.1.1.1.1.1.1.1

pub rows_decides : (a b : Rows) → Decides (same_rows a b) (a ≡ b)
rows_decides a b =
    Decides-like _ (rows_fields a b) (λ h. (ap (λ (r : Rows). r.version) h, (ap (λ (r : Rows). r.store) h, (ap (λ (r : Rows). r.site) h, (ap (λ (r : Rows). r.address) h, (ap (λ (r : Rows). r.event) h, (ap (λ (r : Rows). r.part) h, (ap (λ (r : Rows). r.pack) h, (ap (λ (r : Rows). r.packed) h, (ap (λ (r : Rows). r.quarantine) h, (ap (λ (r : Rows). r.outbox) h, (ap (λ (r : Rows). r.seen) h, (ap (λ (r : Rows). r.parent) h, (ap (λ (r : Rows). r.recall) h))))))))))))))
    (Decides-and _ _ (version_decides a.version b.version) (Decides-and _ _ (list_decides store_row_decides a.store b.store) (Decides-and _ _ (list_decides site_row_decides a.site b.site) (Decides-and _ _ (list_decides address_row_decides a.address b.address) (Decides-and _ _ (list_decides event_row_decides a.event b.event) (Decides-and _ _ (list_decides part_row_decides a.part b.part) (Decides-and _ _ (list_decides pack_row_decides a.pack b.pack) (Decides-and _ _ (list_decides packed_row_decides a.packed b.packed) (Decides-and _ _ (list_decides quarantine_row_decides a.quarantine b.quarantine) (Decides-and _ _ (list_decides outbox_row_decides a.outbox b.outbox) (Decides-and _ _ (list_decides seen_row_decides a.seen b.seen) (Decides-and _ _ (list_decides parent_row_decides a.parent b.parent) (list_decides recall_row_decides a.recall b.recall)))))))))))))
