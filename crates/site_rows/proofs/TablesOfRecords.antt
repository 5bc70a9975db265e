-- The rows of a record stand for it, table by table.
use Rattle.std.proofs.Common.{◌≡◌, inl, inr, ℕ, ◌+◌, ◌<◌, ℤ, pos, Bool, true, false, cond, Some, List, [], ◌∷◌, ◌++◌, map, refl, sym, ap, subst, ◌∙◌, arith}
use lib.IntN.{negsuc}
use Rattle.std.specs.Prelude.{◌↔◌, ◌*ℤ◌, ◌+ℤ◌}
use Rattle.std.specs.Cmp.{IsTotalOrder}
use Rattle.std.specs.Cmp as Cmp
use Rattle.std.specs.FinMap.{FinMap, IsAntisymmetric, entries, get}
use Rattle.std.specs.Int.{int_div_euclid, int_rem_euclid}
use Rattle.std.specs.List.{Contains, enumerate_from, flat_map, slice_get}
use Rattle.std.specs.Ordering.{nat_cmp}
use Rattle.std.specs.declared.cmp.Ordering.{Ordering}
use Rattle.std.proofs.Math.Nat.{div-add-mod, mod-lt}
use Rattle.std.proofs.lemmas.Int.{ints}
use Rattle.std.proofs.lemmas.List.{length-map}
use Rattle.std.proofs.lemmas.List.FromFn.{length-enumerate_from}
use Rattle.std.proofs.lemmas.List.Elements.{Contains-append_cases, Contains-append_left, Contains-append_right}
use Rattle.std.proofs.lemmas.Map.Lookups.{exact_unsigned}
use Rattle.std.proofs.lemmas.Option.{slice_get-get_or}
use Rattle.event_json.specs.Contents.{number_of}
use Rattle.event_json.specs.Events.{Content}
use Rattle.event_json.specs.Sites.{AreSites, Site}
use Rattle.event_json.specs.declared.bodies.Action.{Action}
use Rattle.event_json.specs.declared.bodies.Action.TheVariants.{Add, Observe, Delete}
use Rattle.event_json.specs.declared.bodies.Body.{Body}
use Rattle.event_json.specs.declared.bodies.Body.TheVariants.{Note, Ship, Make, Pack}
use Rattle.frame_core.specs.Orders.{message_exact, message_total, recall_exact, recall_total}
use Rattle.scholten_core.specs.declared.own_recalls.Own.{Own}
use Rattle.site_core.proofs.Entries.{entry_found, entry_there}
use Rattle.site_core.specs.Records.{Record}
use Rattle.trace_core.proofs.Members.{contains-flat_map, contains-map, contains_cases, contains_here, contains_none}
use Rattle.trace_core.proofs.SetMembers.{contains-from_map, contains-from_flat_map}
use Rattle.site_rows.specs.RecordRows.{SECOND, address_row, addresses_of, body_rows, children_of, event_row, name_of, outbox_row, pack_rows, packed_row, packed_rows, packs_of, parent_row, part_row, part_rows, parts_of, quarantine_rows, recall_row, seen_row, site_row}
use Rattle.site_rows.specs.TableLaws.{HasList, IsRowOfChild, IsRowOfEvent, IsRowOfMember, IsRowOfPack, RowsStandForTheRecord, SaysAction, SaysEnd, SaysKind}
use Rattle.site_rows.specs.declared.address_rows.Address.{Address}
use Rattle.site_rows.specs.declared.rows.AddressRow.{AddressRow}
use Rattle.site_rows.specs.declared.rows.EventRow.{EventRow}
use Rattle.site_rows.specs.declared.rows.PackRow.{PackRow}
use Rattle.site_rows.specs.declared.rows.PackedRow.{PackedRow}
use Rattle.site_rows.specs.declared.rows.PartRow.{PartRow}
use Rattle.site_rows.specs.declared.rows.RecallRow.{RecallRow}
use Rattle.site_rows.proofs.GoodAddresses.{address_told, mapped_at, numbered_there, row_there}
use Rattle.site_rows.proofs.GoodRows.{rest_below}
use Rattle.site_rows.proofs.SameQuarantines.{held_in_rows, row_of_held}
use Rattle.site_rows.proofs.SameSites.{numbered}

-- ---- rows of numbered things
module _ {X R : Type 0} (n : ℕ) (at : ℕ → ℕ) (is_at : (k : ℕ) → n + k ≡ at k) (f : ℕ × X → R) (xs : List X) (r : R) where
  pub numbered_from : Contains (map f (enumerate_from n xs)) r → (k : ℕ) × (x : X) × (slice_get xs k ≡ Some x) × (r ≡ f (at k, x))
  numbered_from h =
      let (p, among, same) = contains-from_map f (enumerate_from n xs) r h in
      let there = numbered_there n xs among.0 p (slice_get-get_or (enumerate_from n xs) among.0 p among.1 ∙ ap Some among.2) in
      let number : p.0 ≡ at among.0 = there.0 ∙ is_at among.0 in
      (among.0, p.1, there.1, sym same ∙ ap (λ j. f (j, p.1)) number)

  pub numbered_to : (k : ℕ) (x : X) → slice_get xs k ≡ Some x → r ≡ f (at k, x) → Contains (map f (enumerate_from n xs)) r
  numbered_to k x there same =
      subst (Contains (map f (enumerate_from n xs))) (ap (λ j. f (j, x)) (is_at k) ∙ sym same) (contains-map f (enumerate_from n xs) (n + k, x) (numbered n xs k x there))

from_none : (k : ℕ) → 0 + k ≡ k
from_none k = omega arith

from_one : (k : ℕ) → 1 + k ≡ k + 1
from_one k = omega arith

-- ---- rows of the entries of a map
module _ {K V R : Type 0} {cmp : K → K → Ordering} (o : IsTotalOrder cmp) (exact : IsAntisymmetric cmp) (m : FinMap cmp V) (f : K × V → R) (r : R) where
  entries_from : Contains (map f (entries m)) r → (k : K) × (v : V) × (get m k ≡ Some v) × (r ≡ f (k, v))
  entries_from h =
      let (e, among, same) = contains-from_map f (entries m) r h in
      (e.0, e.1, entry_found o m e.0 e.1 among, sym same)

  entries_to : (k : K) (v : V) → get m k ≡ Some v → r ≡ f (k, v) → Contains (map f (entries m)) r
  entries_to k v there same = subst (Contains (map f (entries m))) (sym same) (contains-map f (entries m) (k, v) (entry_there o exact m k v there))

  pub of_entries : Contains (map f (entries m)) r ↔ ((k : K) × (v : V) × (get m k ≡ Some v) × (r ≡ f (k, v)))
  of_entries = (entries_from, λ h. entries_to h.0 h.1 h.2 h.3)

-- ---- events
instant_told : (t : ℤ) → t ≡ int_div_euclid t SECOND *ℤ SECOND +ℤ int_rem_euclid t SECOND
instant_told (pos a) = omega (arith, ints, div-add-mod a 1_000_000_000)
instant_told (negsuc a) =
    let positive : 0 < 1_000_000_000 = omega arith in
    omega (arith, ints, div-add-mod a 1_000_000_000, mod-lt a positive)

kind_told : (n : ℕ) (e : Content) → SaysKind e.body (event_row (n, e)).kind (event_row (n, e)).make_id
kind_told n e = elim e.body as (λ b. e.body ≡ b → SaysKind e.body (event_row (n, e)).kind (event_row (n, e)).make_id) [
  | Note items ↦ λ is. rw is (refl, refl)
  | Ship items to outside ↦ λ is. rw is (refl, refl)
  | Make id ins outs ↦ λ is. rw is (refl, refl)
  | Pack action parent children ↦ λ is. rw is (refl, refl)
] refl

event_told : (es : List Content) (k : ℕ) (row : EventRow) → slice_get (map event_row (enumerate_from 1 es)) k ≡ Some row → (e : Content) × (slice_get es k ≡ Some e) × IsRowOfEvent k e row
event_told es k row is =
    let p = mapped_at event_row (enumerate_from 1 es) k row is in
    let at = numbered_there 1 es k p.0 p.1 in
    let e = p.0.1 in (
      e,
      at.1,
      subst (IsRowOfEvent k e) p.2 (record {
        number = ap pos (at.0 ∙ from_one k);
        id = refl;
        instant = instant_told e.instant;
        nanos = rest_below e.instant;
        kind = kind_told p.0.0 e;
      }),
    )

-- ---- members of the lists of events
module _ (s : Record) (row : PartRow) where
  of_list : (k : ℕ) (e : Content) (role : ℕ) (texts : List (List ℕ)) → slice_get s.captured.events k ≡ Some e → HasList s.sites e.body role texts
      → Contains (part_rows (k + 1) role texts) row → IsRowOfMember s row
  of_list k e role texts there has h =
      let (place, text, member, is) = numbered_from 0 (λ j. j) from_none (part_row (k + 1) role) texts row h in
      record { k = k; event = e; role = role; texts = texts; place = place; text = text; captured = there; list = has; member = member; is = is }

  of_body : (k : ℕ) (e : Content) (body : Body) → e.body ≡ body → slice_get s.captured.events k ≡ Some e → Contains (body_rows s.sites (k + 1) body) row → IsRowOfMember s row
  of_body k e (Note items) is there h = of_list k e 0 items there (rw is (refl, refl)) h
  of_body k e (Ship items to outside) is there h =
      let named = map (name_of s.sites) to in
      elim (Contains-append_cases (part_rows (k + 1) 0 items ++ part_rows (k + 1) 1 named) (part_rows (k + 1) 2 outside) row h) [
        | inl front ↦ elim (Contains-append_cases (part_rows (k + 1) 0 items) (part_rows (k + 1) 1 named) row front) [
          | inl h ↦ of_list k e 0 items there (rw is (inl (refl, refl))) h
          | inr h ↦ of_list k e 1 named there (rw is (inr (inl (refl, refl)))) h
        ]
        | inr h ↦ of_list k e 2 outside there (rw is (inr (inr (refl, refl)))) h
      ]
  of_body k e (Make id ins outs) is there h = elim (Contains-append_cases (part_rows (k + 1) 3 ins) (part_rows (k + 1) 4 outs) row h) [
    | inl h ↦ of_list k e 3 ins there (rw is (inl (refl, refl))) h
    | inr h ↦ of_list k e 4 outs there (rw is (inr (refl, refl))) h
  ]
  of_body k e (Pack action parent children) is there h = absurd (contains_none row h)

  members_from : Contains (flat_map (parts_of s.sites) (enumerate_from 1 s.captured.events)) row → IsRowOfMember s row
  members_from h =
      let es = s.captured.events in
      let (p, among, here) = contains-from_flat_map (parts_of s.sites) (enumerate_from 1 es) row h in
      let there = numbered_there 1 es among.0 p (slice_get-get_or (enumerate_from 1 es) among.0 p among.1 ∙ ap Some among.2) in
      let number : p.0 ≡ among.0 + 1 = there.0 ∙ from_one among.0 in
      of_body among.0 p.1 p.1.body refl there.1 (subst (λ j. Contains (body_rows s.sites j p.1.body) row) number here)

  to_body : (n : ℕ) (body : Body) (role : ℕ) (texts : List (List ℕ)) → HasList s.sites body role texts → Contains (part_rows n role texts) row → Contains (body_rows s.sites n body) row
  to_body n (Note items) role texts has h = subst (λ r. Contains (part_rows n r items) row) has.0 (subst (λ xs. Contains (part_rows n role xs) row) has.1 h)
  to_body n (Ship items to outside) role texts has h =
      let named = map (name_of s.sites) to in
      let front = part_rows n 0 items ++ part_rows n 1 named in
      elim has [
        | inl e ↦ Contains-append_left front (part_rows n 2 outside) row (Contains-append_left (part_rows n 0 items) (part_rows n 1 named) row (subst (λ r. Contains (part_rows n r items) row) e.0 (subst (λ xs. Contains (part_rows n role xs) row) e.1 h)))
        | inr later ↦ elim later [
          | inl e ↦ Contains-append_left front (part_rows n 2 outside) row (Contains-append_right (part_rows n 0 items) (part_rows n 1 named) row (subst (λ r. Contains (part_rows n r named) row) e.0 (subst (λ xs. Contains (part_rows n role xs) row) e.1 h)))
          | inr e ↦ Contains-append_right front (part_rows n 2 outside) row (subst (λ r. Contains (part_rows n r outside) row) e.0 (subst (λ xs. Contains (part_rows n role xs) row) e.1 h))
        ]
      ]
  to_body n (Make id ins outs) role texts has h = elim has [
    | inl e ↦ Contains-append_left (part_rows n 3 ins) (part_rows n 4 outs) row (subst (λ r. Contains (part_rows n r ins) row) e.0 (subst (λ xs. Contains (part_rows n role xs) row) e.1 h))
    | inr e ↦ Contains-append_right (part_rows n 3 ins) (part_rows n 4 outs) row (subst (λ r. Contains (part_rows n r outs) row) e.0 (subst (λ xs. Contains (part_rows n role xs) row) e.1 h))
  ]
  to_body n (Pack action parent children) role texts has h = absurd has

  members_to : IsRowOfMember s row → Contains (flat_map (parts_of s.sites) (enumerate_from 1 s.captured.events)) row
  members_to m =
      let es = s.captured.events in
      let member = numbered_to 0 (λ j. j) from_none (part_row (m.k + 1) m.role) m.texts row m.place m.text m.member m.is in
      let here = to_body (m.k + 1) m.event.body m.role m.texts m.list member in
      let there = subst (λ j. Contains (enumerate_from 1 es) (j, m.event)) (from_one m.k) (numbered 1 es m.k m.event m.captured) in
      contains-flat_map (parts_of s.sites) (enumerate_from 1 es) (m.k + 1, m.event) row there here

-- ---- packs
-- what stands in a table that is listed event by event
module _ {R : Type 0} (rows_by : ℕ → Body → List R) (es : List Content) (row : R) where
  listed_from : Contains (flat_map (λ (p : ℕ × Content). rows_by p.0 p.1.body) (enumerate_from 1 es)) row
      → (k : ℕ) × (e : Content) × (slice_get es k ≡ Some e) × Contains (rows_by (k + 1) e.body) row
  listed_from h =
      let (p, among, here) = contains-from_flat_map (λ (p : ℕ × Content). rows_by p.0 p.1.body) (enumerate_from 1 es) row h in
      let there = numbered_there 1 es among.0 p (slice_get-get_or (enumerate_from 1 es) among.0 p among.1 ∙ ap Some among.2) in
      let number : p.0 ≡ among.0 + 1 = there.0 ∙ from_one among.0 in
      (among.0, p.1, there.1, subst (λ j. Contains (rows_by j p.1.body) row) number here)

  listed_to : (k : ℕ) (e : Content) → slice_get es k ≡ Some e → Contains (rows_by (k + 1) e.body) row → Contains (flat_map (λ (p : ℕ × Content). rows_by p.0 p.1.body) (enumerate_from 1 es)) row
  listed_to k e is here =
      let there = subst (λ j. Contains (enumerate_from 1 es) (j, e)) (from_one k) (numbered 1 es k e is) in
      contains-flat_map (λ (p : ℕ × Content). rows_by p.0 p.1.body) (enumerate_from 1 es) (k + 1, e) row there here

says_action : (action : Action) → SaysAction action (pos (number_of action))
says_action Add = refl
says_action Observe = refl
says_action Delete = refl

action_is : (action : Action) (n : ℤ) → SaysAction action n → n ≡ pos (number_of action)
action_is Add n is = is
action_is Observe n is = is
action_is Delete n is = is

module _ (s : Record) (row : PackRow) where
  pack_of : (k : ℕ) (e : Content) (body : Body) → e.body ≡ body → slice_get s.captured.events k ≡ Some e → Contains (pack_rows (k + 1) body) row → IsRowOfPack s row
  pack_of k e (Note items) is there h = absurd (contains_none row h)
  pack_of k e (Ship items to outside) is there h = absurd (contains_none row h)
  pack_of k e (Make id ins outs) is there h = absurd (contains_none row h)
  pack_of k e (Pack action parent children) is there h =
      let made : PackRow = record { event = pos (k + 1); action = pos (number_of action); parent = parent } in
      elim (contains_cases made row [] h) [
        | inl same ↦ record {
          k = k;
          event = e;
          action = action;
          parent = parent;
          children = children;
          captured = there;
          packs = is;
          number = sym (ap (λ (r : PackRow). r.event) same);
          says = subst (SaysAction action) (ap (λ (r : PackRow). r.action) same) (says_action action);
          parent_is = sym (ap (λ (r : PackRow). r.parent) same);
        }
        | inr none ↦ absurd (contains_none row none)
      ]

  packs_from : Contains (flat_map packs_of (enumerate_from 1 s.captured.events)) row → IsRowOfPack s row
  packs_from h = let it = listed_from pack_rows s.captured.events row h in pack_of it.0 it.1 it.1.body refl it.2 it.3

  packs_to : IsRowOfPack s row → Contains (flat_map packs_of (enumerate_from 1 s.captured.events)) row
  packs_to p =
      let action = action_is p.action row.action p.says in
      let same : ◌≡◌ {A = PackRow} (record { event = pos (p.k + 1); action = pos (number_of p.action); parent = p.parent }) row = sym (λ i. record { event = p.number i; action = action i; parent = p.parent_is i }) in
      let here : Contains (pack_rows (p.k + 1) (Pack p.action p.parent p.children)) row = subst (λ r. Contains (r ∷ []) row) (sym same) (contains_here row []) in
      listed_to pack_rows s.captured.events row p.k p.event p.captured (subst (λ b. Contains (pack_rows (p.k + 1) b) row) (sym p.packs) here)

module _ (s : Record) (row : PackedRow) where
  child_of : (k : ℕ) (e : Content) (body : Body) → e.body ≡ body → slice_get s.captured.events k ≡ Some e → Contains (packed_rows (k + 1) body) row → IsRowOfChild s row
  child_of k e (Note items) is there h = absurd (contains_none row h)
  child_of k e (Ship items to outside) is there h = absurd (contains_none row h)
  child_of k e (Make id ins outs) is there h = absurd (contains_none row h)
  child_of k e (Pack action parent children) is there h =
      let (place, text, child, same) = numbered_from 0 (λ j. j) from_none (packed_row (k + 1)) children row h in
      record { k = k; event = e; action = action; parent = parent; children = children; place = place; text = text; captured = there; packs = is; child = child; is = same }

  children_from : Contains (flat_map children_of (enumerate_from 1 s.captured.events)) row → IsRowOfChild s row
  children_from h = let it = listed_from packed_rows s.captured.events row h in child_of it.0 it.1 it.1.body refl it.2 it.3

  children_to : IsRowOfChild s row → Contains (flat_map children_of (enumerate_from 1 s.captured.events)) row
  children_to c =
      let here : Contains (packed_rows (c.k + 1) (Pack c.action c.parent c.children)) row = numbered_to 0 (λ j. j) from_none (packed_row (c.k + 1)) c.children row c.place c.text c.child c.is in
      listed_to packed_rows s.captured.events row c.k c.event c.captured (subst (λ b. Contains (packed_rows (c.k + 1) b) row) (sym c.packs) here)

-- ---- addresses
module _ (sites : List Site) (are : AreSites sites) (row : AddressRow) where
  abbrev Told : Type 0
  Told = (no place : ℕ) × (site : Site) × (text : List ℕ) × (slice_get sites no ≡ Some site) × (slice_get site.addresses place ≡ Some text) × (row ≡ record { text = text; site = pos no; place = pos place })

  addresses_from : Contains (map address_row (entries (addresses_of sites))) row → Told
  addresses_from h =
      let (e, among, same) = contains-from_map address_row (entries (addresses_of sites)) row h in
      let is = address_told sites e among in
      let site : e.1.site ≡ is.number = ap (λ (a : Address). a.site) is.at ∙ omega arith in
      let place : e.1.place ≡ is.place = ap (λ (a : Address). a.place) is.at in
      (is.number, is.place, is.site, e.0, is.of_list, is.there, sym same ∙ (λ i. record { text = e.0; site = pos (site i); place = pos (place i) }))

  pub addresses_stand : Contains (map address_row (entries (addresses_of sites))) row ↔ Told
  addresses_stand = (addresses_from, λ t. subst (Contains (map address_row (entries (addresses_of sites)))) (sym t.6) (row_there sites are t.0 t.1 t.2 t.3 t.4 t.5))

-- ---- recalls
end_told : (ended : Bool) → SaysEnd ended (pos (cond ended 1 0))
end_told true = refl
end_told false = refl

end_is : (ended : Bool) (n : ℤ) → SaysEnd ended n → n ≡ pos (cond ended 1 0)
end_is true n is = is
end_is false n is = is

recalls_stand : (m : FinMap nat_cmp Own) (row : RecallRow) → Contains (map recall_row (entries m)) row
    ↔ ((number : ℕ) × (own : Own) × (get m number ≡ Some own) × (row.number ≡ pos number) × (row.root ≡ own.root) × SaysEnd own.ended row.ended)
recalls_stand m row =
    let both = of_entries Cmp.nat_cmp_total exact_unsigned m recall_row row in (
      λ h. let (k, own, there, is) = both.0 h in
          (k, own, there, ap (λ (r : RecallRow). r.number) is, ap (λ (r : RecallRow). r.root) is, subst (SaysEnd own.ended) (sym (ap (λ (r : RecallRow). r.ended) is)) (end_told own.ended)),
      λ t.
          let ended = end_is t.1.ended row.ended t.5 in
          both.1 (t.0, t.1, t.2, λ i. record { number = t.3 i; root = t.4 i; ended = ended i }),
    )

pub rows_stand : RowsStandForTheRecord
rows_stand = λ s kept. record {
  version = refl;
  store = refl;
  site = λ row. (numbered_from 0 (λ j. j) from_none site_row s.sites row, λ t. numbered_to 0 (λ j. j) from_none site_row s.sites row t.0 t.1 t.2 t.3);
  address = addresses_stand s.sites kept.sites;
  events = length-map (enumerate_from 1 s.captured.events) event_row ∙ length-enumerate_from 1 s.captured.events;
  event = event_told s.captured.events;
  part = λ row. (members_from s row, members_to s row);
  pack = λ row. (packs_from s row, packs_to s row);
  packed = λ row. (children_from s row, children_to s row);
  quarantine = λ row. (
    held_in_rows s.quarantine row,
    λ t. subst (Contains (flat_map quarantine_rows (entries s.quarantine))) (sym t.3) (row_of_held s.quarantine t.0 t.1 t.2),
  );
  outbox = of_entries Cmp.nat_cmp_total exact_unsigned s.engagement.outbox outbox_row;
  seen = of_entries message_total message_exact s.engagement.seen seen_row;
  parent = of_entries recall_total recall_exact s.engagement.parents parent_row;
  recall = recalls_stand s.engagement.own;
}
