-- What each site has of recalls, of their sites and of their messages, and that it is just that.
use Rattle.std.proofs.Common.{◌≡◌, ◌↔◌, inl, inr, ℕ, ◌<◌, Bool, true, false, cond, not, ◌||◌, List, [], ◌∷◌, map, Some, refl, sym, ap, ◌∙◌, subst, arith, eqb, Contains}
use mathlib.Core.Logic.{◌⊎◌}
use Rattle.std.specs.Cmp.{IsTotalOrder, nat_cmp_total}
use Rattle.std.specs.FinMap.{entries, get, get-empty, len-empty, nat_cmp-IsAntisymmetric}
use Rattle.std.specs.FinMap as finite
use Rattle.std.specs.List.{count_by, flat_map, sum_by}
use Rattle.std.specs.List.Sorted.{IsStrictlySortedBy}
use Rattle.std.specs.Ordering.{nat_cmp, ordering_then}
use Rattle.std.specs.Prelude.{IsSome, is_some, filter}
use Rattle.std.specs.declared.cmp.Ordering.TheVariants.{Less}
use Rattle.std.proofs.lemmas.Cmp.{on_total, tied_itself}
use Rattle.std.proofs.lemmas.List.{nil_from_length}
use Rattle.std.proofs.lemmas.List.Kept.{IsStrictlySortedBy-filter}
use Rattle.frame_core.specs.Identifiers.{recall_cmp, same_recall}
use Rattle.frame_core.specs.Numbers.{Recall, Message}
use Rattle.frame_core.specs.Orders.{recall_total, message_total}
use Rattle.frame_core.specs.declared.rows.Row.{Row}
use Rattle.frame_core.proofs.Sameness.{equal_recalls, one_recall}
use Rattle.scholten_core.specs.declared.own_recalls.Own.{Own}
use Rattle.trace_core.proofs.Members.{contains_cases, contains_here, contains_there, contains_none, contains-map}
use Rattle.site_core.specs.ItemSets as set
use Rattle.site_core.specs.Quarantines.{or_none}
use Rattle.site_core.specs.Records.{Record, fresh}
use Rattle.site_core.proofs.Ascending.{map_ascends}
use Rattle.site_core.proofs.Entries.{entry_found, entry_there}
use Rattle.site_recovery.specs.Laws.{AreInPlace}
use Rattle.site_recovery.specs.Looks.{World, world_of, own, row, seen, parent}
use Rattle.query_core.specs.Lists.{AreAllBy}
use Rattle.query_core.specs.BySite.{status_of, statuses_by, standing_of, standings_at, is_concerned, waiting_as, waiting_from}
use Rattle.query_core.specs.Recalls.{quarantined_count, waiting_count, IsStatus, status_cmp, IsStanding, standing_cmp, IsWaiting, waiting_cmp}
use Rattle.query_core.specs.declared.recalls.RecallStatus.{RecallStatus}
use Rattle.query_core.specs.declared.recalls.SiteStanding.{SiteStanding}
use Rattle.query_core.specs.declared.recalls.WaitingMessage.{WaitingMessage}
use Rattle.query_core.proofs.Listed.{all_of_sites, entries_ascend, filtered, filtered_in, one_ascends, one_member, the_member}

pub status_total : IsTotalOrder status_cmp
status_total = on_total (λ (x : RecallStatus). x.recall) recall_total

pub standing_total : IsTotalOrder standing_cmp
standing_total = on_total (λ (x : SiteStanding). x.site) nat_cmp_total

pub waiting_total : IsTotalOrder waiting_cmp
waiting_total = on_total (λ (x : WaitingMessage). x.message) message_total

nat_less : (a b : ℕ) → a < b → nat_cmp a b ≡ Less
nat_less a b below = grind (below, arith)

pub of_map : {X Y : Type 0} (f : X → Y) (xs : List X) (y : Y) → Contains (map f xs) y → (x : X) × Contains xs x × (f x ≡ y)
of_map f [] y at = absurd (contains_none y at)
of_map f (x ∷ xs) y at = elim (contains_cases (f x) y (map f xs) at) [
  | inl here ↦ (x, contains_here x xs, here)
  | inr later ↦ let m = of_map f xs y later in (m.0, contains_there x m.0 xs m.1, m.2)
]

no_entries : {X : Type 0} → entries (finite.empty {X = X} {R = nat_cmp}) ≡ []
no_entries {X} = nil_from_length (entries (finite.empty {X = X} {R = nat_cmp})) (sym (finite.len-entries (finite.empty {X = X} {R = nat_cmp})) ∙ len-empty nat_cmp X)

-- ---- recalls

module _ (records : List Record) where
  abbrev begun_entry : Record → ℕ × Own → RecallStatus
  begun_entry r e = status_of records (record { site = r.engagement.me; number = e.0 }) e.1

  status_here : (r : Record) (x : RecallStatus) → Contains (statuses_by records r) x → x.recall.site ≡ r.engagement.me
  status_here r x at =
      let m = of_map (begun_entry r) (entries r.engagement.own) x at in
      ap (λ (z : RecallStatus). z.recall.site) (sym m.2)

  statuses_ascend : (r : Record) → IsStrictlySortedBy status_cmp (statuses_by records r)
  statuses_ascend r =
      map_ascends (begun_entry r) (λ a b. nat_cmp a.0 b.0) status_cmp (λ a b. ap (λ o. ordering_then o (nat_cmp a.0 b.0)) (tied_itself nat_cmp_total r.engagement.me))
      (entries r.engagement.own) (entries_ascend nat_cmp r.engagement.own)

  status_is : (x : RecallStatus) → (world_of records x.recall.site).engagement.me ≡ x.recall.site → Contains (statuses_by records (world_of records x.recall.site)) x ↔ IsStatus records x
  status_is x named =
      let r = world_of records x.recall.site in (
        λ at.
            let m = of_map (begun_entry r) (entries r.engagement.own) x at in
            let found = entry_found nat_cmp_total r.engagement.own m.0.0 m.0.1 m.1 in
            subst (IsStatus records) m.2 (record {
              entry = m.0.1;
              begun = subst (λ s. own (world_of records) s m.0.0 ≡ Some m.0.1) (sym named) found;
              root = refl;
              ended = refl;
              quarantined = refl;
              waiting = refl;
            }),
        λ is.
            let among = entry_there nat_cmp_total nat_cmp-IsAntisymmetric r.engagement.own x.recall.number is.entry is.begun in
            let recall : (record { site = r.engagement.me; number = x.recall.number }) ≡ x.recall = λ i. record { site = named i; number = x.recall.number } in
            let quarantined : sum_by (quarantined_count (record { site = r.engagement.me; number = x.recall.number })) records ≡ x.quarantined = ap (λ (z : Recall). sum_by (quarantined_count z) records) recall ∙ sym is.quarantined in
            let waiting : sum_by (waiting_count (record { site = r.engagement.me; number = x.recall.number })) records ≡ x.waiting = ap (λ (z : Recall). sum_by (waiting_count z) records) recall ∙ sym is.waiting in
            let same : begun_entry r (x.recall.number, is.entry) ≡ x = λ i. record { recall = recall i; root = sym is.root i; ended = sym is.ended i; quarantined = quarantined i; waiting = waiting i } in
            subst (Contains (statuses_by records r)) same (contains-map (begun_entry r) (entries r.engagement.own) (x.recall.number, is.entry) among),
      )

  pub all_statuses : AreInPlace records → AreAllBy status_cmp (IsStatus records) (flat_map (statuses_by records) records)
  all_statuses places =
      all_of_sites (λ (x : RecallStatus). x.recall.site) status_cmp (λ a b below. ap (λ o. ordering_then o (nat_cmp a.recall.number b.recall.number)) (nat_less a.recall.site b.recall.site below))
      (statuses_by records) status_here statuses_ascend records places (λ s. ap (map (begun_entry (fresh [] s))) no_entries) (IsStatus records) status_is

-- ---- sites

none_quarantined : (recall : Recall) (s : ℕ) → quarantined_count recall (fresh [] s) ≡ 0
none_quarantined recall s = ap (λ found. set.len (or_none found)) (get-empty recall_cmp recall) ∙ len-empty set.item_cmp (Unit {0})

pub concerned_is : (x : SiteStanding) → is_concerned x ≡ true → (0 < x.quarantined) ⊎ ((0 < x.waiting) ⊎ IsSome x.engaged_by)
concerned_is x is = elim (eqb x.quarantined 0) as (λ b. eqb x.quarantined 0 ≡ b → (not b || (not (eqb x.waiting 0) || is_some x.engaged_by)) ≡ true → (0 < x.quarantined) ⊎ ((0 < x.waiting) ⊎ IsSome x.engaged_by)) [
  | false ↦ λ e _. inl (grind (arith, e))
  | true ↦ λ _ h. elim (eqb x.waiting 0) as (λ b. eqb x.waiting 0 ≡ b → (not b || is_some x.engaged_by) ≡ true → (0 < x.quarantined) ⊎ ((0 < x.waiting) ⊎ IsSome x.engaged_by)) [
    | false ↦ λ e _. inr (inl (grind (arith, e)))
    | true ↦ λ _ h. inr (inr h)
  ] refl h
] refl is

not_none : (n : ℕ) → 0 < n → not (eqb n 0) ≡ true
not_none n some = grind (arith, some)

or_right : (a b : Bool) → b ≡ true → (a || b) ≡ true
or_right true b e = refl
or_right false b e = e

or_left : (a b : Bool) → a ≡ true → (a || b) ≡ true
or_left a b e = ap (λ c. c || b) e

pub is_concerned_from : (x : SiteStanding) → (0 < x.quarantined) ⊎ ((0 < x.waiting) ⊎ IsSome x.engaged_by) → is_concerned x ≡ true
is_concerned_from x (inl some) = or_left (not (eqb x.quarantined 0)) (not (eqb x.waiting 0) || is_some x.engaged_by) (not_none x.quarantined some)
is_concerned_from x (inr (inl some)) = or_right (not (eqb x.quarantined 0)) (not (eqb x.waiting 0) || is_some x.engaged_by) (or_left (not (eqb x.waiting 0)) (is_some x.engaged_by) (not_none x.waiting some))
is_concerned_from x (inr (inr some)) = or_right (not (eqb x.quarantined 0)) (not (eqb x.waiting 0) || is_some x.engaged_by) (or_right (not (eqb x.waiting 0)) (is_some x.engaged_by) some)

module _ (recall : Recall) where
  standing_here : (r : Record) (x : SiteStanding) → Contains (standings_at recall r) x → x.site ≡ r.engagement.me
  standing_here r x at = ap (λ (z : SiteStanding). z.site) (sym (one_member (is_concerned (standing_of recall r)) (standing_of recall r) x at).1)

  standings_ascend : (r : Record) → IsStrictlySortedBy standing_cmp (standings_at recall r)
  standings_ascend r = one_ascends standing_cmp (is_concerned (standing_of recall r)) (standing_of recall r)

  no_standings : (s : ℕ) → standings_at recall (fresh [] s) ≡ []
  no_standings s =
      let x = standing_of recall (fresh [] s) in
      let quiet : is_concerned x ≡ false =
      ap (λ n. not (eqb n 0) || (not (eqb x.waiting 0) || is_some x.engaged_by)) (none_quarantined recall s)
      ∙ ap (λ n. not (eqb n 0) || is_some x.engaged_by) (ap (λ (es : List (ℕ × Row)). count_by (λ row. same_recall row.recall recall) (map (λ e. e.1) es)) no_entries)
      ∙ ap is_some (get-empty recall_cmp recall) in
      ap (λ b. cond b (x ∷ []) []) quiet

  standing_is : (W : World) (x : SiteStanding) → (W x.site).engagement.me ≡ x.site → Contains (standings_at recall (W x.site)) x ↔ IsStanding W recall x
  standing_is W x named =
      let y = standing_of recall (W x.site) in (
        λ at.
            let one = one_member (is_concerned y) y x at in
            subst (IsStanding W recall) one.1 (record {
              quarantined = ap (λ s. quarantined_count recall (W s)) (sym named);
              waiting = ap (λ s. waiting_count recall (W s)) (sym named);
              engaged_by = ap (λ s. parent W s recall) (sym named);
              concerned = concerned_is y one.0;
            }),
        λ is.
            let same : y ≡ x = λ i. record { site = named i; quarantined = sym is.quarantined i; waiting = sym is.waiting i; engaged_by = sym is.engaged_by i } in
            the_member (is_concerned y) y x (ap is_concerned same ∙ is_concerned_from x is.concerned) same,
      )

  pub all_standings : (records : List Record) → AreInPlace records → AreAllBy standing_cmp (IsStanding (world_of records) recall) (flat_map (standings_at recall) records)
  all_standings records places =
      all_of_sites (λ (x : SiteStanding). x.site) standing_cmp (λ a b below. nat_less a.site b.site below)
      (standings_at recall) standing_here standings_ascend records places no_standings (IsStanding (world_of records) recall) (standing_is (world_of records))

-- ---- messages

module _ (W : World) (recall : Recall) where
  abbrev is_of : ℕ × Row → Bool
  is_of e = same_recall e.1.recall recall

  waiting_here : (r : Record) (x : WaitingMessage) → Contains (waiting_from W recall r) x → x.message.site ≡ r.engagement.me
  waiting_here r x at =
      let m = of_map (waiting_as W r.engagement.me) (filter is_of (entries r.engagement.outbox)) x at in
      ap (λ (z : WaitingMessage). z.message.site) (sym m.2)

  waiting_ascends : (r : Record) → IsStrictlySortedBy waiting_cmp (waiting_from W recall r)
  waiting_ascends r =
      map_ascends (waiting_as W r.engagement.me) (λ a b. nat_cmp a.0 b.0) waiting_cmp (λ a b. ap (λ o. ordering_then o (nat_cmp a.0 b.0)) (tied_itself nat_cmp_total r.engagement.me))
      (filter is_of (entries r.engagement.outbox))
      (IsStrictlySortedBy-filter (λ a b. nat_cmp a.0 b.0) is_of (entries r.engagement.outbox) (entries_ascend nat_cmp r.engagement.outbox))

  waiting_is : (x : WaitingMessage) → (W x.message.site).engagement.me ≡ x.message.site → Contains (waiting_from W recall (W x.message.site)) x ↔ IsWaiting W recall x
  waiting_is x named =
      let r = W x.message.site in
      let me = r.engagement.me in (
        λ at.
            let m = of_map (waiting_as W me) (filter is_of (entries r.engagement.outbox)) x at in
            let kept = filtered is_of (entries r.engagement.outbox) m.0 m.1 in
            let found : get r.engagement.outbox m.0.0 ≡ Some m.0.1 = entry_found nat_cmp_total r.engagement.outbox m.0.0 m.0.1 kept.0 in
            let of_it : m.0.1.recall ≡ recall = one_recall m.0.1.recall recall kept.1 in
            subst (IsWaiting W recall) m.2 (record {
              row = subst (λ s. row W s m.0.0 ≡ Some (record { dest = m.0.1.dest; recall = recall; item = m.0.1.item })) (sym named)
                  (found ∙ ap (λ (q : Recall). Some (record { dest = m.0.1.dest; recall = q; item = m.0.1.item })) of_it);
              told = refl;
            }),
        λ is.
            let stands : Row = record { dest = x.to; recall = recall; item = x.item } in
            let among = entry_there nat_cmp_total nat_cmp-IsAntisymmetric r.engagement.outbox x.message.number stands is.row in
            let kept = filtered_in is_of (entries r.engagement.outbox) (x.message.number, stands) among (equal_recalls recall recall refl) in
            let message : (record { site = me; number = x.message.number }) ≡ x.message = λ i. record { site = named i; number = x.message.number } in
            let told : is_some (seen W x.to (record { site = me; number = x.message.number })) ≡ x.told = ap (λ (z : Message). is_some (seen W x.to z)) message ∙ sym is.told in
            let same : waiting_as W me (x.message.number, stands) ≡ x = λ i. record { message = message i; to = x.to; item = x.item; told = told i } in
            subst (Contains (waiting_from W recall r)) same (contains-map (waiting_as W me) (filter is_of (entries r.engagement.outbox)) (x.message.number, stands) kept),
      )

pub all_waiting : (records : List Record) (recall : Recall) → AreInPlace records → AreAllBy waiting_cmp (IsWaiting (world_of records) recall) (flat_map (waiting_from (world_of records) recall) records)
all_waiting records recall places =
    let W = world_of records in
    all_of_sites (λ (x : WaitingMessage). x.message.site) waiting_cmp
    (λ a b below. ap (λ o. ordering_then o (nat_cmp a.message.number b.message.number)) (nat_less a.message.site b.message.site below))
    (waiting_from W recall) (waiting_here W recall) (waiting_ascends W recall) records places
    (λ s. ap (λ es. map (waiting_as W s) (filter (λ (e : ℕ × Row). same_recall e.1.recall recall) es)) no_entries) (IsWaiting W recall) (waiting_is W recall)
