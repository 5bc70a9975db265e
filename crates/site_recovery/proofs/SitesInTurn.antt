-- The records that references point to, one site after another.
use Rattle.std.proofs.Common.{◌≡◌, ◌↔◌, inl, inr, ℕ, ◌<◌, ◌≤◌, Bool, List, [], ◌∷◌, length, get_or, Bor, Some, None, is_some, refl, sym, ap, ◌∙◌, subst, arith}
use Rattle.std.specs.FinMap.{get}
use Rattle.std.specs.FinMap as finite
use Rattle.std.specs.Prelude.{IsTrue}
use Rattle.std.specs.List.{Contains}
use Rattle.std.proofs.lemmas.List.{get_or-map, get_or_default, get_or_past, length-map}
use mathlib.Core.Bool.{false≢true}
use Rattle.frame_core.specs.Numbers.{Recall, Message}
use Rattle.site_core.specs.ItemSets.{Items, item_cmp}
use Rattle.site_core.specs.ItemSets as set
use Rattle.site_core.specs.Quarantines.{HasNoEmptySet, or_none}
use Rattle.site_core.specs.Records.{Record, fresh}
use Rattle.site_recovery.specs.Checking.{records_at, world_at}
use Rattle.site_recovery.specs.FittingAt.{AreAllSites}
use Rattle.site_recovery.specs.Looks.{World, Held, seen}
use Rattle.site_core.proofs.Held.{none_held}
use Rattle.site_core.proofs.ItemOrder.{item_total, item_exact}
use Rattle.trace_core.proofs.Members.{contains_here}
use Rattle.site_recovery.proofs.Absent.{none_seen, no_item}
use Rattle.site_core.proofs.Entries.{entry_found}
use Rattle.site_recovery.proofs.Exact.{within_or_past}

counted : (refs : List (Bor Record)) → length (records_at refs) ≡ length refs
counted refs = length-map refs (λ r. r.now)

-- the record that stands at a place
pub site_of : (refs : List (Bor Record)) (k : ℕ) (x : Bor Record) → k < length refs → get_or refs k x ≡ x → world_at refs k ≡ x.now
site_of refs k x below at = get_or-map (λ (r : Bor Record). r.now) refs k x (fresh [] k) below ∙ ap (λ (r : Bor Record). r.now) at

pub some_site : (refs : List (Bor Record)) (s : ℕ) → s < length refs → (x : Bor Record) × Contains refs x × (world_at refs s ≡ x.now)
some_site [] s below = absurd (omega (arith, below))
some_site (y ∷ ys) s below =
    let x = get_or (y ∷ ys) s y in
    let at : get_or (y ∷ ys) s x ≡ x = get_or_default (y ∷ ys) s x y below in
    (x, (s, below, at), site_of (y ∷ ys) s x below at)

pub past_end : (refs : List (Bor Record)) (s : ℕ) → length refs ≤ s → world_at refs s ≡ fresh [] s
past_end refs s past = get_or_past (records_at refs) s (fresh [] s) (subst (λ n. n ≤ s) (sym (counted refs)) past)

-- what each record passes, each site passes
pub each_site : (refs : List (Bor Record)) (P : Record → Type 0) (b : Bool) → (IsTrue b ↔ ((x : Bor Record) → Contains refs x → P x.now)) → IsTrue b ↔ ((s : ℕ) → s < length refs → P (world_at refs s))
each_site refs P b decides = (
  λ h s below. let x = some_site refs s below in subst P (sym x.2) (decides.0 h x.0 x.1),
  λ all. decides.1 (λ x (k, below, at). subst P (site_of refs k x below at) (all k below)),
)

pub each_seen_of : (refs : List (Bor Record)) (P : Message → Recall → Type 0) (b : Bool)
    → (IsTrue b ↔ ((x : Bor Record) → Contains refs x → (m : Message) (r : Recall) → get x.now.engagement.seen m ≡ Some r → P m r))
    → IsTrue b ↔ ((s : ℕ) (m : Message) (r : Recall) → seen (world_at refs) s m ≡ Some r → P m r)
each_seen_of refs P b decides =
    let each = each_site refs (λ z. (m : Message) (r : Recall) → get z.engagement.seen m ≡ Some r → P m r) b decides in (
      λ h s m r is. elim (within_or_past s (length refs)) as (λ _. P m r) [
        | inl below ↦ each.0 h s below m r is
        | inr past ↦ absurd (let none : None ≡ Some r = none_seen (world_at refs) s (past_end refs s past) m ∙ is in cc)
      ],
      λ all. each.1 (λ s _ m r is. all s m r is),
    )

-- each record is in its place
pub in_place : (refs : List (Bor Record)) → AreAllSites (records_at refs) → (k : ℕ) (x : Bor Record) → k < length refs → get_or refs k x ≡ x → x.now.engagement.me ≡ k
in_place refs all k x below at =
    ap (λ (z : Record). z.engagement.me) (sym (site_of refs k x below at)) ∙ (all k (subst (λ n. k < n) (sym (counted refs)) below)).place.engagement

-- a set that isn't empty has an item
some_item : (items : Items) → (items ≡ set.empty → ⊥) → (i : List ℕ) × IsTrue (set.contains items i)
some_item items some = elim (finite.entries items) as (λ es. finite.entries items ≡ es → (i : List ℕ) × IsTrue (set.contains items i)) [
  | [] ↦ λ none. absurd (some (finite.same_map item_total item_exact items set.empty (λ q. finite.get-entries items q ∙ ap (finite.find item_cmp q) none ∙ sym (finite.get-empty item_cmp q))))
  | e ∷ es ↦ λ is. (e.0, ap is_some (entry_found item_total items e.0 e.1 (subst (λ xs. Contains xs e) (sym is) (contains_here e es))))
] refl

some_held : (W : World) (s : ℕ) → HasNoEmptySet (W s).quarantine → (r : Recall) (items : Items) → get (W s).quarantine r ≡ Some items → (i : List ℕ) × Held W s r i
some_held W s full r items is =
    let one = some_item items (λ empty. full r (is ∙ ap Some empty)) in
    (one.0, ap (λ found. set.contains (or_none found) one.0) is ∙ one.1)

some_kept : (W : World) (s : ℕ) (r : Recall) (i : List ℕ) → Held W s r i → (items : Items) × (get (W s).quarantine r ≡ Some items)
some_kept W s r i h = elim (get (W s).quarantine r) as (λ found. get (W s).quarantine r ≡ found → (items : Items) × (get (W s).quarantine r ≡ Some items)) [
  | None ↦ λ none. absurd (false≢true (sym (none_held (W s).quarantine r i none) ∙ h))
  | Some items ↦ λ is. (items, is)
] refl

-- what each recall under which something is quarantined passes, each such recall passes at all sites
pub each_recall_of : (refs : List (Bor Record)) → AreAllSites (records_at refs) → (P : Recall → Type 0) (b : Bool)
    → (IsTrue b ↔ ((x : Bor Record) → Contains refs x → (r : Recall) (items : Items) → get x.now.quarantine r ≡ Some items → P r))
    → IsTrue b ↔ ((s : ℕ) (r : Recall) (i : List ℕ) → Held (world_at refs) s r i → P r)
each_recall_of refs all P b decides =
    let each = each_site refs (λ z. (r : Recall) (items : Items) → get z.quarantine r ≡ Some items → P r) b decides in (
      λ h s r i is. elim (within_or_past s (length refs)) as (λ _. P r) [
        | inl below ↦ let kept = some_kept (world_at refs) s r i is in each.0 h s below r kept.0 kept.1
        | inr past ↦ absurd (false≢true (no_item (world_at refs) s (past_end refs s past) r i ∙ is))
      ],
      λ every. each.1 (λ s below r items is.
          let one = some_held (world_at refs) s (all s (subst (λ n. s < n) (sym (counted refs)) below)).sound.no_empty_set r items is in
          every s r one.0 one.1),
    )

pub place_of : (refs : List (Bor Record)) → AreAllSites (records_at refs) → (s : ℕ) → s < length refs → (world_at refs s).engagement.me ≡ s
place_of refs all s below = (all s (subst (λ n. s < n) (sym (counted refs)) below)).place.engagement
