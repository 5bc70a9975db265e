-- Those items of a map in whose keys the text stands.
use Rattle.std.proofs.Common.{◌≡◌, ◌↔◌, inl, inr, ℕ, Bool, true, false, cond, List, [], ◌∷◌, Option, Some, None, is_some, refl, sym, ap, ◌∙◌, subst, ⊎_elim, Contains}
use mathlib.Core.Bool.{false≢true}
use Rattle.std.specs.BTreeMap.{IsOrdered}
use Rattle.std.specs.FinMap.{entries, get}
use Rattle.std.specs.List.{AllByRecursion}
use Rattle.std.specs.List.Sorted.{IsStrictlySortedBy}
use Rattle.std.specs.Prelude.{IsSome, IsTrue}
use Rattle.std.specs.declared.cmp.Ordering.TheVariants.{Less}
use Rattle.event_json.specs.Events.{Content}
use Rattle.frame_core.specs.Numbers.{Recall}
use Rattle.frame_core.specs.Tables.{as_map}
use Rattle.frame_core.proofs.Maps.{map_entries, map_found}
use Rattle.trace_core.proofs.Members.{contains_here, contains_there, contains_cases, contains_none}
use Rattle.site_core.specs.ItemSets.{item_cmp}
use Rattle.site_core.specs.Quarantines.{held}
use Rattle.site_core.specs.Records.{Record}
use Rattle.site_core.specs.Spreading.{IsKnownItem}
use Rattle.site_core.proofs.Entries.{entry_found, entry_there}
use Rattle.site_core.proofs.ItemOrder.{item_exact, item_total}
use Rattle.query_core.specs.KnownItems.{events_naming, AreKnownItems, IsKnownWith, known_cmp}
use Rattle.query_core.specs.Mentions.{Counts, AreCounted, counted, IsCounted, is_inside, kept, Keeps, told}
use Rattle.query_core.specs.declared.known_items.KnownItem.{KnownItem}
use Rattle.query_core.specs.declared.mentions.Mentions.{Mentions}
use Rattle.query_core.proofs.Inside.{found_inside, inside_found}
use Rattle.query_core.proofs.Listed.{entries_ascend}
use Rattle.query_core.proofs.Naming.{named_by}

abbrev as_known : List ℕ × Mentions → KnownItem
as_known e = record { item = e.0; events = e.1.events }

-- an entry with this item and this count, in whose key the text stands
pub record HasEntry (text : List ℕ) (es : List (List ℕ × Mentions)) (k : KnownItem) : Type 0 where
  pub mentions : Mentions
  pub entry : Contains es (k.item, mentions)
  pub inside : is_inside text k.item ≡ true
  pub count : mentions.events ≡ k.events

module _ (text : List ℕ) where
  later_entry : (e : List ℕ × Mentions) (es : List (List ℕ × Mentions)) (k : KnownItem) → HasEntry text es k → HasEntry text (e ∷ es) k
  later_entry e es k has = record { mentions = has.mentions; entry = contains_there e (k.item, has.mentions) es has.entry; inside = has.inside; count = has.count }

  first_entry : (e : List ℕ × Mentions) (es : List (List ℕ × Mentions)) (k : KnownItem) → is_inside text e.0 ≡ true → as_known e ≡ k → HasEntry text (e ∷ es) k
  first_entry e es k passes is = subst (HasEntry text (e ∷ es)) is (record { mentions = e.1; entry = contains_here e es; inside = passes; count = refl })

  told_has : (es : List (List ℕ × Mentions)) (k : KnownItem) → Contains (told text es) k → HasEntry text es k
  told_has [] k at = absurd (contains_none k at)
  told_has (e ∷ es) k at = elim (is_inside text e.0) as (λ b. is_inside text e.0 ≡ b → Contains (cond b (as_known e ∷ told text es) (told text es)) k → HasEntry text (e ∷ es) k) [
    | true ↦ λ passes h. ⊎_elim (λ is. first_entry e es k passes is) (λ later. later_entry e es k (told_has es k later)) (contains_cases (as_known e) k (told text es) h)
    | false ↦ λ _ h. later_entry e es k (told_has es k h)
  ] refl at

  told_later : (e : List ℕ × Mentions) (es : List (List ℕ × Mentions)) (k : KnownItem) (b : Bool) → Contains (told text es) k → Contains (cond b (as_known e ∷ told text es) (told text es)) k
  told_later e es k true at = contains_there (as_known e) k (told text es) at
  told_later e es k false at = at

  has_told : (es : List (List ℕ × Mentions)) (k : KnownItem) (m : Mentions) → Contains es (k.item, m) → is_inside text k.item ≡ true → m.events ≡ k.events → Contains (told text es) k
  has_told [] k m at passes count = absurd (contains_none (k.item, m) at)
  has_told (e ∷ es) k m at passes count = ⊎_elim
      (λ is.
      let stands : is_inside text e.0 ≡ true = ap (λ (d : List ℕ × Mentions). is_inside text d.0) is ∙ passes in
      let same : as_known e ≡ k = ap as_known is ∙ (λ i. record { item = k.item; events = count i }) in
      subst (λ b. Contains (cond b (as_known e ∷ told text es) (told text es)) k) (sym stands) (subst (Contains (as_known e ∷ told text es)) same (contains_here (as_known e) (told text es))))
      (λ later. told_later e es k (is_inside text e.0) (has_told es k m later passes count))
      (contains_cases e (k.item, m) es at)

  above_cond : (b : Bool) (x : List ℕ) (e : List ℕ × Mentions) (ks : List KnownItem) → item_cmp x e.0 ≡ Less → AllByRecursion (λ (k : KnownItem). item_cmp x k.item ≡ Less) ks
      → AllByRecursion (λ (k : KnownItem). item_cmp x k.item ≡ Less) (cond b (as_known e ∷ ks) ks)
  above_cond true x e ks below all = (below, all)
  above_cond false x e ks below all = all

  told_above : (x : List ℕ) (es : List (List ℕ × Mentions)) → AllByRecursion (λ e. item_cmp x e.0 ≡ Less) es → AllByRecursion (λ (k : KnownItem). item_cmp x k.item ≡ Less) (told text es)
  told_above x [] above = tt
  told_above x (e ∷ es) above = above_cond (is_inside text e.0) x e (told text es) above.0 (told_above x es above.1)

  ascends_cond : (b : Bool) (e : List ℕ × Mentions) (ks : List KnownItem) → AllByRecursion (λ (k : KnownItem). item_cmp e.0 k.item ≡ Less) ks → IsStrictlySortedBy known_cmp ks
      → IsStrictlySortedBy known_cmp (cond b (as_known e ∷ ks) ks)
  unfolding IsStrictlySortedBy
  ascends_cond true e ks above up = (above, up)
  ascends_cond false e ks above up = up

  told_ascends : (es : List (List ℕ × Mentions)) → IsStrictlySortedBy (λ a b. item_cmp a.0 b.0) es → IsStrictlySortedBy known_cmp (told text es)
  unfolding IsStrictlySortedBy
  told_ascends [] up = tt
  told_ascends (e ∷ es) up = ascends_cond (is_inside text e.0) e (told text es) (told_above e.0 es up.0) (told_ascends es up.1)

-- ---- what is known

-- an item that is counted is named by an event
count_known : (events : List Content) (n place : ℕ) (i : List ℕ) (found : Option Mentions) → n ≡ events_naming events i → IsCounted n place found → (counted found ≡ events_naming events i)
count_known events n place i None is none = sym none ∙ is
count_known events n place i (Some m) is (same, some, before) = same ∙ is

module _ (r : Record) (text : List ℕ) (named counts : Counts) (place : ℕ) (are : AreCounted r.captured.events place named)
    (keeps : Keeps named counts (λ i. (q : Recall) × IsTrue (held r.quarantine q i))) (ordered : IsOrdered item_cmp counts) where
  events_of : (i : List ℕ) → counted (kept counts i) ≡ events_naming r.captured.events i
  events_of i = keeps.events i ∙ count_known r.captured.events (events_naming r.captured.events i) place i (kept named i) refl (are i)

  known_is : (i : List ℕ) → IsSome (kept counts i) ↔ IsKnownItem r.captured r.quarantine i
  known_is i = (
    λ is. ⊎_elim (λ was. inl ((named_by r.captured.events place i (kept named i) (are i)).0 was)) (λ has. inr has) ((keeps.items i).0 is),
    λ known. (keeps.items i).1 (⊎_elim (λ any. inl ((named_by r.captured.events place i (kept named i) (are i)).1 any)) (λ has. inr has) known),
  )

  looked_up : (i : List ℕ) → kept counts i ≡ get (as_map item_cmp counts) i
  looked_up i = map_found item_total counts i ordered

  same_entries : counts.entries ≡ entries (as_map item_cmp counts)
  same_entries = map_entries item_cmp counts ordered

  entry_kept : (i : List ℕ) (m : Mentions) → Contains counts.entries (i, m) → kept counts i ≡ Some m
  entry_kept i m at = looked_up i ∙ entry_found item_total (as_map item_cmp counts) i m (subst (λ es. Contains es (i, m)) same_entries at)

  kept_entry : (i : List ℕ) (m : Mentions) → kept counts i ≡ Some m → Contains counts.entries (i, m)
  kept_entry i m is = subst (λ es. Contains es (i, m)) (sym same_entries) (entry_there item_total item_exact (as_map item_cmp counts) i m (sym (looked_up i) ∙ is))

  the_mentions : (found : Option Mentions) → IsSome found → (m : Mentions) × (found ≡ Some m)
  the_mentions None is = absurd (false≢true is)
  the_mentions (Some m) is = (m, refl)

  known_with : (k : KnownItem) → Contains (told text counts.entries) k ↔ IsKnownWith r text k
  known_with k = (
    λ at.
        let has = told_has text counts.entries k at in
        let is = entry_kept k.item has.mentions has.entry in
        record {
          known = (known_is k.item).0 (ap is_some is);
          inside = inside_found text k.item has.inside;
          events = sym has.count ∙ sym (ap counted is) ∙ events_of k.item;
        },
    λ is.
        let found = the_mentions (kept counts k.item) ((known_is k.item).1 is.known) in
        has_told text counts.entries k found.0 (kept_entry k.item found.0 found.1) (found_inside text k.item is.inside) (sym (ap counted found.1) ∙ events_of k.item ∙ sym is.events),
  )

  pub are_known : (items : List KnownItem) → items ≡ told text counts.entries → AreKnownItems r text items
  are_known items is = subst (AreKnownItems r text) (sym is) (record {
    ascending = told_ascends text counts.entries (subst (IsStrictlySortedBy (λ a b. item_cmp a.0 b.0)) (sym same_entries) (entries_ascend item_cmp (as_map item_cmp counts)));
    exact = known_with;
  })
