-- Items that are kept beside those that are counted.
use Rattle.std.proofs.Common.{◌≡◌, ◌↔◌, ◌⊎◌, inl, inr, ℕ, Bool, true, false, cond, List, [], ◌∷◌, Option, Some, None, is_some, refl, sym, ap, ◌∙◌, subst, ⊎_elim, Contains}
use mathlib.Core.Bool.{false≢true}
use Rattle.std.specs.BTreeMap.{Updates}
use Rattle.std.specs.Cmp.Lexicographic.{bytes_decides, texts_ties}
use Rattle.std.specs.FinMap.{contains_key-keys, entries}
use Rattle.std.specs.Ordering.{eq_by_cmp, is_eq}
use Rattle.std.specs.Prelude.{IsSome, IsTrue}
use Rattle.std.proofs.lemmas.Cmp.{tied_itself}
use Rattle.std.proofs.lemmas.Map.Lookups.{exact_bytes}
use Rattle.std.proofs.lemmas.Map.Views.{tells_apart}
use Rattle.frame_core.specs.Numbers.{Recall}
use Rattle.frame_core.specs.Orders.{recall_total, recall_exact}
use Rattle.trace_core.specs.PairTests.{same_item}
use Rattle.trace_core.proofs.Members.{contains_here, contains_there, contains_cases, contains_none, list_any_member, list_any_witness}
use Rattle.site_core.specs.ItemSets as set
use Rattle.site_core.specs.ItemSets.{Items, item_cmp}
use Rattle.site_core.specs.Quarantines.{Quarantine, held}
use Rattle.site_core.proofs.Entries.{entry_found, entry_there}
use Rattle.site_core.proofs.ItemOrder.{item_total}
use Rattle.site_recovery.proofs.QuarantinedItems.{held_is, kept_set}
use Rattle.query_core.specs.Mentions.{Counts, counted, kept, Keeps}
use Rattle.query_core.specs.declared.mentions.Mentions.{Mentions}

abbrev pub InList : List (List ℕ) → List ℕ → Type 0
InList items i = Contains items i

-- the item is in one of the sets
abbrev pub InSets : List (Recall × Items) → List ℕ → Type 0
InSets sets i = (e : Recall × Items) × Contains sets e × Contains (set.items e.1) i

-- with those of Left, just those of All are kept beside those that were
pub record KeptSoFar (first now : Counts) (Left All : List ℕ → Type 0) : Type 0 where
  pub events : (i : List ℕ) → counted (kept now i) ≡ counted (kept first i)
  pub items : (i : List ℕ) → (IsSome (kept now i) ⊎ Left i) ↔ (IsSome (kept first i) ⊎ All i)

pub keeping_begins : (counts : Counts) (Left All : List ℕ → Type 0) → ((i : List ℕ) → Left i ↔ All i) → KeptSoFar counts counts Left All
keeping_begins counts Left All same = record {
  events = λ i. refl;
  items = λ i. (λ h. ⊎_elim (λ was. inl was) (λ left. inr ((same i).0 left)) h, λ h. ⊎_elim (λ was. inl was) (λ all. inr ((same i).1 all)) h);
}

-- some of those that were left are kept
pub keeping_goes_on : (first old new : Counts) (Left Some' Rest All : List ℕ → Type 0) → ((i : List ℕ) → Left i ↔ (Some' i ⊎ Rest i)) → KeptSoFar first old Left All → Keeps old new Some' → KeptSoFar first new Rest All
keeping_goes_on first old new Left Some' Rest All parts so_far keeps = record {
  events = λ i. keeps.events i ∙ so_far.events i;
  items = λ i. (
    λ h. (so_far.items i).0 (⊎_elim
        (λ is. ⊎_elim (λ was. inl was) (λ some. inr ((parts i).1 (inl some))) ((keeps.items i).0 is))
        (λ rest. inr ((parts i).1 (inr rest)))
        h),
    λ h. ⊎_elim
        (λ was. inl ((keeps.items i).1 (inl was)))
        (λ left. ⊎_elim (λ some. inl ((keeps.items i).1 (inr some))) (λ rest. inr rest) ((parts i).0 left))
        ((so_far.items i).1 h),
  );
}

pub keeping_ends : (first now : Counts) (Left All Is : List ℕ → Type 0) → ((i : List ℕ) → Left i → ⊥) → ((i : List ℕ) → All i ↔ Is i) → KeptSoFar first now Left All → Keeps first now Is
keeping_ends first now Left All Is none same so_far = record {
  events = so_far.events;
  items = λ i. (
    λ is. ⊎_elim (λ was. inl was) (λ all. inr ((same i).0 all)) ((so_far.items i).0 (inl is)),
    λ h. ⊎_elim (λ is. is) (λ left. absurd (none i left)) ((so_far.items i).1 (⊎_elim (λ was. inl was) (λ is. inr ((same i).1 is)) h)),
  );
}

-- ---- what is left

pub first_item : (before rest : List (List ℕ)) (item : List ℕ) → before ≡ item ∷ rest → (i : List ℕ) → InList before i ↔ ((item ≡ i) ⊎ InList rest i)
first_item before rest item next i = (
  λ at. contains_cases item i rest (subst (λ xs. Contains xs i) next at),
  λ h. subst (λ xs. Contains xs i) (sym next) (⊎_elim (λ same. subst (Contains (item ∷ rest)) same (contains_here item rest)) (λ later. contains_there item i rest later) h),
)

pub first_set : (before rest : List (Recall × Items)) (e : Recall × Items) → before ≡ e ∷ rest → (i : List ℕ) → InSets before i ↔ (Contains (set.items e.1) i ⊎ InSets rest i)
first_set before rest e next i = (
  λ (d, among, at). ⊎_elim
      (λ same. inl (subst (λ (z : Recall × Items). Contains (set.items z.1) i) (sym same) at))
      (λ later. inr (d, later, at))
      (contains_cases e d rest (subst (λ xs. Contains xs d) next among)),
  λ h. subst (λ xs. InSets xs i) (sym next) (⊎_elim
      (λ at. (e, contains_here e rest, at))
      (λ (d, among, at). (d, contains_there e d rest among, at))
      h),
)

pub no_item_left : (rest : List (List ℕ)) → rest ≡ [] → (i : List ℕ) → InList rest i → ⊥
no_item_left rest none i at = contains_none i (subst (λ xs. Contains xs i) none at)

pub no_set_left : (rest : List (Recall × Items)) → rest ≡ [] → (i : List ℕ) → InSets rest i → ⊥
no_set_left rest none i (e, among, at) = contains_none e (subst (λ xs. Contains xs e) none among)

item_among : (s : Items) (i : List ℕ) → Contains (set.items s) i ↔ IsTrue (set.contains s i)
item_among s i = (
  λ at. contains_key-keys s i ∙ list_any_member (eq_by_cmp item_cmp i) (set.items s) i at (ap is_eq (tied_itself item_total i)),
  λ has.
      let w = list_any_witness (eq_by_cmp item_cmp i) (set.items s) (sym (contains_key-keys s i) ∙ has) in
      subst (Contains (set.items s)) (sym (tells_apart exact_bytes i w.0 w.2)) w.1,
)

-- what the sets of a quarantine have is what is quarantined under some recall
pub quarantined_sets : (q : Quarantine) (i : List ℕ) → InSets (entries q) i ↔ ((r : Recall) × IsTrue (held q r i))
quarantined_sets q i = (
  λ (e, among, at).
      let found = entry_found recall_total q e.0 e.1 among in
      (e.0, held_is q e.0 e.1 i found ∙ (item_among e.1 i).0 at),
  λ (r, is).
      let items = kept_set q r i is in
      ((r, items.0), entry_there recall_total recall_exact q r items.0 items.1, (item_among items.0 i).1 (sym (held_is q r items.0 i items.1) ∙ is)),
)

-- ---- one item

nothing_new : (counts : Counts) (item : List ℕ) → IsSome (kept counts item) → Keeps counts counts (λ i. item ≡ i)
nothing_new counts item has = record {
  events = λ i. refl;
  items = λ i. (λ is. inl is, λ h. ⊎_elim (λ is. is) (λ same. subst (λ j. IsSome (kept counts j)) same has) h);
}

pub already_kept : (counts : Counts) (item : List ℕ) (b : Bool) → b ≡ is_some (kept counts item) → b ≡ true → Keeps counts counts (λ i. item ≡ i)
already_kept counts item b is stands = nothing_new counts item (sym is ∙ stands)

none_kept : (x : Option Mentions) → is_some x ≡ false → x ≡ None
none_kept None e = refl
none_kept (Some m) e = absurd (false≢true (sym e))

pub newly_kept : (old new : Counts) (item : List ℕ) (m : Mentions) (b : Bool) → b ≡ is_some (kept old item) → b ≡ false → m.events ≡ 0 → Updates item_cmp old new item (Some m) → Keeps old new (λ i. item ≡ i)
newly_kept old new item m b is absent zero updates = record {
  events = λ i. counted_at i (same_item item i) refl;
  items = λ i. kept_at i (same_item item i) refl;
}
  where
    now : (i : List ℕ) → kept new i ≡ cond (same_item item i) (Some m) (kept old i)
    now i = updates.0 i ∙ ap (λ b. cond b (Some m) (kept old i)) (sym (texts_ties item i))

    was : (i : List ℕ) → same_item item i ≡ true → kept old i ≡ None
    was i same = ap (kept old) (sym ((bytes_decides item i).0 same)) ∙ none_kept (kept old item) (sym is ∙ absent)

    counted_at : (i : List ℕ) (t : Bool) → same_item item i ≡ t → counted (kept new i) ≡ counted (kept old i)
    counted_at i true same = ap counted (now i ∙ ap (λ b. cond b (Some m) (kept old i)) same) ∙ zero ∙ sym (ap counted (was i same))
    counted_at i false other = ap counted (now i ∙ ap (λ b. cond b (Some m) (kept old i)) other)

    kept_at : (i : List ℕ) (t : Bool) → same_item item i ≡ t → IsSome (kept new i) ↔ (IsSome (kept old i) ⊎ (item ≡ i))
    kept_at i true same = (
      λ _. inr ((bytes_decides item i).0 same),
      λ _. ap is_some (now i ∙ ap (λ b. cond b (Some m) (kept old i)) same),
    )
    kept_at i false other = (
      λ has. inl (sym (ap is_some (now i ∙ ap (λ b. cond b (Some m) (kept old i)) other)) ∙ has),
      λ h. ⊎_elim
          (λ has. ap is_some (now i ∙ ap (λ b. cond b (Some m) (kept old i)) other) ∙ has)
          (λ same. absurd (false≢true (sym other ∙ (bytes_decides item i).1 same)))
          h,
    )
