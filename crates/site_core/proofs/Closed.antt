-- What is quarantined stays closed inside its site, and what a message adds is found past what is quarantined.
use Rattle.std.proofs.Common.{◌≡◌, ◌⊎◌, ◌↔◌, inl, inr, ℕ, true, false, not, filter, List, [], ◌∷◌, Option, Some, None, refl, sym, ap, subst, ◌∙◌, ⊎_elim}
use mathlib.Core.Bool.{false≢true}
use Rattle.std.specs.Prelude.{IsTrue}
use Rattle.std.specs.BTreeMap.{BTreeMap}
use Rattle.std.specs.BTreeSet.{BTreeSet, contains}
use Rattle.std.specs.FinMap.{empty, get, get-empty, insert, remove, contains_key-keys}
use Rattle.std.specs.List.{Contains, list_any}
use Rattle.std.specs.Ordering.{eq_by_cmp}
use Rattle.event_json.specs.Events.{Content}
use Rattle.frame_core.specs.Identifiers.{recall_cmp}
use Rattle.frame_core.specs.Numbers.{Recall}
use Rattle.frame_core.specs.Orders.{recall_total, recall_exact}
use Rattle.frame_core.specs.Tables.{as_map}
use Rattle.frame_core.proofs.Lookups.{one_key, get_here, get_apart, get_gone, get_left}
use Rattle.frame_core.proofs.Maps.{no_entries}
use Rattle.trace_core.specs.Adding.{Addition}
use Rattle.trace_core.specs.Beyond.{IsStop, IsSpreadBeyond}
use Rattle.trace_core.specs.Groups.{GoesInto}
use Rattle.trace_core.specs.Sites.{SiteEvents}
use Rattle.trace_core.specs.Spreads.{AreAscendingItems, Inside, IsSpread}
use Rattle.trace_core.specs.declared.groups.Group.{Group}
use Rattle.trace_core.proofs.ChainLaws.{reached_holds, reached_step}
use Rattle.trace_core.proofs.Members.{contains_cases, contains_none}
use Rattle.site_core.specs.declared.shortcuts.Shortcuts.{Shortcuts}
use Rattle.site_core.specs.Capturing.{IsCaptured}
use Rattle.site_core.specs.ItemSets as set
use Rattle.site_core.specs.ItemSets.{Items, item_cmp}
use Rattle.site_core.specs.Quarantines.{Quarantine, or_none, held, with_items}
use Rattle.site_core.specs.Shortcuts.{IsClosedInside, TakeHeld, AreShortcuts, IsSpreadPast}
use Rattle.site_core.specs.Spreading.{AreNewlyHeld}
use Rattle.site_core.proofs.Growths.{captures_lead_no_further}
use Rattle.site_core.proofs.Held.{none_held}
use Rattle.site_core.proofs.HeldLaws.{held_several}
use Rattle.site_core.proofs.Newly.{newly, kept_new}
use Rattle.site_core.proofs.Transformations.{gives_held, goes_into_later}

pub held_or_not : (q : Quarantine) (r : Recall) (i : List ℕ) → IsTrue (held q r i) ⊎ (IsTrue (held q r i) → ⊥)
held_or_not q r i = elim (held q r i) as (λ b. (b ≡ true) ⊎ (b ≡ true → ⊥)) [
  | true ↦ inl refl
  | false ↦ inr (λ h. false≢true h)
]

-- What a message adds.
module _ (s : SiteEvents) (q : Quarantine) (r : Recall) (i : List ℕ) (seen seen' : BTreeSet Group) (closed : IsClosedInside s q) (taken : TakeHeld s q r seen) (found : List (List ℕ)) (past : IsSpreadPast s q r i seen seen' found) where
  -- all of the spread is quarantined, or found
  reached : (j : List ℕ) → IsSpread s (i ∷ []) j → IsTrue (held q r j) ⊎ Contains found j
  reached j (x, there, reaches) = reached_holds (Inside s) (λ j. IsTrue (held q r j) ⊎ Contains found j) (λ y z so_far made. ⊎_elim
      (λ h. inl (closed r y z h made))
      (λ there. ⊎_elim
      (λ h. inl (closed r y z h made))
      (λ free. ⊎_elim (λ found. inr found) (λ given. inl (gives_held s q r seen closed taken z given)) (past.followed y z there free made))
      (held_or_not q r y))
      so_far)
      x j reaches (inr (subst (Contains found) (⊎_elim (λ same. same) (λ none. absurd (contains_none x none)) (contains_cases i x [] there)) past.start))

  module _ (out : List (List ℕ)) (is : out ≡ filter (λ j. not (held q r j)) found) where
    pub past_newly : AreAscendingItems found → AreNewlyHeld s q r i out
    past_newly up = newly s q r i found out up
        (λ j free. (λ there. past.sound j there, λ spread. ⊎_elim (λ h. absurd (free h)) (λ there. there) (reached j spread)))
        is

    pub past_seen : TakeHeld s (with_items q r out) r seen'
    past_seen first there = ⊎_elim
        (λ old. let (j, h, into) = taken first old in (j, (held_several q r out r j).1 (inr h), into))
        (λ (j, among, into). (j, (held_several q r out r j).1 (⊎_elim (λ h. inr h) (λ free. inl (refl, kept_new q r found out is j among free)) (held_or_not q r j)), into))
        (past.taken first there)

-- The search stops at what is quarantined under the recall.
module _ (q : Quarantine) (r : Recall) (stop : BTreeSet (List ℕ)) where
  pub stops : (items : Items) → Some items ≡ get q r → stop.keys ≡ set.items items → (j : List ℕ) → IsStop stop j ↔ IsTrue (held q r j)
  stops items under keys j =
      let same : contains item_cmp stop j ≡ held q r j = ap (list_any (eq_by_cmp item_cmp j)) keys ∙ sym (contains_key-keys items j) ∙ ap (λ o. set.contains (or_none o) j) under in
      (λ h. sym same ∙ h, λ h. same ∙ h)

  pub stops_nowhere : None ≡ get q r → stop.keys ≡ [] → (j : List ℕ) → IsStop stop j ↔ IsTrue (held q r j)
  stops_nowhere none keys j = (
    λ h. absurd (false≢true (sym (ap (list_any (eq_by_cmp item_cmp j)) keys) ∙ h)),
    λ h. absurd (false≢true (sym (none_held q r j (sym none)) ∙ h)),
  )

  pub past_stops : (s : SiteEvents) (i : List ℕ) (seen seen' : BTreeSet Group) (found : List (List ℕ)) → ((j : List ℕ) → IsStop stop j ↔ IsTrue (held q r j)) → IsSpreadBeyond s i stop seen seen' found → IsSpreadPast s q r i seen seen' found
  past_stops s i seen seen' found same beyond = record {
    start = beyond.start;
    sound = beyond.sound;
    followed = λ j k there free made. beyond.followed j k there (λ stop. free ((same j).0 stop)) made;
    taken = beyond.taken;
  }

-- What was known is known of more.
pub held_more : (s : SiteEvents) (q : Quarantine) (r : Recall) (seen : BTreeSet Group) (other : Recall) (items : List (List ℕ)) → TakeHeld s q r seen → TakeHeld s (with_items q other items) r seen
held_more s q r seen other items taken first there = let (i, h, into) = taken first there in (i, (held_several q other items r i).1 (inr h), into)

closed_with : (s : SiteEvents) (q : Quarantine) (r : Recall) (i : List ℕ) (new : List (List ℕ)) → AreNewlyHeld s q r i new → IsClosedInside s q → IsClosedInside s (with_items q r new)
closed_with s q r i new added closed t j k h made = (held_several q r new t k).1 (⊎_elim
    (λ (same, there).
    let spread : IsSpread s (i ∷ []) k = reached_step (Inside s) (i ∷ []) j k ((added.exact j).0 there).0 made in
    ⊎_elim
    (λ before. inr (subst (λ u. IsTrue (held q u k)) (sym same) before))
    (λ free. inl (same, (added.exact k).1 (spread, free)))
    (held_or_not q r k))
    (λ before. inr (closed t j k before made))
    ((held_several q r new t j).0 h))

module _ (s : SiteEvents) (q : Quarantine) (known : Shortcuts) (are : AreShortcuts s q known) where
  -- an item's spread comes under a recall
  pub shortcuts_with : (r : Recall) (i : List ℕ) (new : List (List ℕ)) (q' : Quarantine) → q' ≡ with_items q r new → AreNewlyHeld s q r i new → AreShortcuts s q' known
  shortcuts_with r i new q' is added = subst (λ (p : Quarantine). AreShortcuts s p known) (sym is) (record {
    closed = λ told. closed_with s q r i new added (are.closed told);
    seen = λ t groups at. held_more s q t groups r new (are.seen t groups at);
  })

  -- events come that are captured
  pub closed_captured : (given : List Content) (a : Addition) (s' : SiteEvents) → s' ≡ record s { events = a.events } → IsCaptured s q given a → known.is_closed ≡ true → IsClosedInside s' q
  closed_captured given a s' is captured told = subst (λ (t : SiteEvents). IsClosedInside t q) (sym is)
      (λ r i j h made. ⊎_elim
      (λ before. are.closed told r i j h before)
      (λ (here, there). there)
      (captures_lead_no_further s q given a captured r i (record { site = s.me; item = j }) h made))

  pub shortcuts_captured : (given : List Content) (a : Addition) (s' : SiteEvents) → s' ≡ record s { events = a.events } → IsCaptured s q given a → AreShortcuts s' q known
  shortcuts_captured given a s' is captured = record {
    closed = closed_captured given a s' is captured;
    seen = λ r groups at. subst (λ (t : SiteEvents). TakeHeld t q r groups) (sym is) (λ first there.
        let (i, h, into) = are.seen r groups at first there in (i, h, subst (λ (es : List Content). GoesInto es i first) (sym (ap (λ (x : Addition). x.events) captured.kept)) (goes_into_later s.events _ i first into)));
  }

-- of an equal site and quarantine
pub closed_same : (s s' : SiteEvents) (q q' : Quarantine) → s' ≡ s → q' ≡ q → IsClosedInside s q → IsClosedInside s' q'
closed_same s s' q q' same equal closed = subst (λ (t : SiteEvents). IsClosedInside t q') (sym same) (subst (λ (p : Quarantine). IsClosedInside s p) (sym equal) closed)

-- Nothing is known of transformations.
pub nothing_seen : (s : SiteEvents) (q : Quarantine) (r : Recall) (seen : BTreeSet Group) → seen.keys ≡ [] → TakeHeld s q r seen
nothing_seen s q r seen none first has = absurd (false≢true (sym (ap (list_any _) none) ∙ has))

none_kept : (m : BTreeMap Recall (BTreeSet Group)) → m.entries ≡ [] → (r : Recall) → get (as_map recall_cmp m) r ≡ None
none_kept m none r = ap (λ q. get q r) (no_entries m none) ∙ get-empty recall_cmp r

pub only_closed : (s : SiteEvents) (q : Quarantine) (known : Shortcuts) → known.seen.entries ≡ [] → (known.is_closed ≡ true → IsClosedInside s q) → AreShortcuts s q known
only_closed s q known none closed = record {
  closed = closed;
  seen = λ r groups at. absurd (missing (get (as_map recall_cmp known.seen) r) groups (none_kept known.seen none r) at);
}
  where
    missing : (o : Option (BTreeSet Group)) (groups : BTreeSet Group) → o ≡ None → o ≡ Some groups → ⊥
    missing o groups h k = cc

pub closed_where_empty : (s : SiteEvents) (q : Quarantine) → q ≡ empty → IsClosedInside s q
closed_where_empty s q none r i j h made = absurd (false≢true (sym (none_held q r i (ap (λ p. get p r) none ∙ get-empty recall_cmp r)) ∙ h))

-- A recall's transformations are taken out, and put in.
module _ (s : SiteEvents) (q : Quarantine) (r : Recall) (known known' : Shortcuts) (same : known'.is_closed ≡ known.is_closed) (are : AreShortcuts s q known) where
  missing : (o : Option (BTreeSet Group)) (groups : BTreeSet Group) → o ≡ None → o ≡ Some groups → ⊥
  missing o groups h k = cc

  pub taken_out : as_map recall_cmp known'.seen ≡ remove (as_map recall_cmp known.seen) r → AreShortcuts s q known'
  taken_out is = record {
    closed = λ told. are.closed (sym same ∙ told);
    seen = λ t groups at. ⊎_elim
        (λ here. absurd (missing (get (as_map recall_cmp known'.seen) t) groups (ap (λ m. get m t) is ∙ subst (λ u. get (remove (as_map recall_cmp known.seen) r) u ≡ None) (sym here) (get_gone recall_total recall_exact (as_map recall_cmp known.seen) r)) at))
        (λ apart. are.seen t groups (sym (ap (λ m. get m t) is ∙ get_left recall_total recall_exact (as_map recall_cmp known.seen) r t apart) ∙ at))
        (one_key recall_total recall_exact t r);
  }

  pub put_in : (groups : BTreeSet Group) → TakeHeld s q r groups → as_map recall_cmp known'.seen ≡ insert (as_map recall_cmp known.seen) r groups → AreShortcuts s q known'
  put_in seen taken is = record {
    closed = λ told. are.closed (sym same ∙ told);
    seen = λ t groups at. ⊎_elim
        (λ here.
        let found : Some seen ≡ Some groups = sym (ap (λ m. get m t) is ∙ subst (λ u. get (insert (as_map recall_cmp known.seen) r seen) u ≡ Some seen) (sym here) (get_here recall_total recall_exact (as_map recall_cmp known.seen) r seen)) ∙ at in
        subst (λ u. TakeHeld s q u groups) (sym here) (subst (TakeHeld s q r) (the_same seen groups found) taken))
        (λ apart. are.seen t groups (sym (ap (λ m. get m t) is ∙ get_apart recall_total recall_exact (as_map recall_cmp known.seen) r seen t apart) ∙ at))
        (one_key recall_total recall_exact t r);
  }
    where
      the_same : (a b : BTreeSet Group) → Some a ≡ Some b → a ≡ b
      the_same a b h = cc

  pub left_alone : as_map recall_cmp known'.seen ≡ as_map recall_cmp known.seen → AreShortcuts s q known'
  left_alone is = record {
    closed = λ told. are.closed (sym same ∙ told);
    seen = λ t groups at. are.seen t groups (sym (ap (λ m. get m t) is) ∙ at);
  }

pub taken_out_held : (s : SiteEvents) (q : Quarantine) (r : Recall) (known : Shortcuts) (groups : BTreeSet Group) → AreShortcuts s q known → Some groups ≡ get (as_map recall_cmp known.seen) r → TakeHeld s q r groups
taken_out_held s q r known groups are at = are.seen r groups (sym at)
