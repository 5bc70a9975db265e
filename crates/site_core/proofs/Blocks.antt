-- By what an event is blocked, sought in ascending lists.
use Rattle.std.proofs.Common.{◌≡◌, ◌≢◌, ◌⊎◌, ◌↔◌, ◌==◌, Bool, true, false, not, ◌&&◌, ℕ, List, [], ◌∷◌, Some, slice_get, inl, refl, sym, ap, subst, ◌∙◌, ⊎_elim, arith}
use Rattle.std.specs.Prelude.{IsTrue, Any, length}
use Rattle.std.specs.BTreeSet.{BTreeSet, Updates, contains}
use mathlib.Core.Bool.{false≢true}
use Rattle.std.specs.Bool.{Decides}
use Rattle.std.specs.Cmp.{IsTotalOrder}
use Rattle.std.specs.FinMap.{empty, get, get-empty}
use Rattle.std.specs.List.{Contains, list_all, list_any}
use Rattle.std.specs.List.Sorted.{IsStrictlySortedBy}
use Rattle.std.specs.declared.cmp.Ordering.{Ordering}
use Rattle.std.specs.declared.cmp.Ordering.TheVariants.{Greater}
use Rattle.std.proofs.lemmas.Bool.{eqb-true, or_cases}
use Rattle.std.proofs.lemmas.Bool.Decides.{Decides-and, Decides-eqb, Decides-not, Decides-or}
use Rattle.std.proofs.lemmas.List.{nil_from_length}
use Rattle.std.proofs.lemmas.List.Folds.{list_all_at}
use Rattle.std.proofs.lemmas.Option.{slice_get-get_or}
use Rattle.event_json.specs.Events.{Content}
use Rattle.event_json.specs.declared.bodies.Body.{Body}
use Rattle.event_json.specs.declared.bodies.Body.TheVariants.{Note, Ship, Make, Pack}
use Rattle.frame_core.specs.Identifiers.{recall_cmp}
use Rattle.frame_core.specs.Numbers.{Recall}
use Rattle.frame_core.specs.Orders.{recall_total, recall_exact}
use Rattle.trace_core.specs.declared.pairs.Pair.{Pair}
use Rattle.trace_core.specs.Groups.{outs_of}
use Rattle.trace_core.specs.Pairs.{GivesOut, HaveOneId, make_id}
use Rattle.trace_core.specs.Places.{IsPartAt, places_where, has_part}
use Rattle.trace_core.specs.Sites.{SiteEvents}
use Rattle.trace_core.specs.Spreads.{IsNewTarget}
use Rattle.trace_core.proofs.AddedPairs.{related_with}
use Rattle.trace_core.proofs.Members.{contains_cases, contains_none, list_any_witness, list_any_member}
use Rattle.trace_core.proofs.PairTestsDecide.{any_decides, gives_decides, same_id_decides}
use Rattle.trace_core.proofs.PlaceLists.{place_there}
use Rattle.trace_core.proofs.SetMembers.{found-insert}
use Rattle.site_core.specs.Capturing.{IsBlockedBy, IsFree, IsHeldHere}
use Rattle.site_core.specs.Blocks.{IsMaking, IsBlockFrom, IsFirstBlockOf, JoinsAsPart, holds_at, holds_outputs, is_covered, CoverOutputs, CoverParts, HasAllParts}
use Rattle.site_core.specs.Quarantines.{Quarantine, held, item_cmp}
use Rattle.site_core.proofs.Ascending.{head_least, tail_ascends}
use Rattle.site_core.proofs.Held.{none_held}
use Rattle.site_core.proofs.SourcesFound.{makes_only, parts_relate}

pub list_all_member : {X : Type 0} (p : X → Bool) (xs : List X) (x : X) → Contains xs x → list_all p xs ≡ true → p x ≡ true
list_all_member p xs x (k, lt, at) all = elim (p x) as (λ b. p x ≡ b → p x ≡ true) [
  | true ↦ λ passes. passes
  | false ↦ λ fails. absurd (false≢true (sym (list_all_at p xs k x lt (ap p at ∙ fails)) ∙ all))
] refl

-- all that have the property are in the list
abbrev pub IsLeft : {K : Type 0} → (K → Type 0) → List K → Type 0
IsLeft {K} P xs = (y : K) → P y → Contains xs y

module _ {K : Type 0} (P : K → Type 0) (xs rest : List K) (x : K) (next : xs ≡ x ∷ rest) where
  pub next_left : (P x → ⊥) → IsLeft P xs → IsLeft P rest
  next_left lacks left y has = ⊎_elim
      (λ same. absurd (lacks (subst P (sym same) has)))
      (λ later. later)
      (contains_cases x y rest (subst (λ ys. Contains ys y) next (left y has)))

  pub next_least : (cmp : K → K → Ordering) → IsTotalOrder cmp → IsStrictlySortedBy cmp xs → IsLeft P xs → (y : K) → P y → cmp x y ≢ Greater
  next_least cmp total up left y has = head_least cmp total x rest (subst (IsStrictlySortedBy cmp) next up) y (subst (λ ys. Contains ys y) next (left y has))

  pub next_ascends : (cmp : K → K → Ordering) → IsStrictlySortedBy cmp xs → IsStrictlySortedBy cmp rest
  next_ascends cmp up = tail_ascends cmp x rest (subst (IsStrictlySortedBy cmp) next up)

pub none_left : {K : Type 0} (P : K → Type 0) (xs : List K) → xs ≡ [] → IsLeft P xs → (y : K) → P y → ⊥
none_left P xs none left y has = contains_none y (subst (λ ys. Contains ys y) none (left y has))

module _ (s : SiteEvents) (q : Quarantine) (e : Content) (i : List ℕ) (r : Recall) where
  -- the pair isn't at the site and quarantined there under the recall
  abbrev pub is_out : Pair → Bool
  is_out p = not (p.site == s.me && held q r p.item)

  out_decides : (p : Pair) → Decides (is_out p) (IsHeldHere s q r p → ⊥)
  out_decides p = Decides-not _ (Decides-and _ _ (Decides-eqb p.site s.me) (λ h. h, λ h. h))

  module _ (targets : List Pair) (exact : (p : Pair) → Contains targets p ↔ IsNewTarget s e i p) where
    pub blocks : IsTrue (held q r i) → list_any is_out targets ≡ true → IsBlockedBy s q e i r
    blocks source out =
        let (p, there, is) = list_any_witness is_out targets out in
        record { source = source; target = p; new = (exact p).0 there; leaves = (out_decides p).0 is }

    pub blocks_not : list_any is_out targets ≡ false → IsBlockedBy s q e i r → ⊥
    blocks_not none b = false≢true (sym none ∙ list_any_member is_out targets b.target ((exact b.target).1 b.new) ((out_decides b.target).1 b.leaves))

  module _ (me : ℕ) (lent targets : List Pair) (is : me ≡ s.me) (same : lent ≡ targets) (exact : (p : Pair) → Contains targets p ↔ IsNewTarget s e i p) where
    abbrev told_out : Pair → Bool
    told_out p = not (p.site == me && held q r p.item)

    as_told : list_any told_out lent ≡ list_any is_out targets
    as_told = ap (λ ps. list_any told_out ps) same ∙ ap (λ (n : ℕ). list_any (λ (p : Pair). not (p.site == n && held q r p.item)) targets) is

    pub told_blocks : IsTrue (held q r i) → list_any told_out lent ≡ true → IsBlockedBy s q e i r
    told_blocks source out = blocks targets exact source (sym as_told ∙ out)

    pub told_blocks_not : list_any told_out lent ≡ false → IsBlockedBy s q e i r → ⊥
    told_blocks_not none = blocks_not targets exact (sym as_told ∙ none)

-- Where the event leads an item to its own outputs alone.
pub gives_made : (q : Quarantine) (b : Body) (r : Recall) (j : List ℕ) → holds_outputs q b r ≡ true → GivesOut j b → IsTrue (held q r j)
gives_made q (Note items) r j all gives = absurd gives
gives_made q (Pack action parent children) r j all gives = absurd gives
gives_made q (Ship items sites outside) r j all gives = absurd gives
gives_made q (Make id ins outs) r j all gives = list_all_member (λ i. held q r i) outs j gives all

outputs_alone : (s : SiteEvents) (e : Content) (i : List ℕ) → IsMaking e.body → JoinsAsPart s e.body i → (p : Pair) → IsNewTarget s e i p → (p.site ≡ s.me) × GivesOut p.item e.body
outputs_alone s e i making joins p (related, new) = ⊎_elim
    (λ before. absurd (new before))
    (λ added. ⊎_elim
    (λ own. ⊎_elim
    (λ (other, (sends, same)). absurd (makes_only s.events e.body p.site making sends.0))
    (λ (here, (takes, gives)). ⊎_elim
    (λ out. (here, out))
    (λ (k, f, lt, at, ((id, first, second), out)). absurd (⊎_elim
    (λ takes. new (parts_relate s id i p takes (k, f, lt, at, (second, out)) here))
    (λ none. none (k, f, lt, at, second))
    (joins id first)))
    gives)
    own)
    (λ (joined, inside). inside)
    added)
    (related_with s e i p related)

covered_held : (q : Quarantine) (b : Body) (found : BTreeSet Recall) (r : Recall) → CoverOutputs q b found → is_covered found b r ≡ true → holds_outputs q b r ≡ true
covered_held q (Note items) found r cover h = refl
covered_held q (Ship items sites outside) found r cover h = refl
covered_held q (Pack action parent children) found r cover h = refl
covered_held q (Make id ins []) found r cover h = refl
covered_held q (Make id ins (j ∷ js)) found r cover h = ⊎_elim
    (λ none. let no : length (j ∷ js) ≡ 0 = eqb-true (length (j ∷ js)) 0 none in absurd (omega (arith, no)))
    (λ among. cover r among)
    (or_cases (length (j ∷ js) == 0) (contains recall_cmp found r) h)

pub stays_inside : (s : SiteEvents) (q : Quarantine) (e : Content) (b : Body) (i : List ℕ) (found : BTreeSet Recall) (recalls : List Recall) → b ≡ e.body → IsMaking e.body → JoinsAsPart s b i
    → CoverOutputs q e.body found → list_all (is_covered found b) recalls ≡ true → (r : Recall) → Contains recalls r → IsBlockedBy s q e i r → ⊥
stays_inside s q e b i found recalls is making joins cover all r there blocked =
    let (here, out) = outputs_alone s e i making (subst (λ (c : Body). JoinsAsPart s c i) is joins) blocked.target blocked.new in
    let holds : holds_outputs q e.body r ≡ true = covered_held q e.body found r cover (ap (λ (c : Body). is_covered found c r) (sym is) ∙ list_all_member (is_covered found b) recalls r there all) in
    blocked.leaves (here, gives_made q e.body r blocked.target.item holds out)

-- An event leads on to its own outputs, and to those of the captured parts of its transformation.
outs_decide : (events : List Content) (j : List ℕ) (b : Body) → Decides (outs_of events j b) (GivesOut j b ⊎ Any (λ f. HaveOneId (make_id b) (make_id f.body) × GivesOut j f.body) events)
outs_decide events j b = Decides-or _ _ (gives_decides j b) (any_decides _ _ (λ f. Decides-and _ _ (same_id_decides (make_id b) (make_id f.body)) (gives_decides j f.body)) events)

pub outputs_of_parts : (s : SiteEvents) (e : Content) (i : List ℕ) → IsMaking e.body → (p : Pair) → IsNewTarget s e i p → (p.site ≡ s.me) × (outs_of s.events p.item e.body ≡ true)
outputs_of_parts s e i making p (related, new) = ⊎_elim
    (λ before. absurd (new before))
    (λ added. ⊎_elim
    (λ own. ⊎_elim
    (λ (other, (sends, same)). absurd (makes_only s.events e.body p.site making sends.0))
    (λ (here, (takes, gives)). (here, (outs_decide s.events p.item e.body).1 gives))
    own)
    (λ (joined, (here, out)). (here, (outs_decide s.events p.item e.body).1 (inl out)))
    added)
    (related_with s e i p related)

pub stays_joined : (s : SiteEvents) (q : Quarantine) (e : Content) (i : List ℕ) (found : BTreeSet Recall) (recalls : List Recall) → IsMaking e.body → CoverParts s.events q e.body found
    → list_all (λ r. contains recall_cmp found r) recalls ≡ true → (r : Recall) → Contains recalls r → IsBlockedBy s q e i r → ⊥
stays_joined s q e i found recalls making cover all r there blocked =
    let (here, outs) = outputs_of_parts s e i making blocked.target blocked.new in
    blocked.leaves (here, cover r (list_all_member (λ t. contains recall_cmp found t) recalls r there all) blocked.target.item outs)

pub has_all_parts : (events : List Content) (b : Body) (id : List ℕ) (places : List ℕ) → make_id b ≡ Some id → ((k : ℕ) → Contains places k ↔ IsPartAt events id k) → HasAllParts events b places
has_all_parts events b id places is exact k e stands (other, own, its) = (exact k).1 (e, stands, its ∙ sym own ∙ is)

module _ (events : List Content) (q : Quarantine) (b : Body) (r : Recall) (places : List ℕ) (all : HasAllParts events b places) (own : holds_outputs q b r ≡ true) (each : list_all (λ k. holds_at q (slice_get events k) r) places ≡ true) where
  parts_held : (j : List ℕ) → outs_of events j b ≡ true → IsTrue (held q r j)
  parts_held j gives = ⊎_elim
      (λ out. gives_made q b r j own out)
      (λ (k, f, lt, at, (same, out)).
      let stands : slice_get events k ≡ Some f = slice_get-get_or events k f lt ∙ ap Some at in
      gives_made q f.body r j (ap (λ o. holds_at q o r) (sym stands) ∙ list_all_member (λ n. holds_at q (slice_get events n) r) places k (all k f stands same) each) out)
      ((outs_decide events j b).0 gives)

  pub parts_cover : (old new : BTreeSet Recall) → Updates recall_cmp old new r true → CoverParts events q b old → CoverParts events q b new
  parts_cover old new upd cover t found j gives = ⊎_elim
      (λ before. cover t before j gives)
      (λ same. subst (λ (u : Recall). IsTrue (held q u j)) same (parts_held j gives))
      ((found-insert recall_cmp recall_total recall_exact old new r upd t).0 found)

-- one recall more was found
pub cover_more : (q : Quarantine) (b : Body) (old new : BTreeSet Recall) (r : Recall) → CoverOutputs q b old → holds_outputs q b r ≡ true → Updates recall_cmp old new r true → CoverOutputs q b new
cover_more q b old new r cover holds upd t found = ⊎_elim
    (λ before. cover t before)
    (λ same. subst (λ (u : Recall). holds_outputs q b u ≡ true) same holds)
    ((found-insert recall_cmp recall_total recall_exact old new r upd t).0 found)

-- without parts nothing is a part
pub no_part : (events : List Content) (id : List ℕ) → length (places_where (has_part id) events) ≡ 0 → Any (λ e. make_id e.body ≡ Some id) events → ⊥
no_part events id none (k, e, lt, at, is) =
    let there = place_there (has_part id) events k e lt at ((same_id_decides (make_id e.body) (Some id)).1 (id, is, refl)) in
    contains_none k (subst (λ (ks : List ℕ). Contains ks k) (nil_from_length (places_where (has_part id) events) none) there)

-- no held item, no block
pub nothing_blocks : (s : SiteEvents) (q : Quarantine) (e : Content) → q ≡ empty → IsFree s q e
nothing_blocks s q e none i r b =
    let not_held = none_held q r i (ap (λ p. get p r) none ∙ get-empty recall_cmp r) in false≢true (sym not_held ∙ b.source)

-- an item from which the event is blocked, and which no other is below
pub first_found : (s : SiteEvents) (q : Quarantine) (e : Content) (item : List ℕ) (b : Recall × List ℕ) → IsBlockFrom s q e item (Some b)
    → ((j : List ℕ) (r : Recall) → IsBlockedBy s q e j r → item_cmp item j ≢ Greater) → IsFirstBlockOf s q e (Some b)
first_found s q e item (r, j) (same, (blocked, least)) first = record {
  blocked = subst (λ (k : List ℕ). IsBlockedBy s q e k r) (sym same) blocked;
  least_item = λ k other b. subst (λ (n : List ℕ). item_cmp n k ≢ Greater) (sym same) (first k other b);
  least_recall = λ other b. least other (subst (λ (k : List ℕ). IsBlockedBy s q e k other) same b);
}
