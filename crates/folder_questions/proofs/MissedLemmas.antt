-- Pairs with the recalls that hold them.
use Rattle.std.proofs.Common.{◌≡◌, ◌↔◌, ◌∙◌, inl, inr, ℕ, ◌+◌, ◌<◌, false, List, [], ◌∷◌, ◌++◌, Option, None, Some, length, take, get_or, refl, sym, ap, subst, ⊎_elim}
use mathlib.Core.Bool.{false≢true}
use Rattle.std.specs.BTreeSet.{BTreeSet, contains}
use Rattle.std.specs.FinMap.{empty, get, get-empty}
use Rattle.std.specs.List.{Contains}
use Rattle.std.specs.Prelude.{IsSome, IsTrue}
use Rattle.std.proofs.lemmas.Bool.{cases_Bool}
use Rattle.std.proofs.lemmas.List.{take_more}
use Rattle.frame_core.specs.Identifiers.{recall_cmp}
use Rattle.frame_core.specs.Numbers.{Recall}
use Rattle.gap_core.specs.Misses.{AreReached, IsBeyond, IsMissedFrom}
use Rattle.gap_core.specs.Untold.{IsUntoldIn, shipped_pair}
use Rattle.gap_core.specs.declared.untold.Reached.{Reached}
use Rattle.gap_core.specs.declared.untold.UntoldShipment.{UntoldShipment}
use Rattle.recall_outcomes.specs.declared.outcomes.MissedPair.{MissedPair}
use Rattle.site_core.specs.Quarantines.{IsLeastHolder, Quarantine, held}
use Rattle.site_core.specs.Records.{Record}
use Rattle.site_core.proofs.Held.{none_held}
use Rattle.site_recovery.specs.Laws.{captured_of}
use Rattle.site_recovery.specs.Looks.{Held, World, world_of}
use Rattle.trace_core.specs.Pairs.{pair_cmp}
use Rattle.trace_core.specs.Searches.{IsFound}
use Rattle.trace_core.proofs.SetMembers.{contains_more}
use Rattle.trace_core.proofs.Members.{contains_cases, contains_here, contains_none, contains_there}
use Rattle.trace_core.specs.declared.pairs.Pair.{Pair}
use Rattle.folder_questions.specs.Missed.{AddsHolder, AreHolders, IsHolder, IsTold, IsUntoldFrom, TellsAll, TellsOne}

-- ---- one pair after another

module _ (W : World) where
  one_pushed : (pairs : List Pair) (p : Pair) (found found' : List MissedPair) → AreHolders W pairs found → AddsHolder W p found found' → AreHolders W (pairs ++ p ∷ []) found'
  one_pushed [] p found found' none (h, is, holds) = (h, [], is ∙ ap (λ ms. ms ++ record { pair = p; held = h } ∷ []) none, holds, refl)
  one_pushed (q ∷ pairs) p found found' (g, rest, are, held_so, others) (h, is, holds) =
      let one : MissedPair = record { pair = p; held = h } in
      (g, rest ++ one ∷ [], is ∙ ap (λ ms. ms ++ one ∷ []) are, held_so, one_pushed pairs p rest (rest ++ one ∷ []) others (h, refl, holds))

  pub one_more_holder : (pairs : List Pair) (i : ℕ) (p : Pair) → i < length pairs → p ≡ get_or pairs i p → (found found' : List MissedPair) → AreHolders W (take i pairs) found
      → AddsHolder W p found found' → AreHolders W (take (i + 1) pairs) found'
  one_more_holder pairs i p below at found found' so_far adds =
      subst (λ ps. AreHolders W ps found') (sym (take_more pairs i p below ∙ ap (λ x. take i pairs ++ x ∷ []) (sym at))) (one_pushed (take i pairs) p found found' so_far adds)

  -- each of them has such a recall, and each pair is among them
  pub each_holder : (pairs : List Pair) (found : List MissedPair) → AreHolders W pairs found → (m : MissedPair) → Contains found m → IsHolder W m.pair m.held
  each_holder [] found none m h = absurd (contains_none m (subst (λ ms. Contains ms m) none h))
  each_holder (p ∷ pairs) found (g, rest, are, holds, others) m h = ⊎_elim
      (λ same. subst (λ (x : MissedPair). IsHolder W x.pair x.held) same holds)
      (λ later. each_holder pairs rest others m later)
      (contains_cases (record { pair = p; held = g }) m rest (subst (λ ms. Contains ms m) are h))

  pub holder_of : (pairs : List Pair) (found : List MissedPair) → AreHolders W pairs found → (p : Pair) → Contains pairs p → (m : MissedPair) × Contains found m × (m.pair ≡ p)
  holder_of [] found none p h = absurd (contains_none p h)
  holder_of (q ∷ pairs) found (g, rest, are, holds, others) p h =
      let first : MissedPair = record { pair = q; held = g } in
      ⊎_elim
      (λ same. (first, subst (λ ms. Contains ms first) (sym are) (contains_here first rest), same))
      (λ later. let (m, there, is) = holder_of pairs rest others p later in (m, subst (λ ms. Contains ms m) (sym are) (contains_there first m rest there), is))
      (contains_cases q p pairs h)

-- ---- what is told beside

pub tells_none : (reached : Reached) → TellsAll [] reached reached
tells_none reached = (refl, λ p. (λ h. inl h, λ h. ⊎_elim (λ was. was) (λ (m, there, some, is). absurd (contains_none m there)) h))

pub tells_more : (missed : List MissedPair) (i : ℕ) (m : MissedPair) → i < length missed → m ≡ get_or missed i m → (first mid last : Reached) → TellsAll (take i missed) first mid → TellsOne m mid last
    → TellsAll (take (i + 1) missed) first last
tells_more missed i m below at first mid last (same, so_far) (kept, one) = (
  kept ∙ same,
  λ p. (
    λ h. ⊎_elim
        (λ was. ⊎_elim (λ before. inl before) (λ (n, there, some, is). inr (n, (contains_more missed i m below at n).1 (inl there), some, is)) ((so_far p).0 was))
        (λ (some, is). inr (m, (contains_more missed i m below at m).1 (inr refl), some, is))
        ((one p).0 h),
    λ h. (one p).1 (⊎_elim
        (λ before. inl ((so_far p).1 (inl before)))
        (λ (n, there, some, is). ⊎_elim
        (λ earlier. inl ((so_far p).1 (inr (n, earlier, some, is))))
        (λ here. inr (subst (λ (x : MissedPair). IsSome x.held) (sym here) some, ap (λ (x : MissedPair). x.pair) here ∙ is))
        ((contains_more missed i m below at n).0 there))
        h),
  ),
)

holder_held : (q : Quarantine) (i : List ℕ) (h : Option Recall) → IsSome h → IsLeastHolder q i h → (r : Recall) × IsTrue (held q r i)
holder_held q i None some holds = absurd (false≢true some)
holder_held q i (Some r) some holds = (r, holds.0)

has_holder : (q : Quarantine) (i : List ℕ) (h : Option Recall) → IsLeastHolder q i h → (r : Recall) → IsTrue (held q r i) → IsSome h
has_holder q i None none r is = absurd (none r is)
has_holder q i (Some s) holds r is = refl

module _ (records : List Record) (root : Pair) (first last : Reached) (are : AreReached (captured_of records) root first) (pairs : List Pair) (beyond : (p : Pair) → Contains pairs p ↔ IsBeyond first p)
    (found : List MissedPair) (holders : AreHolders (world_of records) pairs found) (tells : TellsAll found first last) where
  pub missed_is : (p : Pair) → Contains pairs p ↔ IsMissedFrom (captured_of records) root p
  missed_is p = (
    λ h. let (wide, untold) = (beyond p).0 h in ((are.wide p).0 wide, λ narrow. untold ((are.told p).1 narrow)),
    λ (wide, unreached). (beyond p).1 ((are.wide p).1 wide, λ told. unreached ((are.told p).0 told)),
  )

  -- what is told is what a report tells
  told_is : (p : Pair) → IsFound pair_cmp last.wide p → IsFound pair_cmp last.told p ↔ IsTold records root p
  told_is p wide = (
    λ h. ⊎_elim
        (λ was. inl ((are.told p).0 was))
        (λ (m, there, some, is). inr (subst (λ (x : Pair). (r : Recall) × Held (world_of records) x.site r x.item) is
        (holder_held (world_of records m.pair.site).quarantine m.pair.item m.held some (each_holder (world_of records) pairs found holders m there))))
        ((tells.1 p).0 h),
    λ h. (tells.1 p).1 (⊎_elim
        (λ narrow. inl ((are.told p).1 narrow))
        (λ (r, is). ⊎_elim (λ at. inl at) (λ not_at. inr (through r is not_at)) (cases_Bool (contains pair_cmp first.told p)))
        h),
  )
    where
      through : (r : Recall) → Held (world_of records) p.site r p.item → contains pair_cmp first.told p ≡ false → (m : MissedPair) × Contains found m × IsSome m.held × (m.pair ≡ p)
      through r is not_at =
          let there = (beyond p).1 (subst (λ (s : BTreeSet Pair). IsFound pair_cmp s p) tells.0 wide, λ at. false≢true (sym not_at ∙ at)) in
          let (m, among, same) = holder_of (world_of records) pairs found holders p there in
          let held_there = subst (λ (x : Pair). Held (world_of records) x.site r x.item) (sym same) is in
          (m, among, has_holder (world_of records m.pair.site).quarantine m.pair.item m.held (each_holder (world_of records) pairs found holders m among) r held_there, same)

  pub all_untold_from : (outside : List UntoldShipment) → ((x : UntoldShipment) → Contains outside x ↔ IsUntoldIn (captured_of records) last x) → (x : UntoldShipment) → Contains outside x ↔ IsUntoldFrom records root x
  all_untold_from outside exact x = (
    λ h.
        let u = (exact x).0 h in
        record {
          site = u.site;
          there = u.there;
          number = u.number;
          reached = (are.wide (shipped_pair x)).0 (subst (λ (s : BTreeSet Pair). IsFound pair_cmp s (shipped_pair x)) tells.0 u.found);
          sent = u.sent;
          untold = λ told. u.untold ((told_is (shipped_pair x) u.found).1 told);
        },
    λ u.
        let wide = subst (λ (s : BTreeSet Pair). IsFound pair_cmp s (shipped_pair x)) (sym tells.0) ((are.wide (shipped_pair x)).1 u.reached) in
        (exact x).1 (record {
          site = u.site;
          there = u.there;
          number = u.number;
          found = wide;
          sent = u.sent;
          untold = λ told. u.untold ((told_is (shipped_pair x) wide).0 told);
        }),
  )

-- ---- the recalls of a quarantine

-- of a quarantine without recalls none does
pub nothing_holds : (q : Quarantine) (item : List ℕ) → q ≡ empty → IsLeastHolder q item None
nothing_holds q item none r is = false≢true (sym (none_held q r item (ap (λ p. get p r) none ∙ get-empty recall_cmp r)) ∙ is)
