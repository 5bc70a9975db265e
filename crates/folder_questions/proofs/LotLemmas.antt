-- Lots that a recall holds at one site and not at another one that names them.
use Rattle.std.proofs.Common.{◌↔◌, ◌⊎◌, inl, inr, ℕ, List, [], Option, None, Some, is_none, refl, sym, ap, subst, ⊎_elim, Bor}
use mathlib.Core.Bool.{false≢true}
use Rattle.std.specs.List.{Contains}
use Rattle.std.specs.Prelude.{IsTrue}
use Rattle.frame_core.specs.Numbers.{Recall}
use Rattle.gap_core.specs.Adding.{AddsTo, AddsToList, ByOne}
use Rattle.item_spellings.specs.LotParts.{IsLot}
use Rattle.site_core.specs.Quarantines.{IsLeastHolder, Quarantine, held}
use Rattle.site_core.specs.Records.{Record}
use Rattle.site_recovery.specs.Checking.{records_at}
use Rattle.trace_core.specs.declared.pairs.Pair.{Pair}
use Rattle.trace_core.proofs.Members.{contains-map, contains_none}
use Rattle.trace_core.proofs.SetMembers.{contains-from_map}
use Rattle.folder_questions.specs.Lots.{HoldsLot, IsFreeAt, IsLotGap}

-- ---- a part of what is left after another

module _ {X : Type 0} where
  -- with what is left, just all of them are there beside the old ones
  abbrev pub AddsLeft : (X → Type 0) → (X → Type 0) → (X → Type 0) → (X → Type 0) → Type 0
  AddsLeft Old Now Left All = (x : X) → (Now x ⊎ Left x) ↔ (Old x ⊎ All x)

  pub left_begins : (Old Left All : X → Type 0) → ((x : X) → Left x ↔ All x) → AddsLeft Old Old Left All
  left_begins Old Left All same x = (
    λ h. ⊎_elim (λ was. inl was) (λ left. inr ((same x).0 left)) h,
    λ h. ⊎_elim (λ was. inl was) (λ all. inr ((same x).1 all)) h,
  )

  pub left_goes_on : (Old Now New Left Part Rest All : X → Type 0) → ((x : X) → Left x ↔ (Part x ⊎ Rest x)) → AddsLeft Old Now Left All → AddsTo Now New Part → AddsLeft Old New Rest All
  left_goes_on Old Now New Left Part Rest All parts so_far adds x = (
    λ h. (so_far x).0 (⊎_elim
        (λ new. ⊎_elim (λ now. inl now) (λ part. inr ((parts x).1 (inl part))) ((adds x).0 new))
        (λ rest. inr ((parts x).1 (inr rest)))
        h),
    λ h. ⊎_elim
        (λ now. inl ((adds x).1 (inl now)))
        (λ left. ⊎_elim (λ part. inl ((adds x).1 (inr part))) (λ rest. inr rest) ((parts x).0 left))
        ((so_far x).1 h),
  )

  pub left_ends : (Old Now Left All P : X → Type 0) → ((x : X) → Left x → ⊥) → ((x : X) → All x ↔ P x) → AddsLeft Old Now Left All → AddsTo Old Now P
  left_ends Old Now Left All P none same so_far x = (
    λ now. ⊎_elim (λ was. inl was) (λ all. inr ((same x).0 all)) ((so_far x).0 (inl now)),
    λ h. ⊎_elim (λ now. now) (λ left. absurd (none x left)) ((so_far x).1 (⊎_elim (λ was. inl was) (λ p. inr ((same x).1 p)) h)),
  )

-- so of those that are lots
pub lots_parted : (Left Part Rest : List ℕ → Type 0) → ((i : List ℕ) → Left i ↔ (Part i ⊎ Rest i)) → (i : List ℕ) → (Left i × IsLot i) ↔ ((Part i × IsLot i) ⊎ (Rest i × IsLot i))
lots_parted Left Part Rest parts i = (
  λ (left, lot). ⊎_elim (λ part. inl (part, lot)) (λ rest. inr (rest, lot)) ((parts i).0 left),
  λ h. ⊎_elim (λ (part, lot). ((parts i).1 (inl part), lot)) (λ (rest, lot). ((parts i).1 (inr rest), lot)) h,
)

-- ---- a site that names a lot and where it is free

pub free_is : (q : Quarantine) (i : List ℕ) (found : Option Recall) → IsLeastHolder q i found → IsTrue (is_none found) ↔ ((r : Recall) → IsTrue (held q r i) → ⊥)
free_is q i None none = (λ _. none, λ _. refl)
free_is q i (Some r) (holds, least) = (λ no. absurd (false≢true no), λ none. absurd (none r holds))

-- ---- all of them

-- just the lots that records hold, each where it is named and free
pub lot_gaps_are : (records : List Record) (lots : List (List ℕ)) (found : List Pair) → AddsToList [] lots (ByOne records (λ r. HoldsLot r.quarantine))
    → AddsToList [] found (ByOne lots (λ lot. ByOne records (IsFreeAt lot))) → (p : Pair) → Contains found p ↔ IsLotGap records p
lot_gaps_are records lots found those free p = (
  λ h. ⊎_elim
      (λ none. absurd (contains_none p none))
      (λ (lot, among_lots, (record_of, there, (named, unheld, same))). ⊎_elim
      (λ none. absurd (contains_none lot none))
      (λ (holder, among, (is_lot, recall, held_there)).
      let of : List ℕ → Pair = λ i. record { site = record_of.engagement.me; item = i } in
      subst (IsLotGap records) same (let gap : IsLotGap records (of lot) = record {
        lot = is_lot;
        holder = holder;
        among = among;
        recall = recall;
        holds = held_there;
        record_of = record_of;
        there = there;
        number = refl;
        named = named;
        free = unheld;
      } in gap))
      ((those lot).0 among_lots))
      ((free p).0 h),
  λ gap. (free p).1 (inr (
    p.item,
    (those p.item).1 (inr (gap.holder, gap.among, (gap.lot, gap.recall, gap.holds))),
    (gap.record_of, gap.there, (gap.named, gap.free, ap (λ (n : ℕ). let q : Pair = record { site = n; item = p.item } in q) gap.number)),
  )),
)

-- the records that references point to
pub by_records : {X : Type 0} (refs : List (Bor Record)) (P : Record → X → Type 0) (x : X) → ByOne refs (λ (r : Bor Record). P r.now) x ↔ ByOne (records_at refs) P x
by_records refs P x = (
  λ (r, there, p). (r.now, contains-map (λ (r : Bor Record). r.now) refs r there, p),
  λ (s, there, p). let (r, at, is) = contains-from_map (λ (r : Bor Record). r.now) refs s there in (r, at, subst (λ t. P t x) (sym is) p),
)
