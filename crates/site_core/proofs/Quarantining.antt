-- An item's spread comes under a recall, and messages announce shipments.
use Rattle.std.proofs.Common.{◌≡◌, inl, inr, ℕ, ◌+◌, true, false, List, length, Some, refl, sym, ap, ◌∙◌, arith}
use mathlib.Core.Bool.{false≢true}
use Rattle.std.specs.List.{Contains, slice_get}
use Rattle.std.proofs.lemmas.Option.{slice_get-get_or}
use Rattle.frame_core.specs.Laws.{IsNewRow}
use Rattle.frame_core.specs.Numbers.{Recall}
use Rattle.frame_core.specs.declared.rows.Row.{Row}
use Rattle.scholten_core.specs.Effects.{AddsRows}
use Rattle.scholten_core.specs.Engagement.{Engagement}
use Rattle.site_core.specs.Quarantines.{held, with_items}
use Rattle.site_core.specs.Records.{Record}
use Rattle.site_core.specs.Shipments.{AreShipments}
use Rattle.site_core.specs.Spreading.{AreNewlyHeld}
use Rattle.site_core.specs.Ways.{Holds, Spreads, Tells, IsNewMessage, Quarantines, CountsNew}
use Rattle.site_core.proofs.HeldLaws.{held_several}
use Rattle.site_core.proofs.Places.{member_there, stands_within}

-- an element stands at some place
pub place_of : {X : Type 0} (xs : List X) (x : X) → Contains xs x → (k : ℕ) × (slice_get xs k ≡ Some x)
place_of xs x (k, lt, e) = (k, slice_get-get_or xs k x lt ∙ ap Some e)

-- the record with these items under the recall, and this engagement
abbrev pub with_new_items : Record → Recall → List (List ℕ) → Engagement → Record
with_new_items s r new e = record s { quarantine = with_items s.quarantine r new; engagement = e }

module _ (s : Record) (r : Recall) (i : List ℕ) (new items : List (List ℕ)) (out : List (ℕ × List ℕ)) (e : Engagement)
    (newly : AreNewlyHeld s.captured s.quarantine r i new) (shipped : AreShipments s.captured items out) (rows : AddsRows s.engagement e r out) where
  abbrev after : Record
  after = with_new_items s r new e

  pub told_row : (j : List ℕ) (u : ℕ) → Contains out (u, j) → Tells after u r j
  told_row j u there = let (k, at) = place_of out (u, j) there in (s.engagement.next_message + k, rows.row_told k (u, j) at)

  pub stays_held : (q : Recall) (j : List ℕ) → Holds s q j → Holds after q j
  stays_held q j is = (held_several s.quarantine r new q j).1 (inr is)

  pub newly_held : (j : List ℕ) → Holds after r j → (Holds s r j → ⊥) → Contains new j
  newly_held j is not_before = elim ((held_several s.quarantine r new r j).0 is) [
    | inl at ↦ at.1
    | inr before ↦ absurd (not_before before)
  ]

  spread_held : (j : List ℕ) → Spreads s i j → Holds after r j
  spread_held j spread = elim (held s.quarantine r j) as (λ b. held s.quarantine r j ≡ b → Holds after r j) [
    | true ↦ λ is. stays_held r j is
    | false ↦ λ is. (held_several s.quarantine r new r j).1 (inl (refl, (newly.exact j).1 (spread, λ before. false≢true (sym is ∙ before))))
  ] refl

  -- the items whose shipments are announced are of the spread, and have all that come under the recall
  module _ (of_spread : (j : List ℕ) → Contains items j → Spreads s i j) (has_new : (j : List ℕ) → Contains new j → Contains items j) where
    message_row : (n : ℕ) (x : Row) → IsNewRow s.engagement.next_message r out n x → IsNewMessage s after r n x
    message_row n x row =
        let within = stands_within out row.place (x.dest, x.item) row.message in
        let (item, to) = (shipped.exact x.dest x.item).0 (member_there out row.place (x.dest, x.item) row.message) in
        record {
          low = omega (arith, row.number);
          high = omega (arith, row.number, within, rows.next_message);
          recall = row.recall;
          holds = spread_held x.item (of_spread x.item item);
          shipped = to;
        }

    pub counts_new : CountsNew s after r (length new)
    counts_new = record {
      items = new;
      once = newly.ascending;
      exact = λ j. (
        λ there. ((held_several s.quarantine r new r j).1 (inl (refl, there)), ((newly.exact j).0 there).1),
        λ (is, not_before). newly_held j is not_before,
      );
      count_is = refl;
    }

    pub quarantines : Quarantines s after r i
    quarantines = record {
      sites = refl;
      captured = refl;
      held_kept = stays_held;
      held_origin = λ q j is. elim ((held_several s.quarantine r new q j).0 is) [
        | inl at ↦ inr (at.0, ((newly.exact j).0 at.1).0)
        | inr before ↦ inl before
      ];
      held_spread = spread_held;
      row_kept = λ n x below is. rows.row_kept n x (inl below) is;
      row_origin = λ n x is. elim (rows.row_origin n x is) [
        | inl before ↦ inl before
        | inr row ↦ inr (message_row n x row)
      ];
      row_told = λ j u is not_before to. told_row j u ((shipped.exact u j).1 (has_new j (newly_held j is not_before), to));
      next_message = omega (arith, rows.next_message);
    }
