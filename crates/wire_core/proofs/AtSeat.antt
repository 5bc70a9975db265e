-- The steps at a seat, with its view and its hands as a call finds them.
use Rattle.std.proofs.Common.{◌≡◌, ◌≢◌, ℕ, ◌+◌, ◌%◌, ◌^◌, ◌<◌, eqb, List, [], ◌∷◌, map, length, Contains, Option as Maybe, Some, None, sym, subst}
use Rattle.std.proofs.lemmas.List.{length-map}
use prog.Atomic.{either}
use Rattle.atomic_table.specs.Table.{Allows}
use Rattle.site_core.specs.Records.{Record}
use Rattle.frame_core.specs.declared.frames.Frame.{Frame}
use Rattle.site_core.specs.declared.inputs.SiteInput.{SiteInput}
use Rattle.wire_core.specs.declared.views.Doing.TheVariants.{Nothing, Writes, Reads}
use Rattle.wire_core.specs.declared.views.Log.{Log}
use Rattle.wire_core.specs.Frames.{sender, DeliversOneOf}
use Rattle.world_core.specs.Turns.{addressee}
use Rattle.site_core.specs.Emitting.{emittable}
use Rattle.keeper_core.specs.Keeping.{IsAfter}
use Rattle.wire_core.specs.Mailboxes.{word_of, slot_of}
use Rattle.wire_core.specs.Rule.{Ruled}
use Rattle.wire_core.specs.Changes.{Hands, Claimed, Published, Noted, Released, Marked, Cut, marks, offers}
use Rattle.wire_core.proofs.Boxes.{claims, notes_one, releases, publishes}
use Rattle.wire_core.proofs.Marking.{marks_one, cuts}

abbrev pub Words : List (ℕ × Maybe Frame) → Type 0
Words l = List (ℕ × Maybe Frame)

module _ {A : Type 0} (value : A → Record) (key : List A) (slots id word : ℕ) (me : Hands) where
  abbrev rs : List Record
  rs = map value key

  few : (i : ℕ) → i < length key → i < length rs
  few i h = subst (λ k. i < k) (sym (length-map key value)) h

  pub claims_at : (i j i' j' : ℕ) (g : Log → Log) (o : Frame) (e : Log) → i' ≡ i → j' ≡ j → g ≡ offers o → i ≢ j → me.1 ≡ [] → word ≡ word_of i j → j < length key → Contains me.0.sites e → e.site ≡ i → e.doing ≡ Nothing
      → Allows (Ruled rs) slots id me word (λ x. either (eqb x 0) 1 x) (Claimed i' j' g me)
  claims_at i j i' j' g o e ii jj gg apart hands place hj c same rest =
      subst (λ (t : List (ℕ × Maybe Frame) × ℕ × ℕ × ℕ × (Log → Log)). Allows (Ruled rs) slots id (me.0, t.0) t.1 (λ x. either (eqb x 0) 1 x) (Claimed t.2 t.3 t.4 (me.0, t.0))) (λ q. (sym hands q, sym place q, sym ii q, sym jj q, sym gg q))
      (claims rs id me.0 i j e c apart o same rest (few j hj) slots)

  pub notes_at : (i j i' j' : ℕ) (e : Log) → i' ≡ i → j' ≡ j → i ≢ j → me.1 ≡ [] → word ≡ word_of i j → i < length key → Contains me.0.sites e → e.site ≡ j → e.doing ≡ Nothing
      → Allows (Ruled rs) slots id me word (λ x. either (eqb x 2) 3 x) (Noted i' j' me)
  notes_at i j i' j' e ii jj apart hands place hi c same rest =
      subst (λ (t : List (ℕ × Maybe Frame) × ℕ × ℕ × ℕ). Allows (Ruled rs) slots id (me.0, t.0) t.1 (λ x. either (eqb x 2) 3 x) (Noted t.2 t.3 (me.0, t.0))) (λ q. (sym hands q, sym place q, sym ii q, sym jj q))
      (notes_one rs id me.0 i j e c apart same rest (few i hi) slots)

  pub publishes_at : (f : Frame) (e : Log) → (sender f) ≢ (addressee f) → me.1 ≡ (slot_of (sender f) (addressee f), Some f) ∷ [] → word ≡ word_of (sender f) (addressee f) → (addressee f) < length key → Contains me.0.sites e → e.site ≡ (sender f) → e.doing ≡ Writes (addressee f) → Contains (emittable e.last.engagement) f
      → Allows (Ruled rs) slots id me word (λ _. 2) (λ _. Published me)
  publishes_at f e apart hands place hj c same busy may =
      subst (λ (t : List (ℕ × Maybe Frame) × ℕ). Allows (Ruled rs) slots id (me.0, t.0) t.1 (λ _. 2) (λ _. Published (me.0, t.0))) (λ q. (sym hands q, sym place q)) (publishes rs id me.0 f e c apart same busy (few (addressee f) hj) may slots)

  pub releases_at : (i j j' : ℕ) (e : Log) → j' ≡ j → i ≢ j → me.1 ≡ (slot_of i j, None) ∷ [] → word ≡ word_of i j → i < length key → Contains me.0.sites e → e.site ≡ j → e.doing ≡ Reads i
      → Allows (Ruled rs) slots id me word (λ _. 0) (λ _. Released j' me)
  releases_at i j j' e jj apart hands place hi c same busy =
      subst (λ (t : List (ℕ × Maybe Frame) × ℕ × ℕ). Allows (Ruled rs) slots id (me.0, t.0) t.1 (λ _. 0) (λ _. Released t.2 (me.0, t.0))) (λ q. (sym hands q, sym place q, sym jj q)) (releases rs id me.0 i j e c apart same busy (few i hi) slots)

  pub marks_at : (i' : ℕ) (g : Log → Log) (input : SiteInput) (new : Record) (e : Log) → i' ≡ word → g ≡ marks input new → me.1 ≡ [] → Contains me.0.sites e → e.site ≡ word → length e.inputs < 2 ^ 62 → IsAfter e.last input new → DeliversOneOf e.noted input
      → Allows (Ruled rs) slots id me word (λ x. (x + 1) % 2 ^ 64) (λ _. Marked i' g me)
  marks_at i' g input new e ii gg hands c same room ok known =
      subst (λ (t : List (ℕ × Maybe Frame) × ℕ × (Log → Log)). Allows (Ruled rs) slots id (me.0, t.0) word (λ x. (x + 1) % 2 ^ 64) (λ _. Marked t.1 t.2 (me.0, t.0))) (λ q. (sym hands q, sym ii q, sym gg q))
      (marks_one rs id me.0 word e c same input new room ok known slots)

  pub cuts_at : (at : ℕ) → word ≡ 0 → me.1 ≡ [] → Allows (Ruled rs) slots id me word (λ x. x) (λ _. Cut at me)
  cuts_at at place hands = subst (λ (t : List (ℕ × Maybe Frame) × ℕ). Allows (Ruled rs) slots id (me.0, t.0) t.1 (λ x. x) (λ _. Cut at (me.0, t.0))) (λ q. (sym hands q, sym place q)) (cuts rs id me.0 at slots)
