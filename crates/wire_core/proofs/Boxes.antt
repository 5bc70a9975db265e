-- Claim, publish, note and release keep the rule.
use Rattle.std.proofs.Common.{◌≡◌, ◌≢◌, ℕ, ◌+◌, ◌<◌, ◌≤◌, ◌⊎◌, inl, inr, ⊎_elim, Bool, true, false, true≢false, ◌&&◌, eqb, nat_eq, List, [], ◌∷◌, ◌++◌, length, set, Contains, Option as Maybe, Some, None, sym, refl, ap, ◌∙◌, subst, arith, eq-eqb, ne_eqb, length-set}
use Rattle.std.proofs.lemmas.List.Elements.{Contains-append_left, Contains-push, Contains-push_cases, All-contains}
use Rattle.std.proofs.lemmas.List.{length_push}
use mathlib.Core.Option.{Option, some, none}
use prog.Atomic.{either}
use lib.ListN.{get_elem?}
use Rattle.atomic_table.specs.Table.{State, Act, keeps, takes, gives, stepped, Allows, Valid, carried_after}
use Rattle.atomic_table.proofs.Lists.{set_else, set_again}
use Rattle.event_json.specs.declared.limits.TheConstants.{MAX_SITES}
use Rattle.site_core.specs.Records.{Record}
use Rattle.frame_core.specs.declared.frames.Frame.{Frame}
use Rattle.wire_core.specs.declared.views.Doing.TheVariants.{Nothing, Writes, Reads}
use Rattle.wire_core.specs.declared.views.Log.{Log}
use Rattle.wire_core.specs.declared.views.View.{View}
use Rattle.wire_core.specs.Frames.{sender, way}
use Rattle.world_core.specs.Turns.{addressee}
use Rattle.site_core.specs.Emitting.{emittable}
use Rattle.wire_core.specs.Mailboxes.{Phase, empty, writing, full, reading, number, home, Between, is_writing, is_reading, writes, reads, word_of, slot_of, Mailbox}
use Rattle.wire_core.specs.Rule.{IsRun, Ruled, frames}
use Rattle.wire_core.specs.Changes.{changed, asks, offers, plain, does, does_posts, does_receives, does_writes, AtRest, Level, Claimed, Published, Noted, Released}
use Rattle.wire_core.proofs.Lists.{there, within, index_is, one_there, set_at, in_flat, way_more, way_other, in_way}
use Rattle.wire_core.proofs.Running.{run_same, run_sent}
use Rattle.wire_core.proofs.Seating.{held, Shared_changed}
use Rattle.wire_core.proofs.Shown.{Like, Pair, Wired_box, Wired_still}

abbrev pub Table : Type 0
Table = State (Maybe Frame) View

module _ (rs : List Record) (s : Table) (h : Ruled rs s) (id : ℕ) (v : View) (at : get_elem? s.views id ≡ some v) where
  -- what holds of the logs of two sites holds of their logs in the view
  pub shows : (i j : ℕ) (a b : Log) (F : Log → Log → Type 0) → get_elem? h.0 i ≡ some a → get_elem? h.0 j ≡ some b → F a b
      → (x y : Log) → Contains v.sites x → x.site ≡ i → Contains v.sites y → y.site ≡ j → F x y
  shows i j a b F ai bj fact x y cx sx cy sy =
      subst (λ (z : Log × Log). F z.0 z.1) (λ q. (one_there h.0 i a x ai (held s.views h.1 h.0 h.4 id v at x i cx sx).1 q, one_there h.0 j b y bj (held s.views h.1 h.0 h.4 id v at y j cy sy).1 q)) fact

  -- the word is found as it was left, and a site asked or offered
  module _ (site : ℕ) (e : Log) (c : Contains v.sites e) (same : e.site ≡ site) (k x : ℕ) (word : get_elem? s.words k ≡ some x) (g : Log → Log) (keeps_site : (x : Log) → (g x).site ≡ x.site) where
    pub Ruled_still : plain (g e) ≡ plain e → Ruled rs (stepped s k x id [] (changed site g v) keeps)
    Ruled_still told =
        subst (λ (ws : List ℕ). Ruled rs (record { words = ws; homes = s.homes; views = set s.views id (changed site g v) })) (sym (set_again s.words k x word)) (
          set h.0 site (g e),
          h.1,
          length-set h.0 site (g e) ∙ h.2,
          subst (λ k. k ≤ MAX_SITES) (sym (length-set h.0 site (g e))) h.3,
          Shared_changed s.views h.1 h.0 h.4 id v at site e g c same keeps_site,
          Wired_still rs s.words s.homes h.0 h.5 h.3 site e (g e) (held s.views h.1 h.0 h.4 id v at e site c same).1 told,
        )

  module _ (site : ℕ) (e : Log) (c : Contains v.sites e) (same : e.site ≡ site) (i j : ℕ) (hi : i < length rs) (hj : j < length rs) (g : Log → Log) (keeps_site : (x : Log) → (g x).site ≡ x.site) where
    pub here : get_elem? h.0 site ≡ some e
    here = (held s.views h.1 h.0 h.4 id v at e site c same).1

    pub Ruled_box : (m : ℕ) (slot : Option (Maybe Frame)) → Like (Pair i j) site e (g e)
        → length (g e).inputs ≡ length e.inputs
        → ((f : Frame) → Contains e.sent f → Contains (g e).sent f)
        → ((f : Frame) → Contains (g e).noted f → Contains e.noted f ⊎ (((addressee f) ≡ site) × Contains (frames h.0) f))
        → ((a b : Log) → get_elem? (set h.0 site (g e)) i ≡ some a → get_elem? (set h.0 site (g e)) j ≡ some b → Mailbox (set s.words (word_of i j) m) (set s.homes (slot_of i j) slot) i j a b)
        → IsRun rs (set h.0 site (g e))
        → Ruled rs (record { words = set s.words (word_of i j) m; homes = set s.homes (slot_of i j) slot; views = set s.views id (changed site g v) })
    Ruled_box m slot like count more news new run = (
      set h.0 site (g e),
      h.1,
      length-set h.0 site (g e) ∙ h.2,
      subst (λ k. k ≤ MAX_SITES) (sym (length-set h.0 site (g e))) h.3,
      Shared_changed s.views h.1 h.0 h.4 id v at site e g c same keeps_site,
      Wired_box rs s.words s.homes h.0 h.5 h.3 site e (g e) here i j m slot (subst (λ k. i < k) (sym h.2) hi) (subst (λ k. j < k) (sym h.2) hj) like count more news new run,
    )

module _ (rs : List Record) (id : ℕ) (v : View) (i j : ℕ) (e : Log) (c : Contains v.sites e) (apart : i ≢ j) where
  module _ (o : Frame) (same : e.site ≡ i) (rest : e.doing ≡ Nothing) (hj : j < length rs) where
    claim_like : Like (Pair i j) i e (does_writes j (offers o) e)
    claim_like = ((λ y p. (refl, ap (λ d. writes d y) rest ∙ sym (ne_eqb j y (λ q. p (refl, sym q))))), (λ y p. (refl, ap (λ d. reads d y) rest)))

    abbrev ClaimGoal : Table → ℕ → Type 0
    ClaimGoal s x = (w : View) × (a : Act (Maybe Frame)) × Valid s.homes [] a × Ruled rs (stepped s (word_of i j) (either (eqb x 0) 1 x) id [] w a) × Claimed i j (offers o) (v, []) x (w, carried_after [] a)

    module _ (s : Table) (h : Ruled rs s) (at : get_elem? s.views id ≡ some v) (b : Log) (bj : get_elem? h.0 j ≡ some b) where
      ei : get_elem? h.0 i ≡ some e
      ei = (held s.views h.1 h.0 h.4 id v at e i c same).1

      claim_at : (p : Phase) → get_elem? s.words (word_of i j) ≡ some (number p) → get_elem? s.homes (slot_of i j) ≡ some (home p) → Between p (way i j e.sent) (way i j b.noted)
          → writes e.doing j ≡ is_writing p → reads b.doing i ≡ is_reading p → ClaimGoal s (number p)
      claim_at empty word slot frames wr rd = (
        changed i (does_writes j (offers o)) v,
        takes (slot_of i j) None,
        slot,
        Ruled_box rs s h id v at i e c same i j (subst (λ k. i < k) h.2 (within h.0 i e ei)) hj (does_writes j (offers o)) (λ x. refl) 1 none claim_like refl (λ f d. d) (λ f d. inl d) new
            (run_same rs h.0 h.5.run i e (does_writes j (offers o) e) ei refl refl refl refl).longer,
        ((λ _. (refl, λ _. shows rs s h id v at i j e b (λ x y. way i j x.sent ≡ way i j y.noted) ei bj frames)), (λ z. absurd (z refl))),
      )
        where
          new : (x y : Log) → get_elem? (set h.0 i (does_writes j (offers o) e)) i ≡ some x → get_elem? (set h.0 i (does_writes j (offers o) e)) j ≡ some y → Mailbox (set s.words (word_of i j) 1) (set s.homes (slot_of i j) none) i j x y
          new x y ax by = subst (λ (z : Log × Log). Mailbox (set s.words (word_of i j) 1) (set s.homes (slot_of i j) none) i j z.0 z.1)
              (λ q. (one_there _ i (does_writes j (offers o) e) x (set_at h.0 i e (does_writes j (offers o) e) ei) ax q, one_there h.0 j b y bj (sym (set_else h.0 i j (does_writes j (offers o) e) (λ t. apart (sym t))) ∙ by) q))
              record { phase = writing; word_is = set_at s.words (word_of i j) 0 1 word; slot_is = set_at s.homes (slot_of i j) (some None) none slot; frames = frames; written_is = eq-eqb j j refl; read_is = rd }
      claim_at writing word slot frames wr rd = absurd (true≢false (sym wr ∙ ap (λ d. writes d j) rest))
      claim_at (full f) word slot frames wr rd = (
        changed i (offers o) v,
        keeps,
        tt,
        Ruled_still rs s h id v at i e c same (word_of i j) 2 word (offers o) (λ x. refl) refl,
        (
          (λ z. absurd (omega arith)),
          (λ _. (
            refl,
            (λ x cx sx. subst (λ (z : Log). 0 < length (way i j z.sent)) (one_there h.0 i e x ei (held s.views h.1 h.0 h.4 id v at x i cx sx).1) (let l = ap length frames ∙ length_push (way i j b.noted) f in omega arith)),
            λ _. shows rs s h id v at i j e b (λ x y. length (way i j x.sent) ≡ length (way i j y.noted) + 1) ei bj (ap length frames ∙ length_push (way i j b.noted) f),
          )),
        ),
      )
      claim_at reading word slot frames wr rd = (
        changed i (offers o) v,
        keeps,
        tt,
        Ruled_still rs s h id v at i e c same (word_of i j) 3 word (offers o) (λ x. refl) refl,
        (
          (λ z. absurd (omega arith)),
          (λ _. (
            refl,
            (λ x cx sx. subst (λ (z : Log). 0 < length (way i j z.sent)) (one_there h.0 i e x ei (held s.views h.1 h.0 h.4 id v at x i cx sx).1) frames.1),
            λ quiet x y cx sx cy sy. absurd (true≢false (sym rd ∙ ap (λ (z : Log). reads z.doing i) (one_there h.0 j b y bj (held s.views h.1 h.0 h.4 id v at y j cy sy).1) ∙ ap (λ d. reads d i) (All-contains (λ (z : Log). z.doing ≡ Nothing) v.sites y quiet cy))),
          )),
        ),
      )

    pub claims : (slots : ℕ) → Allows (Ruled rs) slots id (v, []) (word_of i j) (λ x. either (eqb x 0) 1 x) (Claimed i j (offers o) (v, []))
    claims slots s h len at small =
        let b = there h.0 j (subst (λ k. j < k) (sym h.2) hj) in
        let box = h.5.mailbox i j e b.0 (ei s h at b.0 b.1) b.1 apart in
        subst (ClaimGoal s) (sym (index_is s.words (word_of i j) (number box.phase) 0 box.word_is)) (claim_at s h at b.0 b.1 box.phase box.word_is box.slot_is box.frames box.written_is box.read_is)

  -- what a frame in a mailbox is
  sent_way : (a : Log) (f : Frame) (rest : List Frame) → way i j a.sent ≡ rest ++ f ∷ [] → Contains a.sent f × ((sender f) ≡ i) × ((addressee f) ≡ j)
  sent_way a f rest is = in_way i j a.sent f (subst (λ (l : List Frame). Contains l f) (sym is) (Contains-push rest f))

module _ (rs : List Record) (id : ℕ) (v : View) (i j : ℕ) (e : Log) (c : Contains v.sites e) (apart : i ≢ j) (same : e.site ≡ j) where
  ej : (s : Table) (h : Ruled rs s) (at : get_elem? s.views id ≡ some v) → get_elem? h.0 j ≡ some e
  ej s h at = (held s.views h.1 h.0 h.4 id v at e j c same).1

  module _ (rest : e.doing ≡ Nothing) (hi : i < length rs) where
    note_like : (f : Frame) → (sender f) ≡ i → Like (Pair i j) j e (does_receives i f e)
    note_like f from = (
      (λ y p. (refl, ap (λ d. writes d y) rest)),
      (λ y p. let ne : (sender f) ≢ y = λ q. p (sym q ∙ from, refl) in (
        sym (way_other y j e.noted f (ap (λ t. t && nat_eq (addressee f) j) (ne_eqb (sender f) y ne))),
        ap (λ d. reads d y) rest ∙ sym (ne_eqb (sender f) y ne),
      )),
    )

    abbrev NoteGoal : Table → ℕ → Type 0
    NoteGoal s x = (w : View) × (a : Act (Maybe Frame)) × Valid s.homes [] a × Ruled rs (stepped s (word_of i j) (either (eqb x 2) 3 x) id [] w a) × Noted i j (v, []) x (w, carried_after [] a)

    module _ (s : Table) (h : Ruled rs s) (at : get_elem? s.views id ≡ some v) (b : Log) (bi : get_elem? h.0 i ≡ some b) where
      stays : (x : ℕ) → get_elem? s.words (word_of i j) ≡ some x → x ≢ 2 → either (eqb x 2) 3 x ≡ x → (AtRest v.sites → Level i j v.sites) → NoteGoal s x
      stays x word ne is level = (
        changed j (asks i) v,
        keeps,
        tt,
        subst (λ k. Ruled rs (stepped s (word_of i j) k id [] (changed j (asks i) v) keeps)) (sym is) (Ruled_still rs s h id v at j e c same (word_of i j) x word (asks i) (λ x. refl) refl),
        ((λ z. absurd (ne z)), (λ _. (refl, level))),
      )

      level_of : way i j b.sent ≡ way i j e.noted → Level i j v.sites
      level_of same_way = shows rs s h id v at i j b e (λ x y. way i j x.sent ≡ way i j y.noted) bi (ej s h at) same_way

      note_at : (p : Phase) → get_elem? s.words (word_of i j) ≡ some (number p) → get_elem? s.homes (slot_of i j) ≡ some (home p) → Between p (way i j b.sent) (way i j e.noted)
          → writes b.doing j ≡ is_writing p → reads e.doing i ≡ is_reading p → NoteGoal s (number p)
      note_at empty word slot flow wr rd = stays 0 word (λ z. omega arith) refl (λ _. level_of flow)
      note_at writing word slot flow wr rd = stays 1 word (λ z. omega arith) refl (λ _. level_of flow)
      note_at reading word slot flow wr rd = absurd (true≢false (sym rd ∙ ap (λ d. reads d i) rest))
      note_at (full f) word slot flow wr rd = (
        changed j (does_receives i f) v,
        takes (slot_of i j) (Some f),
        slot,
        Ruled_box rs s h id v at j e c same i j hi (subst (λ k. j < k) h.2 (within h.0 j e (ej s h at))) (does_receives i f) (λ x. refl) 3 none (note_like f f_is.1) refl (λ g d. d) news new
            (run_same rs h.0 h.5.run j e (does_receives i f e) (ej s h at) refl refl refl refl).longer,
        ((λ _. (f, refl, f_is.1, f_is.2, λ _. shows rs s h id v at i j b e (λ x y. way i j x.sent ≡ way i j y.noted ++ f ∷ []) bi (ej s h at) flow)), (λ z. absurd (z refl))),
      )
        where
          f_is : Contains b.sent f × ((sender f) ≡ i) × ((addressee f) ≡ j)
          f_is = sent_way rs id v i j e c apart b f (way i j e.noted) flow

          news : (g : Frame) → Contains (does_receives i f e).noted g → Contains e.noted g ⊎ (((addressee g) ≡ j) × Contains (frames h.0) g)
          news g d = ⊎_elim (λ (x : Contains e.noted g). inl x) (λ (x : f ≡ g). inr (ap (λ (z : Frame). (addressee z)) (sym x) ∙ f_is.2, in_flat (λ (z : Log). z.sent) h.0 i b g bi (subst (Contains b.sent) x f_is.0))) (Contains-push_cases e.noted f g d)

          new : (x y : Log) → get_elem? (set h.0 j (does_receives i f e)) i ≡ some x → get_elem? (set h.0 j (does_receives i f e)) j ≡ some y → Mailbox (set s.words (word_of i j) 3) (set s.homes (slot_of i j) none) i j x y
          new x y ax by = let more = way_more i j e.noted f f_is.1 f_is.2 in subst (λ (z : Log × Log). Mailbox (set s.words (word_of i j) 3) (set s.homes (slot_of i j) none) i j z.0 z.1)
              (λ q. (one_there h.0 i b x bi (sym (set_else h.0 j i (does_receives i f e) apart) ∙ ax) q, one_there _ j (does_receives i f e) y (set_at h.0 j e (does_receives i f e) (ej s h at)) by q))
              record {
                phase = reading;
                word_is = set_at s.words (word_of i j) 2 3 word;
                slot_is = set_at s.homes (slot_of i j) (some (Some f)) none slot;
                frames = (flow ∙ sym more, let l = ap length flow ∙ length_push (way i j e.noted) f in omega arith);
                written_is = wr;
                read_is = eq-eqb (sender f) i f_is.1;
              }

    pub notes_one : (slots : ℕ) → Allows (Ruled rs) slots id (v, []) (word_of i j) (λ x. either (eqb x 2) 3 x) (Noted i j (v, []))
    notes_one slots s h len at small =
        let b = there h.0 i (subst (λ k. i < k) (sym h.2) hi) in
        let box = h.5.mailbox i j b.0 e b.1 (ej s h at) apart in
        subst (NoteGoal s) (sym (index_is s.words (word_of i j) (number box.phase) 0 box.word_is)) (note_at s h at b.0 b.1 box.phase box.word_is box.slot_is box.frames box.written_is box.read_is)

  module _ (busy : e.doing ≡ Reads i) (hi : i < length rs) where
    release_like : Like (Pair i j) j e (does Nothing e)
    release_like = ((λ y p. (refl, ap (λ d. writes d y) busy)), (λ y p. (refl, ap (λ d. reads d y) busy ∙ ne_eqb i y (λ q. p (sym q, refl)))))

    abbrev ReleaseGoal : Table → Type 0
    ReleaseGoal s = (w : View) × (a : Act (Maybe Frame)) × Valid s.homes ((slot_of i j, None) ∷ []) a × Ruled rs (stepped s (word_of i j) 0 id ((slot_of i j, None) ∷ []) w a) × Released j (v, (slot_of i j, None) ∷ []) (w, carried_after ((slot_of i j, None) ∷ []) a)

    module _ (s : Table) (h : Ruled rs s) (at : get_elem? s.views id ≡ some v) (b : Log) (bi : get_elem? h.0 i ≡ some b) where
      release_at : (p : Phase) → get_elem? s.words (word_of i j) ≡ some (number p) → get_elem? s.homes (slot_of i j) ≡ some (home p) → Between p (way i j b.sent) (way i j e.noted)
          → writes b.doing j ≡ is_writing p → reads e.doing i ≡ is_reading p → ReleaseGoal s
      release_at empty word slot frames wr rd = absurd (true≢false (sym (ap (λ d. reads d i) busy ∙ eq-eqb i i refl) ∙ rd))
      release_at writing word slot frames wr rd = absurd (true≢false (sym (ap (λ d. reads d i) busy ∙ eq-eqb i i refl) ∙ rd))
      release_at (full f) word slot frames wr rd = absurd (true≢false (sym (ap (λ d. reads d i) busy ∙ eq-eqb i i refl) ∙ rd))
      release_at reading word slot frames wr rd = (
        changed j (does Nothing) v,
        gives,
        tt,
        Ruled_box rs s h id v at j e c same i j hi (subst (λ k. j < k) h.2 (within h.0 j e (ej s h at))) (does Nothing) (λ x. refl) 0 (some None) release_like refl (λ g d. d) (λ g d. inl d) new
            (run_same rs h.0 h.5.run j e (does Nothing e) (ej s h at) refl refl refl refl).longer,
        refl,
      )
        where
          new : (x y : Log) → get_elem? (set h.0 j (does Nothing e)) i ≡ some x → get_elem? (set h.0 j (does Nothing e)) j ≡ some y → Mailbox (set s.words (word_of i j) 0) (set s.homes (slot_of i j) (some None)) i j x y
          new x y ax by = subst (λ (z : Log × Log). Mailbox (set s.words (word_of i j) 0) (set s.homes (slot_of i j) (some None)) i j z.0 z.1)
              (λ q. (one_there h.0 i b x bi (sym (set_else h.0 j i (does Nothing e) apart) ∙ ax) q, one_there _ j (does Nothing e) y (set_at h.0 j e (does Nothing e) (ej s h at)) by q))
              record { phase = empty; word_is = set_at s.words (word_of i j) 3 0 word; slot_is = set_at s.homes (slot_of i j) none (some None) slot; frames = frames.0; written_is = wr; read_is = refl }

    pub releases : (slots : ℕ) → Allows (Ruled rs) slots id (v, (slot_of i j, None) ∷ []) (word_of i j) (λ _. 0) (λ _. Released j (v, (slot_of i j, None) ∷ []))
    releases slots s h len at small =
        let b = there h.0 i (subst (λ k. i < k) (sym h.2) hi) in
        let box = h.5.mailbox i j b.0 e b.1 (ej s h at) apart in
        release_at s h at b.0 b.1 box.phase box.word_is box.slot_is box.frames box.written_is box.read_is

and_false : (b : Bool) → (b && false) ≡ false
and_false true = refl
and_false false = refl

module _ (rs : List Record) (id : ℕ) (v : View) (f : Frame) (e : Log) (c : Contains v.sites e) (apart : (sender f) ≢ (addressee f)) (same : e.site ≡ (sender f)) (busy : e.doing ≡ Writes (addressee f)) (hj : (addressee f) < length rs) (may : Contains (emittable e.last.engagement) f) where
  publish_like : Like (Pair (sender f) (addressee f)) (sender f) e (does_posts f e)
  publish_like = (
    (λ y p. let ne : (addressee f) ≢ y = λ q. p (refl, sym q) in (
      sym (way_other (sender f) y e.sent f (ap (λ t. nat_eq (sender f) (sender f) && t) (ne_eqb (addressee f) y ne) ∙ and_false (nat_eq (sender f) (sender f)))),
      ap (λ d. writes d y) busy ∙ ne_eqb (addressee f) y ne,
    )),
    (λ y p. (refl, ap (λ d. reads d y) busy)),
  )

  abbrev Load : List (ℕ × Maybe Frame)
  Load = (slot_of (sender f) (addressee f), Some f) ∷ []

  abbrev PublishGoal : Table → Type 0
  PublishGoal s = (w : View) × (a : Act (Maybe Frame)) × Valid s.homes Load a × Ruled rs (stepped s (word_of (sender f) (addressee f)) 2 id Load w a) × Published (v, Load) (w, carried_after Load a)

  module _ (s : Table) (h : Ruled rs s) (at : get_elem? s.views id ≡ some v) (b : Log) (bj : get_elem? h.0 (addressee f) ≡ some b) where
    ef : get_elem? h.0 (sender f) ≡ some e
    ef = (held s.views h.1 h.0 h.4 id v at e (sender f) c same).1

    run : IsRun rs (set h.0 (sender f) (does_posts f e))
    run = (run_sent rs h.0 h.5.run (sender f) e (does_posts f e) ef refl f refl may refl refl refl).longer

    publish_at : (p : Phase) → get_elem? s.words (word_of (sender f) (addressee f)) ≡ some (number p) → get_elem? s.homes (slot_of (sender f) (addressee f)) ≡ some (home p) → Between p (way (sender f) (addressee f) e.sent) (way (sender f) (addressee f) b.noted)
        → writes e.doing (addressee f) ≡ is_writing p → reads b.doing (sender f) ≡ is_reading p → PublishGoal s
    publish_at empty word slot frames wr rd = absurd (true≢false (sym (ap (λ d. writes d (addressee f)) busy ∙ eq-eqb (addressee f) (addressee f) refl) ∙ wr))
    publish_at reading word slot frames wr rd = absurd (true≢false (sym (ap (λ d. writes d (addressee f)) busy ∙ eq-eqb (addressee f) (addressee f) refl) ∙ wr))
    publish_at (full g) word slot frames wr rd = absurd (true≢false (sym (ap (λ d. writes d (addressee f)) busy ∙ eq-eqb (addressee f) (addressee f) refl) ∙ wr))
    publish_at writing word slot frames wr rd = (
      changed (sender f) (does_posts f) v,
      gives,
      tt,
      Ruled_box rs s h id v at (sender f) e c same (sender f) (addressee f) (subst (λ k. (sender f) < k) h.2 (within h.0 (sender f) e ef)) hj (does_posts f) (λ x. refl) 2 (some (Some f)) publish_like refl
          (λ g d. Contains-append_left e.sent (f ∷ []) g d) (λ g d. inl d) new run,
      refl,
    )
      where
        new : (x y : Log) → get_elem? (set h.0 (sender f) (does_posts f e)) (sender f) ≡ some x → get_elem? (set h.0 (sender f) (does_posts f e)) (addressee f) ≡ some y
            → Mailbox (set s.words (word_of (sender f) (addressee f)) 2) (set s.homes (slot_of (sender f) (addressee f)) (some (Some f))) (sender f) (addressee f) x y
        new x y ax by = subst (λ (z : Log × Log). Mailbox (set s.words (word_of (sender f) (addressee f)) 2) (set s.homes (slot_of (sender f) (addressee f)) (some (Some f))) (sender f) (addressee f) z.0 z.1)
            (λ q. (one_there _ (sender f) (does_posts f e) x (set_at h.0 (sender f) e (does_posts f e) ef) ax q, one_there h.0 (addressee f) b y bj (sym (set_else h.0 (sender f) (addressee f) (does_posts f e) (λ t. apart (sym t))) ∙ by) q))
            record {
              phase = full f;
              word_is = set_at s.words (word_of (sender f) (addressee f)) 1 2 word;
              slot_is = set_at s.homes (slot_of (sender f) (addressee f)) none (some (Some f)) slot;
              frames = way_more (sender f) (addressee f) e.sent f refl refl ∙ ap (λ (l : List Frame). l ++ f ∷ []) frames;
              written_is = refl;
              read_is = rd;
            }

  pub publishes : (slots : ℕ) → Allows (Ruled rs) slots id (v, Load) (word_of (sender f) (addressee f)) (λ _. 2) (λ _. Published (v, Load))
  publishes slots s h len at small =
      let b = there h.0 (addressee f) (subst (λ k. (addressee f) < k) (sym h.2) hj) in
      let box = h.5.mailbox (sender f) (addressee f) e b.0 (ef s h at b.0 b.1) b.1 apart in
      publish_at s h at b.0 b.1 box.phase box.word_is box.slot_is box.frames box.written_is box.read_is
