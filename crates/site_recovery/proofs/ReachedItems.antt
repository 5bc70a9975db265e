-- What several sites hold together, as pairs are added under recalls.
use Rattle.std.proofs.Common.{◌≡◌, ◌⊎◌, ◌↔◌, inl, inr, ℕ, zero, suc, ◌+◌, ◌<◌, ◌≤◌, Bor, List, [], ◌∷◌, ◌++◌, length, get_or, drop, slice_set, Some, None, refl, sym, ap, ◌∙◌, subst, arith}
use mathlib.Core.Bool.{false≢true}
use Rattle.std.specs.Cmp.{nat_cmp_total}
use Rattle.std.specs.FinMap.{empty, get, get-empty, nat_cmp-IsAntisymmetric}
use Rattle.std.specs.List.{Contains}
use Rattle.std.specs.Prelude.{IsTrue}
use Rattle.std.proofs.lemmas.List.{drop_more, get_or-set_other, get_or-set_same, get_or_default, length-set}
use Rattle.frame_core.specs.Identifiers.{recall_cmp}
use Rattle.frame_core.specs.Numbers.{Recall}
use Rattle.scholten_core.specs.declared.own_recalls.Own.{Own}
use Rattle.trace_core.specs.Chains.{Related}
use Rattle.trace_core.specs.Relations.{Reaches}
use Rattle.trace_core.specs.Sites.{SiteEvents}
use Rattle.trace_core.specs.declared.pairs.Pair.{Pair}
use Rattle.site_core.specs.Quarantines.{Quarantine, held, with_item}
use Rattle.site_core.specs.Records.{Record}
use Rattle.site_core.proofs.Held.{none_held}
use Rattle.site_core.proofs.HeldLaws.{held_one}
use Rattle.site_recovery.specs.Checking.{Adds, HeldIn, IsBegun, IsReachedBy, IsWithinAt, records_at, world_at}
use Rattle.site_recovery.specs.FittingAt.{AreAllSites}
use Rattle.site_recovery.specs.Laws.{captured_of}
use Rattle.site_recovery.specs.Looks as looks
use Rattle.site_recovery.specs.Looks.{own}
use Rattle.site_recovery.proofs.Absent.{none_begun}
use Rattle.site_core.proofs.Entries.{entry_found, entry_there}
use Rattle.site_recovery.proofs.Exact.{within_or_past}
use Rattle.site_recovery.proofs.Gathering.{Gathered, all_gathered, none_gathered, one_gathered}
use Rattle.site_recovery.proofs.OneSite.{one_place}
use Rattle.site_recovery.proofs.SitesInTurn.{past_end, place_of, site_of, some_site}

-- Nothing is held.

pub push_default : {X : Type 0} (d : X) (xs : List X) (k : ℕ) → get_or (xs ++ d ∷ []) k d ≡ get_or xs k d
push_default d [] zero = refl
push_default d [] (suc k) = refl
push_default d (x ∷ xs) zero = refl
push_default d (x ∷ xs) (suc k) = push_default d xs k

pub none_held_in : (qs : List Quarantine) → ((k : ℕ) → get_or qs k empty ≡ empty) → (r : Recall) (p : Pair) → HeldIn qs r p → ⊥
none_held_in qs none r p h = false≢true (sym (none_held (get_or qs p.site empty) r p.item (subst (λ q. get q r ≡ None) (sym (none p.site)) (get-empty recall_cmp r))) ∙ h)

-- One pair.

pub pair_held : (old : List Quarantine) (recall : Recall) (pair : Pair) (place : ℕ) (was new : Quarantine) → place ≡ pair.site → place < length old → was ≡ get_or old place was → new ≡ with_item was recall pair.item
    → Adds (λ r p. (r ≡ recall) × (p ≡ pair)) old (slice_set old place new)
pair_held old recall pair place was new at below is added = record {
  count = length-set old place new;
  exact = λ r p.
      let law = held_one was recall pair.item r p.item in
      elim (one_place p.site place) as (λ _. HeldIn (slice_set old place new) r p ↔ ((((r ≡ recall) × (p ≡ pair)) × (p.site < length old)) ⊎ HeldIn old r p)) [
        | inl here ↦
            let now : get_or (slice_set old place new) p.site empty ≡ new = ap (λ k. get_or (slice_set old place new) k empty) here ∙ get_or-set_same old place new empty below in
            let before : get_or old p.site empty ≡ was = ap (λ k. get_or old k empty) here ∙ sym (get_or_default old place was empty below) ∙ sym is in (
              λ h. elim (law.0 (subst (λ q. IsTrue (held q r p.item)) (now ∙ added) h)) as (λ _. (((r ≡ recall) × (p ≡ pair)) × (p.site < length old)) ⊎ HeldIn old r p) [
                | inl same ↦ inl ((same.0, λ k. record { site = (here ∙ at) k; item = same.1 k }), subst (λ k. k < length old) (sym here) below)
                | inr held_before ↦ inr (subst (λ q. IsTrue (held q r p.item)) (sym before) held_before)
              ],
              λ h. subst (λ q. IsTrue (held q r p.item)) (sym (now ∙ added)) (law.1 (elim h as (λ _. ((r ≡ recall) × (p.item ≡ pair.item)) ⊎ IsTrue (held was r p.item)) [
                | inl comes ↦ inl (comes.0.0, ap (λ (z : Pair). z.item) comes.0.1)
                | inr held_before ↦ inr (subst (λ q. IsTrue (held q r p.item)) before held_before)
              ])),
            )
        | inr away ↦
            let same : get_or (slice_set old place new) p.site empty ≡ get_or old p.site empty = get_or-set_other old place p.site new empty away in (
              λ h. inr (subst (λ q. IsTrue (held q r p.item)) same h),
              λ h. elim h as (λ _. HeldIn (slice_set old place new) r p) [
                | inl comes ↦ absurd (away (ap (λ (z : Pair). z.site) comes.0.1 ∙ sym at))
                | inr held_before ↦ subst (λ q. IsTrue (held q r p.item)) (sym same) held_before
              ],
            )
      ];
}

-- One after another.

pub adds_alike : (P Q : Recall → Pair → Type 0) (old new : List Quarantine) → ((r : Recall) (p : Pair) → P r p ↔ Q r p) → Adds P old new → Adds Q old new
adds_alike P Q old new same a = record {
  count = a.count;
  exact = λ r p. (
    λ h. elim ((a.exact r p).0 h) as (λ _. (Q r p × (p.site < length old)) ⊎ HeldIn old r p) [ inl now ↦ inl ((same r p).0 now.0, now.1) | inr was ↦ inr was ],
    λ h. (a.exact r p).1 (elim h as (λ _. (P r p × (p.site < length old)) ⊎ HeldIn old r p) [ inl now ↦ inl ((same r p).1 now.0, now.1) | inr was ↦ inr was ]),
  );
}

abbrev Held : List Quarantine → Recall × Pair → Type 0
Held qs f = HeldIn qs f.0 f.1

module _ {X : Type 0} (P : X → Recall → Pair → Type 0) (old : List Quarantine) where
  abbrev Comes : X → Recall × Pair → Type 0
  Comes x f = P x f.0 f.1 × (f.1.site < length old)

  -- what the elements so far give has come
  pub record SoFar (whole left : List X) (now : List Quarantine) : Type 0 where
    pub count : length now ≡ length old
    pub gathered : Gathered Comes whole left (Held old) (Held now)

  pub none_yet : (whole left : List X) → left ≡ whole → SoFar whole left old
  none_yet whole left same = record { count = refl; gathered = none_gathered Comes whole left (Held old) same }

  pub one_further : (whole before left : List X) (x : X) (mid new : List Quarantine) → before ≡ x ∷ left → Adds (P x) mid new → SoFar whole before mid → SoFar whole left new
  one_further whole before left x mid new next a so_far = record {
    count = a.count ∙ so_far.count;
    gathered = one_gathered Comes whole before left x (Held old) (Held mid) (Held new) next
        (λ f. subst (λ n. Held new f ↔ ((P x f.0 f.1 × (f.1.site < n)) ⊎ Held mid f)) so_far.count (a.exact f.0 f.1)) so_far.gathered;
  }

  pub all_come : (whole left : List X) (now : List Quarantine) → left ≡ [] → SoFar whole left now → Adds (λ r p. (x : X) × Contains whole x × P x r p) old now
  all_come whole left now none so_far = record {
    count = so_far.count;
    exact = λ r p.
        let all = all_gathered Comes whole left (Held old) (Held now) none so_far.gathered (r, p) in (
          λ h. elim (all.0 h) as (λ _. (((x : X) × Contains whole x × P x r p) × (p.site < length old)) ⊎ HeldIn old r p) [
            | inl came ↦ inl ((came.0, came.1, came.2.0), came.2.1)
            | inr was ↦ inr was
          ],
          λ h. all.1 (elim h as (λ _. ((x : X) × Contains whole x × (P x r p × (p.site < length old))) ⊎ HeldIn old r p) [
            | inl now' ↦ inl (now'.0.0, now'.0.1, (now'.0.2, now'.1))
            | inr was ↦ inr was
          ]),
        );
  }

-- One recall.

pub alone_reached : (captured : List SiteEvents) (count : ℕ) (recall : Recall) (root : List ℕ) (nothing reached : List Quarantine) → length nothing ≡ count → ((r : Recall) (p : Pair) → HeldIn nothing r p → ⊥)
    → Adds (λ r p. (r ≡ recall) × Reaches (Related captured) (record { site = recall.site; item = root }) p) nothing reached
    → (p : Pair) → p.site < count → HeldIn reached recall p ↔ Reaches (Related captured) (record { site = recall.site; item = root }) p
alone_reached captured count recall root nothing reached counted none adds p below = (
  λ h. elim ((adds.exact recall p).0 h) as (λ _. Reaches (Related captured) (record { site = recall.site; item = root }) p) [
    | inl came ↦ came.0.1
    | inr was ↦ absurd (none recall p was)
  ],
  λ reach. (adds.exact recall p).1 (inl ((refl, reach), subst (λ n. p.site < n) (sym counted) below)),
)

-- All recalls of all sites.

module _ (refs : List (Bor Record)) (all : AreAllSites (records_at refs)) where
  begun_at_one : (r : Recall) (o : Own) → own (world_at refs) r.site r.number ≡ Some o → r.site < length refs
  begun_at_one r o is = elim (within_or_past r.site (length refs)) as (λ _. r.site < length refs) [
    | inl below ↦ below
    | inr past ↦ absurd (let none : None ≡ Some o = none_begun (world_at refs) r.site (past_end refs r.site past) r.number ∙ is in cc)
  ]

  -- what is held at a site under recalls that were begun is in reach of their roots just where it is so under each recall of each site
  pub reached_within : (s : ℕ) → (((r : Recall) (i : List ℕ) → looks.Held (world_at refs) s r i → IsBegun (world_at refs) r) × IsWithinAt refs s)
      ↔ ((r : Recall) (i : List ℕ) → looks.Held (world_at refs) s r i → IsReachedBy (records_at refs) r (record { site = s; item = i }))
  reached_within s = (
    λ (begun, within) r i holds.
        let (o, is) = begun r i holds in
        let x = some_site refs r.site (begun_at_one r o is) in
        let me : x.0.now.engagement.me ≡ r.site = ap (λ z. z.engagement.me) (sym x.2) ∙ place_of refs all r.site (begun_at_one r o is) in
        let among = entry_there nat_cmp_total nat_cmp-IsAntisymmetric x.0.now.engagement.own r.number o (sym (ap (λ z. get z.engagement.own r.number) x.2) ∙ is) in
        let reach = within x.0 x.1 (r.number, o) among i (subst (λ z. looks.Held (world_at refs) s (record { site = z; number = r.number }) i) (sym me) holds) in
        (o, is, subst (λ z. Reaches (Related (captured_of (records_at refs))) (record { site = z; item = o.root }) (record { site = s; item = i })) me reach),
    λ reached. (
      λ r i holds. let (o, is, reach) = reached r i holds in (o, is),
      λ x (t, below, at) (k, o) among i holds.
          let here : world_at refs t ≡ x.now = site_of refs t x below at in
          let me : x.now.engagement.me ≡ t = ap (λ z. z.engagement.me) (sym here) ∙ place_of refs all t below in
          let begun : own (world_at refs) t k ≡ Some o = ap (λ z. get z.engagement.own k) here ∙ entry_found nat_cmp_total x.now.engagement.own k o among in
          let (p, is, reach) = reached (record { site = x.now.engagement.me; number = k }) i holds in
          let one : Some p ≡ Some o = sym is ∙ ap (λ z. own (world_at refs) z k) me ∙ begun in
          let same : p ≡ o = cc in
          subst (λ (z : Own). Reaches (Related (captured_of (records_at refs))) (record { site = x.now.engagement.me; item = z.root }) (record { site = s; item = i })) same reach,
    ),
  )

pub none_from : {X : Type 0} (xs : List X) (i : ℕ) → length xs ≤ i → drop i xs ≡ []
none_from [] zero past = refl
none_from [] (suc i) past = refl
none_from (x ∷ xs) zero past = absurd (omega (arith, past))
none_from (x ∷ xs) (suc i) past = none_from xs i (omega (arith, past))

-- the sites from a place on
pub sites_from : (refs : List (Bor Record)) (i : ℕ) (x : Bor Record) → i < length refs → x ≡ get_or refs i x → drop i refs ≡ x ∷ drop (i + 1) refs
sites_from refs i x below is = drop_more refs i x below ∙ ap (λ z. z ∷ drop (i + 1) refs) (sym is)
