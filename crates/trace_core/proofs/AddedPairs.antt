-- The pairs that one more event gives.
use Rattle.std.proofs.Common.{◌≡◌, ◌<◌, ◌≤◌, ◌+◌, ◌||◌, ℕ, true, false, List, [], ◌∷◌, ◌++◌, take, length, get_or, ◌↔◌, refl, sym, ap, ◌∙◌, subst, inl, inr, ⊎_elim}
use mathlib.Core.Logic.{◌⊎◌}
use Rattle.std.specs.Bool.{Decides}
use Rattle.std.specs.BTreeSet.{BTreeSet, Updates}
use Rattle.std.specs.List.{Any, Contains}
use Rattle.std.proofs.lemmas.Bool.Decides.{Decides-and, Decides-or, Decides-eqb}
use Rattle.std.proofs.lemmas.List.{take_all}
use Rattle.std.proofs.lemmas.List.Elements.{Contains-push}
use Rattle.std.proofs.lemmas.Map.Views.{btree_set_contains_iff}
use Rattle.event_json.specs.Events.{Content}
use Rattle.event_json.specs.declared.bodies.Body.{Body}
use Rattle.trace_core.specs.declared.pairs.Pair.{Pair}
use Rattle.trace_core.specs.Carried.{SendsBy}
use Rattle.trace_core.specs.Gathering.{is_in, added_by}
use Rattle.trace_core.specs.Pairs.{pair_cmp, TakesIn, GivesOut, make_id, HaveOneId, AreOneMake, IsMade, IsRelated}
use Rattle.trace_core.specs.Searches.{IsFound}
use Rattle.trace_core.specs.Sites.{SiteEvents}
use Rattle.trace_core.specs.Spreads.{with_event, IsNewlyMade}
use Rattle.trace_core.proofs.Carrying.{earlier, still, sent_with}
use Rattle.trace_core.proofs.Members.{contains_none}
use Rattle.trace_core.proofs.PairOrder.{pairs_total, pairs_exact}
use Rattle.trace_core.proofs.PairTestsDecide.{any_decides, takes_decides, gives_decides, same_id_decides}
use Rattle.trace_core.proofs.SetMembers.{contains_more, found-remove}

module _ (s : SiteEvents) (e : Content) (i : List ℕ) where
  -- the event makes the pair's item of the item, by itself or joined to an event that gives it out
  abbrev pub MadeBy : Pair → Type 0
  MadeBy q = (q.site ≡ s.me) × (TakesIn i e.body × (GivesOut q.item e.body ⊎ Any (λ f. HaveOneId (make_id e.body) (make_id f.body) × GivesOut q.item f.body) s.events))

  -- the event gives out the pair's item, joined to an event that takes the item in
  abbrev pub JoinedBy : Pair → Type 0
  JoinedBy q = Any (λ f. TakesIn i f.body × HaveOneId (make_id f.body) (make_id e.body)) s.events × ((q.site ≡ s.me) × GivesOut q.item e.body)

  abbrev pub AddedBy : Pair → Type 0
  AddedBy q = MadeBy q ⊎ JoinedBy q

  pub added_decides : (q : Pair) → Decides (added_by s.me s.events i e.body q) (AddedBy q)
  added_decides q = Decides-or _ _
      (Decides-and _ _ (Decides-eqb q.site s.me) (Decides-and _ _ (takes_decides i e.body) (Decides-or _ _ (gives_decides q.item e.body)
      (any_decides _ _ (λ f. Decides-and _ _ (same_id_decides (make_id e.body) (make_id f.body)) (gives_decides q.item f.body)) s.events))))
      (Decides-and _ _ (any_decides _ _ (λ f. Decides-and _ _ (takes_decides i f.body) (same_id_decides (make_id f.body) (make_id e.body))) s.events)
      (Decides-and _ _ (Decides-eqb q.site s.me) (gives_decides q.item e.body)))

  made_with : (q : Pair) → IsMade (with_event s e) i q → IsMade s i q ⊎ AddedBy q
  made_with q (here, any) = ⊎_elim
      (λ (k, f, lt, at, (takes, gives)). ⊎_elim
      (λ given. inl (here, (k, f, lt, at, (takes, given))))
      (λ (one, out). ⊎_elim
      (λ same. inr (inl (here, (subst (λ (x : Content). TakesIn i x.body) same takes, inl out))))
      (λ id. inr (inr ((k, f, lt, at, (takes, id)), (here, out))))
      one)
      (earlier s.events e (λ g. AreOneMake f g × GivesOut q.item g.body) gives))
      (λ (takes, gives). inr (inl (
        here,
        (
          takes,
          ⊎_elim
              (λ (l, g, lt, at, (one, out)). ⊎_elim
              (λ same. inl (subst (λ (x : Content). GivesOut q.item x.body) (sym same) out))
              (λ id. inr (l, g, lt, at, (id, out)))
              one)
              (λ (one, out). inl out)
              (earlier s.events e (λ g. AreOneMake e g × GivesOut q.item g.body) gives),
        ),
      )))
      (earlier s.events e (λ f. TakesIn i f.body × Any (λ g. AreOneMake f g × GivesOut q.item g.body) (s.events ++ e ∷ [])) any)

  -- the event sends the item to the pair
  abbrev pub ShippedBy : Pair → Type 0
  ShippedBy q = (q.site ≡ s.me → ⊥) × (SendsBy s.events e.body i q.site × (i ≡ q.item))

  pub related_with : (q : Pair) → IsRelated (with_event s e) i q → IsRelated s i q ⊎ ((ShippedBy q ⊎ MadeBy q) ⊎ JoinedBy q)
  related_with q h = ⊎_elim
      (λ (other, same, sent). ⊎_elim
      (λ before. inl (inl (other, same, before)))
      (λ sends. inr (inl (inl (other, (sends, sym same)))))
      (sent_with s.events e i q.site sent))
      (λ made. ⊎_elim
      (λ before. inl (inr before))
      (λ added. inr (⊎_elim (λ by. inl (inr by)) (λ joined. inr joined) added))
      (made_with q made))
      h

  the_last : Contains (s.events ++ e ∷ []) e
  the_last = Contains-push s.events e

  added_made : (q : Pair) → AddedBy q → IsMade (with_event s e) i q
  added_made q h = ⊎_elim
      (λ (here, (takes, gives)). (
        here,
        (
          the_last.0,
          e,
          the_last.1,
          the_last.2,
          (
            takes,
            ⊎_elim
                (λ out. (the_last.0, e, the_last.1, the_last.2, (inl refl, out)))
                (λ (k, f, lt, at, (id, out)). still s.events e (λ g. AreOneMake e g × GivesOut q.item g.body) (k, f, lt, at, (inr id, out)))
                gives,
          ),
        ),
      ))
      (λ ((k, f, lt, at, (takes, id)), (here, out)). (
        here,
        still s.events e (λ f. TakesIn i f.body × Any (λ g. AreOneMake f g × GivesOut q.item g.body) (s.events ++ e ∷ []))
            (k, f, lt, at, (takes, (the_last.0, e, the_last.1, the_last.2, (inr id, out)))),
      ))
      h

-- those of the added pairs that aren't among the first so many of the pairs that stood before
abbrev pub LeftOf : SiteEvents → Body → List ℕ → List Pair → BTreeSet Pair → ℕ → Type 0
LeftOf s b i before set n = (q : Pair) → IsFound pair_cmp set q ↔ ((added_by s.me s.events i b q ≡ true) × (Contains (take n before) q → ⊥))

module _ (s : SiteEvents) (b : Body) (i : List ℕ) where
  pub none_taken : (before : List Pair) (none set : BTreeSet Pair) → none.keys ≡ [] → ((q : Pair) → is_in set q ≡ (is_in none q || added_by s.me s.events i b q)) → LeftOf s b i before set 0
  none_taken before none set empty added q =
      let is : is_in set q ≡ added_by s.me s.events i b q = added q ∙ ap (λ (ks : List Pair). is_in (record { keys = ks }) q || added_by s.me s.events i b q) empty in
      (λ h. (sym is ∙ h, λ there. contains_none q there), λ (by, free). is ∙ by)

  pub one_taken : (before : List Pair) (old new : BTreeSet Pair) (k : ℕ) (p : Pair) → k < length before → p ≡ get_or before k p → Updates pair_cmp old new p false → LeftOf s b i before old k → LeftOf s b i before new (k + 1)
  one_taken before old new k p below at upd so_far q =
      let more = contains_more before k p below at q in
      let left = found-remove pair_cmp pairs_total pairs_exact old new p upd q in (
        λ h. let (was, other) = left.0 h in let (added, not_before) = (so_far q).0 was in (added, λ there. ⊎_elim not_before other (more.0 there)),
        λ (added, not_there). left.1 ((so_far q).1 (added, λ before. not_there (more.1 (inl before))), λ same. not_there (more.1 (inr same))),
      )

  module _ (e : Content) (is : e.body ≡ b) where
    by_event : (q : Pair) → Decides (added_by s.me s.events i b q) (AddedBy s e i q)
    by_event q = subst (λ (x : Body). Decides (added_by s.me s.events i x q) (AddedBy s e i q)) is (added_decides s e i q)

    -- what is left of all that stood before is newly made
    pub newly_made : (before : List Pair) (set : BTreeSet Pair) (n : ℕ) → length before ≤ n → ((q : Pair) → Contains before q ↔ IsRelated s i q) → LeftOf s b i before set n → (q : Pair) → IsFound pair_cmp set q ↔ IsNewlyMade s e i q
    newly_made before set n past exact left q =
        let all = take_all n before past in (
          λ h. let (added, not_before) = (left q).0 h in
              (added_made s e i q ((by_event q).0 added), λ made. not_before (subst (λ ps. Contains ps q) (sym all) ((exact q).1 (inr made)))),
          λ (made, new). (left q).1 (
            ⊎_elim (λ before. absurd (new before)) (λ added. (by_event q).1 added) (made_with s e i q made),
            λ there. ⊎_elim (λ shipped. shipped.0 made.0) (λ old. new old) ((exact q).0 (subst (λ ps. Contains ps q) all there)),
          ),
        )

    -- where nothing was added, nothing is
    pub nothing_made : (before : List Pair) (set : BTreeSet Pair) → set.keys ≡ [] → LeftOf s b i before set 0 → (q : Pair) → IsFound pair_cmp set q ↔ IsNewlyMade s e i q
    nothing_made before set empty left q = (
      λ h. absurd (contains_none q (subst (λ ps. Contains ps q) empty ((btree_set_contains_iff pairs_total pairs_exact set q).0 h))),
      λ (made, new). ⊎_elim
          (λ old. absurd (new old))
          (λ added. (left q).1 ((by_event q).1 added, λ there. contains_none q there))
          (made_with s e i q made),
    )
