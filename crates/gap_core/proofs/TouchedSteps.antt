-- Packed gaps in which some of given pairs stand.
use Rattle.std.proofs.Common.{◌≡◌, ◌↔◌, inr, ℕ, ◌+◌, ◌<◌, ◌≤◌, ◌∙◌, List, [], ◌∷◌, ◌++◌, None, Some, length, slice_get, refl, sym, ap, subst, ⊎_elim, arith}
use Rattle.std.specs.List.{Contains}
use Rattle.std.proofs.lemmas.Bool.{cases_lt}
use Rattle.std.proofs.lemmas.Option.{slice_get_within}
use Rattle.trace_core.specs.declared.pairs.Pair.{Pair}
use Rattle.trace_core.specs.Gaps.{by_known}
use Rattle.trace_core.specs.Relations.{ReachedFrom, Reaches}
use Rattle.trace_core.specs.Sites.{SiteEvents}
use Rattle.trace_core.proofs.ChainLaws.{reach_widens}
use Rattle.trace_core.proofs.Members.{contains_none}
use Rattle.trace_core.proofs.NumberLists.{none_is, some_is}
use Rattle.gap_core.specs.Adding.{AddsToList, ByOne, NotesThose}
use Rattle.gap_core.specs.GapLines.{IsGapChild}
use Rattle.gap_core.specs.Sources.{AreKnown, Index, LiesIn}
use Rattle.gap_core.specs.Touched.{HaveCommon, IsCommonAt, IsItemAt, IsTouchedAt, IsTouchedBy, IsTouchedChild, IsTouchedOne, LiesAt}
use Rattle.gap_core.specs.declared.gap_items.GapItem.{GapItem}
use Rattle.gap_core.proofs.Additions.{Before, adds_alike, adds_nothing, adds_one}
use Rattle.gap_core.proofs.KnownSteps.{lies_as_known}
use Rattle.gap_core.proofs.Notings.{noted_members, notes_alike, notes_had, placed, stands_in}

-- ---- two lists

abbrev pub HaveNone : List (List ℕ) → List (List ℕ) → ℕ → Type 0
HaveNone inside wanted n = (k : ℕ) → k < n → IsCommonAt inside wanted k → ⊥

module _ (inside wanted : List (List ℕ)) where
  pub none_yet : HaveNone inside wanted 0
  none_yet k below common = none below
    where
      none : k < 0 → ⊥
      none below = omega (arith, below)

  pub one_more_none : (n : ℕ) → HaveNone inside wanted n → (IsCommonAt inside wanted n → ⊥) → HaveNone inside wanted (n + 1)
  one_more_none n so_far none k below common = ⊎_elim
      (λ sooner. so_far k sooner common)
      (λ past. none (subst (IsCommonAt inside wanted) (same past) common))
      (cases_lt k n)
    where
      same : n ≤ k → k ≡ n
      same past = omega (arith, below, past)

  pub common_found : (k : ℕ) → IsCommonAt inside wanted k → HaveCommon inside wanted
  common_found k (i, so, there) = (i, stands_in inside k i so, there)

  pub none_common : (n : ℕ) → length inside ≤ n → HaveNone inside wanted n → HaveCommon inside wanted → ⊥
  none_common n past none (i, there, also) = let (k, so) = placed inside i there in none k (within k (slice_get_within inside k i so)) (i, so, also)
    where
      within : (k : ℕ) → k < length inside → k < n
      within k below = omega (arith, below, past)

  pub common_is : (k : ℕ) (i : List ℕ) → slice_get inside k ≡ Some i → Contains wanted i ↔ IsCommonAt inside wanted k
  common_is k i so = (
    λ there. (i, so, there),
    λ (j, also, there). subst (Contains wanted) (some_is j i (sym also ∙ so)) there,
  )

  pub no_common : (k : ℕ) → slice_get inside k ≡ None → IsCommonAt inside wanted k → ⊥
  no_common k none (i, so, there) = none_is i (sym none ∙ so)

-- ---- the items of pairs

pub pair_noted : (site : ℕ) (pair : Pair) (old new : List (List ℕ)) → pair.site ≡ site → NotesThose (λ i. pair.item ≡ i) old new → NotesThose (IsItemAt site pair) old new
pair_noted site pair old new here = notes_alike (λ i. pair.item ≡ i) (IsItemAt site pair) old new
    (λ i. (
      λ same. (λ k. record { site = (sym here) k; item = (sym same) k }),
      λ is. sym (ap (λ (p : Pair). p.item) is),
    ))

pub other_pair : (site : ℕ) (pair : Pair) (old : List (List ℕ)) → (pair.site ≡ site → ⊥) → NotesThose (IsItemAt site pair) old old
other_pair site pair old other = notes_had old (IsItemAt site pair) (λ i is. absurd (other (sym (ap (λ (p : Pair). p.site) is))))

pub all_items_at : (site me : ℕ) (pairs : List Pair) (start items : List (List ℕ)) → start ≡ [] → site ≡ me → NotesThose (ByOne pairs (IsItemAt site)) start items
    → (i : List ℕ) → Contains items i ↔ Contains pairs (record { site = me; item = i })
all_items_at site me pairs start items none own notes i = (
  λ h. ⊎_elim
      (λ was. absurd (contains_none i (subst (λ xs. Contains xs i) none was)))
      (λ (pair, there, is). subst (Contains pairs) (sym is ∙ ap (λ n. (let p : Pair = record { site = n; item = i } in p)) own) there)
      ((noted_members (ByOne pairs (IsItemAt site)) start items notes i).0 h),
  λ there. (noted_members (ByOne pairs (IsItemAt site)) start items notes i).1 (inr (record { site = me; item = i }, there, ap (λ n. (let p : Pair = record { site = n; item = i } in p)) own)),
)

-- ---- one item in a gap

module _ (sites : List SiteEvents) (known : Index) (are_known : AreKnown sites known) (at : ℕ) (s : SiteEvents) (so : slice_get sites at ≡ Some s) where
  pub walked_inside : (item : List ℕ) (starts inside : List (List ℕ)) → ((i : List ℕ) → Contains starts i ↔ (item ≡ i))
      → ((i : List ℕ) → Contains inside i ↔ ReachedFrom (LiesIn sites known at) starts i) → (i : List ℕ) → Contains inside i ↔ LiesAt sites at item i
  walked_inside item starts inside alone walked i = (
    λ h.
        let (start, begins, chain) = (walked i).0 h in (
          s,
          so,
          reach_widens (LiesIn sites known at) (by_known sites s) (λ x y h. (lies_as_known sites known are_known at s so x y).0 h) item i
              (subst (λ x. Reaches (LiesIn sites known at) x i) (sym ((alone start).0 begins)) chain),
        ),
    λ (t, also, chain).
        (walked i).1 (
          item,
          (alone item).1 refl,
          reach_widens (by_known sites s) (LiesIn sites known at) (λ x y h. (lies_as_known sites known are_known at s so x y).1 h) item i
              (subst (λ z. Reaches (by_known sites z) item i) (some_is t s (sym also ∙ so)) chain),
        ),
  )

  pub gap_touched : (wanted inside : List (List ℕ)) (gap : GapItem) → gap.site ≡ s.me → ((i : List ℕ) → Contains inside i ↔ LiesAt sites at gap.child i)
      → HaveCommon inside wanted ↔ IsTouchedBy sites at wanted gap
  gap_touched wanted inside gap own lies = (
    λ (i, there, also). let (t, so', chain) = (lies i).0 there in record {
      site = s;
      there = so;
      number = own;
      item = i;
      listed = also;
      inside = subst (λ z. Reaches (by_known sites z) gap.child i) (some_is t s (sym so' ∙ so)) chain;
    },
    λ it. (it.item, (lies it.item).1 (it.site, it.there, it.inside), it.listed),
  )

  pub other_gap : (wanted : List (List ℕ)) (gap : GapItem) → (gap.site ≡ s.me → ⊥) → IsTouchedBy sites at wanted gap → ⊥
  other_gap wanted gap other it = other (it.number ∙ ap (λ (z : SiteEvents). z.me) (some_is it.site s (sym it.there ∙ so)))

  -- ---- one site

  pub site_touched : (pairs : List Pair) (wanted : List (List ℕ)) (gaps old new : List GapItem) → ((i : List ℕ) → Contains wanted i ↔ Contains pairs (record { site = s.me; item = i }))
      → AddsToList old new (ByOne gaps (IsTouchedOne sites at wanted)) → AddsToList old new (IsTouchedAt sites pairs gaps at)
  site_touched pairs wanted gaps old new are = adds_alike (Contains old) (Contains new) (ByOne gaps (IsTouchedOne sites at wanted)) (IsTouchedAt sites pairs gaps at)
      (λ g. (
        λ (gap, there, (it, same)).
            let one : it.site ≡ s = some_is it.site s (sym it.there ∙ so) in
            record {
              gap = subst (Contains gaps) same there;
              site = s;
              there = so;
              number = sym (ap (λ (x : GapItem). x.site) same) ∙ it.number ∙ ap (λ (z : SiteEvents). z.me) one;
              item = it.item;
              given = (are it.item).0 it.listed;
              inside = subst (λ z. Reaches (by_known sites z) g.child it.item) one (subst (λ (x : GapItem). Reaches (by_known sites it.site) x.child it.item) same it.inside);
            },
        λ it.
            let one : it.site ≡ s = some_is it.site s (sym it.there ∙ so) in (
              g,
              it.gap,
              (
                record {
                  site = it.site;
                  there = it.there;
                  number = it.number;
                  item = it.item;
                  listed = (are it.item).1 (subst (λ (z : SiteEvents). Contains pairs (record { site = z.me; item = it.item })) one it.given);
                  inside = it.inside;
                },
                refl,
              ),
            ),
      ))

  pub none_touched : (pairs : List Pair) (wanted : List (List ℕ)) (gaps old : List GapItem) → ((i : List ℕ) → Contains wanted i ↔ Contains pairs (record { site = s.me; item = i })) → length wanted ≡ 0
      → AddsToList old old (IsTouchedAt sites pairs gaps at)
  none_touched pairs wanted gaps old are none = adds_nothing (Contains old) (IsTouchedAt sites pairs gaps at)
      (λ g it.
      let one : it.site ≡ s = some_is it.site s (sym it.there ∙ so) in
      empty ((are it.item).1 (subst (λ (z : SiteEvents). Contains pairs (record { site = z.me; item = it.item })) one it.given)))
    where
      empty : {i : List ℕ} → Contains wanted i → ⊥
      empty (k, below, stands) = omega (arith, below, none)

module _ (sites : List SiteEvents) (at : ℕ) (wanted : List (List ℕ)) (gap : GapItem) where
  pub gap_added : (old new : List GapItem) → IsTouchedBy sites at wanted gap → new ≡ old ++ gap ∷ [] → AddsToList old new (IsTouchedOne sites at wanted gap)
  gap_added old new it pushed = adds_alike (Contains old) (Contains new) (λ g. gap ≡ g) (IsTouchedOne sites at wanted gap) (λ g. (λ same. (it, same), λ h. h.1)) (adds_one old new gap pushed)

  pub gap_left : (old : List GapItem) → (IsTouchedBy sites at wanted gap → ⊥) → AddsToList old old (IsTouchedOne sites at wanted gap)
  gap_left old other = adds_nothing (Contains old) (IsTouchedOne sites at wanted gap) (λ g (it, same). other it)

-- ---- all sites

pub all_touched : (sites : List SiteEvents) (pairs : List Pair) (gaps : List GapItem) (n : ℕ) (touched ordered : List GapItem) → length sites ≤ n
    → ((g : GapItem) → Contains gaps g ↔ IsGapChild sites g.site g.by g.container g.child) → AddsToList [] touched (Before n (IsTouchedAt sites pairs gaps))
    → ((g : GapItem) → Contains ordered g ↔ Contains touched g) → (g : GapItem) → Contains ordered g ↔ IsTouchedChild sites pairs g
all_touched sites pairs gaps n touched ordered past are adds same g = (
  λ h. ⊎_elim
      (λ none. absurd (contains_none g none))
      (λ (at, below, it). record {
        gap = (are g).0 it.gap;
        site = it.site;
        there = stands_in sites at it.site it.there;
        number = sym it.number;
        pair = record { site = it.site.me; item = it.item };
        given = it.given;
        at = sym it.number;
        inside = it.inside;
      })
      ((adds g).0 ((same g).0 h)),
  λ it.
      let (k, so) = placed sites it.site it.there in
      (same g).1 ((adds g).1 (inr (
        k,
        within k (slice_get_within sites k it.site so),
        record {
          gap = (are g).1 it.gap;
          site = it.site;
          there = so;
          number = sym it.number;
          item = it.pair.item;
          given = subst (Contains pairs) (pair_is it.pair it.site.me (it.at ∙ sym it.number)) it.given;
          inside = it.inside;
        },
      ))),
)
  where
    within : (k : ℕ) → k < length sites → k < n
    within k below = omega (arith, below, past)

    pair_is : (p : Pair) (me : ℕ) → p.site ≡ me → p ≡ (let q : Pair = record { site = me; item = p.item } in q)
    pair_is p me here = λ k. record { site = here k; item = p.item }
