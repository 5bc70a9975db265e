-- Of what is known at a site one of those that packed it is the least.
use Rattle.std.proofs.Common.{◌≡◌, inl, inr, ℕ, ◌<◌, ◌≤◌, ◌==◌, ◌∙◌, List, [], ◌∷◌, Option, None, Some, slice_get, refl, sym, ap, subst, ⊎_elim, arith}
use mathlib.Core.Bool.{false≢true}
use mathlib.Core.Logic.{◌⊎◌}
use Rattle.std.specs.BTreeMap.{get}
use Rattle.std.specs.List.{Contains}
use Rattle.std.proofs.lemmas.Bool.{cases_Bool, cases_lt}
use Rattle.std.proofs.lemmas.Bool.Decides.{Decides-eqb}
use Rattle.trace_core.specs.Gaps.{SendsOn, by_known}
use Rattle.trace_core.specs.Pairs.{Carries}
use Rattle.trace_core.specs.PairTests.{lists}
use Rattle.trace_core.specs.PutIn.{children_of}
use Rattle.trace_core.specs.Relations.{Reaches}
use Rattle.trace_core.specs.Sites.{SiteEvents}
use Rattle.trace_core.proofs.GapClosing.{known_is_where_it_came}
use Rattle.trace_core.proofs.Members.{contains_cases, contains_here, contains_none, contains_there}
use Rattle.trace_core.proofs.NumberLists.{none_is, some_is}
use Rattle.trace_core.proofs.PackedSteps.{children_carried}
use Rattle.trace_core.proofs.PairTestsDecide.{lists_decides}
use Rattle.gap_core.specs.GapLines.{IsPackedBy, IsSourceOf}
use Rattle.gap_core.specs.Sources.{AreKnown, Index, item_cmp, or_no_sources}
use Rattle.gap_core.specs.declared.sources.Source.{Source}
use Rattle.gap_core.proofs.Notings.{stands_in}

module _ (sites : List SiteEvents) (at : ℕ) (parent child : List ℕ) where
  -- a source that is known at the site of the place, and whose site packed the child
  abbrev Packed : Source → SiteEvents → Type 0
  Packed x u = (x.at ≡ at) × (slice_get sites x.from ≡ Some u) × Carries u.events parent child

  carried_or_not : (u : SiteEvents) → Carries u.events parent child ⊎ (Carries u.events parent child → ⊥)
  carried_or_not u = let told = children_carried u.events parent child in ⊎_elim
      (λ yes. inl (told.0 ((lists_decides (children_of u.events parent) child).0 yes)))
      (λ no. inr (λ h. false≢true (sym no ∙ (lists_decides (children_of u.events parent) child).1 (told.1 h))))
      (cases_Bool (lists (children_of u.events parent) child))

  packed_or_not : (x : Source) → ((u : SiteEvents) × Packed x u) ⊎ ((u : SiteEvents) → Packed x u → ⊥)
  packed_or_not x = ⊎_elim
      (λ here. by_site (slice_get sites x.from) refl ((Decides-eqb x.at at).0 here))
      (λ other. inr (λ u (here, so, carries). false≢true (sym other ∙ (Decides-eqb x.at at).1 here)))
      (cases_Bool (x.at == at))
    where
      by_site : (o : Option SiteEvents) → slice_get sites x.from ≡ o → x.at ≡ at → ((u : SiteEvents) × Packed x u) ⊎ ((u : SiteEvents) → Packed x u → ⊥)
      by_site None is here = inr (λ u (also, so, carries). none_is u (sym is ∙ so))
      by_site (Some u) is here = ⊎_elim
          (λ yes. inl (u, (here, is, yes)))
          (λ no. inr (λ v (also, so, carries). no (subst (λ (z : SiteEvents). Carries z.events parent child) (some_is v u (sym so ∙ is)) carries)))
          (carried_or_not u)

  -- the least of some sources
  abbrev Least : List Source → SiteEvents → Type 0
  Least xs u = ((x : Source) × Contains xs x × Packed x u) × ((y : Source) (v : SiteEvents) → Contains xs y → Packed y v → u.me ≤ v.me)

  least_or_none : (xs : List Source) → ((u : SiteEvents) × Least xs u) ⊎ ((y : Source) (v : SiteEvents) → Contains xs y → Packed y v → ⊥)
  least_or_none [] = inr (λ y v there packed. contains_none y there)
  least_or_none (x ∷ xs) = ⊎_elim
      (λ (u, packed). inl (first u packed (least_or_none xs)))
      (λ none. ⊎_elim
      (λ (u, ((y, there, packed), least)). inl (
        u,
        (
          (y, contains_there x y xs there, packed),
          λ z v at_z its. ⊎_elim (λ same. absurd (none v (subst (λ w. Packed w v) (sym same) its))) (λ more. least z v more its) (contains_cases x z xs at_z),
        ),
      ))
      (λ none_more. inr (λ z v at_z its. ⊎_elim (λ same. none v (subst (λ w. Packed w v) (sym same) its)) (λ more. none_more z v more its) (contains_cases x z xs at_z)))
      (least_or_none xs))
      (packed_or_not x)
    where
      alone : (u v : SiteEvents) → Packed x u → Packed x v → u.me ≤ v.me
      alone u v (a, so, b) (c, also, d) = let same : u.me ≡ v.me = ap (λ (z : SiteEvents). z.me) (some_is u v (sym so ∙ also)) in omega (arith, same)

      first : (u : SiteEvents) → Packed x u → ((w : SiteEvents) × Least xs w) ⊎ ((y : Source) (v : SiteEvents) → Contains xs y → Packed y v → ⊥) → (w : SiteEvents) × Least (x ∷ xs) w
      first u packed (inr none) = (
        u,
        (
          (x, contains_here x xs, packed),
          λ z v at_z its. ⊎_elim (λ same. alone u v packed (subst (λ w. Packed w v) (sym same) its)) (λ more. absurd (none z v more its)) (contains_cases x z xs at_z),
        ),
      )
      first u packed (inl (w, ((y, there, its_packed), least))) = ⊎_elim
          (λ lower. (
            u,
            (
              (x, contains_here x xs, packed),
              λ z v at_z its. ⊎_elim
                  (λ same. alone u v packed (subst (λ q. Packed q v) (sym same) its))
                  (λ more. let other = least z v more its in below u.me w.me v.me lower other)
                  (contains_cases x z xs at_z),
            ),
          ))
          (λ higher. (
            w,
            (
              (y, contains_there x y xs there, its_packed),
              λ z v at_z its. ⊎_elim
                  (λ same. let other = alone u v packed (subst (λ q. Packed q v) (sym same) its) in upto w.me u.me v.me higher other)
                  (λ more. least z v more its)
                  (contains_cases x z xs at_z),
            ),
          ))
          (cases_lt u.me w.me)
        where
          below : (a b c : ℕ) → a < b → b ≤ c → a ≤ c
          below a b c lt le = omega (arith, lt, le)

          upto : (a b c : ℕ) → a ≤ b → b ≤ c → a ≤ c
          upto a b c low le = omega (arith, low, le)

-- so it is told who packed what is known
pub some_packer : (sites : List SiteEvents) (known : Index) → AreKnown sites known → (at : ℕ) (s : SiteEvents) → slice_get sites at ≡ Some s → (parent child : List ℕ) → by_known sites s parent child
    → (by : ℕ) × IsPackedBy sites by s parent child
some_packer sites known are at s so parent child knows =
    ⊎_elim
    (λ (u, ((x, there, packed), least)). (
      u.me,
      record {
        site = u;
        source = source_is x u there packed;
        number = refl;
        least = λ v source. let (y, kept, its) = kept_source v source in least y v kept its;
      },
    ))
    (λ none.
    let (u, there, carries, came) = (known_is_where_it_came sites s (stands_in sites at s so) parent child).0 knows in
    let (y, kept, its) = kept_source u (record { there = there; packed = carries; came = came }) in
    absurd (none y u kept its))
    (least_or_none sites at parent child sources)
  where
    sources : List Source
    sources = or_no_sources (get item_cmp known parent)

    source_is : (x : Source) (u : SiteEvents) → Contains sources x → Packed sites at parent child x u → IsSourceOf sites u s parent child
    source_is x u there (here, source, carries) =
        let (v, t, is, also, came) = are.sound (parent, x) there in
        record {
          there = stands_in sites x.from u source;
          packed = carries;
          came = subst (λ z. Reaches (SendsOn sites parent) z s) (some_is v u (sym is ∙ source)) (subst (λ z. Reaches (SendsOn sites parent) v z) (some_is t s (sym also ∙ ap (slice_get sites) here ∙ so)) came);
        }

    kept_source : (u : SiteEvents) → IsSourceOf sites u s parent child → (y : Source) × Contains sources y × Packed sites at parent child y u
    kept_source u source =
        let (from, is, keeps) = are.complete at s u parent child so source.there source.packed source.came in
        (record { at = at; from = from }, keeps, (refl, is, source.packed))
