-- The least packers of what lies in a container.
use Rattle.std.proofs.Common.{◌≡◌, ◌↔◌, inl, inr, ℕ, ◌≤◌, ◌∙◌, List, [], None, Some, length, slice_get, refl, sym, ap, subst, ⊎_elim, arith}
use Rattle.std.specs.BTreeMap.{UpdatesBy, get, is_at}
use Rattle.std.specs.List.{Contains}
use Rattle.std.specs.Map.{lookup}
use Rattle.std.proofs.lemmas.Bool.{cases_lt}
use Rattle.trace_core.specs.Numbers.{numbered}
use Rattle.trace_core.specs.Pairs.{Carries}
use Rattle.trace_core.specs.Gaps.{SendsOn}
use Rattle.trace_core.specs.Relations.{Reaches}
use Rattle.trace_core.specs.Sites.{SiteEvents}
use Rattle.trace_core.proofs.NumberLists.{listed_number, none_is, number_stands, some_is}
use Rattle.trace_core.proofs.PackedSteps.{carried_known}
use Rattle.gap_core.specs.Adding.{AddsTo, ByOne}
use Rattle.gap_core.specs.GapLines.{IsPackedBy, IsSourceOf}
use Rattle.gap_core.specs.Packers.{IsFrom, IsFromOne, IsFromPlace, IsFromSource, Packers}
use Rattle.gap_core.specs.Sources.{AreKnown, Index, Keeps, item_cmp, or_no_sources}
use Rattle.gap_core.specs.declared.sources.Source.{Source}
use Rattle.gap_core.proofs.Additions.{adds_alike, adds_nothing}
use Rattle.gap_core.proofs.EventsInTurn.{none_past}
use Rattle.gap_core.proofs.Notings.{stands_in}
use Rattle.gap_core.proofs.SourceLists.{item_exact, one_item, other_key}

-- a number and all that are greater, by what is kept
pub least_noted : (old new : Packers) (i j : List ℕ) (by : ℕ) → j ≡ i → UpdatesBy item_cmp (item_cmp j) old new (Some by) → (IsFrom old (i, by) → ⊥)
    → AddsTo (IsFrom old) (IsFrom new) (λ m. (i ≡ m.0) × (by ≤ m.1))
least_noted old new i j by copied upd fresh (c, k) =
    let at : UpdatesBy item_cmp (item_cmp i) old new (Some by) = subst (λ (x : List ℕ). UpdatesBy item_cmp (item_cmp x) old new (Some by)) copied upd in
    ⊎_elim
    (λ here.
    let now : get item_cmp new c ≡ Some by = ap (get item_cmp new) here ∙ at.1 in (
      λ (n, so, le). inr (sym here, lower n (some_is n by (sym so ∙ now)) le),
      λ h. ⊎_elim
          (λ (n, so, le). (by, now, below n le (λ low. fresh (n, subst (λ x. get item_cmp old x ≡ Some n) here so, low))))
          (λ (same, le). (by, now, le))
          h,
    ))
    (λ ne.
    let stays : get item_cmp new c ≡ get item_cmp old c = at.2 c (other_key item_exact i c ne) in (
      λ (n, so, le). inl (n, sym stays ∙ so, le),
      λ h. ⊎_elim (λ (n, so, le). (n, stays ∙ so, le)) (λ (same, le). absurd (ne (sym same))) h,
    ))
    (one_item c i)
  where
    lower : (n : ℕ) → n ≡ by → n ≤ k → by ≤ k
    lower n same le = omega (arith, same, le)

    below : (n : ℕ) → n ≤ k → (n ≤ by → ⊥) → by ≤ k
    below n le higher = ⊎_elim (λ lt. omega (arith, lt, le)) (λ low. absurd (higher low)) (cases_lt by n)

pub lower_noted : (old : Packers) (i : List ℕ) (by : ℕ) → IsFrom old (i, by) → AddsTo (IsFrom old) (IsFrom old) (λ m. (i ≡ m.0) × (by ≤ m.1))
lower_noted old i by (n, so, le) (c, k) = (
  λ h. inl h,
  λ h. ⊎_elim (λ was. was) (λ (same, ge). (n, subst (λ x. get item_cmp old x ≡ Some n) same so, over ge)) h,
)
  where
    over : by ≤ k → n ≤ k
    over ge = omega (arith, le, ge)

pub lower_told : (packers : Packers) (i : List ℕ) (by n : ℕ) → Some n ≡ get item_cmp packers i → (n ≤ by) ↔ IsFrom packers (i, by)
lower_told packers i by n so = (
  λ le. (n, sym so, le),
  λ (k, also, le). same k (some_is k n (sym also ∙ sym so)) le,
)
  where
    same : (k : ℕ) → k ≡ n → k ≤ by → n ≤ by
    same k is le = omega (arith, is, le)

pub none_lower : (packers : Packers) (i : List ℕ) (by : ℕ) → None ≡ get item_cmp packers i → IsFrom packers (i, by) → ⊥
none_lower packers i by none (n, so, le) = none_is n (none ∙ so)

-- no packers at first
pub none_from : (packers : Packers) → packers.entries ≡ [] → (m : List ℕ × ℕ) → IsFrom packers m → ⊥
none_from packers nothing m (n, so, le) = none_is n (sym (ap (λ (es : List (List ℕ × ℕ)). lookup (is_at (item_cmp m.0)) es) nothing) ∙ so)

module _ (old new : Packers) where
  pub number_from : (names : List (List ℕ)) (n : ℕ) (i : List ℕ) (by me : ℕ) → by ≡ me → slice_get names n ≡ Some i
      → AddsTo (IsFrom old) (IsFrom new) (λ m. (i ≡ m.0) × (by ≤ m.1)) → AddsTo (IsFrom old) (IsFrom new) (λ m. (slice_get names n ≡ Some m.0) × (me ≤ m.1))
  number_from names n i by me is so = adds_alike (IsFrom old) (IsFrom new) (λ m. (i ≡ m.0) × (by ≤ m.1)) (λ m. (slice_get names n ≡ Some m.0) × (me ≤ m.1))
      (λ m. (
        λ (same, le). (so ∙ ap Some same, subst (λ x. x ≤ m.1) is le),
        λ (also, le). (some_is i m.0 (sym so ∙ also), subst (λ x. x ≤ m.1) (sym is) le),
      ))

  pub site_from : (s : SiteEvents) (container : List ℕ) (ns : List ℕ)
      → ((n : ℕ) → Contains ns n ↔ ((c : List ℕ) × (slice_get (numbered s.events) n ≡ Some c) × Carries s.events container c))
      → AddsTo (IsFrom old) (IsFrom new) (ByOne ns (λ n m. (slice_get (numbered s.events) n ≡ Some m.0) × (s.me ≤ m.1)))
      → AddsTo (IsFrom old) (IsFrom new) (λ m. Carries s.events container m.0 × (s.me ≤ m.1))
  site_from s container ns are = adds_alike (IsFrom old) (IsFrom new) (ByOne ns (λ n m. (slice_get (numbered s.events) n ≡ Some m.0) × (s.me ≤ m.1))) (λ m. Carries s.events container m.0 × (s.me ≤ m.1))
      (λ m. (
        λ (n, there, (so, le)). let (d, also, carries) = (are n).0 there in (subst (Carries s.events container) (some_is d m.0 (sym also ∙ so)) carries, le),
        λ (carries, le).
            let (n, number) = listed_number (numbered s.events) m.0 (carried_known s.events container m.0 carries) in
            let so = number_stands (numbered s.events) m.0 n number in
            (n, (are n).1 (m.0, so, carries), (so, le)),
      ))

  pub place_from : (sites : List SiteEvents) (from : ℕ) (u : SiteEvents) (container : List ℕ) → slice_get sites from ≡ Some u
      → AddsTo (IsFrom old) (IsFrom new) (λ m. Carries u.events container m.0 × (u.me ≤ m.1)) → AddsTo (IsFrom old) (IsFrom new) (IsFromPlace sites container from)
  place_from sites from u container so = adds_alike (IsFrom old) (IsFrom new) (λ m. Carries u.events container m.0 × (u.me ≤ m.1)) (IsFromPlace sites container from)
      (λ m. (
        λ (carries, le). (u, so, carries, le),
        λ (v, also, carries, le).
            let same = some_is v u (sym also ∙ so) in
            (subst (λ (z : SiteEvents). Carries z.events container m.0) same carries, subst (λ (z : SiteEvents). z.me ≤ m.1) same le),
      ))

  pub source_from : (sites : List SiteEvents) (at : ℕ) (container : List ℕ) (source : Source) → source.at ≡ at
      → AddsTo (IsFrom old) (IsFrom new) (IsFromPlace sites container source.from) → AddsTo (IsFrom old) (IsFrom new) (IsFromSource sites at container source)
  source_from sites at container source here = adds_alike (IsFrom old) (IsFrom new) (IsFromPlace sites container source.from) (IsFromSource sites at container source)
      (λ m. (λ h. (here, h), λ (also, h). h))

pub no_place_from : (old : Packers) (sites : List SiteEvents) (from : ℕ) (container : List ℕ) → length sites ≤ from → AddsTo (IsFrom old) (IsFrom old) (IsFromPlace sites container from)
no_place_from old sites from container past = adds_nothing (IsFrom old) (IsFromPlace sites container from) (λ m (u, so, carries, le). absurd (none_past sites from u past so))

pub no_number_from : (old : Packers) (names : List (List ℕ)) (n me : ℕ) → slice_get names n ≡ None → AddsTo (IsFrom old) (IsFrom old) (λ m. (slice_get names n ≡ Some m.0) × (me ≤ m.1))
no_number_from old names n me none = adds_nothing (IsFrom old) (λ m. (slice_get names n ≡ Some m.0) × (me ≤ m.1)) (λ m (so, le). none_is m.0 (sym none ∙ so))

-- those of all sources
pub all_from : (packers : Packers) (sites : List SiteEvents) (index : Index) (at : ℕ) (container : List ℕ) (sources : List Source) → sources ≡ or_no_sources (get item_cmp index container)
    → AddsTo (λ m. ⊥) (IsFrom packers) (ByOne sources (IsFromSource sites at container)) → (m : List ℕ × ℕ) → IsFrom packers m ↔ IsFromOne sites index at container m
all_from packers sites index at container sources are adds m = (
  λ h. ⊎_elim
      (λ none. absurd none)
      (λ (x, there, (here, from)). (x.from, subst (λ xs. Contains xs (record { at = at; from = x.from })) are (subst (Contains sources) (known x here) there), from))
      ((adds m).0 h),
  λ (from, keeps, h). (adds m).1 (inr (record { at = at; from = from }, subst (λ xs. Contains xs (record { at = at; from = from })) (sym are) keeps, (refl, h))),
)
  where
    known : (x : Source) → x.at ≡ at → x ≡ record { at = at; from = x.from }
    known x here = λ k. record { at = here k; from = x.from }

-- so the least is told of each
module _ (sites : List SiteEvents) (index : Index) (known : AreKnown sites index) (at : ℕ) (s : SiteEvents) (so : slice_get sites at ≡ Some s) (packers : Packers) (container : List ℕ)
    (are : (m : List ℕ × ℕ) → IsFrom packers m ↔ IsFromOne sites index at container m) where
  source_is : (child : List ℕ) (from : ℕ) (u : SiteEvents) → Keeps index (container, record { at = at; from = from }) → slice_get sites from ≡ Some u → Carries u.events container child
      → IsSourceOf sites u s container child
  source_is child from u keeps source carries =
      let (v, t, is, also, came) = known.sound (container, record { at = at; from = from }) keeps in
      record {
        there = stands_in sites from u source;
        packed = carries;
        came = subst (λ z. Reaches (SendsOn sites container) z s) (some_is v u (sym is ∙ source)) (subst (λ z. Reaches (SendsOn sites container) v z) (some_is t s (sym also ∙ so)) came);
      }

  is_from : (child : List ℕ) (u : SiteEvents) → IsSourceOf sites u s container child → IsFrom packers (child, u.me)
  is_from child u source =
      let (from, is, keeps) = known.complete at s u container child so source.there source.packed source.came in
      (are (child, u.me)).1 (from, keeps, (u, is, source.packed, omega arith))

  pub packer_is : (child : List ℕ) (by : ℕ) → get item_cmp packers child ≡ Some by → IsPackedBy sites by s container child
  packer_is child by found =
      let (from, keeps, (u, is, carries, le)) = (are (child, by)).0 (by, found, omega arith) in
      let source = source_is child from u keeps is carries in
      record {
        site = u;
        source = source;
        number = same u.me le (least u source);
        least = least;
      }
    where
      least : (u : SiteEvents) → IsSourceOf sites u s container child → by ≤ u.me
      least u source = let (n, also, le) = is_from child u source in lower n u.me (some_is n by (sym also ∙ found)) le
        where
          lower : (n k : ℕ) → n ≡ by → n ≤ k → by ≤ k
          lower n k is le = omega (arith, is, le)

      same : (k : ℕ) → k ≤ by → by ≤ k → k ≡ by
      same k le ge = omega (arith, le, ge)

  pub packer_found : (child : List ℕ) (by : ℕ) → IsPackedBy sites by s container child → get item_cmp packers child ≡ Some by
  packer_found child by packed =
      let (n, found, le) = subst (λ k. IsFrom packers (child, k)) packed.number (is_from child packed.site packed.source) in
      let (from, keeps, (u, is, carries, low)) = (are (child, n)).0 (n, found, omega arith) in
      found ∙ ap Some (same n u.me le low (packed.least u (source_is child from u keeps is carries)))
    where
      same : (n k : ℕ) → n ≤ by → k ≤ n → by ≤ k → n ≡ by
      same n k le low ge = omega (arith, le, low, ge)
